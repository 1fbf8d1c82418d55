use Rattle.std.proofs.Common.{◌+◌, ◌^◌, ◌<◌, ◌∷◌, ap, ◌∙◌, subst, ap₂, arith, rules}
use denote.Struct.Props.{props}
use Rattle.transport.specs.Network.{message, send_reply, after_send}
use Rattle.jobs.specs.Tables.{pending_jobs, with_sent}
use Rattle.jobs.specs.Updates.{update}
use Rattle.engine.proofs.Onward.{known, stays_sound}
use Rattle.engine.proofs.Shown.{place_within}
use Rattle.engine.proofs.Situation.{ready, rank_low, done_few, label_low, is_sent, sends}
use Rattle.engine.proofs.state.Engine.send.Goals as goal

pub job-requires : goal.job-requires
job-requires g c = (search rules, (search rules, place_within c.args.self.now c.args.token.now c.args.seat.place c.requires.shown_at))

pub state-state-requires : goal.state-state-requires
state-state-requires g c = (search rules, known c.args.self.now (hlevel props) (rank_low c.args.self.now c.args.seat.rank c.requires.below))

pub next_stamp-stamp-requires : goal.next_stamp-stamp-requires
next_stamp-stamp-requires g c =
    let ready = ready c.args.self.now c.args.token.now c.args.seat.place c.args.seat.rank _ c.requires c.job.result.now c.job.ensures c.state-state.result c.state-state.ensures in
    (ready.departure_low, ready.arrival_low)

pub job_tag-tag-requires : goal.job_tag-tag-requires
job_tag-tag-requires g c =
    let ready = ready c.args.self.now c.args.token.now c.args.seat.place c.args.seat.rank _ c.requires c.job.result.now c.job.ensures c.state-state.result c.state-state.ensures in
    (ready.number_low, label_low c.args.self.now c.args.token.now c.args.seat.place c.args.seat.rank c.args.to c.args.label c.requires c.job.result.now c.job.ensures c.state-state.result c.state-state.ensures)

pub send_value-requires : goal.send_value-requires
send_value-requires g c =
    let ready = ready c.args.self.now c.args.token.now c.args.seat.place c.args.seat.rank _ c.requires c.job.result.now c.job.ensures c.state-state.result c.state-state.ensures in
    record { narrow = ready.narrow; proper = ready.value_proper }

pub unwrap-requires : goal.unwrap-requires
unwrap-requires g c =
    let e = c.args.self.now in
    let words = ap (λ i. send_reply (g.T.Transport.meaning e.transport) c.args.seat.rank c.args.to (i ∷ (g.O.Operation.meaning e.operation).pack c.state-state.result.value)) c.next_stamp-stamp.ensures in
    is_sent e c.args.token.now c.args.seat.place c.args.seat.rank c.args.to c.args.label c.requires c.job.result.now c.job.ensures c.state-state.result c.state-state.ensures c.send_value.result (c.send_value.ensures.answer ∙ words)

pub overflow_add-after : goal.overflow_add-after
overflow_add-after g c =
    omega (arith, done_few c.args.self.now c.args.token.now c.args.seat.place c.args.seat.rank _ c.requires c.job.result.now c.job.ensures c.state-state.result c.state-state.ensures)

pub send-requires : goal.send-requires
send-requires g c =
    let ready = ready c.args.self.now c.args.token.now c.args.seat.place c.args.seat.rank _ c.requires c.job.result.now c.job.ensures c.state-state.result c.state-state.ensures in (
      search rules,
      (
        place_within c.args.self.now c.args.token.now c.args.seat.place c.requires.shown_at,
        ready.rank_low,
        λ d. subst (λ i. i.sent + 1 < 2 ^ 64) (c.job.ensures d) ready.sent_few,
      ),
    )

pub invariant_of-self : goal.invariant_of-self
invariant_of-self g c =
    let e = c.args.self.now in
    let k = c.args.seat.place in
    let r = c.args.seat.rank in
    let st = c.state-state.result in
    let stamp = c.next_stamp-stamp.ensures in
    let network = c.send_value.ensures.after ∙ ap₂ (λ n i. after_send (g.T.Transport.meaning e.transport) r c.args.to (message n (i ∷ (g.O.Operation.meaning e.operation).pack st.value))) c.job_tag-tag.ensures stamp in
    let jobs = c.send.ensures ∙ ap (λ i. update k (with_sent r (record { done = st.done + 1; value = st.value; prefix = st.prefix; arrival = st.arrival; departure = i })) (pending_jobs e.jobs)) stamp in
    let steps = sends e c.args.token.now k r c.args.to c.args.label c.requires c.job.result.now c.job.ensures st c.state-state.ensures (g.T.Transport.meaning c.send_value.new.transport) network (pending_jobs c.send.new.self) jobs in
    record { sound = stays_sound e (λ o h. (steps o h).0) }

pub returns : goal.returns
returns g c =
    let e = c.args.self.now in
    let k = c.args.seat.place in
    let r = c.args.seat.rank in
    let st = c.state-state.result in
    let stamp = c.next_stamp-stamp.ensures in
    let network = c.send_value.ensures.after ∙ ap₂ (λ n i. after_send (g.T.Transport.meaning e.transport) r c.args.to (message n (i ∷ (g.O.Operation.meaning e.operation).pack st.value))) c.job_tag-tag.ensures stamp in
    let jobs = c.send.ensures ∙ ap (λ i. update k (with_sent r (record { done = st.done + 1; value = st.value; prefix = st.prefix; arrival = st.arrival; departure = i })) (pending_jobs e.jobs)) stamp in
    let steps = sends e c.args.token.now k r c.args.to c.args.label c.requires c.job.result.now c.job.ensures st c.state-state.ensures (g.T.Transport.meaning c.send_value.new.transport) network (pending_jobs c.send.new.self) jobs in
    steps
