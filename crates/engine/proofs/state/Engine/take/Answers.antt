use Rattle.std.proofs.Common.{length, sym, ap, ◌∙◌, subst, rules}
use denote.Struct.Props.{props}
use Rattle.transport.specs.Network.{oldest}
use Rattle.machine.specs.Network.{with_taken}
use Rattle.engine_parts.specs.Mail.{Legible, mail_in}
use Rattle.jobs.specs.Tables.{pending_jobs, with_received}
use Rattle.jobs.specs.Updates.{update}
use Rattle.engine.proofs.Onward.{known, stays_sound}
use Rattle.engine.proofs.Shown.{place_within}
use Rattle.engine.proofs.Situation.{ready, rank_low, done_few, take_label, pair, legible, waits_on, room_kept, takes}
use Rattle.engine.proofs.state.Engine.take.Goals as goal

pub job-requires : goal.job-requires
job-requires g c = (search rules, (search rules, place_within c.args.self.now c.args.token.now c.args.seat.place c.requires.shown_at))

pub state-state-requires : goal.state-state-requires
state-state-requires g c = (search rules, known c.args.self.now (hlevel props) (rank_low c.args.self.now c.args.seat.rank c.requires.below))

pub job_tag-tag-requires : goal.job_tag-tag-requires
job_tag-tag-requires g c =
    let ready = ready c.args.self.now c.args.token.now c.args.seat.place c.args.seat.rank _ c.requires c.job.result.now c.job.ensures c.state-state.result c.state-state.ensures in
    (ready.number_low, take_label c.args.self.now c.args.token.now c.args.seat.place c.args.seat.rank c.args.from c.args.label c.args.merge c.requires c.job.result.now c.job.ensures c.state-state.result c.state-state.ensures)

pub take_value-requires : goal.take_value-requires
take_value-requires g c =
    let e = c.args.self.now in
    let t = c.args.token.now in
    let k = c.args.seat.place in
    let r = c.args.seat.rank in
    let j = c.job.result.now in
    let st = c.state-state.result in
    record {
      narrow = (ready e t k r _ c.requires j c.job.ensures st c.state-state.ensures).narrow;
      among = pair e t k r c.args.from c.args.label c.args.merge c.requires j c.job.ensures st c.state-state.ensures;
      legible = subst (λ i. Legible (g.O.Operation.meaning e.operation) (oldest i ((g.T.Transport.meaning e.transport).arrived c.args.from r))) (sym c.job_tag-tag.ensures)
          (legible e t k r c.args.from c.args.label c.args.merge c.requires j c.job.ensures st c.state-state.ensures);
    }

pub invariant_of-self : goal.invariant_of-self
invariant_of-self g c =
    let e = c.args.self.now in
    let r = c.args.seat.rank in
    let none = ap (λ i. mail_in (g.O.Operation.meaning e.operation) (oldest i ((g.T.Transport.meaning e.transport).arrived c.args.from r))) (sym c.job_tag-tag.ensures) ∙ sym c.take_value.ensures.answer ∙ c.in_default.is in
    let steps = waits_on e c.args.token.now c.args.seat.place r c.args.from c.args.label c.args.merge c.requires c.job.result.now c.job.ensures c.state-state.result c.state-state.ensures none (g.T.Transport.meaning c.take_value.new.transport) (c.take_value.ensures.none c.in_default.is) in
    record { sound = stays_sound e (λ o h. (steps o h).0) }

pub returns-in_default : goal.returns-in_default
returns-in_default g c =
    let e = c.args.self.now in
    let r = c.args.seat.rank in
    let none = ap (λ i. mail_in (g.O.Operation.meaning e.operation) (oldest i ((g.T.Transport.meaning e.transport).arrived c.args.from r))) (sym c.job_tag-tag.ensures) ∙ sym c.take_value.ensures.answer ∙ c.in_default.is in
    let steps = waits_on e c.args.token.now c.args.seat.place r c.args.from c.args.label c.args.merge c.requires c.job.result.now c.job.ensures c.state-state.result c.state-state.ensures none (g.T.Transport.meaning c.take_value.new.transport) (c.take_value.ensures.none c.in_default.is) in
    steps

pub merged-after-requires : goal.merged-after-requires
merged-after-requires g c =
    let e = c.args.self.now in
    let t = c.args.token.now in
    let k = c.args.seat.place in
    let r = c.args.seat.rank in
    let j = c.job.result.now in
    let st = c.state-state.result in
    (done_few e t k r _ c.requires j c.job.ensures st c.state-state.ensures, (ready e t k r _ c.requires j c.job.ensures st c.state-state.ensures).arrival_low)

pub receive-requires : goal.receive-requires
receive-requires g c =
    let e = c.args.self.now in
    let t = c.args.token.now in
    let k = c.args.seat.place in
    let r = c.args.seat.rank in
    let kept = room_kept e t k r c.args.from c.args.label c.args.merge c.requires c.job.result.now c.job.ensures c.state-state.result c.state-state.ensures c.in-Some.mail in
    (search rules, (place_within e t k c.requires.shown_at, known e (hlevel props) (rank_low e r c.requires.below), kept))

pub invariant_of-self-2 : goal.invariant_of-self-2
invariant_of-self-2 g c =
    let e = c.args.self.now in
    let op = g.O.Operation.meaning e.operation in
    let net = g.T.Transport.meaning e.transport in
    let k = c.args.seat.place in
    let r = c.args.seat.rank in
    let j = c.job.result.now in
    let st = c.state-state.result in
    let merge = c.args.merge in
    let mail = c.in-Some.mail in
    let v = mail.value in
    let found = c.in-Some.ensures.answer ∙ ap (λ i. mail_in op (oldest i (net.arrived c.args.from r))) c.job_tag-tag.ensures in
    let network = c.take_value.ensures.after ∙ ap (λ i. with_taken c.args.from r i net) c.job_tag-tag.ensures in
    let jobs = c.receive.ensures.changed ∙ ap (λ s. update k (with_received r s merge st.done v) (pending_jobs e.jobs)) c.merged-after.ensures in
    let long = ap (λ i. length i.kept) (c.job.ensures j) ∙ c.receive.ensures.room j in
    let steps = takes e c.args.token.now k r c.args.from c.args.label merge c.requires j c.job.ensures st c.state-state.ensures mail found (g.T.Transport.meaning c.take_value.new.transport) network (pending_jobs c.receive.new.self) jobs long in
    record { sound = stays_sound e (λ o h. (steps o h).0) }

pub returns : goal.returns
returns g c =
    let e = c.args.self.now in
    let op = g.O.Operation.meaning e.operation in
    let net = g.T.Transport.meaning e.transport in
    let k = c.args.seat.place in
    let r = c.args.seat.rank in
    let j = c.job.result.now in
    let st = c.state-state.result in
    let merge = c.args.merge in
    let mail = c.in-Some.mail in
    let v = mail.value in
    let found = c.in-Some.ensures.answer ∙ ap (λ i. mail_in op (oldest i (net.arrived c.args.from r))) c.job_tag-tag.ensures in
    let network = c.take_value.ensures.after ∙ ap (λ i. with_taken c.args.from r i net) c.job_tag-tag.ensures in
    let jobs = c.receive.ensures.changed ∙ ap (λ s. update k (with_received r s merge st.done v) (pending_jobs e.jobs)) c.merged-after.ensures in
    let long = ap (λ i. length i.kept) (c.job.ensures j) ∙ c.receive.ensures.room j in
    let steps = takes e c.args.token.now k r c.args.from c.args.label merge c.requires j c.job.ensures st c.state-state.ensures mail found (g.T.Transport.meaning c.take_value.new.transport) network (pending_jobs c.receive.new.self) jobs long in
    steps
