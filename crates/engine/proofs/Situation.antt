-- What a turn comes to, by the action that is due.
use Rattle.std.proofs.Common.{◌≡◌, ℕ, zero, suc, ◌+◌, ◌^◌, ◌<◌, ◌≤◌, max, true, List, [], ◌∷◌, ◌++◌, length, get_or, take, set, Some, None, Ok, Err, Option as Found, Result, IsOk, sym, refl, ap, ◌∙◌, subst, arith, rules}
use Rattle.std.specs.List.{slice_get}
use Rattle.std.proofs.lemmas.Bool.{le-ltb, lt-ltb}
use Rattle.std.proofs.lemmas.List.{get_or_default, take_more_set}
use denote.Struct.Props.{props}
use Rattle.ranks.specs.Ranks.{most_ranks}
use Rattle.operation.specs.declared.Operation.{Ghosts as Operation}
use Rattle.transport.specs.declared.Transport.{Ghosts as Transport}
use Rattle.transport.specs.Network as transport
use Rattle.transport.specs.Network.{message, sending, send_reply}
use Rattle.transport.specs.declared.Fault.{Fault}
use Rattle.programme.specs.declared.Action.{Action}
use Rattle.programme.specs.declared.Action.TheVariants.{Send, Take}
use Rattle.programme.specs.declared.Merge.{Merge}
use Rattle.programme.specs.declared.Merge.TheVariants.{Replace, Keep, Before, After, Prefix}
use Rattle.schedule.specs.Collective.{actions_of}
use Rattle.machine.specs.Operation.{Meaning}
use Rattle.machine.specs.Network.{Network, Message, apart, with_taken}
use Rattle.machine.specs.Plain.{Plain, Answer, tag_of, sent, took, waits, through, refused, no_job, bad_rank, turn, step}
use Rattle.machine.specs.Job.{actions, rank_of}
use Rattle.machine.proofs.Steps.{turn_no_job, turn_bad_rank, turn_through}
use Rattle.engine_parts.specs.declared.mail.Mail.{Mail as Letter}
use Rattle.engine_parts.specs.Mail.{Legible, Sent, mail_in, read_words, words_of}
use Rattle.jobs.specs.declared.job.Job.{Job}
use Rattle.jobs.specs.declared.job.RankState.{RankState}
use Rattle.jobs.specs.Tables.{job_of, states, pending_jobs, with_sent, with_received}
use Rattle.jobs.specs.Updates.{update}
use Rattle.engine.specs.declared.state.Engine.{Engine}
use Rattle.engine.specs.declared.token.Token.{Token}
use Rattle.engine.specs.Fields.{with_jobs, AmongRanks}
use Rattle.engine.specs.Abs.{plain, Stands, Due, place_of, state_taken}
use Rattle.engine.proofs.Onward.{known, Leads, leads}
use Rattle.engine.proofs.Shown.{seen, not_shown, pick, place_within, number_low, narrow}
use Rattle.engine.proofs.Turning as turning

-- a change of one job that leaves its schedule
pub ranks_update : {E : Type 0} (p k : ℕ) (f : Job E → Job E) → ((j : Job E) → (f j).schedule.ranks ≡ j.schedule.ranks) → (js : List (Job E)) → AmongRanks p js → AmongRanks p (update k f js)
ranks_update p k f e [] h = tt
ranks_update p zero f e (j ∷ js) h = (e j ∙ h.0, h.1)
ranks_update p (suc k) f e (j ∷ js) h = (h.0, ranks_update p k f e js h.1)

pub received_ranks : {E : Type 0} (r : ℕ) (s : RankState E) (merge : Merge) (at : ℕ) (v : E) (i : Job E) → (with_received r s merge at v i).schedule.ranks ≡ i.schedule.ranks
received_ranks r s Replace at v i = refl
received_ranks r s Keep at v i = refl
received_ranks r s Before at v i = refl
received_ranks r s After at v i = refl
received_ranks r s Prefix at v i = refl

-- turns that alter nothing
module _ {O T E : Type 0} {op : Operation O E} {t : Transport T} (e : Engine O T E op t) (token : Token) (r : ℕ) where
  pub no_job_step : place_of e token ≡ None → (origin : Network) → ◌≡◌ {A = Answer × Plain E} (refused no_job, plain origin e) (step (plain origin e) (turn token.name token.number r))
  no_job_step none origin = sym (turn_no_job (plain origin e) token.name token.number r (not_shown e token none origin))

  module _ (k : ℕ) (at : place_of e token ≡ Some k) where
    pub bad_rank_step : (t.meaning e.transport).ranks ≤ r → (origin : Network) → ◌≡◌ {A = Answer × Plain E} (refused bad_rank, plain origin e) (step (plain origin e) (turn token.name token.number r))
    bad_rank_step high origin =
        let d = pick (pending_jobs e.jobs) k (place_within e token k at) in
        sym (turn_bad_rank (plain origin e) token.name token.number r _ ((seen e token k at).shown_is origin d) (le-ltb r (t.meaning e.transport).ranks high))

    module _ (j : Job E) (j_is : (d : Job E) → j ≡ get_or (pending_jobs e.jobs) k d) where
      pub due_from : (action : Action) → r < (t.meaning e.transport).ranks
          → ((s : RankState E) → Some action ≡ slice_get (actions_of j.schedule.collective j.schedule.ranks r) (get_or (states j) r s).done)
          → ((s : RankState E) → (get_or (states j) r s).done + 1 < 2 ^ 64)
          → Due e token k r action
      due_from action below next few = record {
        shown_at = at;
        below = below;
        next = λ d s. subst (λ i. slice_get (actions_of i.schedule.collective i.schedule.ranks r) (get_or (states i) r s).done ≡ Some action) (j_is d) (sym (next s));
        few = λ d s. subst (λ i. (get_or (states i) r s).done + 1 < 2 ^ 64) (j_is d) (few s);
      }

      pub through_step : r < (t.meaning e.transport).ranks
          → ((s : RankState E) → None ≡ slice_get (actions_of j.schedule.collective j.schedule.ranks r) (get_or (states j) r s).done)
          → (origin : Network) → Stands origin e
          → ◌≡◌ {A = Answer × Plain E} (through, plain origin e) (step (plain origin e) (turn token.name token.number r))
      through_step below next origin h =
          let p = (t.meaning e.transport).ranks in
          let m = op.meaning e.operation in
          let inside : r < length (states j) = omega (arith, turning.states_long e token k at j j_is origin h) in
          let d = pick (states j) r inside in
          let place = turning.next_is e token k at j j_is origin h r below (get_or (states j) r d) (λ s. get_or_default (states j) r d s inside) None (sym (next d)) in
          sym (turn_through (plain origin e) token.name token.number r (job_of j) (turning.shown_is e token k at j j_is origin h) (lt-ltb r p below)
          (turning.nth_none (actions p (job_of j) r) (rank_of m (job_of j) r).done place))

pub rank_low : {O T E : Type 0} {op : Operation O E} {t : Transport T} (e : Engine O T E op t) (r : ℕ) → r < (t.meaning e.transport).ranks → (origin : Network) → Stands origin e → r < 64
rank_low e r below origin h = omega (arith, h.good.sound.same_ranks, h.good.well.few_ranks)

-- what is known of a rank whose action is due, of the job and of the rank's state
pub record Ready {E : Type 0} (m : Meaning E) (number r : ℕ) (j : Job E) (st : RankState E) : Type 0 where
  pub rank_low : r < 64
  pub number_low : number ≤ 65535
  pub narrow : m.width ≤ 6
  pub arrival_low : st.arrival ≤ 66
  pub departure_low : st.departure ≤ 66
  pub value_proper : m.proper st.value ≡ true
  pub sent_few : j.sent + 1 < 2 ^ 64

module _ {O T E : Type 0} {op : Operation O E} {t : Transport T} (e : Engine O T E op t) (token : Token) (k r : ℕ) (action : Action) (due : Due e token k r action)
    (j : Job E) (j_is : (d : Job E) → j ≡ get_or (pending_jobs e.jobs) k d) (st : RankState E) (st_is : (d : RankState E) → st ≡ get_or (states j) r d) where
  pub ready : Ready (op.meaning e.operation) token.number r j st
  ready = known e (hlevel props) (λ o h.
      let at = due.shown_at in
      let clocks = turning.clocks_small e token k at j j_is o h r due.below st st_is in
      record {
        rank_low = rank_low e r due.below o h;
        number_low = number_low e token k at o h;
        narrow = narrow e token k at o h;
        arrival_low = clocks.0;
        departure_low = clocks.1;
        value_proper = turning.value_proper e token k at j j_is o h r due.below st st_is;
        sent_few = turning.sent_few e token k at j j_is o h r due.below st st_is;
      })

  state_is : get_or (states (get_or (pending_jobs e.jobs) k j)) r st ≡ st
  state_is = ap (λ i. get_or (states i) r st) (sym (j_is j)) ∙ sym (st_is st)

  pub next_at : slice_get (actions_of j.schedule.collective j.schedule.ranks r) st.done ≡ Some action
  next_at =
      let P : Job E → RankState E → Type 0 = λ i s. slice_get (actions_of i.schedule.collective i.schedule.ranks r) s.done ≡ Some action in
      subst (λ i. P i st) (sym (j_is j)) (subst (P (get_or (pending_jobs e.jobs) k j)) state_is (due.next j st))

  pub done_few : st.done + 1 < 2 ^ 64
  done_few = subst (λ s. s.done + 1 < 2 ^ 64) state_is (due.few j st)

-- a send that is due
module _ {O T E : Type 0} {op : Operation O E} {t : Transport T} (e : Engine O T E op t) (token : Token) (k r : ℕ) (to label : ℕ) (due : Due e token k r (Send to label))
    (j : Job E) (j_is : (d : Job E) → j ≡ get_or (pending_jobs e.jobs) k d) (st : RankState E) (st_is : (d : RankState E) → st ≡ get_or (states j) r d) where
  next_send : slice_get (actions_of j.schedule.collective j.schedule.ranks r) st.done ≡ Some (Send to label)
  next_send = next_at e token k r (Send to label) due j j_is st st_is

  pub label_low : label < 16
  label_low = known e (hlevel props) (λ o h. turning.label_low e token k due.shown_at j j_is o h r due.below st st_is to label next_send)

  abbrev pub letter : Message
  letter = message (tag_of token.number label) ((max st.departure st.arrival + 1) ∷ (op.meaning e.operation).pack st.value)

  -- no reason to refuse it is left
  pub is_sent : (o : Result (Unit {0}) Fault) → sending o ≡ send_reply (t.meaning e.transport) r to letter.words → IsOk o
  is_sent (Ok _) answer = search rules
  is_sent (Err f) answer = absurd (known e (λ x y. absurd x) (λ o h.
      let refuses = answer ∙ turning.goes e token k due.shown_at j j_is o h r due.below st st_is to label next_send in
      let z : ◌≡◌ {A = ℕ} 0 1 = cc in
      omega arith))

  pub sends : (net : Network) → net ≡ transport.after_send (t.meaning e.transport) r to letter
      → (js : List (Job E)) → js ≡ update k (with_sent r (turning.departed st)) (pending_jobs e.jobs)
      → Leads e (turn token.name token.number r) sent net e.started js
  sends net net-is js js-is =
      leads e (turn token.name token.number r) sent net e.started js
      (λ o h. subst (AmongRanks o.ranks) (sym js-is) (ranks_update o.ranks k (with_sent r (turning.departed st)) (λ i. refl) (pending_jobs e.jobs) h.same_ranks))
      (λ o h. turning.sent_step e token k due.shown_at j j_is o h r due.below st st_is to label next_send net net-is js js-is)

-- a take that is due
module _ {O T E : Type 0} {op : Operation O E} {t : Transport T} (e : Engine O T E op t) (token : Token) (k r : ℕ) (from label : ℕ) (merge : Merge) (due : Due e token k r (Take from label merge))
    (j : Job E) (j_is : (d : Job E) → j ≡ get_or (pending_jobs e.jobs) k d) (st : RankState E) (st_is : (d : RankState E) → st ≡ get_or (states j) r d) where
  next_take : slice_get (actions_of j.schedule.collective j.schedule.ranks r) st.done ≡ Some (Take from label merge)
  next_take = next_at e token k r (Take from label merge) due j j_is st st_is

  abbrev first : Found Message
  first = transport.oldest (tag_of token.number label) ((t.meaning e.transport).arrived from r)

  pub take_label : label < 16
  take_label = known e (hlevel props) (λ o h. turning.take_label e token k due.shown_at j j_is o h r due.below st st_is from label merge next_take)

  pub pair : apart (t.meaning e.transport).ranks from r ≡ true
  pair = known e (hlevel props) (λ o h. turning.pair e token k due.shown_at j j_is o h r due.below st st_is from label merge next_take)

  pub legible : Legible (op.meaning e.operation) first
  legible = by_message first refl
    where
      m : Meaning E
      m = op.meaning e.operation

      read_at : (w : Message) → first ≡ Some w → (origin : Network) → Stands origin e → turning.Letters m w
      read_at w f o h = turning.reads e token k due.shown_at j j_is o h r due.below st st_is from label merge next_take w f

      by_letter : (w : Message) → first ≡ Some w → (i : Found (Letter E)) → read_words m w.words ≡ i → Sent m w.words
      by_letter w f None g = absurd (known e (λ x y. absurd x) (λ o h. let q = (read_at w f o h).read in let z : ◌≡◌ {A = ℕ} 0 1 = cc in omega arith))
      by_letter w f (Some mail) g = record {
        mail = mail;
        proper = known e (hlevel props) (λ o h. let q = read_at w f o h in let same : q.mail ≡ mail = cc in subst (λ i. m.proper i.value ≡ true) same q.sent.0);
        words = known e (hlevel props) (λ o h. let q = read_at w f o h in let same : q.mail ≡ mail = cc in q.sent.1 ∙ ap (words_of m) same);
      }

      by_message : (i : Found Message) → first ≡ i → Legible m i
      by_message None f = tt
      by_message (Some w) f = by_letter w f (read_words m w.words) refl

  pub waits_on : mail_in (op.meaning e.operation) first ≡ None → (net : Network) → net ≡ t.meaning e.transport → Leads e (turn token.name token.number r) waits net e.started (pending_jobs e.jobs)
  waits_on none net net-is =
      leads e (turn token.name token.number r) waits net e.started (pending_jobs e.jobs) (λ o h. h.same_ranks)
      (λ o h. ap (λ n. (waits, with_jobs e.name (op.meaning e.operation) o n e.started (pending_jobs e.jobs))) net-is
      ∙ turning.waits_step e token k due.shown_at j j_is o h r due.below st st_is from label merge next_take none)

  module _ (mail : Letter E) where
    pub room_kept : merge ≡ Keep → st.done < 64
    room_kept keep = known e (hlevel props) (λ o h. turning.room_kept e token k due.shown_at j j_is o h r due.below st st_is from label merge next_take mail keep)

    pub takes : Some mail ≡ mail_in (op.meaning e.operation) first
        → (net : Network) → net ≡ with_taken from r (tag_of token.number label) (t.meaning e.transport)
        → (js : List (Job E)) → js ≡ update k (with_received r (state_taken (op.meaning e.operation).join merge mail st) merge st.done mail.value) (pending_jobs e.jobs)
        → length j.kept ≡ most_ranks
        → Leads e (turn token.name token.number r) took net e.started js
    takes found-is net net-is js js-is long =
        let new = state_taken (op.meaning e.operation).join merge mail st in
        let front : merge ≡ Keep → take (st.done + 1) (set j.kept st.done mail.value) ≡ take st.done j.kept ++ (mail.value ∷ []) = λ keep. take_more_set j.kept st.done mail.value (omega (arith, room_kept keep, long)) in
        leads e (turn token.name token.number r) took net e.started js
        (λ o h. subst (AmongRanks o.ranks) (sym js-is) (ranks_update o.ranks k (with_received r new merge st.done mail.value) (received_ranks r new merge st.done mail.value) (pending_jobs e.jobs) h.same_ranks))
        (λ o h. turning.took_step e token k due.shown_at j j_is o h r due.below st st_is from label merge next_take mail found-is net net-is js js-is front)
