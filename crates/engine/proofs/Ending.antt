-- An end, of the job at a token's place.
use Rattle.std.proofs.Common.{◌≡◌, ℕ, ◌*◌, ◌<◌, ◌≤◌, true, List, map, length, get_or, Some, None, sym, ap, ◌∙◌, subst, arith}
use mathlib.Core.Option.{some}
use Rattle.std.specs.List.{remove, AllByRecursion}
use Rattle.std.proofs.lemmas.List.{get_or_default}
use Rattle.std.proofs.lemmas.Bool.{eq-eqb, ne_eqb, lt-ltb, le-ltb}
use denote.Struct.Props.{props}
use Rattle.ranks.specs.Ranks.{most_ranks, greatest_below}
use Rattle.schedule.specs.declared.Collective.{Collective}
use Rattle.schedule.specs.declared.Collective.TheVariants.{Broadcast, Gather, Reduce, Scan, Exscan, Allreduce}
use Rattle.schedule.specs.Collective.{kind_of, root_of, Allowed}
use Rattle.operation.specs.declared.Operation.{Ghosts as Operation}
use Rattle.transport.specs.declared.Transport.{Ghosts as Transport}
use Rattle.machine.specs.Operation.{Meaning}
use Rattle.machine.specs.Network.{Network, waiting}
use Rattle.machine.specs.Job.{idle_ranks, finished, rounds_of, rank_of, listed, outcome, packed}
use Rattle.machine.specs.Plain.{Plain, Answer, end, ended, refused, no_job, unfinished, too_few_words, step, shown, without_job, answer_words, written}
use Rattle.machine.specs.Sound.{Proper, JobSound}
use Rattle.machine.proofs.Finish.{ranks_final}
use Rattle.ranks.proofs.Sums.{greatest_same}
use Rattle.machine.proofs.Steps.{end_no_job, end_unfinished, end_too_few, end_done}
use Rattle.engine_parts.proofs.Packed.{length-packed}
use Rattle.jobs.specs.declared.job.Job.{Job}
use Rattle.jobs.specs.declared.job.RankState.{RankState}
use Rattle.jobs.specs.Tables.{job_of, states, pending_jobs, idle_below, arrival_at, result_at, result_count, rank_in}
use Rattle.engine.specs.declared.state.Engine.{Engine}
use Rattle.engine.specs.declared.token.Token.{Token}
use Rattle.engine.specs.Fields.{with_jobs, AmongRanks}
use Rattle.engine.specs.Abs.{plain, Stands, place_of}
use Rattle.engine.proofs.Onward.{known, Leads, leads}
use Rattle.engine.proofs.Shown.{not_shown, narrow}
use Rattle.engine.proofs.Leaving.{jobs_left, ranks_removed}
use Rattle.engine.proofs.Results.{all_listed, listed_at, results_are, outcome_proper, answer_count}
use Rattle.engine.proofs.Looking as looking
use Rattle.engine.proofs.Turning as turning

-- no more elements than there may be ranks
pub count_few : (c : Collective) (p : ℕ) → Allowed c p → result_count c p ≤ most_ranks
count_few (Broadcast root) p h = h.1
count_few (Gather root) p h = h.1
count_few (Reduce root) p h = omega arith
count_few Scan p h = h.1
count_few Exscan p h = h.1
count_few Allreduce p h = h.1

module _ {O T E : Type 0} {op : Operation O E} {t : Transport T} (e : Engine O T E op t) (token : Token) (lent : List ℕ) where
  pub no_job_ended : place_of e token ≡ None → (origin : Network)
      → ◌≡◌ {A = Answer × Plain E} (refused no_job, plain origin e) (step (plain origin e) (end token.name token.number lent))
  no_job_ended absent origin = sym (end_no_job (plain origin e) token.name token.number lent (not_shown e token absent origin))

  module _ (k : ℕ) (at : place_of e token ≡ Some k) (j : Job E) (j_is : (d : Job E) → j ≡ get_or (pending_jobs e.jobs) k d)
      (idle : ℕ) (idle_is : (d : RankState E) → idle ≡ idle_below j d j.schedule.ranks) where
    abbrev m : Meaning E
    m = op.meaning e.operation

    abbrev p : ℕ
    p = (t.meaning e.transport).ranks

    abbrev c : Collective
    c = j.schedule.collective

    module _ (origin : Network) (h : Stands origin e) where
      abbrev s : Plain E
      s = plain origin e

      abbrev Comes : Answer → Type 0
      Comes a = ◌≡◌ {A = Answer × Plain E} (a, s) (step s (end token.name token.number lent))

      job_right : JobSound m p (waiting (t.meaning e.transport)) (job_of j)
      job_right = turning.job_sound e token k at j j_is origin h

      ranks_are : j.schedule.ranks ≡ p
      ranks_are = turning.schedule_ranks e token k at j j_is origin h

      shown_is : shown s token.name token.number ≡ some (job_of j)
      shown_is = turning.shown_is e token k at j j_is origin h

      held : (d : RankState E) (r : ℕ) → r < p → rank_of m (job_of j) r ≡ rank_in c j.kept r (get_or (states j) r d)
      held d r below =
          let long = turning.states_long e token k at j j_is origin h in
          turning.rank_is e token k at j j_is origin h r below (get_or (states j) r d) (λ b. get_or_default (states j) r d b (omega (arith, long)))

      counted : idle ≡ idle_ranks m p (job_of j)
      counted = looking.idle_counted e token k at j j_is idle idle_is origin h

      pub unfinished_step : (idle ≡ p → ⊥) → Comes (refused unfinished)
      unfinished_step f = sym (end_unfinished s token.name token.number lent (job_of j) shown_is (ne_eqb (idle_ranks m p (job_of j)) p (λ q. f (counted ∙ q))))

      module _ (all : idle ≡ p) where
        done : finished m p (job_of j) ≡ true
        done = eq-eqb (idle_ranks m p (job_of j)) p (sym counted ∙ all)

        whole : length (outcome m (kind_of c) (root_of c) (job_of j).ranks) ≡ result_count c p
        whole =
            ap (λ l. length (outcome m (kind_of c) (root_of c) l)) (ranks_final m p (waiting (t.meaning e.transport)) (job_of j) job_right done)
            ∙ ap length job_right.plan.answers
            ∙ answer_count m c (job_of j).inputs
            ∙ ap (result_count c) job_right.inputs_all

        results : (d : RankState E) → listed (result_at j d) (result_count c j.schedule.ranks) ≡ outcome m (kind_of c) (root_of c) (job_of j).ranks
        results d =
            ap (λ n. listed (result_at j d) (result_count c n)) ranks_are
            ∙ results_are m j d p (job_of j).ranks job_right.ranks_all c job_right.root_within (held d) whole

        all_proper : AllByRecursion (Proper m) (outcome m (kind_of c) (root_of c) (job_of j).ranks)
        all_proper =
            outcome_proper m j (looking.some_state m) p (job_of j).ranks job_right.ranks_all
            (λ r below. (job_right.rank_sound r below).value_proper) (λ r below. (job_right.rank_sound r below).prefix_proper) (λ r below. (job_right.rank_sound r below).kept_proper)
            c job_right.root_within

        proper_here : (d : RankState E) → AllByRecursion (Proper m) (listed (result_at j d) (result_count c j.schedule.ranks))
        proper_here d = subst (AllByRecursion (Proper m)) (sym (results d)) all_proper

        answer_length : length (answer_words s (job_of j)) ≡ result_count c j.schedule.ranks * m.width
        answer_length =
            length-packed m (h.good.lawful.packing (narrow e token k at origin h)) (outcome m (kind_of c) (root_of c) (job_of j).ranks) all_proper
            ∙ ap (λ n. n * m.width) (whole ∙ ap (result_count c) (sym ranks_are))

        pub too_few_step : length lent < result_count c j.schedule.ranks * m.width → Comes (refused too_few_words)
        too_few_step f =
            sym (end_too_few s token.name token.number lent (job_of j) shown_is done
            (lt-ltb (length lent) (length (answer_words s (job_of j))) (omega (arith, answer_length))))

        ended_step : result_count c j.schedule.ranks * m.width ≤ length lent
            → (rounds : ℕ) → ((d : RankState E) → rounds ≡ greatest_below (arrival_at j d) j.schedule.ranks)
            → (after : List ℕ) → ((d : RankState E) → after ≡ written (packed m (listed (result_at j d) (result_count c j.schedule.ranks))) lent)
            → (js : List (Job E)) → js ≡ remove (pending_jobs e.jobs) k
            → ◌≡◌ {A = Answer × Plain E} (ended after rounds j.sent, with_jobs e.name m origin (t.meaning e.transport) e.started js) (step s (end token.name token.number lent))
        ended_step room rounds rounds_are after after_is js js-is =
            let d = looking.some_state m in
            let jobs = ap (map job_of) js-is ∙ jobs_left e token k at origin h in
            let greatest : rounds ≡ rounds_of m p (job_of j)
            = rounds_are d ∙ ap (greatest_below (arrival_at j d)) ranks_are
            ∙ greatest_same (arrival_at j d) (λ r. (rank_of m (job_of j) r).arrival) p (λ r below. sym (ap (λ x. x.arrival) (held d r below))) in
            let words : after ≡ written (answer_words s (job_of j)) lent = after_is d ∙ ap (λ l. written (packed m l) lent) (results d) in
            (λ i. (ended (words i) (greatest i) j.sent, record { name = e.name; meaning = m; origin = origin; now = t.meaning e.transport; started = e.started; jobs = jobs i }))
            ∙ ap {B = Answer × Plain E} (λ n. (ended (written (answer_words s (job_of j)) lent) (rounds_of m p (job_of j)) j.sent, without_job n s s.now)) (sym (turning.number_is e token k at j j_is origin h))
            ∙ sym (end_done s token.name token.number lent (job_of j) shown_is done
            (le-ltb (length lent) (length (answer_words s (job_of j))) (omega (arith, answer_length))))

    pub results_proper : idle ≡ p → (d : RankState E) → AllByRecursion (Proper m) (listed (result_at j d) (result_count c j.schedule.ranks))
    results_proper all d =
        let f = result_at j d in
        let n = result_count c j.schedule.ranks in
        all_listed (Proper m) f n (λ i below. known e (hlevel props) (λ o h. listed_at (Proper m) f n (proper_here o h all d) i below))

    -- an end that nothing refuses
    pub ends : idle ≡ p → result_count c j.schedule.ranks * m.width ≤ length lent
        → (rounds : ℕ) → ((d : RankState E) → rounds ≡ greatest_below (arrival_at j d) j.schedule.ranks)
        → (sent : ℕ) → sent ≡ j.sent
        → (after : List ℕ) → ((d : RankState E) → after ≡ written (packed m (listed (result_at j d) (result_count c j.schedule.ranks))) lent)
        → (js : List (Job E)) → js ≡ remove (pending_jobs e.jobs) k
        → Leads e (end token.name token.number lent) (ended after rounds sent) (t.meaning e.transport) e.started js
    ends all room rounds rounds_are sent sent_is after after_is js js-is =
        leads e (end token.name token.number lent) (ended after rounds sent) (t.meaning e.transport) e.started js
        (λ o h. subst (AmongRanks o.ranks) (sym js-is) (ranks_removed o.ranks (pending_jobs e.jobs) k h.same_ranks))
        (λ o h. ap (λ n. (ended after rounds n, with_jobs e.name m o (t.meaning e.transport) e.started js)) sent_is
        ∙ ended_step o h all room rounds rounds_are after after_is js js-is)
