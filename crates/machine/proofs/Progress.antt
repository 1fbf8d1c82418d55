-- While a pending job is unfinished, some call goes on with it.
use Rattle.std.proofs.Common.{◌≡◌, ℕ, zero, suc, ◌+◌, ◌<◌, ◌≤◌, Bool, true, false, cond, leb, ◌⊎◌, List, [], ◌∷◌, ◌++◌, length, take, drop, sym, refl, ap, ◌∙◌, inl, inr, append-nil, arith, take-append-drop, length-take-le}
use mathlib.Core.List.{nil≢cons}
use mathlib.Core.Option.{Option, none, some}
use lib.ListN.{get_elem?}
use Rattle.std.proofs.lemmas.Bool.{eq-eqb, leb-false, lt-ltb, cases_Bool}
use Rattle.ranks.specs.Ranks.{sum_below}
use Rattle.programme.specs.declared.Action.{Action}
use Rattle.programme.specs.declared.Action.TheVariants.{Send, Take}
use Rattle.programme.specs.Progress.{SendsNext, TakesNext}
use Rattle.programme.specs.Solved.{Stands}
use Rattle.programme.proofs.Flowing.{flows}
use Rattle.machine.specs.Network.{Message, waiting, some_carried}
use Rattle.machine.specs.Job.{Job, rank_of, actions, idle_ranks}
use Rattle.machine.specs.Plain.{Plain, turn, carry, looked, carried, step, shown, numbered, after_look}
use Rattle.machine.specs.Record.{acts}
use Rattle.machine.specs.Laws.{GoesOn}
use Rattle.machine.specs.Sound.{sends_to, takes_from, acts_done, JobSound, Good}
use Rattle.machine.proofs.Actions.{sends_to_append}
use Rattle.machine.proofs.Jobs.{found, shown_found}
use Rattle.machine.proofs.Keep.{width_fits, some_pending}
use Rattle.machine.proofs.Turn.{mail_took}
use Rattle.machine.proofs.Kept.{first_take}
use Rattle.machine.proofs.Crowd.{findable, take_apart}
use Rattle.machine.proofs.Steps.{turn_sends, turn_takes, carry_done}

-- not all pass
one_fails : (t : ℕ → Bool) (n : ℕ) → sum_below (λ i. cond (t i) 1 0) n < n → (i : ℕ) × (i < n) × (t i ≡ false)
one_fails t zero h = absurd (omega arith)
one_fails t (suc n) h =
    elim (cases_Bool (t n)) [
      | inl e ↦
          let rest = one_fails t n (omega (arith, rw e at h)) in
          (rest.0, omega (arith, rest.1), rest.2)
      | inr e ↦ (n, omega arith, e)
    ]

-- what stands first after d actions
next_is : (l : List Action) (d : ℕ) (x : Action) (rest : List Action) → drop d l ≡ x ∷ rest → get_elem? l d ≡ some x
next_is [] zero x rest e = absurd (nil≢cons e)
next_is [] (suc d) x rest e = absurd (nil≢cons e)
next_is (y ∷ l) zero x rest e = let same : y ≡ x = cc in ap some same
next_is (y ∷ l) (suc d) x rest e = next_is l d x rest e

stand_sent : (b : ℕ) (xs : List Action) (label : ℕ) → Stands xs (Send b label) → 0 < sends_to b xs
stand_sent b xs label s =
    let parts : sends_to b xs ≡ sends_to b s.before + (1 + sends_to b s.behind)
    = ap (sends_to b) s.split
    ∙ sends_to_append b s.before (Send b label ∷ s.behind)
    ∙ ap (λ t. sends_to b s.before + (cond t 1 0 + sends_to b s.behind)) (eq-eqb b b refl) in
    omega arith

module _ {E : Type 0} (s : Plain E) (good : Good s) (number : ℕ) (job : Job E) (at : shown s s.name number ≡ some job) where
  abbrev p : ℕ
  p = s.now.ranks

  abbrev Next : Type 0
  Next = ((r : ℕ) × (acts (step s (turn s.name number r)).0 ≡ true)) ⊎ ((from : ℕ) × (to : ℕ) × ((step s (carry from to)).0 ≡ carried 1))

  abbrev left : ℕ → List Action
  left r = drop (rank_of s.meaning job r).done (actions p job r)

  sound : JobSound s.meaning p (waiting s.now) job
  sound = (found number s.jobs job (shown_found s s.name number job at)).all_have (JobSound s.meaning p (waiting s.now)) good.sound.jobs_sound

  sends_on : (r : ℕ) → r < p → SendsNext (left r) → Next
  sends_on r below next =
      let here = next_is (actions p job r) (rank_of s.meaning job r).done (Send next.to next.label) next.rest next.is in
      inl (r, ap (λ x. acts x.0) (turn_sends s s.name number r job at (lt-ltb r p below) next.to next.label here))

  takes_on : (r : ℕ) → r < p → TakesNext (acts_done s.meaning p job) left r → Next
  takes_on r below next = go (s.now.under next.from r) refl
    where
      pending : numbered number s.jobs ≡ some job
      pending = shown_found s s.name number job at

      here : get_elem? (actions p job r) (rank_of s.meaning job r).done ≡ some (Take next.from next.label next.merge)
      here = next_is (actions p job r) (rank_of s.meaning job r).done (Take next.from next.label next.merge) next.rest next.is

      narrow : s.meaning.width ≤ 6
      narrow = width_fits s (good.sound.fits (some_pending number s.jobs (found number s.jobs job pending).among))

      untaken : takes_from next.from (acts_done s.meaning p job r) < sends_to r (acts_done s.meaning p job next.from)
      untaken =
          omega (
            arith,
            stand_sent r (acts_done s.meaning p job next.from) next.label next.sent,
            first_take sound.plan.solved r below next.from (rank_of s.meaning job r).done next.label next.merge here,
          )

      go : (under : List Message) → s.now.under next.from r ≡ under → Next
      go [] e =
          let words = findable s.meaning p s.now job sound r below next.from next.label next.merge here untaken e in
          inl (
            r,
            ap (λ x. acts x.0) (turn_takes s s.name number r job at (lt-ltb r p below) next.from next.label next.merge words.0 (sound.plan.mail next.from r) here words.1
                (mail_took s.meaning p s.now job sound r below good.lawful narrow next.from next.label next.merge words.0 here words.1)),
          )
      go (x ∷ l) e =
          let pair = take_apart s good number r job pending below next.from next.label next.merge here in
          inr (next.from, r, ap (λ x. x.0) (carry_done s next.from r pair) ∙ ap (λ l. carried (some_carried l)) e)

  goes : idle_ranks s.meaning p job < p → Next
  goes unfinished =
      let m = s.meaning in
      let open_rank = one_fails (λ r. leb (length (actions p job r)) (rank_of m job r).done) p unfinished in
      let r : ℕ = open_rank.0 in
      let short : (rank_of m job r).done < length (actions p job r) = leb-false (length (actions p job r)) (rank_of m job r).done open_rank.2 in
      let some_left : left r ≡ [] → ⊥ = λ e.
      let whole : take (rank_of m job r).done (actions p job r) ≡ actions p job r
      = sym (append-nil _) ∙ ap (λ l. take (rank_of m job r).done (actions p job r) ++ l) (sym e) ∙ take-append-drop (rank_of m job r).done (actions p job r) in
      omega (arith, ap length whole, length-take-le (rank_of m job r).done (actions p job r) (omega arith)) in
      let next = (flows job.kind p job.root sound.root_within).never_stuck (acts_done m p job) left
      (λ q _. sym (take-append-drop (rank_of m job q).done (actions p job q))) r open_rank.1 some_left in
      elim next.2 [
        | inl sends ↦ sends_on next.0 next.1 sends
        | inr takes ↦ takes_on next.0 next.1 takes
      ]

pub goes_on : {E : Type 0} (s : Plain E) → Good s → GoesOn s
goes_on {E} s good number idle answer unfinished = go (shown s s.name number) refl answer
  where
    go : (o : Option (Job E)) → shown s s.name number ≡ o → (after_look s o).0 ≡ looked idle
        → ((r : ℕ) × (acts (step s (turn s.name number r)).0 ≡ true)) ⊎ ((from : ℕ) × (to : ℕ) × ((step s (carry from to)).0 ≡ carried 1))
    go none e a = let z : ◌≡◌ {A = ℕ} 0 1 = cc in absurd (omega arith)
    go (some job) e a =
        let idle_is : idle_ranks s.meaning s.now.ranks job ≡ idle = cc in
        goes s good number job e (omega (arith, idle_is))
