-- What the entries of a record tell of a pending job is what the machine holds of its ranks.
use Rattle.std.proofs.Common.{◌≡◌, ℕ, ◌+◌, ◌<◌, max, ◌&&◌, eqb, List, [], ◌∷◌, ◌++◌, sym, refl, ap, ◌∙◌, ap₂, inl, inr, arith}
use mathlib.Core.Option.{some}
use lib.ListN.{get_elem?}
use Rattle.std.proofs.lemmas.Bool.{ne_eqb, eq-eqb, eqb-true, cases_Bool, cases_eq, and_parts}
use Rattle.programme.specs.declared.Action.{Action}
use Rattle.programme.specs.declared.Action.TheVariants.{Send, Take}
use Rattle.programme.specs.declared.Merge.{Merge}
use Rattle.programme.specs.Rank.{Rank, act, posted, after_send, after_take}
use Rattle.programme.specs.Message.{stamp}
use Rattle.machine.specs.Operation.{Meaning}
use Rattle.machine.specs.Network.{Network, waiting}
use Rattle.machine.specs.Job.{Job, rank_of, actions, rounds_of}
use Rattle.machine.specs.Replay.{Clocks, at_first, changed, ticked, replay, rounds_told}
use Rattle.machine.specs.Sound.{sends_to, acts_done, JobSound}
use Rattle.machine.proofs.Advance.{advanced, rank_here, rank_there, sends_new}
use Rattle.machine.proofs.Between.{put_at}
use Rattle.machine.proofs.Turn.{mail_sent, elsewhere, same_cond}
use Rattle.ranks.proofs.Sums.{greatest_same}

pub replay_push : (actions : ℕ → List Action) (turns : List ℕ) (r : ℕ) (c : Clocks)
    → replay actions (turns ++ (r ∷ [])) c ≡ ticked r (get_elem? (actions r) ((replay actions turns c).done r)) (replay actions turns c)
replay_push actions [] r c = refl
replay_push actions (q ∷ turns) r c = replay_push actions turns r (ticked q (get_elem? (actions q) (c.done q)) c)

module _ {E : Type 0} (m : Meaning E) (p : ℕ) where
  -- the clocks of a job's ranks are c
  pub record Told (job : Job E) (c : Clocks) : Type 0 where
    pub done_is : (r : ℕ) → c.done r ≡ (rank_of m job r).done
    pub arrival_is : (r : ℕ) → c.arrival r ≡ (rank_of m job r).arrival
    pub departure_is : (r : ℕ) → c.departure r ≡ (rank_of m job r).departure
    pub stamp_is : (a b : ℕ) → 0 < sends_to b (acts_done m p job a) → c.stamp a b ≡ stamp job.kind p job.root a b

  pub told_rounds : (job : Job E) (turns : List ℕ) → Told job (replay (actions p job) turns at_first) → rounds_of m p job ≡ rounds_told job.kind p job.root turns
  told_rounds job turns t = greatest_same _ _ p (λ r _. sym (t.arrival_is r))

  module _ (net : Network) (job : Job E) (h : JobSound m p (waiting net) job) (r : ℕ) (below : r < p) (c : Clocks) (t : Told job c) where
    module _ (a : Action) (here : get_elem? (actions p job r) (rank_of m job r).done ≡ some a) (n : ℕ) where
      abbrev is : Rank E
      is = act m.join (λ q. h.plan.mail q r) a (rank_of m job r)

      abbrev new : Job E
      new = advanced job r is n

      -- a number of each rank, changed at r
      told_here : (f : Rank E → ℕ) (g : ℕ → ℕ) (v : ℕ) → ((q : ℕ) → g q ≡ f (rank_of m job q)) → v ≡ f is → (q : ℕ) → changed g r v q ≡ f (rank_of m new q)
      told_here f g v before after q =
          elim (cases_eq q r) [
            | inl e ↦ rw (eq-eqb q r e, e) (after ∙ ap f (sym (rank_here p (waiting net) job h r below a here n)))
            | inr e ↦ rw (ne_eqb q r e) (before q ∙ ap f (sym (rank_there p (waiting net) job h r below a here n q e)))
          ]

      -- and one that stays as it was at r
      told_same : (f : Rank E → ℕ) (g : ℕ → ℕ) → ((q : ℕ) → g q ≡ f (rank_of m job q)) → f (rank_of m job r) ≡ f is → (q : ℕ) → g q ≡ f (rank_of m new q)
      told_same f g before after q =
          elim (cases_eq q r) [
            | inl e ↦ rw e (before r ∙ after ∙ ap f (sym (rank_here p (waiting net) job h r below a here n)))
            | inr e ↦ before q ∙ ap f (sym (rank_there p (waiting net) job h r below a here n q e))
          ]

    pub told_send : (to label : ℕ) (here : get_elem? (actions p job r) (rank_of m job r).done ≡ some (Send to label)) (n : ℕ)
        → Told (advanced job r (after_send (rank_of m job r)) n) (ticked r (some (Send to label)) c)
    told_send to label here n =
        let leaves : ℕ = max (c.departure r) (c.arrival r) + 1 in
        let same : leaves ≡ (posted (rank_of m job r)).stamp = ap₂ (λ x y. max x y + 1) (t.departure_is r) (t.arrival_is r) in
        record {
          done_is = told_here (Send to label) here n (λ x. x.done) c.done (c.done r + 1) t.done_is (ap (λ k. k + 1) (t.done_is r));
          arrival_is = told_same (Send to label) here n (λ x. x.arrival) c.arrival t.arrival_is refl;
          departure_is = told_here (Send to label) here n (λ x. x.departure) c.departure leaves t.departure_is same;
          stamp_is = λ a b sent.
              let count = sends_new p (waiting net) job h r below (Send to label) here n a b in
              rw (put_at r to (λ _. leaves) c.stamp a b)
              (elim (cases_Bool (eqb a r && eqb b to)) [
                | inl e ↦
                    let parts = and_parts (eqb a r) (eqb b to) e in
                    rw (e, eqb-true a r parts.0, eqb-true b to parts.1)
                    (same ∙ ap (λ x. x.stamp) (sym (mail_sent m p net job h r below to label here)) ∙ h.plan.stamps_are r to)
                | inr e ↦ rw e (t.stamp_is a b (omega (arith, count, elsewhere a b r to e)))
              ]);
        }

    pub told_take : (from label : ℕ) (merge : Merge) (here : get_elem? (actions p job r) (rank_of m job r).done ≡ some (Take from label merge)) (n : ℕ)
        → 0 < sends_to r (acts_done m p job from)
        → Told (advanced job r (after_take m.join merge (h.plan.mail from r) (rank_of m job r)) n) (ticked r (some (Take from label merge)) c)
    told_take from label merge here n sent =
        let act : Action = Take from label merge in
        record {
          done_is = told_here act here n (λ x. x.done) c.done (c.done r + 1) t.done_is (ap (λ k. k + 1) (t.done_is r));
          arrival_is = told_here act here n (λ x. x.arrival) c.arrival (max (c.arrival r + 1) (c.stamp from r)) t.arrival_is
              (ap₂ (λ x y. max (x + 1) y) (t.arrival_is r) (t.stamp_is from r sent ∙ sym (h.plan.stamps_are from r)));
          departure_is = told_same act here n (λ x. x.departure) c.departure t.departure_is refl;
          stamp_is = λ a b before.
              t.stamp_is a b (omega (arith, sends_new p (waiting net) job h r below act here n a b, same_cond (eqb a r)));
        }
