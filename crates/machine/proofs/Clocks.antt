-- The numbers that a job counts stay small, and so do the values that a rank keeps.
use Rattle.std.proofs.Common.{◌≡◌, ℕ, zero, suc, ◌+◌, ◌^◌, ◌<◌, ◌≤◌, Bool, true, false, cond, eqb, ltb, List, [], ◌∷◌, ◌++◌, take, drop, sym, refl, ap, ◌∙◌, add-one, arith, take-append-drop, take_all}
use mathlib.Core.Option.{Option, none, some}
use lib.ListN.{get_elem?}
use Rattle.programme.specs.declared.Kind.{Kind}
use Rattle.programme.specs.declared.Kind.TheVariants.{Broadcast, Gather, Reduce, Scan, Exscan, Allreduce}
use Rattle.programme.specs.declared.Action.{Action}
use Rattle.programme.specs.declared.Action.TheVariants.{Send, Take}
use Rattle.programme.specs.Levels.{levels, floor_log, surplus}
use Rattle.programme.specs.Formula.{rounds}
use Rattle.programme.specs.Rank.{Rank, Mail, posted, act, acts}
use Rattle.programme.specs.Solved.{Solved, Stands, state}
use Rattle.machine.specs.Operation.{Meaning}
use Rattle.machine.specs.Network.{Message}
use Rattle.ranks.proofs.Sums.{le_greatest, sum-le, sum-constant}
use Rattle.machine.specs.Job.{Job, rank_of, actions}
use Rattle.machine.specs.Sound.{JobSound, acts_done}
use Rattle.machine.proofs.Actions.{next, next_none, acts_push}

either_le : (b : Bool) (x y z : ℕ) → x ≤ z → y ≤ z → cond b x y ≤ z
either_le true x y z h k = h
either_le false x y z h k = k

levels_le : (p : ℕ) → levels p ≤ p
unfolding levels
levels_le p = omega (arith, sum-le (λ k. cond (ltb (2 ^ k) p) 1 0) (λ _. 1) p (λ k _. either_le (ltb (2 ^ k) p) 1 0 1 (omega arith) (omega arith)), sum-constant 1 p)

floor_log_le : (p : ℕ) → floor_log p ≤ p
unfolding floor_log
floor_log_le p = omega (arith, levels_le (p + 1))

pub rounds_few : (kind : Kind) (p root : ℕ) → rounds kind p root ≤ p + 2
rounds_few Broadcast p root = omega (arith, levels_le p)
rounds_few Gather p root = omega arith
rounds_few Reduce p root = either_le (eqb root 0) _ _ _ (omega (arith, levels_le p)) (omega (arith, levels_le p))
rounds_few Scan p root = omega (arith, levels_le p)
rounds_few Exscan p root = omega (arith, levels_le p)
rounds_few Allreduce p root = either_le (eqb (surplus p) 0) _ _ _ (omega (arith, floor_log_le p)) (omega (arith, floor_log_le p))

module _ {E : Type 0} where
  module _ (join : E → E → E) (mail : ℕ → Mail E) where
    acts_append : (xs ys : List Action) (x : Rank E) → acts join mail (xs ++ ys) x ≡ acts join mail ys (acts join mail xs x)
    acts_append [] ys x = refl
    acts_append (a ∷ xs) ys x = acts_append xs ys (act join mail a x)

    -- arrivals go up
    arrival_up : (xs : List Action) (x : Rank E) → x.arrival ≤ (acts join mail xs x).arrival
    arrival_up [] x = omega arith
    arrival_up (Send to label ∷ xs) x = arrival_up xs (act join mail (Send to label) x)
    arrival_up (Take from label m ∷ xs) x = omega (arith, arrival_up xs (act join mail (Take from label m) x))

  module _ {join : E → E → E} {p : ℕ} {programme : ℕ → List Action} {start : ℕ → Rank E} {mail : ℕ → ℕ → Mail E} (solved : Solved join p programme start mail) where
    abbrev at : ℕ → List Action → Rank E
    at r xs = state join p programme start mail r xs

    arrival_final : (r d : ℕ) → (at r (take d (programme r))).arrival ≤ (at r (programme r)).arrival
    arrival_final r d =
        let parts : at r (programme r) ≡ acts join (λ a. mail a r) (drop d (programme r)) (at r (take d (programme r)))
        = ap (at r) (sym (take-append-drop d (programme r))) ∙ acts_append join (λ a. mail a r) (take d (programme r)) (drop d (programme r)) (start r) in
        omega (arith, ap (λ x. x.arrival) parts, arrival_up join (λ a. mail a r) (drop d (programme r)) (at r (take d (programme r))))

    -- a message that is sent is taken, so its stamp is no greater than an arrival
    stamp_final : (a b label : ℕ) → a < p → Stands (programme a) (Send b label) → (mail a b).stamp ≤ (at b (programme b)).arrival
    stamp_final a b label below s =
        let met = solved.send_met a b label below s in
        let here : Action = Take a label met.0 in
        let parts : at b (programme b) ≡ acts join (λ q. mail q b) met.1.behind (act join (λ q. mail q b) here (at b met.1.before))
        = ap (at b) met.1.split ∙ acts_append join (λ q. mail q b) met.1.before (here ∷ met.1.behind) (start b) in
        omega (arith, ap (λ x. x.arrival) parts, arrival_up join (λ q. mail q b) met.1.behind (act join (λ q. mail q b) here (at b met.1.before)))

    module _ (most : ℕ) (bound : (r : ℕ) → r < p → (at r (programme r)).arrival ≤ most) (begin : (r : ℕ) → (start r).departure ≤ most) where
      stamp_most : (a b label : ℕ) → a < p → Stands (programme a) (Send b label) → (mail a b).stamp ≤ most
      stamp_most a b label below s = omega (arith, stamp_final a b label below s, bound b (solved.send_rank a b label below s).0)

      departure_most : (r d : ℕ) → r < p → (at r (take d (programme r))).departure ≤ most
      departure_most r zero below = begin r
      departure_most r (suc d) below = go (get_elem? (programme r) d) refl (departure_most r d below)
        where
          go : (o : Option Action) → get_elem? (programme r) d ≡ o → (at r (take d (programme r))).departure ≤ most → (at r (take (suc d) (programme r))).departure ≤ most
          go none e h =
              let short = next_none (programme r) d e in
              let same : take (suc d) (programme r) ≡ take d (programme r) = take_all (suc d) (programme r) (omega arith) ∙ sym (take_all d (programme r) short) in
              rw same h
          go (some (Take from label m)) e h =
              let n = next (programme r) d (Take from label m) e in
              let more : at r (take (suc d) (programme r)) ≡ act join (λ q. mail q r) (Take from label m) (at r (take d (programme r)))
              = ap (λ k. at r (take k (programme r))) (sym (add-one d)) ∙ ap (at r) n.more ∙ acts_push join (λ q. mail q r) (take d (programme r)) (Take from label m) (start r) in
              omega (arith, ap (λ x. x.departure) more)
          go (some (Send to label)) e h =
              let n = next (programme r) d (Send to label) e in
              let s : Stands (programme r) (Send to label) = record { before = take d (programme r); behind = drop (suc d) (programme r); split = n.split } in
              let more : at r (take (suc d) (programme r)) ≡ act join (λ q. mail q r) (Send to label) (at r (take d (programme r)))
              = ap (λ k. at r (take k (programme r))) (sym (add-one d)) ∙ ap (at r) n.more ∙ acts_push join (λ q. mail q r) (take d (programme r)) (Send to label) (start r) in
              omega (arith, ap (λ x. x.departure) more, ap (λ x. x.stamp) (solved.send_mail r to label below s), stamp_most r to label below s)

  -- of a pending job: what its ranks count is at most the job's rounds
  module _ (m : Meaning E) (p : ℕ) (w : ℕ → ℕ → List Message) (job : Job E) (h : JobSound m p w job) where
    abbrev most : ℕ
    most = rounds job.kind p job.root

    final_most : (r : ℕ) → r < p → (at h.plan.solved r (actions p job r)).arrival ≤ most
    final_most r below = omega (arith, le_greatest (λ q. (at h.plan.solved q (actions p job q)).arrival) p r below, h.plan.rounds_are)

    pub arrival_small : (r : ℕ) → r < p → (rank_of m job r).arrival ≤ most
    arrival_small r below = omega (arith, ap (λ x. x.arrival) (h.rank_sound r below).known, arrival_final h.plan.solved r (rank_of m job r).done, final_most r below)

    pub departure_small : (r : ℕ) → r < p → (rank_of m job r).departure ≤ most
    departure_small r below =
        omega (arith, ap (λ x. x.departure) (h.rank_sound r below).known, departure_most h.plan.solved most final_most (λ _. omega arith) r (rank_of m job r).done below)

    pub stamp_small : (r : ℕ) → r < p → (to label : ℕ) → get_elem? (actions p job r) (rank_of m job r).done ≡ some (Send to label) → (posted (rank_of m job r)).stamp ≤ most
    stamp_small r below to label here =
        let s : Stands (actions p job r) (Send to label) = record {
          before = acts_done m p job r;
          behind = drop (suc (rank_of m job r).done) (actions p job r);
          split = (next (actions p job r) (rank_of m job r).done (Send to label) here).split;
        } in
        let mail_is : h.plan.mail r to ≡ posted (rank_of m job r) = h.plan.solved.send_mail r to label below s ∙ ap posted (sym (h.rank_sound r below).known) in
        omega (arith, ap (λ x. x.stamp) mail_is, stamp_most h.plan.solved most final_most (λ _. omega arith) r to label below s)
