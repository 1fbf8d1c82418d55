-- Labels: each is below the number of labels, as long as there are not more steps than that.
use Rattle.std.proofs.Common.{ℕ, suc, ◌+◌, ◌-◌, ◌*◌, ◌/◌, ◌%◌, ◌^◌, ◌<◌, ◌≤◌, Bool, true, false, cond, not, ◌&&◌, eqb, ltb, leb, List, ◌++◌, mod-lt, arith}
use Rattle.std.proofs.lemmas.Bool.{ltb-true}
use Rattle.programme.specs.declared.Action.{Action}
use Rattle.programme.specs.declared.Action.TheVariants.{Send, Take}
use Rattle.programme.specs.declared.Merge.{Merge}
use Rattle.programme.specs.declared.Merge.TheVariants.{Replace, Keep, Before, After, Prefix}
use Rattle.programme.specs.declared.Kind.{Kind}
use Rattle.programme.specs.declared.Kind.TheVariants.{Broadcast, Gather, Reduce, Scan, Exscan, Allreduce}
use Rattle.programme.specs.Label.{deliver, collect, label_count, label_of}
use Rattle.programme.specs.Levels.{levels, floor_log, surplus}
use Rattle.programme.specs.Programme.{when, steps, bit, from_root, rank_at, broadcast, gather, fold_step, reduce, scan_step, scan, exscan, exchange_step, exchange, allreduce, programme}
use Rattle.programme.specs.Solved.{Stands}
use Rattle.programme.proofs.Lists.{Every, every_stands, every_append, every_steps, every_when}
use Rattle.programme.proofs.Power.{levels_below, levels_le, levels_next, floor_log_le}

-- whatever stands before the action
abbrev Fits : List Action → Action → Type 0
Fits before action = label_of action < label_count

every_cond : (test : Bool) (xs ys : List Action) → Every Fits xs → Every Fits ys → Every Fits (cond test xs ys)
every_cond true xs ys h k = h
every_cond false xs ys h k = k

module _ (p : ℕ) (few : p ≤ 2 ^ label_count) where
  step_fits : (k : ℕ) → k < levels p → k < label_count
  step_fits k h = omega (arith, levels_le p label_count few)

  -- steps of which each has its own label
  each_fits : (f : ℕ → List Action) → ((k : ℕ) → k < label_count → Every Fits (f k)) → Every Fits (steps f (levels p))
  each_fits f h = every_steps Fits f (levels p) (λ k l. h k (step_fits k l))

  broadcast_fits : (root r : ℕ) → root < p → Every Fits (broadcast p root r)
  unfolding broadcast
  broadcast_fits root r h =
      let pos : 0 < p = omega arith in
      let u : ℕ = from_root p root r in
      every_append Fits (when (ltb 0 u) (Take (rank_at p root (u - 2 ^ floor_log u)) (floor_log u) Replace)) _
      (every_when Fits (ltb 0 u) (Take (rank_at p root (u - 2 ^ floor_log u)) (floor_log u) Replace)
      (λ t. step_fits (floor_log u) (levels_below p (floor_log u) (omega (arith, floor_log_le u (ltb-true 0 u t), mod-lt (r + (p - root)) pos)))))
      (each_fits (λ k. when (ltb u (2 ^ k) && ltb (u + 2 ^ k) p) (Send (rank_at p root (u + 2 ^ k)) k)) (λ k l. every_when Fits _ _ (λ t. l)))

  gather_fits : (root r : ℕ) → Every Fits (gather p root r)
  unfolding gather
  gather_fits root r =
      every_cond (eqb r root) _ _
      (every_steps Fits (λ a. when (not (eqb a root)) (Take a collect Keep)) p (λ k l. every_when Fits _ _ (λ t. omega arith)))
      (omega arith, tt)

  fold_fits : (r k : ℕ) → k < label_count → Every Fits (fold_step p r k)
  unfolding fold_step
  fold_fits r k l =
      every_cond (eqb (r % 2 ^ k) 0) _ _
      (every_cond (bit r k) _ _ (l, tt) (every_when Fits (ltb (r + 2 ^ k) p) (Take (r + 2 ^ k) k After) (λ t. l)))
      tt

  reduce_fits : (root r : ℕ) → Every Fits (reduce p root r)
  unfolding reduce
  reduce_fits root r =
      every_append Fits (steps (fold_step p r) (levels p) ++ when (not (eqb root 0) && eqb r 0) (Send root deliver)) _
      (every_append Fits (steps (fold_step p r) (levels p)) _
      (each_fits (fold_step p r) (fold_fits r))
      (every_when Fits (not (eqb root 0) && eqb r 0) (Send root deliver) (λ t. omega arith)))
      (every_when Fits (not (eqb root 0) && eqb r root) (Take 0 deliver Replace) (λ t. omega arith))

  scan_fits : (m : Merge) (r : ℕ) → Every Fits (steps (scan_step m p r) (levels p))
  unfolding scan_step
  scan_fits m r =
      each_fits (scan_step m p r) (λ k l.
      every_append Fits (when (ltb (r + 2 ^ k) p) (Send (r + 2 ^ k) k)) _
      (every_when Fits (ltb (r + 2 ^ k) p) (Send (r + 2 ^ k) k) (λ t. l))
      (every_when Fits (leb (2 ^ k) r) (Take (r - 2 ^ k) k m) (λ t. l)))

  exchange_fits : (n : ℕ) → 0 < p → Every Fits (exchange p n)
  unfolding exchange exchange_step
  exchange_fits n pos =
      every_steps Fits (exchange_step p n) (floor_log p) (λ k l.
      let s : k < label_count = omega (arith, levels_next p pos, levels_le (p + 1) (suc label_count) (omega arith)) in
      (s, (s, tt)))

  allreduce_fits : (r : ℕ) → 0 < p → Every Fits (allreduce p r)
  unfolding allreduce
  allreduce_fits r pos =
      every_cond (leb (2 * surplus p) r) _ _
      (exchange_fits (r - surplus p) pos)
      (every_cond (eqb (r % 2) 0) _ _
      (omega arith, (omega arith, tt))
      (omega arith, every_append Fits (exchange p ((r - 1) / 2)) _ (exchange_fits ((r - 1) / 2) pos) (omega arith, tt)))

  fits : (kind : Kind) (root r : ℕ) → root < p → Every Fits (programme kind p root r)
  unfolding scan exscan
  fits Broadcast root r h = broadcast_fits root r h
  fits Gather root r h = gather_fits root r
  fits Reduce root r h = reduce_fits root r
  fits Scan root r h = scan_fits Before r
  fits Exscan root r h = scan_fits Prefix r
  fits Allreduce root r h = allreduce_fits r (omega arith)

  pub labels_fit : (kind : Kind) (root r : ℕ) → root < p → (action : Action) → Stands (programme kind p root r) action → label_of action < label_count
  labels_fit kind root r h action s = every_stands Fits (programme kind p root r) action (fits kind root r h) s
