-- The sends of a job are few: a count of them fits a machine word.
use Rattle.std.proofs.Common.{ℕ, zero, suc, ◌+◌, ◌-◌, ◌*◌, ◌^◌, ◌<◌, ◌≤◌, Bool, true, false, cond, eqb, List, [], ◌∷◌, take, mul-le-mul_right, mul_comm, arith}
use Rattle.ranks.specs.Ranks.{most_ranks}
use Rattle.ranks.proofs.Sums.{sum-le}
use Rattle.programme.specs.declared.Action.{Action}
use Rattle.programme.specs.declared.Action.TheVariants.{Send, Take}
use Rattle.programme.specs.declared.Kind.{Kind}
use Rattle.programme.specs.declared.Kind.TheVariants.{Broadcast, Gather, Reduce, Scan, Exscan, Allreduce}
use Rattle.programme.specs.Levels.{floor_log}
use Rattle.programme.specs.Formula.{messages}
use Rattle.programme.specs.Formula.{sends}
use Rattle.programme.proofs.Power.{lt_pow, levels_le, floor_log_le, surplus_splits}
use Rattle.machine.specs.Operation.{Meaning}
use Rattle.machine.specs.Network.{Message}
use Rattle.machine.specs.Job.{Job, rank_of, actions}
use Rattle.machine.specs.Sound.{acts_done, JobSound}

sends_take : (d : ℕ) (l : List Action) → sends (take d l) ≤ sends l
sends_take zero [] = omega arith
sends_take zero (a ∷ l) = omega arith
sends_take (suc d) [] = omega arith
sends_take (suc d) (Send to label ∷ l) = omega (arith, sends_take d l)
sends_take (suc d) (Take from label m ∷ l) = omega (arith, sends_take d l)

-- no more than the square of the ranks, and a little
messages_few : (kind : Kind) (p root : ℕ) → 0 < p → messages kind p root ≤ p * p + 2 * p + 1
messages_few Broadcast p root h = omega arith
messages_few Gather p root h = omega arith
messages_few Reduce p root h = either (eqb root 0)
  where
    either : (t : Bool) → cond t (p - 1) p ≤ p * p + 2 * p + 1
    either true = omega arith
    either false = omega arith
messages_few Scan p root h = omega (arith, mul-le-mul_right p (levels_le p p (omega (arith, lt_pow p))))
messages_few Exscan p root h = omega (arith, mul-le-mul_right p (levels_le p p (omega (arith, lt_pow p))))
messages_few Allreduce p root h =
    let q : ℕ = 2 ^ floor_log p in
    let f : ℕ = floor_log p in
    let q_low : q ≤ p = floor_log_le p h in
    let f_low : f ≤ p = omega (arith, lt_pow f, q_low) in
    let first : q * f ≤ p * f = mul-le-mul_right f q_low in
    let second : f * p ≤ p * p = mul-le-mul_right p f_low in
    omega (arith, first, second, mul_comm p f, surplus_splits p h)

module _ {E : Type 0} (m : Meaning E) (p : ℕ) (w : ℕ → ℕ → List Message) (job : Job E) (h : JobSound m p w job) where
  pub sent_small : p ≤ most_ranks → job.sent + 1 < 2 ^ 64
  sent_small few =
      let done = sum-le (λ r. sends (acts_done m p job r)) (λ r. sends (actions p job r)) p (λ r _. sends_take (rank_of m job r).done (actions p job r)) in
      let square : p * p ≤ 64 * p = mul-le-mul_right p few in
      omega (arith, h.sent_counted, done, h.plan.messages_are, messages_few job.kind p job.root (omega (arith, h.root_within)), square)
