use Rattle.std.proofs.Common.{◌≡◌, ℕ, ◌^◌, ◌≤◌, ap, ◌∙◌, arith}
use Rattle.std.proofs.lemmas.Nat.{mul-le}
use Rattle.programme.specs.Levels.{floor_log}
use Rattle.programme.proofs.Power.{floor_log_le}
use Rattle.ranks.specs.Ranks.{most_ranks}
use Rattle.schedule.proofs.allreduce.messages.Goals as goal

pub overflow_mul-result : goal.overflow_mul-result
overflow_mul-result c =
    let e : c.power.result ≡ 2 ^ floor_log c.args.ranks = c.power.ensures ∙ ap (λ (k : ℕ). 2 ^ k) c.floor_log2-steps.ensures.is in
    let l : c.power.result ≤ most_ranks = omega (arith, floor_log_le c.args.ranks (omega arith)) in
    omega (arith, mul-le c.power.result c.floor_log2-steps.result most_ranks 64 l (omega arith))
