use Rattle.std.proofs.Common.{◌≡◌, ℕ, ◌*◌, ◌^◌, ap, arith}
use Rattle.programme.specs.Levels.{levels}
use Rattle.schedule.proofs.scan.messages.Goals as goal
use Rattle.schedule.proofs.Places.{place_fits, past_twice, past_product}

pub power-requires : goal.power-requires
power-requires c =
    let e : 2 ^ c.ceil_log2-steps.result ≡ 2 ^ levels c.args.ranks = ap (λ (k : ℕ). 2 ^ k) c.ceil_log2-steps.ensures.is in
    place_fits c.ceil_log2-steps.result (omega (arith, past_twice c.args.ranks (omega arith)))

pub overflow_sub-result : goal.overflow_sub-result
overflow_sub-result c =
    let e : 2 ^ c.ceil_log2-steps.result ≡ 2 ^ levels c.args.ranks = ap (λ (k : ℕ). 2 ^ k) c.ceil_log2-steps.ensures.is in
    let f : c.ceil_log2-steps.result * c.args.ranks ≡ levels c.args.ranks * c.args.ranks = ap (λ (k : ℕ). k * c.args.ranks) c.ceil_log2-steps.ensures.is in
    omega (arith, past_product c.args.ranks (omega arith))
