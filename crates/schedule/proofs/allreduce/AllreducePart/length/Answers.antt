use Rattle.std.proofs.Common.{arith}
use Rattle.schedule.proofs.allreduce.AllreducePart.length.Goals as goal
use Rattle.schedule.proofs.Exchanges.{length_small}

pub overflow_add-result : goal.overflow_add-result
overflow_add-result c =
    let e = c.in-ForTwo.exchange in
    omega (arith, length_small e.ranks e.number e.some e.few)
