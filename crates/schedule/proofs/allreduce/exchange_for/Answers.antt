use Rattle.std.proofs.Common.{◌∙◌, arith}
use Rattle.schedule.proofs.allreduce.exchange_for.Goals as goal
use Rattle.schedule.proofs.Exchanges.{length_small, between, last, past}

pub overflow_add-end : goal.overflow_add-end
overflow_add-end c =
    let e = c.args.exchange in
    omega (arith, length_small e.ranks e.number e.some e.few)

pub returns-then-index-end : goal.returns-then-index-end
returns-then-index-end c = c.action.ensures ∙ between _ _ _ _ (omega arith) (omega arith)

pub returns-then-index-end-2 : goal.returns-then-index-end-2
returns-then-index-end-2 c = last _ _ _ _ (omega arith)

pub returns-else-index-end-2 : goal.returns-else-index-end-2
returns-else-index-end-2 c = past _ _ _ _ (omega arith)
