use Rattle.schedule.proofs.allreduce.Allreduce.new.Goals as goal
use Rattle.std.proofs.Common.{arith}
use Rattle.schedule.proofs.Exchanges.{outside, even, odd}

pub returns-then-rank-surplus : goal.returns-then-rank-surplus
returns-then-rank-surplus c = outside _ _ _ (omega arith) (omega arith)

pub returns-then-rank-eq0 : goal.returns-then-rank-eq0
returns-then-rank-eq0 c = even _ _ (omega arith) (omega arith)

pub returns-else-rank-eq0 : goal.returns-else-rank-eq0
returns-else-rank-eq0 c = odd _ _ _ (omega arith) (omega arith) (λ e. omega arith)
