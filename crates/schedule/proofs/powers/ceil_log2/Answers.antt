use Rattle.std.proofs.Common.{suc, arith}
use Rattle.programme.proofs.Power.{levels_below, levels_le}
use Rattle.schedule.proofs.powers.ceil_log2.Goals as goal

pub returns-then-n-le1-clause-is : goal.returns-then-n-le1-clause-is
returns-then-n-le1-clause-is c = omega (arith, levels_le c.args.n 0 (omega arith))

pub returns-else-n-le1-clause-is : goal.returns-else-n-le1-clause-is
returns-else-n-le1-clause-is c =
    omega (arith, levels_below c.args.n c.ilog2.result (omega arith), levels_le c.args.n (suc c.ilog2.result) (omega arith))
