use Rattle.std.proofs.Common.{sym, arith}
use Rattle.programme.proofs.Power.{floor_log_unique, levels_next}
use Rattle.schedule.proofs.powers.floor_log2.Goals as goal

pub returns-clause-is : goal.returns-clause-is
returns-clause-is c = sym (floor_log_unique c.args.n c.ilog2.result (omega arith) (omega arith))

pub returns-clause-next : goal.returns-clause-next
returns-clause-next c =
    omega (arith, levels_next c.args.n c.requires, floor_log_unique c.args.n c.ilog2.result (omega arith) (omega arith))
