use Rattle.std.proofs.Common.{rules, arith}
use Rattle.std.proofs.lemmas.Grind.{common_steps}
use Rattle.programme.specs.Programme.{scan, exscan}
use Rattle.schedule.proofs.Answered.{other}
use Rattle.schedule.proofs.Spreads.{numbered}
use Rattle.schedule.proofs.Schedule.action.Goals as goal

pub returns-in-Broadcast-clause-other : goal.returns-in-Broadcast-clause-other
returns-in-Broadcast-clause-other c = other c.args.self.now.collective _ _ c.args.index _ c.args.self.now.allowed (omega arith) (grind (arith, common_steps, numbered))

pub returns-in-Gather-clause-other : goal.returns-in-Gather-clause-other
returns-in-Gather-clause-other c = other c.args.self.now.collective _ _ c.args.index _ c.args.self.now.allowed (omega arith) (search rules)

pub returns-in-Reduce-clause-other : goal.returns-in-Reduce-clause-other
returns-in-Reduce-clause-other c = other c.args.self.now.collective _ _ c.args.index _ c.args.self.now.allowed (omega arith) (search rules)

pub returns-in-Scan-clause-other : goal.returns-in-Scan-clause-other
unfolding scan
returns-in-Scan-clause-other c = other c.args.self.now.collective _ _ c.args.index _ c.args.self.now.allowed (omega arith) (grind (arith, common_steps))

pub returns-in-Exscan-clause-other : goal.returns-in-Exscan-clause-other
unfolding exscan
returns-in-Exscan-clause-other c = other c.args.self.now.collective _ _ c.args.index _ c.args.self.now.allowed (omega arith) (grind (arith, common_steps))

pub returns-in-Allreduce-clause-other : goal.returns-in-Allreduce-clause-other
returns-in-Allreduce-clause-other c = other c.args.self.now.collective _ _ c.args.index _ c.args.self.now.allowed (omega arith) (search rules)
