use Rattle.std.proofs.Common.{arith}
use Rattle.schedule.proofs.reduce.ReducePart.length.Goals as goal
use Rattle.schedule.proofs.Trees.{one_more, no_more}

pub returns-in-Some : goal.returns-in-Some
returns-in-Some c = omega (arith, one_more c.args.self.member.ranks c.args.self.root c.args.self.member.rank c.in-Some.ensures)

pub returns-in-None : goal.returns-in-None
returns-in-None c = omega (arith, no_more c.args.self.member.ranks c.args.self.root c.args.self.member.rank c.in-None.ensures)
