use Rattle.std.proofs.Common.{arith}
use Rattle.schedule.proofs.reduce.Reduce.tree_length.Goals as goal
use Rattle.schedule.proofs.Trees.{zero_length, other_length}

pub returns-then-self-eq0-clause-is : goal.returns-then-self-eq0-clause-is
returns-then-self-eq0-clause-is c =
    let m = c.args.self.member in
    omega (arith, zero_length m.ranks m.rank m.within c.if-self-eq0.true)

pub returns-else-self-eq0-clause-is : goal.returns-else-self-eq0-clause-is
returns-else-self-eq0-clause-is c =
    let m = c.args.self.member in
    omega (arith, other_length m.ranks m.rank m.within c.if-self-eq0.false)
