use Rattle.std.proofs.Common.{arith}
use Rattle.schedule.proofs.broadcast.BroadcastPart.length.Goals as goal
use Rattle.schedule.proofs.Spreads.{root_length, other_length}

pub returns-then-self-eq0 : goal.returns-then-self-eq0
returns-then-self-eq0 c =
    let n = c.args.self.number in
    omega (arith, root_length n.ranks c.args.self.root n.rank n.within c.if-self-eq0.true)

pub returns-else-self-eq0 : goal.returns-else-self-eq0
returns-else-self-eq0 c =
    let n = c.args.self.number in
    omega (arith, other_length n.ranks c.args.self.root n.rank n.within (omega arith))
