use Rattle.std.proofs.Common.{arith}
use Rattle.schedule.proofs.gather.GatherPart.action.Goals as goal
use Rattle.schedule.proofs.Gathers.{root_early, root_late, root_length, other_first, other_length}

pub returns-then-index-self : goal.returns-then-index-self
returns-then-index-self c = root_early _ _ _ _ c.args.self.rooted c.if-self.true c.if-index-self.true

pub returns-else-index-self : goal.returns-else-index-self
returns-else-index-self c =
    let s = c.args.self in
    root_late _ _ _ _ s.rooted c.if-self.true c.if-index-self.false
    (omega (arith, root_length s.member.ranks s.root s.member.rank s.rooted c.if-self.true))

pub returns-else-self : goal.returns-else-self
returns-else-self c =
    let s = c.args.self in
    other_first _ _ _ _ c.if-self.false (omega (arith, other_length s.member.ranks s.root s.member.rank c.if-self.false))
