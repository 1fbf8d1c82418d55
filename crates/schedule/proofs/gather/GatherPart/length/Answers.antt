use Rattle.schedule.proofs.gather.GatherPart.length.Goals as goal
use Rattle.schedule.proofs.Gathers.{root_length, other_length}

pub returns-then-self : goal.returns-then-self
returns-then-self c = root_length _ _ _ c.args.self.rooted c.if-self.true

pub returns-else-self : goal.returns-else-self
returns-else-self c = other_length _ _ _ c.if-self.false
