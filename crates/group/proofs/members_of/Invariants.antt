use Rattle.std.proofs.Common.{◌≡◌, take}
use Rattle.group.specs.Members.{Inside, Distinct}
use Rattle.group.proofs.members_of.Given as goal

abbrev pub invariant-loop-rank : goal.invariant-loop-rank
invariant-loop-rank l =
    (l.members.items ≡ take l.rank-index l.ranks) × Inside l.rank-index l.ranks l.below × Distinct l.rank-index l.ranks
