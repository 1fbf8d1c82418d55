-- A collective as users name it, and its programmes, rounds and messages among a number of ranks.
use Rattle.std.specs.Prelude.{ℕ, ◌<◌, ◌≤◌, List, Some, None, Option, ◌≢◌}
use Rattle.ranks.specs.Ranks.{most_ranks}
use Rattle.programme.specs.declared.Action.{Action}
use Rattle.programme.specs.declared.Action.TheVariants.{Send, Take}
use Rattle.programme.specs.declared.Kind.{Kind}
use Rattle.programme.specs.declared.Kind.TheVariants as kind
use Rattle.programme.specs.Formula.{rounds, messages}
use Rattle.programme.specs.Label.{label_count}
use Rattle.programme.specs.Programme.{programme}
use Rattle.schedule.specs.declared.Collective.{Collective}
use Rattle.schedule.specs.declared.Collective.TheVariants.{Broadcast, Gather, Reduce, Scan, Exscan, Allreduce}

-- what kind of job it is
abbrev pub kind_of : Collective → Kind
kind_of (Broadcast root) = kind.Broadcast
kind_of (Gather root) = kind.Gather
kind_of (Reduce root) = kind.Reduce
kind_of Scan = kind.Scan
kind_of Exscan = kind.Exscan
kind_of Allreduce = kind.Allreduce

-- the root, if it has one
abbrev pub root_in : Collective → Option ℕ
root_in (Broadcast root) = Some root
root_in (Gather root) = Some root
root_in (Reduce root) = Some root
root_in Scan = None
root_in Exscan = None
root_in Allreduce = None

-- the root, and 0 if it has none
abbrev pub root_of : Collective → ℕ
root_of (Broadcast root) = root
root_of (Gather root) = root
root_of (Reduce root) = root
root_of Scan = 0
root_of Exscan = 0
root_of Allreduce = 0

-- it has a schedule among that many ranks: the root is one of them, so there is one at least, and they are not too many
abbrev pub Allowed : Collective → ℕ → Type 0
Allowed collective ranks = (root_of collective < ranks) × (ranks ≤ most_ranks)

-- the programme of a rank
abbrev pub actions_of : Collective → (ranks rank : ℕ) → List Action
actions_of collective ranks rank = programme (kind_of collective) ranks (root_of collective) rank

-- the round of the last arrival
abbrev pub rounds_of : Collective → (ranks : ℕ) → ℕ
rounds_of collective ranks = rounds (kind_of collective) ranks (root_of collective)

-- how many messages all ranks send
abbrev pub messages_of : Collective → (ranks : ℕ) → ℕ
messages_of collective ranks = messages (kind_of collective) ranks (root_of collective)

-- the action of rank r, if there is one, names another of the p ranks, and a label that fits a tag
abbrev pub NamesOther : (p r : ℕ) → Option Action → Type 0
NamesOther p r None = Unit {0}
NamesOther p r (Some (Send to label)) = (to < p) × (to ≢ r) × (label < label_count)
NamesOther p r (Some (Take from label merge)) = (from < p) × (from ≢ r) × (label < label_count)
