-- A group of ranks of a transport, and the network that it stands for.
use Rattle.std.specs.Prelude.{◌≡◌, ℕ, ◌<◌, ◌≤◌, cond, ◌⊎◌, List, [], length, ◌≢◌, slice_index}
use Rattle.ranks.specs.Ranks.{most_ranks, pair_ok}
use Rattle.transport.specs.Network.{Network, Message, quiet, when_ranks, waiting}

-- a table of pairs below, seen by the first c of a list of ranks
abbrev pub seen : ℕ → List ℕ → (ℕ → ℕ → List Message) → ℕ → ℕ → List Message
seen c table f i j = cond (pair_ok c i j) (f (slice_index table i) (slice_index table j)) []

-- the network of the first c ranks of a list, over n
abbrev pub open_group : ℕ → List ℕ → Network → Network
open_group c table n = record {
  ranks = c;
  depth = n.depth;
  room = n.room;
  limit = n.limit;
  under = seen c table n.under;
  arrived = seen c table n.arrived;
}

-- the group's network, from the limit, the number of its ranks, the list and the network below
abbrev pub grouped : ℕ → ℕ → List ℕ → Network → Network
grouped lim c table n = when_ranks c lim (open_group c table n)

-- a rank below that is none of the group's
abbrev pub Outside : ℕ → List ℕ → ℕ → Type 0
Outside c table a = (k : ℕ) → k < c → slice_index table k ≢ a

-- the first c of the list are ranks below p
abbrev pub Inside : ℕ → List ℕ → ℕ → Type 0
Inside c table p = (k : ℕ) → k < c → slice_index table k < p

-- the first c of the list are different
abbrev pub Distinct : ℕ → List ℕ → Type 0
Distinct c table = (j k : ℕ) → j < c → k < c → slice_index table j ≡ slice_index table k → j ≡ k

-- a list of different ranks below p, at least one and at most as many as may be
pub record GoodList (p : ℕ) (ranks : List ℕ) : Type 0 where
  pub some : 0 < length ranks
  pub few : length ranks ≤ most_ranks
  pub inside : Inside (length ranks) ranks p
  pub distinct : Distinct (length ranks) ranks

-- a sound group: the first c of its list are different ranks below, and messages wait below only between these
pub record Grouping (c : ℕ) (table : List ℕ) (n : Network) : Type 0 where
  pub few : c ≤ most_ranks
  pub inside : Inside c table n.ranks
  pub distinct : Distinct c table
  pub under : 0 < c → (a b : ℕ) → Outside c table a ⊎ Outside c table b → n.under a b ≡ []
  pub arrived : 0 < c → (a b : ℕ) → Outside c table a ⊎ Outside c table b → n.arrived a b ≡ []

-- a new group of that many ranks
abbrev pub new_group : ℕ → Network → Network
new_group c n = quiet c n.depth n.room n.limit

-- these are the ranks of a good list, and nothing waits below
abbrev pub Listed : Network → (ranks members : List ℕ) → Type 0
Listed n ranks members = GoodList n.ranks ranks × (waiting n ≡ 0) × (members ≡ ranks)
