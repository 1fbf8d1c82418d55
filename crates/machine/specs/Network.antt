-- The transport's meaning, as the machine alters it.
use Rattle.std.specs.Prelude.{◌≡◌, ℕ, ◌/◌, ◌≤◌, Bool, false, not, List, [], ◌∷◌, ◌++◌, Some, None, filter, Option as Found, ◌==◌}
use Rattle.std.proofs.Math.Option.{Option, none, some}
use Rattle.ranks.specs.Ranks.{most_ranks}
use Rattle.programme.specs.Label.{label_count}
pub use Rattle.transport.specs.Network.{Message, Network, put, with_lists, without, waiting as waiting_in_all}
pub use Rattle.ranks.specs.Ranks.{pair_ok as apart}
use Rattle.transport.specs.Network.{carried, oldest as oldest_message}

-- what waits between two ranks, oldest first
abbrev pub waiting : Network → ℕ → ℕ → List Message
waiting net a b = net.arrived a b ++ net.under a b

-- one message more under way from a to b
abbrev pub with_sent : ℕ → ℕ → Message → Network → Network
with_sent a b m net = with_lists net (put net.under a b (net.under a b ++ (m ∷ []))) net.arrived

-- the oldest one under way moves to the end of those arrived, if there is one
abbrev pub with_carried : ℕ → ℕ → Network → Network
with_carried a b net = with_lists net (carried net a b (net.under a b)).under (carried net a b (net.under a b)).arrived

-- how many messages a carry moves, of those under way
abbrev pub some_carried : List Message → ℕ
some_carried [] = 0
some_carried (m ∷ ms) = 1

-- the words of a message, if there is one
abbrev pub words_of : Found Message → Option (List ℕ)
words_of None = none
words_of (Some m) = some m.words

-- the words of the oldest message with a tag
abbrev pub oldest : ℕ → List Message → Option (List ℕ)
oldest tag ms = words_of (oldest_message tag ms)

-- the oldest message with a tag that arrived from a to b is taken out
abbrev pub with_taken : ℕ → ℕ → ℕ → Network → Network
with_taken a b tag net = with_lists net net.under (put net.arrived a b (without tag (net.arrived a b)))

-- whether a message belongs to the job of a number
abbrev pub of_job : ℕ → Message → Bool
of_job n m = m.tag / label_count == n

-- all that is under way carried, and the messages of one job taken out
abbrev pub with_abandoned : ℕ → Network → Network
with_abandoned n net = with_lists net (λ a b. []) (λ a b. filter (λ m. not (of_job n m)) (waiting net a b))

-- a transport's meaning: few ranks, and nothing waits but between two of them
pub record WellMade (net : Network) : Type 0 where
  pub few_ranks : net.ranks ≤ most_ranks
  pub within : (a b : ℕ) → apart net.ranks a b ≡ false → waiting net a b ≡ []
