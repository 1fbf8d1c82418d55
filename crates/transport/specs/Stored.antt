-- Messages stored one to a place in memory, in the order in which they were sent: which of them a test picks.
use Rattle.std.specs.Prelude.{◌≡◌, ℕ, ◌<◌, Bool, true, false, List, map, length, take, Some, None, filter, Option}
use Rattle.std.specs.List.{HoldsAt, AllByRecursion}
use Rattle.transport.specs.Network.{Message}

-- the messages at the places that pass a test
unfoldable pub listed : {X : Type 0} → (message_of : X → Message) → (test : X → Bool) → List X → List Message
listed message_of test xs = map message_of (filter test xs)

-- the first place that passes a test, or none
abbrev pub Found : {X : Type 0} → (test : X → Bool) → List X → Option ℕ → Type 0
Found test xs None = AllByRecursion (λ x. test x ≡ false) xs
Found test xs (Some i) = (i < length xs) × AllByRecursion (λ x. test x ≡ false) (take i xs) × HoldsAt (λ x. test x ≡ true) xs i
