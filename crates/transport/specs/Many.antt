-- Several messages of one pair sent, carried or taken, one after the other.
use Rattle.std.specs.Prelude.{ℕ, zero, suc, List, ◌++◌, take, drop}
use Rattle.transport.specs.Network.{Network, Message, put, with_lists, without}

-- these messages sent from a to b
abbrev pub sent_all : Network → ℕ → ℕ → List Message → Network
sent_all n a b ms = with_lists n (put n.under a b (n.under a b ++ ms)) n.arrived

-- k carries from a to b
abbrev pub carried_all : Network → ℕ → ℕ → ℕ → Network
carried_all n a b k =
    with_lists n (put n.under a b (drop k (n.under a b))) (put n.arrived a b (n.arrived a b ++ take k (n.under a b)))

-- the oldest with a tag taken out k times
abbrev pub without_n : ℕ → ℕ → List Message → List Message
without_n t zero ms = ms
without_n t (suc k) ms = without t (without_n t k ms)

-- k takes from a to b by the tag t
abbrev pub taken_all : Network → ℕ → ℕ → ℕ → ℕ → Network
taken_all n a b t k = with_lists n n.under (put n.arrived a b (without_n t k (n.arrived a b)))
