-- A message as segments of the transport below, and the network that the segments stand for.
use Rattle.std.specs.Prelude.{◌≡◌, ℕ, zero, suc, ◌+◌, ◌-◌, ◌/◌, ◌<◌, Bool, cond, ◌&&◌, List, [], ◌∷◌, ◌++◌, length, take, drop, replicate, Some, None, Ok, Option, Result, ◌==◌, nat_le, nat_lt, slice_index}
use Rattle.std.specs.List.{flat_map}
use Rattle.transport.specs.declared.Fault.{Fault}
use Rattle.transport.specs.Network.{Network, Message, message, quiet, nobody, when_ranks, waiting, Short}

-- how many segments a message has over a transport of that limit: 8 divided by it, rounded up
unfoldable pub pieces : ℕ → ℕ
pieces lim = (7 + lim) / lim

-- eight words: how many words the message has, the words and zeros
unfoldable pub block : List ℕ → List ℕ
block ws = length ws ∷ (ws ++ replicate (7 - length ws) 0)

-- the first k segments of some words
abbrev pub cut : ℕ → ℕ → ℕ → List ℕ → List Message
cut zero lim t ws = []
cut (suc k) lim t ws = message t (take lim ws) ∷ cut k lim t (drop lim ws)

-- the segments of a message over a transport of that limit
unfoldable pub segments : ℕ → Message → List Message
segments lim m = cut (pieces lim) lim m.tag (block m.words)

-- the tag of the first of some segments
abbrev pub first_tag : List Message → ℕ
first_tag [] = 0
first_tag (m ∷ _) = m.tag

-- the words of some segments, one after the other
abbrev pub all_words : List Message → List ℕ
all_words ms = flat_map (λ m. m.words) ms

-- the message's words out of a block
abbrev pub unpacked : List ℕ → List ℕ
unpacked ws = take (slice_index ws 0) (drop 1 ws)

-- the message that some segments are
abbrev pub rebuilt : List Message → Message
rebuilt ms = message (first_tag ms) (unpacked (all_words ms))

-- the first c messages of a list of segments, each of k segments
abbrev pub groups : ℕ → ℕ → List Message → List Message
groups k zero ms = []
groups k (suc c) ms = rebuilt (take k ms) ∷ groups k c (drop k ms)

-- the messages that a list of segments stands for, each of k segments
unfoldable pub decode : ℕ → List Message → List Message
decode k ms = groups k (length ms / k) ms

-- the layer's network of p ranks over n, where a message has k segments
abbrev pub open_network : ℕ → ℕ → Network → Network
open_network k p n = record {
  ranks = p;
  depth = n.depth / k;
  room = n.room / k;
  limit = 7;
  under = λ a b. decode k (n.under a b);
  arrived = λ a b. decode k (n.arrived a b);
}

-- the layer's network, from the limit below, its number of ranks and the network below
abbrev pub segmented : ℕ → ℕ → Network → Network
segmented lim p n = when_ranks p 7 (open_network (pieces lim) p n)

-- whether the layer may be made over that network
abbrev pub usable : ℕ → Network → Bool
usable lim n = nat_lt 0 lim && (waiting n == 0 && (nat_le 1 (n.depth / pieces lim) && nat_le 1 (n.room / pieces lim)))

-- the network of a new layer
abbrev pub new_segmented : ℕ → Network → Network
new_segmented lim n =
    cond (usable lim n) (quiet n.ranks (n.depth / pieces lim) (n.room / pieces lim) 7) (nobody 7)

-- a list below is made of whole messages: it is the segments of those that it stands for
pub record Coded (lim : ℕ) (below : List Message) : Type 0 where
  pub short : Short 7 (decode (pieces lim) below)
  pub is : below ≡ flat_map (segments lim) (decode (pieces lim) below)

-- nothing was taken where there is no message, and otherwise words that begin with the message's block
abbrev pub BlockOf : Option Message → Result (Option (List ℕ)) Fault → Type 0
BlockOf None r = r ≡ Ok None
BlockOf (Some m) r = (words : List ℕ) × (r ≡ Ok (Some words)) × (take 8 words ≡ block m.words)

-- the layer has no ranks, or those below
pub record Whole (lim p : ℕ) (n : Network) : Type 0 where
  pub same : 0 < p → p ≡ n.ranks
  pub some : 0 < p → 0 < lim
  pub under : 0 < p → (a b : ℕ) → Coded lim (n.under a b)
  pub arrived : 0 < p → (a b : ℕ) → Coded lim (n.arrived a b)
