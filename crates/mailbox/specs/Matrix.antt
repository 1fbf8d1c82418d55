-- Which network a matrix of mailboxes stands for.
use Rattle.std.specs.Prelude.{◌≡◌, ℕ, ◌*◌, ◌≤◌, Bool, true, cond, ◌&&◌, List, [], length, replicate, nat_le}
use Rattle.std.proofs.Props.{props}
use Rattle.ranks.specs.Ranks.{most_ranks, pair_ok}
use Rattle.transport.specs.Network.{Network, Message, quiet, nobody, waiting}
use Rattle.transport.specs.Stored.{listed}
use Rattle.mailbox.specs.declared.Slot.{Slot}
use Rattle.mailbox.specs.Slots.{message_of, is_under, is_arrived, box, Filed, Filed-prop}

-- the most messages that may wait between two ranks
abbrev pub most_depth : ℕ
most_depth = 64

-- the messages of a pair's slots that pass a test
abbrev pub filed_lists : (p d : ℕ) → List ℕ → (test : Slot → Bool) → ℕ → ℕ → List Message
filed_lists p d ws test a b = cond (pair_ok p a b) (listed message_of test (box p d ws a b)) []

-- the network of p ranks and depth d that some words stand for
abbrev pub mailbox_network : (p d : ℕ) → List ℕ → Network
mailbox_network p d ws =
    record { ranks = p; depth = d; room = p * p * d; limit = 2; under = filed_lists p d ws is_under; arrived = filed_lists p d ws is_arrived }

-- a sound matrix: so many ranks, that depth, so many messages that wait, and the words; `new` gives one and the calls keep it
pub record SoundBox (p d used : ℕ) (ws : List ℕ) : Type 0 where
  pub few : p ≤ most_ranks
  pub shallow : d ≤ most_depth
  pub closed : p ≡ 0 → d ≡ 0
  pub long : 4 * (p * p * d) ≤ length ws
  pub filed : (a b : ℕ) → pair_ok p a b ≡ true → Filed (box p d ws a b)
  pub counted : used ≡ waiting (mailbox_network p d ws)

pub SoundBox-prop : (p d used : ℕ) (ws : List ℕ) → IsProp (SoundBox p d used ws)
SoundBox-prop p d used ws = Prim.hlevel (Filed-prop, props)

-- a matrix of p ranks and depth d may be made of that many lent words
abbrev pub usable : (p d lent : ℕ) → Bool
usable p d lent = nat_le 1 p && (nat_le p most_ranks && (nat_le 1 d && (nat_le d most_depth && nat_le (4 * (p * p * d)) lent)))

-- a new matrix over that many lent words: nothing waits; it has no ranks where it may not be made
abbrev pub new_network : (p d lent : ℕ) → Network
new_network p d lent = cond (usable p d lent) (quiet p d (p * p * d) 2) (nobody 2)

-- the words that a new matrix holds: the first of those lent, now zeros, or all as they were where it may not be made
abbrev pub new_words : (p d : ℕ) → (lent : List ℕ) → List ℕ
new_words p d lent = cond (usable p d (length lent)) (replicate (4 * (p * p * d)) 0) lent
