-- Which network a row of records stands for.
use Rattle.std.specs.Prelude.{◌≡◌, ℕ, ◌≤◌, min, Bool, true, false, cond, not, ◌&&◌, List, [], ◌∷◌, length, take, ◌==◌, nat_le}
use Rattle.std.specs.List.{AllByRecursion}
use Rattle.ranks.specs.Ranks.{most_ranks, pair_ok}
use Rattle.transport.specs.Network.{Network, Message, message, quiet, nobody}
use Rattle.transport.specs.Stored.{listed}
use Rattle.transport.specs.declared.Fault.{Fault}
use Rattle.transport.specs.declared.Fault.TheVariants.{PairFull, NoRoom}
use Rattle.shared_log.specs.declared.Record.{Record}

-- the most records that a log uses
abbrev pub most_records : ℕ
most_records = 1536

-- the most words of a message
abbrev pub most_words : ℕ
most_words = 4

-- a record of a message from a to b
abbrev pub of_pair : (a b : ℕ) → Record → Bool
of_pair a b r = r.from == a && r.to == b

-- it is under way from a to b
abbrev pub is_under : (a b : ℕ) → Record → Bool
is_under a b r = of_pair a b r && not r.arrived

-- it has arrived from a to b
abbrev pub is_arrived : (a b : ℕ) → Record → Bool
is_arrived a b r = of_pair a b r && r.arrived

-- it has arrived from a to b with the tag t
abbrev pub is_tagged : (a b t : ℕ) → Record → Bool
is_tagged a b t r = is_arrived a b r && r.tag == t

-- the message that a record holds
abbrev pub message_of : Record → Message
message_of r = message r.tag (take r.length r.words)

-- the messages under way, as the records stand
abbrev pub log_under : List Record → ℕ → ℕ → List Message
log_under rs a b = listed message_of (is_under a b) rs

-- the messages that have arrived, as the records stand
abbrev pub log_arrived : List Record → ℕ → ℕ → List Message
log_arrived rs a b = listed message_of (is_arrived a b) rs

-- the network of p ranks and so much room that the records in use stand for
abbrev pub log_network : (p room : ℕ) → List Record → Network
log_network p room rs =
    record { ranks = p; depth = room; room = room; limit = most_words; under = log_under rs; arrived = log_arrived rs }

-- a record that a send wrote
pub record Good (p : ℕ) (r : Record) : Type 0 where
  pub pair : pair_ok p r.from r.to ≡ true
  pub brief : r.length ≤ most_words
  pub four : length r.words ≡ most_words

-- of one pair's messages those that have arrived come first
abbrev pub Ordered : List Record → Type 0
Ordered [] = Unit {0}
Ordered (r ∷ rs) = (r.arrived ≡ false → AllByRecursion (λ s. is_arrived r.from r.to s ≡ false) rs) × Ordered rs

-- a sound log: so many ranks, so much room, so many records in use, and the records
pub record SoundLog (p room used : ℕ) (rs : List Record) : Type 0 where
  pub few : p ≤ most_ranks
  pub no_room : p ≡ 0 → room ≡ 0
  pub most : room ≤ most_records
  pub within : room ≤ length rs
  pub fits : used ≤ room
  pub good : AllByRecursion (Good p) (take used rs)
  pub ordered : Ordered (take used rs)

-- why a full log refuses a message, when so many wait between the two ranks
abbrev pub full_fault : (room between : ℕ) → Fault
full_fault room k = cond (nat_le room k) PairFull NoRoom

-- a log of p ranks may be made of that many lent records
abbrev pub usable : (p lent : ℕ) → Bool
usable p lent = nat_le 1 p && (nat_le p most_ranks && nat_le 1 lent)

-- a new log of p ranks over that many lent records: nothing waits; it has no ranks where it may not be made
abbrev pub new_network : (p lent : ℕ) → Network
new_network p lent = cond (usable p lent) (quiet p (min lent most_records) (min lent most_records) most_words) (nobody most_words)

-- the records that a new log holds, as they were: the first of those lent, or all where it may not be made
abbrev pub new_records : (p : ℕ) → (lent : List Record) → List Record
new_records p lent = cond (usable p (length lent)) (take most_records lent) lent
