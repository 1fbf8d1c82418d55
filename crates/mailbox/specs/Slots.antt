-- A slot of four words: a mark, a tag and two words. The mark is 0 in a free slot; else it is 1 more than the number of words,
-- and 3 more again where the message has arrived.
use Rattle.std.specs.Prelude.{◌≡◌, ℕ, ◌+◌, ◌-◌, ◌*◌, ◌≤◌, Bool, true, false, cond, ◌&&◌, List, [], ◌∷◌, ◌++◌, length, take, drop, ◌==◌, nat_le, slice_index}
use Rattle.std.specs.Coded.{Unit-prop}
use Rattle.std.specs.List.{AllByRecursion, remove}
use Rattle.std.proofs.Props.{props}
use Rattle.transport.specs.Network.{Message, message}
use Rattle.mailbox.specs.declared.Letter.{Letter}
use Rattle.mailbox.specs.declared.Slot.{Slot}
use Rattle.mailbox.specs.declared.Slot.TheVariants.{Free, UnderWay, Arrived}

-- a message of that tag with so many of these words
abbrev pub letter : (tag count first second : ℕ) → Letter
letter t n x y = record { tag = t; count = n; first = x; second = y }

-- the slot with that mark, tag and words
abbrev pub decoded : (mark tag first second : ℕ) → Slot
decoded m t x y = cond (m == 0) Free (cond (nat_le m 3) (UnderWay (letter t (m - 1) x y)) (Arrived (letter t (m - 4) x y)))

-- the slot that four words stand for
abbrev pub slot_of : List ℕ → Slot
slot_of ws = cond (length ws == 4) (decoded (slice_index ws 0) (slice_index ws 1) (slice_index ws 2) (slice_index ws 3)) Free

-- the slots that words stand for, four words to each
abbrev pub slots_of : List ℕ → List Slot
slots_of (m ∷ t ∷ x ∷ y ∷ ws) = decoded m t x y ∷ slots_of ws
slots_of (m ∷ t ∷ x ∷ []) = []
slots_of (m ∷ t ∷ []) = []
slots_of (m ∷ []) = []
slots_of [] = []

-- it has no message
abbrev pub is_free : Slot → Bool
is_free Free = true
is_free (UnderWay _) = false
is_free (Arrived _) = false

-- its message is under way
abbrev pub is_under : Slot → Bool
is_under Free = false
is_under (UnderWay _) = true
is_under (Arrived _) = false

-- its message has arrived
abbrev pub is_arrived : Slot → Bool
is_arrived Free = false
is_arrived (UnderWay _) = false
is_arrived (Arrived _) = true

-- the words of a message
abbrev pub words_in : Letter → List ℕ
words_in l = take l.count (l.first ∷ l.second ∷ [])

-- a message
abbrev pub message_in : Letter → Message
message_in l = message l.tag (words_in l)

-- how many words its message has
abbrev pub count_of : Slot → ℕ
count_of Free = 0
count_of (UnderWay l) = l.count
count_of (Arrived l) = l.count

-- its message, and none is one without a tag and words
abbrev pub message_of : Slot → Message
message_of Free = message 0 []
message_of (UnderWay l) = message_in l
message_of (Arrived l) = message_in l

-- the words of its message
abbrev pub words_of : Slot → List ℕ
words_of s = (message_of s).words

-- its message has arrived with the tag t
abbrev pub is_tagged : (t : ℕ) → Slot → Bool
is_tagged t s = is_arrived s && (message_of s).tag == t

-- the slot with its message arrived
abbrev pub arrived : Slot → Slot
arrived Free = Free
arrived (UnderWay l) = Arrived l
arrived (Arrived l) = Arrived l

-- the slots without the one at a place, and a free one last
abbrev pub taken_out : List Slot → (place : ℕ) → List Slot
taken_out ss k = remove ss k ++ (Free ∷ [])

-- the first slot of the pair a, b in a matrix of p ranks and depth d
abbrev pub base : (p d a b : ℕ) → ℕ
base p d a b = (a * p + b) * d

-- the slots of the pair a, b
abbrev pub box : (p d : ℕ) → List ℕ → (a b : ℕ) → List Slot
box p d ws a b = take d (drop (base p d a b) (slots_of ws))

-- in a pair's slots stand first those that have arrived, then those under way, then free slots
abbrev pub Filed : List Slot → Type 0
Filed [] = Unit {0}
Filed (s ∷ ss) =
    (count_of s ≤ 2)
    × (is_free s ≡ true → AllByRecursion (λ r. is_free r ≡ true) ss)
    × (is_under s ≡ true → AllByRecursion (λ r. is_arrived r ≡ false) ss)
    × Filed ss

pub Filed-prop : (ss : List Slot) → IsProp (Filed ss)
Filed-prop [] = Unit-prop
Filed-prop (s ∷ ss) = let rest = Filed-prop ss in Prim.hlevel (rest, props)
