-- Counts of a text that can be joined: bytes, lines and words.
use Rattle.std.specs.Prelude.{◌≡◌, ℕ, ◌+◌, ◌-◌, ◌*◌, ◌/◌, ◌%◌, ◌^◌, Bool, false, cond, not, ◌&&◌, ◌||◌, List, [], ◌∷◌, ◌++◌, length, Some, None, Ok, Err, Option, Result, ◌==◌, nat_le, nat_lt, slice_index, count_by}
use Rattle.operation.specs.Meaning.{Meaning, sized, where_below}
use Rattle.operation.specs.Optional.{join_present, proper_present}
use Rattle.operation.specs.declared.fault.BlockFault.{BlockFault}
use Rattle.operation.specs.declared.fault.BlockFault.TheVariants.{WrongWord}
use Rattle.operation.specs.declared.text.Counts.{Counts}

-- What is counted of a text, as its bytes

-- space is bytes 9 to 13 and 32
abbrev pub is_space : ℕ → Bool
is_space b = (nat_le 9 b && nat_le b 13) || b == 32

-- a byte that is no space is part of a word
abbrev pub in_word : ℕ → Bool
in_word b = not (is_space b)

-- each byte 10 counts a line
abbrev pub line_count : List ℕ → ℕ
line_count bs = count_by (λ b. b == 10) bs

-- how many words start in a text, where the flag tells whether the byte before it is part of a word
abbrev pub word_starts : Bool → List ℕ → ℕ
word_starts inside [] = 0
word_starts inside (b ∷ bs) = cond (in_word b && not inside) 1 0 + word_starts (in_word b) bs

abbrev pub word_count : List ℕ → ℕ
word_count bs = word_starts false bs

-- the last byte of b ∷ bs
abbrev pub last_byte : ℕ → List ℕ → ℕ
last_byte b [] = b
last_byte b (c ∷ cs) = last_byte c cs

abbrev pub counts_of : (b l w : ℕ) → (left right : Bool) → Counts
counts_of b l w left right = record { bytes = b; lines = l; words = w; left = left; right = right }

-- the element of a text: the counts modulo 2^32, and whether its first and its last byte are part of a word
abbrev pub measured : List ℕ → Option Counts
measured [] = None
measured (b ∷ bs) =
    Some (counts_of (length (b ∷ bs) % 2 ^ 32) (line_count (b ∷ bs) % 2 ^ 32) (word_count (b ∷ bs) % 2 ^ 32) (in_word b) (in_word (last_byte b bs)))

-- The operation

-- 1 where a word of the left text goes on in the right one
abbrev pub lost_word : (right left : Bool) → ℕ
lost_word right left = cond (right && left) 1 0

-- two texts that are not empty: counts add up, and a word that goes on counts once
abbrev pub counts_join : Counts → Counts → Counts
counts_join x y =
    counts_of ((x.bytes + y.bytes) % 2 ^ 32) ((x.lines + y.lines) % 2 ^ 32)
    ((x.words + y.words + (2 ^ 32 - lost_word x.right y.left)) % 2 ^ 32) x.left y.right

-- joining with the empty text gives the other
abbrev pub text_join : Option Counts → Option Counts → Option Counts
text_join = join_present counts_join

-- counts are 32-bit words (those that code holds always are)
abbrev pub counts_proper : Counts → Bool
counts_proper x = nat_lt x.bytes (2 ^ 32) && (nat_lt x.lines (2 ^ 32) && nat_lt x.words (2 ^ 32))

abbrev pub text_proper : Option Counts → Bool
text_proper = proper_present counts_proper

-- the last word of a block, which is 0 for the empty text
abbrev pub edge_of : Counts → ℕ
edge_of x = 4 + 2 * cond x.left 1 0 + cond x.right 1 0

abbrev pub text_pack : Option Counts → List ℕ
text_pack None = 0 ∷ 0 ∷ 0 ∷ 0 ∷ []
text_pack (Some x) = x.bytes ∷ x.lines ∷ x.words ∷ edge_of x ∷ []

-- the empty text has zero counts: the wrong word is the first other one
abbrev pub empty_read : (b l w : ℕ) → Result (Option Counts) BlockFault
empty_read b l w = where_below 1 None 0 (b ∷ l ∷ w ∷ [])

-- (what is no 32-bit word stands in no block)
abbrev pub filled_read : Counts → Result (Option Counts) BlockFault
filled_read x = cond (counts_proper x) (Ok (Some x)) (Err (WrongWord 0))

-- edges are 0 and 4 to 7
abbrev pub text_read : (b l w e : ℕ) → Result (Option Counts) BlockFault
text_read b l w e =
    cond (e == 0) (empty_read b l w)
    (cond (nat_le 4 e && nat_le e 7) (filled_read (counts_of b l w (e / 2 % 2 == 1) (e % 2 == 1))) (Err (WrongWord 3)))

abbrev pub text : Meaning (Option Counts)
text = record {
  proper = text_proper;
  unit = None;
  join = text_join;
  width = 4;
  pack = text_pack;
  unpack = sized 4 (λ ws. text_read (slice_index ws 0) (slice_index ws 1) (slice_index ws 2) (slice_index ws 3));
}

-- the element of two texts, one after the other, is the join of their elements
abbrev pub MeasureJoins : Type 0
MeasureJoins = (xs ys : List ℕ) → measured (xs ++ ys) ≡ text.join (measured xs) (measured ys)
