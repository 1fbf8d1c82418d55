-- The least of signed values, each with its place.
use Rattle.std.specs.Prelude.{ℕ, suc, ◌+◌, ◌-◌, ◌^◌, Bool, cond, not, ◌&&◌, ◌||◌, List, [], ◌∷◌, ℤ, pos, negsuc, ◌-ℤ◌, Some, None, Ok, Err, Option, Result, ◌==◌, int_le, int_lt, nat_le, nat_lt, slice_index}
use Rattle.operation.specs.Meaning.{Meaning, sized, where_below}
use Rattle.operation.specs.Optional.{join_present, proper_present}
use Rattle.operation.specs.declared.fault.BlockFault.{BlockFault}
use Rattle.operation.specs.declared.fault.BlockFault.TheVariants.{WrongWord}
use Rattle.operation.specs.declared.least.Placed.{Placed}

abbrev pub placed_at : ℤ → ℕ → Placed
placed_at v p = record { value = v; place = p }

-- the smaller value comes first, of equal values the smaller place
abbrev pub first : Placed → Placed → Bool
first x y = int_lt x.value y.value || (not (int_lt y.value x.value) && nat_le x.place y.place)

-- the one that comes first
abbrev pub first_of : Placed → Placed → Placed
first_of x y = cond (first x y) x y

abbrev pub least_join : Option Placed → Option Placed → Option Placed
least_join = join_present first_of

-- a value is a signed 32-bit number and a place a 32-bit word (those that code holds always are)
abbrev pub placed_proper : Placed → Bool
placed_proper x = int_le (negsuc 2147483647) x.value && (int_le x.value (pos 2147483647) && nat_lt x.place (2 ^ 32))

abbrev pub least_proper : Option Placed → Bool
least_proper = proper_present placed_proper

-- a signed value as a word: the value plus 2,147,483,648
abbrev pub biased : ℤ → ℕ
biased (pos n) = 2147483648 + n
biased (negsuc n) = 2147483648 - suc n

abbrev pub unbiased : ℕ → ℤ
unbiased w = pos w -ℤ pos 2147483648

-- a mark, 0 for none and 1 for a value, and the value and its place or zeros
abbrev pub least_pack : Option Placed → List ℕ
least_pack None = 0 ∷ 0 ∷ 0 ∷ []
least_pack (Some x) = 1 ∷ biased x.value ∷ x.place ∷ []

-- none has zeros behind its mark: the wrong word is the first other one
abbrev pub none_read : (v p : ℕ) → Result (Option Placed) BlockFault
none_read v p = where_below 1 None 1 (v ∷ p ∷ [])

-- (what is no 32-bit word stands in no block)
abbrev pub some_read : (v p : ℕ) → Result (Option Placed) BlockFault
some_read v p = cond (nat_lt v (2 ^ 32) && nat_lt p (2 ^ 32)) (Ok (Some (placed_at (unbiased v) p))) (Err (WrongWord 1))

-- marks are 0 and 1
abbrev pub least_read : (m v p : ℕ) → Result (Option Placed) BlockFault
least_read m v p = cond (m == 0) (none_read v p) (cond (m == 1) (some_read v p) (Err (WrongWord 0)))

abbrev pub least : Meaning (Option Placed)
least = record {
  proper = least_proper;
  unit = None;
  join = least_join;
  width = 3;
  pack = least_pack;
  unpack = sized 3 (λ ws. least_read (slice_index ws 0) (slice_index ws 1) (slice_index ws 2));
}
