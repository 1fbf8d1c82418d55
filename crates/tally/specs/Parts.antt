-- A text cut into eight parts, one for each rank.
use Rattle.std.specs.Prelude.{◌≡◌, ℕ, ◌+◌, ◌-◌, ◌*◌, ◌/◌, ◌%◌, ◌<◌, min, List, length, take, drop, Option, Some, None, slice_index_or}
use Rattle.operation.specs.Text.{measured}
use Rattle.operation.specs.declared.text.Counts.{Counts}
use Rattle.tally.specs.declared.parts.Totals.{Totals}

-- where the part of a rank begins: parts are as even as can be, the longer ones first
abbrev pub cut_at : (len rank : ℕ) → ℕ
cut_at len rank = len / 8 * rank + min rank (len % 8)

-- the bytes of a rank's part
abbrev pub part_of : List ℕ → ℕ → List ℕ
part_of text rank = take (cut_at (length text) (rank + 1) - cut_at (length text) rank) (drop (cut_at (length text) rank) text)

-- the eight elements are those of the eight parts, in rank order
pub record PartsMeasured (text : List ℕ) (parts : List (Option Counts)) : Type 0 where
  pub number : length parts ≡ 8
  pub each : (rank : ℕ) → rank < 8 → slice_index_or parts rank None ≡ measured (part_of text rank)

-- the counts of an element as numbers
abbrev pub totals_of : Option Counts → Totals
totals_of None = record { bytes = 0; lines = 0; words = 0 }
totals_of (Some x) = record { bytes = x.bytes; lines = x.lines; words = x.words }
