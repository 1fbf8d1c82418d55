-- Words are the longest runs of bytes that are no space, and they are counted one by one.
use Rattle.std.specs.Prelude.{◌≡◌, ℕ, ◌+◌, ◌<◌, ◌≤◌, true, false, List, length, slice_index}
use Rattle.operation.specs.Text.{in_word, word_count}

-- the bytes from place `from` up to, and without, place `to` are no space, and the run goes no further at either end
pub record LongestRun (bs : List ℕ) (from to : ℕ) : Type 0 where
  pub some : from < to
  pub within : to ≤ length bs
  pub unspaced : (i : ℕ) → from ≤ i → i < to → in_word (slice_index bs i) ≡ true
  pub starts : (i : ℕ) → i + 1 ≡ from → in_word (slice_index bs i) ≡ false
  pub ends : to < length bs → in_word (slice_index bs to) ≡ false

-- run k of the n longest runs of a text lies from place `from k` up to place `to k`: each is one, in ascending order, and there is no other
pub record RunsCounted (bs : List ℕ) (n : ℕ) : Type 0 where
  pub from : ℕ → ℕ
  pub to : ℕ → ℕ
  pub each : (k : ℕ) → k < n → LongestRun bs (from k) (to k)
  pub ascending : (j k : ℕ) → j < k → k < n → to j < from k
  pub all : (a b : ℕ) → LongestRun bs a b → (k : ℕ) × (k < n) × (from k ≡ a) × (to k ≡ b)

-- the number of words is the number of longest runs
abbrev pub WordsAreRuns : Type 0
WordsAreRuns = (bs : List ℕ) → RunsCounted bs (word_count bs)
