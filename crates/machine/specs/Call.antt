-- What a host says to an engine and what it hears: calls, answers and refusals with their numbers.
use Rattle.std.specs.Prelude.{ℕ, Bool, true, false, List, [], ◌∷◌}
use Rattle.std.proofs.Math.Option.{Option, none, some}
use Rattle.programme.specs.declared.Kind.{Kind}
use Rattle.machine.specs.Operation.{BlockFault}

-- a call's arguments; a token is its name and number, lent words are as they stood
pub data Call : Type 0 where
  -- of a kind that has no root, whatever the root given
  start : (kind : Kind) (root : ℕ) (words : List ℕ) → Call
  turn : (name number rank : ℕ) → Call
  carry : (from to : ℕ) → Call
  look : (name number : ℕ) → Call
  end : (name number : ℕ) (lent : List ℕ) → Call
  abandon : (name number : ℕ) → Call

-- why a call is refused
pub data Refusal : Type 0 where
  -- carry: a rank is not below the number of ranks, or both are the same
  bad_pair : Refusal
  -- start: no ranks, blocks too wide for any engine or for the transport's messages, or something waited when the engine was made
  unfit : Refusal
  -- start: the root is no rank
  bad_root : Refusal
  -- start: not a block for each rank
  bad_length : Refusal
  -- start: the operation refuses a block; the first such rank, and the operation's own refusal, whole
  bad_block : (rank : ℕ) (fault : BlockFault) → Refusal
  -- start: as many jobs are pending as may be
  four_pending : Refusal
  -- start: with this job the pending ones could meet the transport's depth or room
  crowded : Refusal
  -- start: all numbers were handed out
  numbers_spent : Refusal
  -- turn, look, end, abandon: another engine's token, or no pending job has its number
  no_job : Refusal
  -- turn: the rank is none
  bad_rank : Refusal
  -- end: some rank has actions left
  unfinished : Refusal
  -- end: the lent words are fewer than those of the answer blocks
  too_few_words : Refusal

-- the number of each refusal
abbrev pub number_of : Refusal → ℕ
number_of bad_pair = 10
number_of unfit = 20
number_of bad_root = 21
number_of bad_length = 22
number_of (bad_block rank fault) = 23
number_of four_pending = 24
number_of crowded = 25
number_of numbers_spent = 26
number_of no_job = 30
number_of bad_rank = 31
number_of unfinished = 32
number_of too_few_words = 33

-- what a call is answered, with all that was written or handed out
pub data Answer : Type 0 where
  -- to a start: a token's name and number
  started : (name number : ℕ) → Answer
  -- to a turn
  sent : Answer
  took : Answer
  waits : Answer
  through : Answer
  -- to a carry: how many messages it moved
  carried : ℕ → Answer
  -- to a look: how many ranks have no action left
  looked : ℕ → Answer
  -- to an end: the lent words afterwards, and the counts
  ended : (lent : List ℕ) (rounds messages : ℕ) → Answer
  abandoned : Answer
  -- to any call
  refused : Refusal → Answer

-- a refusal, if the test holds
abbrev pub when : Bool → Refusal → Option Refusal
when true f = some f
when false f = none

-- the first refusal that applies
abbrev pub first_refusal : List (Option Refusal) → Option Refusal
first_refusal [] = none
first_refusal (none ∷ more) = first_refusal more
first_refusal (some f ∷ more) = some f
