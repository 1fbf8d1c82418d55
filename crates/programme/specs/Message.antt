-- What the message from rank a to rank b carries, in closed form: its stamp, and the ranks whose inputs are joined in its value.
use Rattle.std.specs.Prelude.{ℕ, ◌+◌, ◌-◌, ◌*◌, ◌/◌, ◌%◌, ◌<◌, ◌≤◌, min, cond, ◌==◌, nat_lt}
use Rattle.programme.specs.declared.Kind.{Kind}
use Rattle.programme.specs.declared.Kind.TheVariants.{Broadcast, Gather, Reduce, Scan, Exscan, Allreduce}
use Rattle.programme.specs.Levels.{levels, floor_log, surplus}
use Rattle.programme.specs.Monoid.{span}
use Rattle.programme.specs.Programme.{from_root}
use Rattle.programme.specs.Rank.{Mail}

-- an interval of ranks
pub record Interval : Type 0 where
  pub first : ℕ
  pub number : ℕ

-- it is not empty, and lies below p
abbrev pub Within : ℕ → Interval → Type 0
Within p i = (0 < i.number) × (i.first + i.number ≤ p)

-- rank r alone
abbrev pub only : ℕ → Interval
only r = record { first = r; number = 1 }

-- scan: b is 2 ^ k above a, and the message leaves at step k
abbrev pub scan_stamp : (a b : ℕ) → ℕ
scan_stamp a b = floor_log (b - a) + 1

-- scan: the ranks up to a, as many as the distance to b at most
abbrev pub scan_covers : (a b : ℕ) → Interval
scan_covers a b = record { first = a + 1 - (b - a); number = min (a + 1) (b - a) }

-- reduce: a sends to b = a - 2 ^ k once it has taken all that it takes; rank 0 sends to the root after all steps
abbrev pub reduce_stamp : (p a b : ℕ) → ℕ
reduce_stamp p a b = cond (a == 0) (levels p + 1) (min (floor_log (a - b)) (levels (p - a)) + 1)

-- reduce: the 2 ^ k ranks from a on, as far as there are so many; from rank 0 all ranks
abbrev pub reduce_covers : (p a b : ℕ) → Interval
reduce_covers p a b = cond (a == 0) (record { first = 0; number = p }) (record { first = a; number = min (a - b) (p - a) })

-- allreduce: the number of rank r among those that exchange; an even rank below twice the surplus counts as the odd one behind it
unfoldable pub number_of : (p r : ℕ) → ℕ
number_of p r = cond (nat_lt r (2 * surplus p)) (r / 2) (r - surplus p)

-- the first rank that counts as number n
abbrev pub first_of : (p n : ℕ) → ℕ
first_of p n = n + min n (surplus p)

-- the ranks that count as the numbers from n up to, and without, o
abbrev pub behind : (p n o : ℕ) → Interval
behind p n o = record { first = first_of p n; number = first_of p o - first_of p n }

-- a number below the surplus waits a round for the value that is handed in
unfoldable pub delay : (p n : ℕ) → ℕ
delay p n = cond (nat_lt n (surplus p)) 1 0

-- how far apart two numbers are
abbrev pub apart : (n o : ℕ) → ℕ
apart n o = (n - o) + (o - n)

-- the first of the aligned block of w numbers that holds n
abbrev pub block_start : (n w : ℕ) → ℕ
block_start n w = n - n % w

-- allreduce, from number n to number o: ranks of one number hand in and back; others are 2 ^ k apart, and the message leaves at
-- step k, a round later if a number of n's block waited
abbrev pub allreduce_stamp : (p a b n o : ℕ) → ℕ
allreduce_stamp p a b n o =
    cond (n == o)
    (cond (nat_lt a b) 1 (floor_log p + 2))
    (floor_log (apart n o) + delay p (block_start n (apart n o)) + 1)

-- what is handed in is one input, and what is handed back all; at step k it is n's aligned block of 2 ^ k numbers
abbrev pub allreduce_covers : (p a b n o : ℕ) → Interval
allreduce_covers p a b n o =
    cond (n == o)
    (cond (nat_lt a b) (only a) (record { first = 0; number = p }))
    (behind p (block_start n (apart n o)) (block_start n (apart n o) + apart n o))

-- the stamp, by kind
abbrev pub stamp : Kind → (p root a b : ℕ) → ℕ
stamp Broadcast p root a b = floor_log (from_root p root b) + 1
stamp Gather p root a b = 1
stamp Reduce p root a b = reduce_stamp p a b
stamp Scan p root a b = scan_stamp a b
stamp Exscan p root a b = scan_stamp a b
stamp Allreduce p root a b = allreduce_stamp p a b (number_of p a) (number_of p b)

-- the ranks whose inputs are joined, by kind
abbrev pub covers : Kind → (p root a b : ℕ) → Interval
covers Broadcast p root a b = only root
covers Gather p root a b = only a
covers Reduce p root a b = reduce_covers p a b
covers Scan p root a b = scan_covers a b
covers Exscan p root a b = scan_covers a b
covers Allreduce p root a b = allreduce_covers p a b (number_of p a) (number_of p b)

-- the message from rank a to rank b
abbrev pub mail : {E : Type 0} (unit : E) (join : E → E → E) (kind : Kind) (p root : ℕ) (inputs : ℕ → E) (a b : ℕ) → Mail E
mail unit join kind p root inputs a b =
    let i : Interval = covers kind p root a b in
    record { stamp = stamp kind p root a b; value = span unit join inputs i.first i.number }
