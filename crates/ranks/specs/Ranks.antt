-- Ranks: how many there may be, which two are a pair, and sums and maxima over them.
use Rattle.std.specs.Prelude.{ℕ, zero, suc, ◌+◌, max, Bool, not, ◌&&◌, ◌==◌, nat_lt}

-- the most ranks that a transport, a group or a schedule has
abbrev pub most_ranks : ℕ
most_ranks = 64

-- two different ranks of p
abbrev pub pair_ok : (p a b : ℕ) → Bool
pair_ok p a b = nat_lt a p && (nat_lt b p && not (a == b))

-- f 0 + f 1 + .. + f (n - 1)
abbrev pub sum_below : (ℕ → ℕ) → ℕ → ℕ
sum_below f zero = 0
sum_below f (suc n) = sum_below f n + f n

-- the greatest of f 0, .., f (n - 1), and 0 if n is 0
abbrev pub greatest_below : (ℕ → ℕ) → ℕ → ℕ
greatest_below f zero = 0
greatest_below f (suc n) = max (greatest_below f n) (f n)
