-- Powers of two beside a number of ranks.
use Rattle.std.specs.Prelude.{ℕ, ◌+◌, ◌-◌, ◌^◌, cond, nat_lt}
use Rattle.ranks.specs.Ranks.{sum_below}

-- how many k from 0 up have 2 ^ k < p, all of which lie below p: the base-two logarithm of p, rounded up
unfoldable pub levels : ℕ → ℕ
levels p = sum_below (λ k. cond (nat_lt (2 ^ k) p) 1 0) p

-- the greatest k with 2 ^ k ≤ p, for p of at least 1: the base-two logarithm of p, rounded down
unfoldable pub floor_log : ℕ → ℕ
floor_log p = levels (p + 1) - 1

-- how many ranks there are beyond the greatest power of two
unfoldable pub surplus : ℕ → ℕ
surplus p = p - 2 ^ floor_log p
