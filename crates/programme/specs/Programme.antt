-- The programme of each rank: its sends and takes, in order, by kind of job, number of ranks p, root and rank r.
use Rattle.std.specs.Prelude.{ℕ, zero, suc, ◌+◌, ◌-◌, ◌*◌, ◌/◌, ◌%◌, ◌^◌, Bool, true, false, cond, not, ◌&&◌, List, [], ◌∷◌, ◌++◌, ◌==◌, nat_le, nat_lt}
use Rattle.programme.specs.Label.{hand_in, hand_back, deliver, collect}
use Rattle.programme.specs.Levels.{levels, floor_log, surplus}
use Rattle.programme.specs.declared.Kind.{Kind}
use Rattle.programme.specs.declared.Kind.TheVariants.{Broadcast, Gather, Reduce, Scan, Exscan, Allreduce}
use Rattle.programme.specs.declared.Action.{Action}
use Rattle.programme.specs.declared.Action.TheVariants.{Send, Take}
use Rattle.programme.specs.declared.Merge.{Merge}
use Rattle.programme.specs.declared.Merge.TheVariants.{Replace, Keep, Before, After, Prefix}

-- the one action, if the test holds
abbrev pub when : Bool → Action → List Action
when true a = a ∷ []
when false a = []

-- f 0, f 1, .., f (n - 1), one after the other
unfoldable pub steps : (ℕ → List Action) → ℕ → List Action
steps f zero = []
steps f (suc n) = steps f n ++ f n

-- whether bit k of n is 1
abbrev pub bit : ℕ → ℕ → Bool
bit n k = (n / 2 ^ k) % 2 == 1

-- broadcast: the number of rank r, counted from the root, which has number 0
abbrev pub from_root : (p root r : ℕ) → ℕ
from_root p root r = (r + (p - root)) % p

-- broadcast: the rank that has number u
abbrev pub rank_at : (p root u : ℕ) → ℕ
rank_at p root u = (u + root) % p

-- number u takes from the number without its highest bit; then it sends to each number with one higher bit
unfoldable pub broadcast : (p root r : ℕ) → List Action
broadcast p root r =
    let u : ℕ = from_root p root r in
    when (nat_lt 0 u) (Take (rank_at p root (u - 2 ^ floor_log u)) (floor_log u) Replace)
    ++ steps (λ k. when (nat_lt u (2 ^ k) && nat_lt (u + 2 ^ k) p) (Send (rank_at p root (u + 2 ^ k)) k)) (levels p)

-- the root takes from every other rank in ascending order; the others send to it
unfoldable pub gather : (p root r : ℕ) → List Action
gather p root r =
    cond (r == root)
    (steps (λ a. when (not (a == root)) (Take a collect Keep)) p)
    (Send root collect ∷ [])

-- step k of the tree towards rank 0: a rank whose lower bits are 0 sends 2 ^ k ranks down if bit k is 1, and else takes from 2 ^ k ranks up
unfoldable pub fold_step : (p r k : ℕ) → List Action
fold_step p r k =
    cond (r % 2 ^ k == 0)
    (cond (bit r k) (Send (r - 2 ^ k) k ∷ []) (when (nat_lt (r + 2 ^ k) p) (Take (r + 2 ^ k) k After)))
    []

-- the tree, and then, if the root is not rank 0, a message from rank 0 to it
unfoldable pub reduce : (p root r : ℕ) → List Action
reduce p root r =
    steps (fold_step p r) (levels p)
    ++ when (not (root == 0) && r == 0) (Send root deliver)
    ++ when (not (root == 0) && r == root) (Take 0 deliver Replace)

-- step k of a scan: send 2 ^ k ranks up, then take from 2 ^ k ranks down, where there are such ranks
unfoldable pub scan_step : Merge → (p r k : ℕ) → List Action
scan_step m p r k = when (nat_lt (r + 2 ^ k) p) (Send (r + 2 ^ k) k) ++ when (nat_le (2 ^ k) r) (Take (r - 2 ^ k) k m)

-- what is taken from below is joined before the own value
unfoldable pub scan : (p r : ℕ) → List Action
scan p r = steps (scan_step Before p r) (levels p)

-- the same, with the join of what was taken kept apart
unfoldable pub exscan : (p r : ℕ) → List Action
exscan p r = steps (scan_step Prefix p r) (levels p)

-- allreduce: as many ranks as the greatest power of two exchange in steps; the rank that has number n among them
abbrev pub rank_of : (p n : ℕ) → ℕ
rank_of p n = cond (nat_lt n (surplus p)) (2 * n + 1) (n + surplus p)

-- n with bit k flipped
abbrev pub flip : (n k : ℕ) → ℕ
flip n k = cond (bit n k) (n - 2 ^ k) (n + 2 ^ k)

-- step k of number n: send to the number with bit k flipped, and take from it; a lower number's value is joined before
unfoldable pub exchange_step : (p n k : ℕ) → List Action
exchange_step p n k = Send (rank_of p (flip n k)) k ∷ Take (rank_of p (flip n k)) k (cond (bit n k) Before After) ∷ []

-- all steps of number n
unfoldable pub exchange : (p n : ℕ) → List Action
exchange p n = steps (exchange_step p n) (floor_log p)

-- below twice the surplus, an even rank hands its value in to the odd one behind it, and is handed the result back
unfoldable pub allreduce : (p r : ℕ) → List Action
allreduce p r =
    cond (nat_le (2 * surplus p) r)
    (exchange p (r - surplus p))
    (cond (r % 2 == 0)
    (Send (r + 1) hand_in ∷ Take (r + 1) hand_back Replace ∷ [])
    (Take (r - 1) hand_in Before ∷ exchange p ((r - 1) / 2) ++ (Send (r - 1) hand_back ∷ [])))

-- by kind; the root of a job that has none is 0
abbrev pub programme : Kind → (p root r : ℕ) → List Action
programme Broadcast p root r = broadcast p root r
programme Gather p root r = gather p root r
programme Reduce p root r = reduce p root r
programme Scan p root r = scan p r
programme Exscan p root r = exscan p r
programme Allreduce p root r = allreduce p r
