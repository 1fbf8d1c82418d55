-- How levels and floor-log stand to the powers of two.
use Rattle.std.proofs.Common.{◌≡◌, ℕ, zero, suc, ◌+◌, ◌^◌, ◌<◌, ◌≤◌, Bool, true, false, cond, ltb, sym, refl, ap, ◌∙◌, subst, ⊎_elim, arith, pow_pos, pow_mono}
use Rattle.std.proofs.lemmas.Bool.{ltb-true, lt-ltb, cases_lt, both_ways}
use Rattle.ranks.specs.Ranks.{sum_below}
use Rattle.programme.specs.Levels.{levels, floor_log, surplus}

-- how many k below n pass the test
abbrev count : (ℕ → Bool) → ℕ → ℕ
count f n = sum_below (λ k. cond (f k) 1 0) n

-- a count of all
count_all : (f : ℕ → Bool) (n : ℕ) → ((k : ℕ) → k < n → f k ≡ true) → count f n ≡ n
count_all f zero h = refl
count_all f (suc n) h = rw (h n (omega arith), count_all f n (λ k l. h k (omega arith))) (omega arith)

-- where the test, once failed, fails for ever, those that pass are the ones below the count
pub count_below : (f : ℕ → Bool) → ((j k : ℕ) → j ≤ k → f k ≡ true → f j ≡ true) → (n k : ℕ) → k < count f n → (k < n) × (f k ≡ true)
count_below f down zero k h = absurd (omega arith)
count_below f down (suc n) k h = go (f n) refl (count_below f down n k)
  where
    go : (b : Bool) → f n ≡ b → (k < count f n → (k < n) × (f k ≡ true)) → (k < suc n) × (f k ≡ true)
    go true e less =
        let all : count f n ≡ n = count_all f n (λ j l. down j n (omega arith) e) in
        let c : ◌≡◌ {A = ℕ} (cond (f n) 1 0) 1 = rw e in
        let l : k < suc n = omega arith in
        (l, down k n (omega arith) e)
    go false e less =
        let c : ◌≡◌ {A = ℕ} (cond (f n) 1 0) 0 = rw e in
        let l : k < count f n = omega arith in
        let r : (k < n) × (f k ≡ true) = less l in
        (omega arith, r.1)

pub below_count : (f : ℕ → Bool) → ((j k : ℕ) → j ≤ k → f k ≡ true → f j ≡ true) → (n k : ℕ) → k < n → f k ≡ true → k < count f n
below_count f down zero k h t = absurd (omega arith)
below_count f down (suc n) k h t = go (f n) refl (λ l. below_count f down n k l t)
  where
    go : (b : Bool) → f n ≡ b → (k < n → k < count f n) → k < count f n + cond (f n) 1 0
    go true e less =
        let all : count f n ≡ n = count_all f n (λ j l. down j n (omega arith) e) in
        let c : ◌≡◌ {A = ℕ} (cond (f n) 1 0) 1 = rw e in
        omega arith
    go false e less =
        let l : k < n = ⊎_elim (λ (l : k < n). l) (λ (l : n ≤ k). absurd (both_ways (f n) e (subst (λ (x : ℕ). f x ≡ true) (let q : k ≡ n = omega arith in q) t))) (cases_lt k n) in
        let c : k < count f n = less l in
        omega arith

pub lt_pow : (k : ℕ) → k < 2 ^ k
lt_pow zero = omega arith
lt_pow (suc k) = omega (arith, lt_pow k)

powers_down : (p j k : ℕ) → j ≤ k → ltb (2 ^ k) p ≡ true → ltb (2 ^ j) p ≡ true
powers_down p j k h t = lt-ltb (2 ^ j) p (omega (arith, pow_mono h, ltb-true (2 ^ k) p t))

pub below_levels : (p k : ℕ) → k < levels p → 2 ^ k < p
unfolding levels
below_levels p k h = ltb-true (2 ^ k) p (count_below (λ k. ltb (2 ^ k) p) (powers_down p) p k h).1

pub levels_below : (p k : ℕ) → 2 ^ k < p → k < levels p
unfolding levels
levels_below p k h = below_count (λ k. ltb (2 ^ k) p) (powers_down p) p k (omega (arith, lt_pow k)) (lt-ltb (2 ^ k) p h)

pub levels_past : (p : ℕ) → p ≤ 2 ^ levels p
levels_past p = ⊎_elim (λ (h : 2 ^ levels p < p). absurd (omega (arith, levels_below p (levels p) h))) (λ (h : p ≤ 2 ^ levels p). h) (cases_lt (2 ^ levels p) p)

-- a number of levels is the one with p between two powers
pub levels_le : (p k : ℕ) → p ≤ 2 ^ k → levels p ≤ k
levels_le p k h = ⊎_elim (λ (l : k < levels p). absurd (omega (arith, below_levels p k l))) (λ (l : levels p ≤ k). l) (cases_lt k (levels p))

pub levels_mono : (a b : ℕ) → a ≤ b → levels a ≤ levels b
levels_mono a b h = levels_le a (levels b) (omega (arith, levels_past b))

pub levels_one : levels 1 ≡ 0
levels_one = omega (arith, levels_le 1 0 (omega arith))

pub levels_next : (p : ℕ) → 0 < p → floor_log p + 1 ≡ levels (p + 1)
unfolding floor_log
levels_next p h = omega (arith, levels_below (p + 1) 0 (omega arith))

pub floor_log_le : (p : ℕ) → 0 < p → 2 ^ floor_log p ≤ p
floor_log_le p h = omega (arith, below_levels (p + 1) (floor_log p) (omega (arith, levels_next p h)))

pub lt_floor_log : (p : ℕ) → 0 < p → p < 2 ^ suc (floor_log p)
lt_floor_log p h =
    let e : suc (floor_log p) ≡ levels (p + 1) = omega (arith, levels_next p h) in
    rw e (omega (arith, levels_past (p + 1)))

pub floor_log_unique : (p k : ℕ) → 2 ^ k ≤ p → p < 2 ^ suc k → floor_log p ≡ k
floor_log_unique p k h l =
    let pos : 0 < p = omega (arith, pow_pos k) in
    omega (arith, levels_next p pos, levels_below (p + 1) k (omega arith), levels_le (p + 1) (suc k) (omega arith))

pub floor_log_pow : (k : ℕ) → floor_log (2 ^ k) ≡ k
floor_log_pow k = floor_log_unique (2 ^ k) k (omega arith) (omega (arith, pow_pos k))

pub pow_inj : (j k : ℕ) → 2 ^ j ≡ 2 ^ k → j ≡ k
pow_inj j k e = sym (floor_log_pow j) ∙ ap floor_log e ∙ floor_log_pow k

-- p splits into a power of two and a surplus below that power
pub surplus_splits : (p : ℕ) → 0 < p → 2 ^ floor_log p + surplus p ≡ p
unfolding surplus
surplus_splits p h = omega (arith, floor_log_le p h)

pub surplus_lt : (p : ℕ) → 0 < p → surplus p < 2 ^ floor_log p
surplus_lt p h = omega (arith, surplus_splits p h, lt_floor_log p h)
