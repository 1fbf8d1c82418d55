-- Sums and maxima over the numbers below a bound.
use Rattle.std.proofs.Common.{◌≡◌, ℕ, zero, suc, ◌+◌, ◌*◌, ◌<◌, ◌≤◌, min, max, Bool, true, cond, eqb, ltb, sym, refl, ap, ◌∙◌, ap₂, inl, inr, mul-zero, mul-add, arith}
use Rattle.std.proofs.lemmas.Bool.{cases_Bool, cases_lt, cases_eq, eq-eqb, ne_eqb, lt-ltb, le-ltb}
use Rattle.ranks.specs.Ranks.{sum_below, greatest_below}

pub sum_same : (f g : ℕ → ℕ) (n : ℕ) → ((i : ℕ) → i < n → f i ≡ g i) → sum_below f n ≡ sum_below g n
sum_same f g zero h = refl
sum_same f g (suc n) h = omega (arith, sum_same f g n (λ i k. h i (omega arith)), h n (omega arith))

pub sum_zeros : (f : ℕ → ℕ) (n : ℕ) → ((i : ℕ) → i < n → f i ≡ 0) → sum_below f n ≡ 0
sum_zeros f zero h = refl
sum_zeros f (suc n) h = omega (arith, sum_zeros f n (λ i k. h i (omega arith)), h n (omega arith))

pub sum-constant : (c n : ℕ) → sum_below (λ _. c) n ≡ c * n
sum-constant c zero = omega arith
sum-constant c (suc n) = omega (arith, sum-constant c n)

pub sum-add : (f g : ℕ → ℕ) (n : ℕ) → sum_below (λ i. f i + g i) n ≡ sum_below f n + sum_below g n
sum-add f g zero = refl
sum-add f g (suc n) = omega (arith, sum-add f g n)

pub sum-mul : (c : ℕ) (f : ℕ → ℕ) (n : ℕ) → sum_below (λ i. c * f i) n ≡ c * sum_below f n
sum-mul c f zero = sym (mul-zero c)
sum-mul c f (suc n) = omega (arith, sum-mul c f n, mul-add c (sum_below f n) (f n))

-- the order of two sums does not matter
pub sum-swap : (f : ℕ → ℕ → ℕ) (m n : ℕ) → sum_below (λ i. sum_below (λ j. f i j) n) m ≡ sum_below (λ j. sum_below (λ i. f i j) m) n
sum-swap f zero n = sym (sum_zeros (λ _. 0) n (λ _ _. refl))
sum-swap f (suc m) n = rw (sum-swap f m n) (sym (sum-add (λ j. sum_below (λ i. f i j) m) (λ j. f m j) n))

pub sum-split : (f : ℕ → ℕ) (m n : ℕ) → sum_below f (m + n) ≡ sum_below f m + sum_below (λ k. f (m + k)) n
sum-split f m zero = let e : m + 0 ≡ m = omega arith in rw e (omega arith)
sum-split f m (suc n) = let e : m + suc n ≡ suc (m + n) = omega arith in rw e (omega (arith, sum-split f m n))

-- no part of a sum exceeds it
pub sum-at : (f : ℕ → ℕ) (n i : ℕ) → i < n → f i ≤ sum_below f n
sum-at f zero i h = absurd (omega arith)
sum-at f (suc n) i h =
    elim (cases_lt i n) [
      | inl g ↦ omega (arith, sum-at f n i g)
      | inr g ↦ let e : i ≡ n = omega arith in rw e (omega arith)
    ]

pub sum-zero : (f : ℕ → ℕ) (n : ℕ) → sum_below f n ≡ 0 → (i : ℕ) → i < n → f i ≡ 0
sum-zero f n e i h = omega (arith, sum-at f n i h)

pub sum-le : (f g : ℕ → ℕ) (n : ℕ) → ((i : ℕ) → i < n → f i ≤ g i) → sum_below f n ≤ sum_below g n
sum-le f g zero h = omega arith
sum-le f g (suc n) h = omega (arith, sum-le f g n (λ i k. h i (omega arith)), h n (omega arith))

pub sum_lt : (f g : ℕ → ℕ) (n : ℕ) → ((i : ℕ) → i < n → f i ≤ g i) → (j : ℕ) → j < n → f j < g j → sum_below f n < sum_below g n
sum_lt f g zero h j k l = absurd (omega arith)
sum_lt f g (suc n) h j k l =
    elim (cases_lt j n) [
      | inl i ↦ omega (arith, sum_lt f g n (λ q b. h q (omega arith)) j i l, h n (omega arith))
      | inr i ↦
          let rest = sum-le f g n (λ q b. h q (omega arith)) in
          let e : j ≡ n = omega arith in
          let last : f n < g n = rw e at l in
          omega arith
    ]

-- a value at one place alone: outside the sum, and within
pub sum-nothing : (r c n : ℕ) → n ≤ r → sum_below (λ i. cond (eqb i r) c 0) n ≡ 0
sum-nothing r c zero h = refl
sum-nothing r c (suc n) h = rw (ne_eqb n r (λ e. omega arith)) (omega (arith, sum-nothing r c n (omega arith)))

pub sum_one : (r c n : ℕ) → r < n → sum_below (λ i. cond (eqb i r) c 0) n ≡ c
sum_one r c zero h = absurd (omega arith)
sum_one r c (suc n) h =
    elim (cases_eq n r) [
      | inl e ↦ rw (eq-eqb n r e) (omega (arith, sum-nothing r c n (omega arith)))
      | inr e ↦ rw (ne_eqb n r e) (omega (arith, sum_one r c n (omega arith)))
    ]

-- how many of the n numbers lie below c
pub sum-ltb : (c n : ℕ) → sum_below (λ k. cond (ltb k c) 1 0) n ≡ min c n
sum-ltb c zero = omega arith
sum-ltb c (suc n) =
    elim (cases_lt n c) [
      | inl l ↦ rw (lt-ltb n c l) (omega (arith, sum-ltb c n))
      | inr l ↦ rw (le-ltb n c l) (omega (arith, sum-ltb c n))
    ]

-- a count of as many as there are: the test holds of each
ones_le : (t : ℕ → Bool) (n : ℕ) → sum_below (λ i. cond (t i) 1 0) n ≤ n
ones_le t zero = omega arith
ones_le t (suc n) =
    let rest = ones_le t n in
    elim (cases_Bool (t n)) [ inl e ↦ rw e (omega arith) | inr e ↦ rw e (omega arith) ]

pub all_ones : (t : ℕ → Bool) (n : ℕ) → sum_below (λ i. cond (t i) 1 0) n ≡ n → (i : ℕ) → i < n → t i ≡ true
all_ones t zero e i h = absurd (omega arith)
all_ones t (suc n) e i h =
    elim (cases_Bool (t n)) [
      | inl f ↦
          let g : sum_below (λ j. cond (t j) 1 0) n ≡ n = omega (arith, rw f at e) in
          elim (cases_lt i n) [
            | inl k ↦ all_ones t n g i k
            | inr k ↦ let same : i ≡ n = omega arith in ap t same ∙ f
          ]
      | inr f ↦ absurd (omega (arith, ones_le t n, rw f at e))
    ]

pub le_greatest : (f : ℕ → ℕ) (n k : ℕ) → k < n → f k ≤ greatest_below f n
le_greatest f zero k h = absurd (omega arith)
le_greatest f (suc n) k h =
    elim (cases_lt k n) [
      | inl l ↦ omega (arith, le_greatest f n k l)
      | inr l ↦ let e : k ≡ n = omega arith in rw e (omega arith)
    ]

pub greatest_le : (f : ℕ → ℕ) (n c : ℕ) → ((k : ℕ) → k < n → f k ≤ c) → greatest_below f n ≤ c
greatest_le f zero c h = omega arith
greatest_le f (suc n) c h = omega (arith, greatest_le f n c (λ k l. h k (omega arith)), h n (omega arith))

-- a bound that one place meets
pub greatest_is : (f : ℕ → ℕ) (n c k : ℕ) → k < n → f k ≡ c → ((j : ℕ) → j < n → f j ≤ c) → greatest_below f n ≡ c
greatest_is f n c k l e h = omega (arith, le_greatest f n k l, greatest_le f n c h)

pub greatest_same : (f g : ℕ → ℕ) (n : ℕ) → ((i : ℕ) → i < n → f i ≡ g i) → greatest_below f n ≡ greatest_below g n
greatest_same f g zero h = refl
greatest_same f g (suc n) h = ap₂ max (greatest_same f g n (λ i k. h i (omega arith))) (h n (omega arith))
