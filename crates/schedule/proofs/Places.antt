-- Powers of two in a machine word, and beside a number of ranks.
use Rattle.std.proofs.Common.{◌≡◌, ℕ, zero, suc, ◌+◌, ◌-◌, ◌*◌, ◌/◌, ◌%◌, ◌^◌, ◌<◌, ◌≤◌, ap, ◌∙◌, ⊎_elim, arith, pow_mono}
use Rattle.std.specs.Int.Bits.{bit_and, bit_xor, xor_add_and}
use Rattle.std.proofs.lemmas.Nat.{mul-le}
use Rattle.std.proofs.lemmas.Nat.Bits.{and_pow}
use Rattle.std.proofs.lemmas.Bool.{cases_eq, cases_lt, eq-eqb, ne_eqb}
use Rattle.ranks.specs.Ranks.{most_ranks}
use Rattle.programme.specs.Levels.{levels}
use Rattle.programme.specs.Programme.{flip}
use Rattle.programme.proofs.Power.{below_levels, levels_le, levels_past}

pub place_fits : (k : ℕ) → 2 ^ k < 2 ^ 64 → k < 64
place_fits k h = ⊎_elim (λ (l : k < 64). l) (λ (l : 64 ≤ k). absurd (omega (arith, pow_mono l))) (cases_lt k 64)

-- ranks are few
pub few_levels : (p : ℕ) → p ≤ most_ranks → levels p ≤ 6
few_levels p l = levels_le p 6 (omega arith)

-- whether there is a rank 2 ^ k above r
pub has_above : (p r k : ℕ) → k < levels (p - r) → r + 2 ^ k < p
has_above p r k h = omega (arith, below_levels (p - r) k h)

pub none_above : (p r k : ℕ) → levels (p - r) ≤ k → p ≤ r + 2 ^ k
none_above p r k h = omega (arith, levels_past (p - r), pow_mono h)

-- and one below
pub has_below : (r k : ℕ) → k < levels (r + 1) → 2 ^ k ≤ r
has_below r k h = omega (arith, below_levels (r + 1) k h)

pub none_below : (r k : ℕ) → levels (r + 1) ≤ k → r < 2 ^ k
none_below r k h = omega (arith, levels_past (r + 1), pow_mono h)

-- the power of two past a number, beside the number
pub past_twice : (p : ℕ) → 0 < p → 2 ^ levels p ≤ 2 * p
past_twice p h = go (levels p) (λ k l. below_levels p k l)
  where
    go : (n : ℕ) → ((k : ℕ) → k < n → 2 ^ k < p) → 2 ^ n ≤ 2 * p
    go zero f = omega arith
    go (suc n) f = omega (arith, f n (omega arith))

pub past_product : (p : ℕ) → 0 < p → 2 ^ levels p ≤ levels p * p + 1
past_product p h = go (levels p) (past_twice p h) (λ k l. below_levels p k l)
  where
    go : (n : ℕ) → 2 ^ n ≤ 2 * p → ((k : ℕ) → k < n → 2 ^ k < p) → 2 ^ n ≤ n * p + 1
    go zero l f = omega arith
    go (suc zero) l f = omega (arith, f 0 (omega arith))
    go (suc (suc n)) l f = omega (arith, mul-le 2 p (suc (suc n)) p (omega arith) (omega arith))

-- a power of two as a mask
pub xor_flips : (n k x : ℕ) → x ≡ 2 ^ k → bit_xor n x ≡ flip n k
xor_flips n k x e =
    let here : bit_and n x ≡ n / 2 ^ k % 2 * 2 ^ k = ap (bit_and n) e ∙ and_pow n k in
    ⊎_elim
    (λ (b : n / 2 ^ k % 2 ≡ 1).
    let one : n / 2 ^ k % 2 * 2 ^ k ≡ 2 ^ k = ap (λ (d : ℕ). d * 2 ^ k) b ∙ omega arith in
    rw (eq-eqb (n / 2 ^ k % 2) 1 b) (omega (arith, xor_add_and n x)))
    (λ (b : n / 2 ^ k % 2 ≡ 1 → ⊥).
    let none : n / 2 ^ k % 2 * 2 ^ k ≡ 0 = ap (λ (d : ℕ). d * 2 ^ k) (let z : n / 2 ^ k % 2 ≡ 0 = omega arith in z) ∙ omega arith in
    rw (ne_eqb (n / 2 ^ k % 2) 1 b) (omega (arith, xor_add_and n x)))
    (cases_eq (n / 2 ^ k % 2) 1)
