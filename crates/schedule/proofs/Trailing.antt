-- The lowest 1 bit of a number.
use Rattle.std.proofs.Common.{◌≡◌, ℕ, zero, suc, ◌+◌, ◌/◌, ◌%◌, ◌^◌, ◌<◌, ◌≤◌, sym, refl, ap, ◌∙◌, ⊎_elim, mod-eq_of_lt, arith}
use lib.Count.{under}
use Rattle.std.specs.Int.Count.{count_trailing_zeros, trailing_of_zero}
use Rattle.std.proofs.lemmas.Nat.{mod-pow-add, shr-shr, pow_pos}
use Rattle.std.proofs.lemmas.Bool.{eq-eqb, cases_eq}
use Rattle.programme.proofs.Bits.{set_le}

pub record Lowest (n t : ℕ) : Type 0 where
  pub below : n % 2 ^ t ≡ 0
  pub here : n / 2 ^ t % 2 ≡ 1

odd_lowest : (n : ℕ) → n % 2 ≡ 1 → Lowest n 0
odd_lowest n e = record { below = omega arith; here = omega arith }

even_lowest : (n t : ℕ) → n % 2 ≡ 0 → Lowest (n / 2) t → Lowest n (suc t)
even_lowest n t e l =
    let s : suc t ≡ t + 1 = omega arith in
    let s' : suc t ≡ 1 + t = omega arith in
    record {
      below = rw s (mod-pow-add n t 1 ∙ omega (arith, l.below));
      here = rw s' (ap (λ (x : ℕ). x % 2) (sym (shr-shr n 1 t)) ∙ l.here);
    }

by_digit : (n t d : ℕ) → n % 2 ≡ d → (d ≡ 0 → Lowest (n / 2) t) → Lowest n (under d t)
by_digit n t zero e l = even_lowest n t e (l refl)
by_digit n t (suc d) e l = odd_lowest n (omega arith)

pub lowest : (k n : ℕ) → 0 < n → n < 2 ^ k → Lowest n (count_trailing_zeros k n)
unfolding count_trailing_zeros
lowest zero n h l = absurd (omega arith)
lowest (suc k) n h l = by_digit n (count_trailing_zeros k (n / 2)) (n % 2) refl (λ e. lowest k (n / 2) (omega arith) (omega arith))

pub lowest_le : (n t : ℕ) → Lowest n t → 2 ^ t ≤ n
lowest_le n t l = omega (arith, set_le n t (eq-eqb (n / 2 ^ t % 2) 1 l.here))

-- 0 has none
pub none : (n : ℕ) → n ≡ 0 → count_trailing_zeros 64 n ≡ 64
none n e = ap (count_trailing_zeros 64) e ∙ trailing_of_zero 64

pub cleared : (n : ℕ) → n < 2 ^ 64 → n % 2 ^ count_trailing_zeros 64 n ≡ 0
cleared n h =
    ⊎_elim
    (λ (e : n ≡ 0). let l : n < 2 ^ count_trailing_zeros 64 n = omega (arith, pow_pos (count_trailing_zeros 64 n)) in omega (arith, mod-eq_of_lt l))
    (λ (e : n ≡ 0 → ⊥). (lowest 64 n (omega arith) h).below)
    (cases_eq n 0)
