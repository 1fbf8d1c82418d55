-- One bit of a number, and the number with that bit flipped.
use Rattle.std.proofs.Common.{◌≡◌, ℕ, suc, ◌+◌, ◌-◌, ◌*◌, ◌/◌, ◌%◌, ◌^◌, ◌<◌, ◌≤◌, Bool, true, false, ◌⊎◌, sym, refl, ap, ◌∙◌, subst, inl, inr, mul-le-mul_right, div-lt_iff_lt-mul, div-add-mod', arith, pow_pos, pow-add}
use native.Mathlib.Nat.{add-mod_right, add-div_right, mod-le}
use lib.Pow.{mod-pow-add}
use Rattle.std.proofs.lemmas.Bool.{eqb-true, eqb-false, eq-eqb, ne_eqb}
use Rattle.programme.specs.Programme.{bit, flip}

-- the remainder by the next power has bit k on top
pub mod_next : (n k : ℕ) → n % 2 ^ suc k ≡ (n / 2 ^ k % 2) * 2 ^ k + n % 2 ^ k
mod_next n k = let e : suc k ≡ 1 + k = omega arith in rw e (mod-pow-add n 1 k)

pub bit_set : (n k : ℕ) → bit n k ≡ true → n / 2 ^ k % 2 ≡ 1
bit_set n k e = eqb-true (n / 2 ^ k % 2) 1 e

pub bit_clear : (n k : ℕ) → bit n k ≡ false → n / 2 ^ k % 2 ≡ 0
bit_clear n k e = omega (arith, eqb-false (n / 2 ^ k % 2) 1 e)

pub mod_set : (n k : ℕ) → bit n k ≡ true → n % 2 ^ suc k ≡ 2 ^ k + n % 2 ^ k
mod_set n k e = mod_next n k ∙ ap (λ (x : ℕ). x * 2 ^ k + n % 2 ^ k) (bit_set n k e) ∙ omega arith

pub mod_clear : (n k : ℕ) → bit n k ≡ false → n % 2 ^ suc k ≡ n % 2 ^ k
mod_clear n k e = mod_next n k ∙ ap (λ (x : ℕ). x * 2 ^ k + n % 2 ^ k) (bit_clear n k e) ∙ omega arith

-- a number with bit k clear, and the same with the bit set
pub set_mod : (n k : ℕ) → (n + 2 ^ k) % 2 ^ k ≡ n % 2 ^ k
set_mod n k = add-mod_right n (2 ^ k)

pub set_bit : (n k : ℕ) → bit n k ≡ false → bit (n + 2 ^ k) k ≡ true
set_bit n k e = eq-eqb ((n + 2 ^ k) / 2 ^ k % 2) 1 (omega (arith, bit_clear n k e, add-div_right n (pow_pos k)))

pub clear_bit : (n k : ℕ) → bit (n + 2 ^ k) k ≡ true → bit n k ≡ false
clear_bit n k e = ne_eqb (n / 2 ^ k % 2) 1 (λ q. omega (arith, q, bit_set (n + 2 ^ k) k e, add-div_right n (pow_pos k)))

pub set_le : (n k : ℕ) → bit n k ≡ true → 2 ^ k + n % 2 ^ k ≤ n
set_le n k e = omega (arith, mod_set n k e, mod-le n (2 ^ suc k))

-- the block of 2 ^ k numbers that holds n ends within every greater power above n
pub block_ends : (n k j : ℕ) → n < 2 ^ (j + k) → n - n % 2 ^ k + 2 ^ k ≤ 2 ^ (j + k)
block_ends n k j h =
    let d : n / 2 ^ k < 2 ^ j = (div-lt_iff_lt-mul (pow_pos k)).1 (rw (← pow-add 2 j k) h) in
    omega (arith, mul-le-mul_right (2 ^ k) d, div-add-mod' n (2 ^ k), pow-add 2 j k)

pub flip_set : (n k : ℕ) → bit n k ≡ true → flip n k ≡ n - 2 ^ k
flip_set n k e = rw e

pub flip_clear : (n k : ℕ) → bit n k ≡ false → flip n k ≡ n + 2 ^ k
flip_clear n k e = rw e

-- what there is to know of n, bit k and the flipped number
pub record Clear (n k : ℕ) : Type 0 where
  pub is : bit n k ≡ false
  pub flips : flip n k ≡ n + 2 ^ k
  pub other : bit (flip n k) k ≡ true
  pub back : flip (flip n k) k ≡ n
  pub rest : flip n k % 2 ^ k ≡ n % 2 ^ k
  pub next : n % 2 ^ suc k ≡ n % 2 ^ k
  pub other_next : flip n k % 2 ^ suc k ≡ n % 2 ^ k + 2 ^ k

pub record Set (n k : ℕ) : Type 0 where
  pub is : bit n k ≡ true
  pub flips : flip n k + 2 ^ k ≡ n
  pub other : bit (flip n k) k ≡ false
  pub back : flip (flip n k) k ≡ n
  pub rest : flip n k % 2 ^ k ≡ n % 2 ^ k
  pub next : n % 2 ^ suc k ≡ n % 2 ^ k + 2 ^ k
  pub other_next : flip n k % 2 ^ suc k ≡ n % 2 ^ k
  pub low : 2 ^ k + n % 2 ^ k ≤ n

pub when_clear : (n k : ℕ) → bit n k ≡ false → Clear n k
when_clear n k e =
    let f : flip n k ≡ n + 2 ^ k = flip_clear n k e in
    let o : bit (n + 2 ^ k) k ≡ true = set_bit n k e in
    record {
      is = e;
      flips = f;
      other = ap (λ (x : ℕ). bit x k) f ∙ o;
      back = ap (λ (x : ℕ). flip x k) f ∙ flip_set (n + 2 ^ k) k o ∙ omega arith;
      rest = ap (λ (x : ℕ). x % 2 ^ k) f ∙ set_mod n k;
      next = mod_clear n k e;
      other_next = ap (λ (x : ℕ). x % 2 ^ suc k) f ∙ mod_set (n + 2 ^ k) k o ∙ omega (arith, set_mod n k);
    }

pub when_set : (n k : ℕ) → bit n k ≡ true → Set n k
when_set n k e =
    let l : 2 ^ k + n % 2 ^ k ≤ n = set_le n k e in
    let f : flip n k ≡ n - 2 ^ k = flip_set n k e in
    let g : n - 2 ^ k + 2 ^ k ≡ n = omega arith in
    let o : bit (n - 2 ^ k) k ≡ false = clear_bit (n - 2 ^ k) k (subst (λ (x : ℕ). bit x k ≡ true) (sym g) e) in
    let r : (n - 2 ^ k) % 2 ^ k ≡ n % 2 ^ k = sym (set_mod (n - 2 ^ k) k) ∙ ap (λ (x : ℕ). x % 2 ^ k) g in
    record {
      is = e;
      flips = ap (λ (x : ℕ). x + 2 ^ k) f ∙ g;
      other = ap (λ (x : ℕ). bit x k) f ∙ o;
      back = ap (λ (x : ℕ). flip x k) f ∙ flip_clear (n - 2 ^ k) k o ∙ g;
      rest = ap (λ (x : ℕ). x % 2 ^ k) f ∙ r;
      next = mod_set n k e ∙ omega arith;
      other_next = ap (λ (x : ℕ). x % 2 ^ suc k) f ∙ mod_clear (n - 2 ^ k) k o ∙ r;
      low = l;
    }

pub clear_or_set : (n k : ℕ) → Clear n k ⊎ Set n k
clear_or_set n k = go (bit n k) refl
  where
    go : (b : Bool) → bit n k ≡ b → Clear n k ⊎ Set n k
    go true e = inr (when_set n k e)
    go false e = inl (when_clear n k e)
