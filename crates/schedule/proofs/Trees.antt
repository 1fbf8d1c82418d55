-- What stands at an index of a rank's programme in a reduce.
use Rattle.std.proofs.Common.{◌≡◌, ℕ, zero, suc, ◌+◌, ◌-◌, ◌/◌, ◌%◌, ◌^◌, ◌<◌, ◌≤◌, min, true, false, not, ◌&&◌, eqb, List, [], ◌∷◌, ◌++◌, length, Some, None, Option, sym, refl, ap, ◌∙◌, ap₂, ⊎_elim, append_assoc, append-nil, mod-eq_of_lt, arith, length-append}
use native.Mathlib.Nat.{div-eq_of_lt}
use Rattle.std.specs.Int.Count.{count_trailing_zeros}
use Rattle.std.specs.List.{slice_get}
use Rattle.std.proofs.lemmas.Nat.{mod-pow-add, pow_pos}
use Rattle.std.proofs.lemmas.Option.{slice_get_past}
use Rattle.std.proofs.lemmas.Bool.{le-ltb, eq-eqb, ne_eqb, cases_eq, cases_Bool}
use Rattle.programme.specs.declared.Action.{Action}
use Rattle.programme.specs.declared.Action.TheVariants.{Send, Take}
use Rattle.programme.specs.declared.Merge.TheVariants.{After, Replace}
use Rattle.programme.specs.Label.{deliver}
use Rattle.programme.specs.Levels.{levels}
use Rattle.programme.specs.Programme.{steps, when, bit, fold_step, reduce}
use Rattle.programme.specs.Formula.{takes}
use Rattle.programme.proofs.Bits.{mod_set, set_le}
use Rattle.programme.proofs.Folding.{send_is, take_is}
use Rattle.programme.proofs.Lists.{steps_next}
use Rattle.programme.proofs.Power.{levels_mono, levels_below, lt_pow}
use Rattle.schedule.specs.Part.{tree, delivered, one_of}
use Rattle.schedule.proofs.Places.{has_above, none_above}
use Rattle.schedule.proofs.Positions.{listed, length-listed, nth_listed, nth_left, nth_right, steps_quiet, steps_single}
use Rattle.schedule.proofs.Trailing.{Lowest, lowest}

mod_smaller : (n j k : ℕ) → j ≤ k → n % 2 ^ k ≡ 0 → n % 2 ^ j ≡ 0
mod_smaller n j k l e =
    let s : n % 2 ^ (k - j + j) ≡ n % 2 ^ k = ap (λ (x : ℕ). n % 2 ^ x) (let q : k - j + j ≡ k = omega arith in q) in
    omega (arith, mod-pow-add n (k - j) j)

-- below its lowest bit a number has none
clear_below : (n j k : ℕ) → j < k → n % 2 ^ k ≡ 0 → bit n j ≡ false
clear_below n j k l e =
    ⊎_elim
    (λ (b : bit n j ≡ true). absurd (omega (arith, mod_set n j b, mod_smaller n (suc j) k (omega arith) e, pow_pos j)))
    (λ (b : bit n j ≡ false). b)
    (cases_Bool (bit n j))

-- and above it the remainder is not 0
rest_above : (n j k : ℕ) → k < j → n % 2 ^ k ≡ 0 → bit n k ≡ true → n % 2 ^ j ≡ 0 → ⊥
rest_above n j k l e b z = omega (arith, mod_set n k b, mod_smaller n (suc k) j (omega arith) z, pow_pos k)

-- 0 has no bit
no_bits : (n k : ℕ) → n ≡ 0 → (n % 2 ^ k ≡ 0) × (bit n k ≡ false)
no_bits n k e =
    let l : n < 2 ^ k = omega (arith, pow_pos k) in
    (omega (arith, mod-eq_of_lt l), ne_eqb (n / 2 ^ k % 2) 1 (λ q. omega (arith, div-eq_of_lt l)))

takes_listed : (g : ℕ → Action) (more : List Action) → ((k : ℕ) (l : List Action) → takes (g k ∷ l) ≡ suc (takes l)) → (from n : ℕ) → takes (listed g from n ++ more) ≡ n + takes more
takes_listed g more h from zero = omega arith
takes_listed g more h from (suc n) = h from (listed g (suc from) n ++ more) ∙ omega (arith, takes_listed g more h (suc from) n)

module _ (p r : ℕ) (h : r < p) where
  abbrev take : ℕ → Action
  take k = Take (r + 2 ^ k) k After

  abbrev S : ℕ
  S = levels (p - r)

  takes_here : (k : ℕ) → r % 2 ^ k ≡ 0 → bit r k ≡ false → k < S → fold_step p r k ≡ take k ∷ []
  takes_here k z b s = take_is p r k z b (has_above p r k s)

  none_here : (k : ℕ) → bit r k ≡ false → S ≤ k → fold_step p r k ≡ []
  unfolding fold_step
  none_here k b s =
      ⊎_elim
      (λ (z : r % 2 ^ k ≡ 0). rw (eq-eqb (r % 2 ^ k) 0 z, b, le-ltb (r + 2 ^ k) p (none_above p r k s)))
      (λ (z : r % 2 ^ k ≡ 0 → ⊥). rw (ne_eqb (r % 2 ^ k) 0 z))
      (cases_eq (r % 2 ^ k) 0)

  left_here : (k : ℕ) → (r % 2 ^ k ≡ 0 → ⊥) → fold_step p r k ≡ []
  unfolding fold_step
  left_here k z = rw (ne_eqb (r % 2 ^ k) 0 z)

  -- the steps below j, where r has no bit
  low_steps : (j : ℕ) → ((k : ℕ) → k < j → (r % 2 ^ k ≡ 0) × (bit r k ≡ false)) → steps (fold_step p r) j ≡ listed take 0 (min S j)
  unfolding steps
  low_steps j c =
      steps_quiet (fold_step p r) (min S j) j (omega arith) (λ k a b. none_here k (c k b).1 (omega arith))
      ∙ steps_single (fold_step p r) take 0 (min S j) (omega arith) (λ k a b. takes_here k (c k (omega arith)).0 (c k (omega arith)).1 (omega arith))
      ∙ ap (listed take 0) (let e : min S j - 0 ≡ min S j = omega arith in e)

  zero_shape : r ≡ 0 → tree p r ≡ listed take 0 S
  zero_shape e =
      low_steps (levels p) (λ k l. no_bits r k e)
      ∙ ap (listed take 0) (let q : min S (levels p) ≡ S = omega (arith, levels_mono (p - r) p (omega arith)) in q)

  other_shape : (k : ℕ) → r % 2 ^ k ≡ 0 → bit r k ≡ true → tree p r ≡ listed take 0 (min S k) ++ (Send (r - 2 ^ k) k ∷ [])
  other_shape k z b =
      steps_quiet (fold_step p r) (suc k) (levels p) (levels_below p k (omega (arith, set_le r k b))) (λ j l m. left_here j (rest_above r j k l z b))
      ∙ steps_next (fold_step p r) k
      ∙ ap₂ (λ (x y : List Action). x ++ y)
      (low_steps k (λ j l. (mod_smaller r j k (omega arith) z, clear_below r j k l z)))
      (send_is p r k z b)

  takes_more : (k : ℕ) (l : List Action) → takes (take k ∷ l) ≡ suc (takes l)
  takes_more k l = refl

  pub zero_takes : r ≡ 0 → S ≡ takes (tree p r)
  zero_takes e = sym (ap takes (zero_shape e ∙ sym (append-nil (listed take 0 S))) ∙ takes_listed take [] takes_more 0 S ∙ omega arith)

  pub other_takes : (k : ℕ) → r % 2 ^ k ≡ 0 → bit r k ≡ true → min S k ≡ takes (tree p r)
  other_takes k z b = sym (ap takes (other_shape k z b) ∙ takes_listed take (Send (r - 2 ^ k) k ∷ []) takes_more 0 (min S k) ∙ omega arith)

  -- t is the place of the lowest bit, and past all steps if there is none
  pub takes_are : (t : ℕ) → (r ≡ 0 → S ≤ t) → r % 2 ^ t ≡ 0 → (0 < r → bit r t ≡ true) → min S t ≡ takes (tree p r)
  takes_are t q z b =
      ⊎_elim
      (λ (e : r ≡ 0). omega (arith, zero_takes e, q e))
      (λ (e : r ≡ 0 → ⊥). other_takes t z (b (omega arith)))
      (cases_eq r 0)

  abbrev T : ℕ
  T = takes (tree p r)

  zero_tree : r ≡ 0 → tree p r ≡ listed take 0 T
  zero_tree e = zero_shape e ∙ ap (listed take 0) (zero_takes e)

  other_tree : (k : ℕ) → r % 2 ^ k ≡ 0 → bit r k ≡ true → tree p r ≡ listed take 0 T ++ (Send (r - 2 ^ k) k ∷ [])
  other_tree k z b = other_shape k z b ∙ ap (λ (n : ℕ). listed take 0 n ++ (Send (r - 2 ^ k) k ∷ [])) (other_takes k z b)

  abbrev Z : ℕ
  Z = count_trailing_zeros r r

  place : 0 < r → Lowest r Z
  place l = lowest r r l (lt_pow r)

  pub zero_length : r ≡ 0 → T ≡ length (tree p r)
  zero_length e = sym (ap length (zero_tree e) ∙ length-listed take 0 T)

  pub other_length : (r ≡ 0 → ⊥) → T + 1 ≡ length (tree p r)
  other_length e =
      let l = place (omega arith) in
      sym
      (ap length (other_tree Z l.below (eq-eqb _ 1 l.here))
      ∙ length-append (listed take 0 T) (Send (r - 2 ^ Z) Z ∷ [])
      ∙ omega (arith, length-listed take 0 T))

  pub tree_take : (i x : ℕ) → i < T → x ≡ r + 2 ^ i → Some (Take x i After) ≡ slice_get (tree p r) i
  tree_take i x l f =
      ap (λ (y : ℕ). Some (Take y i After)) f
      ∙ sym
      (⊎_elim
      (λ (e : r ≡ 0). ap (λ (y : List Action). slice_get y i) (zero_tree e) ∙ at)
      (λ (e : r ≡ 0 → ⊥).
      let w = place (omega arith) in
      ap (λ (y : List Action). slice_get y i) (other_tree Z w.below (eq-eqb _ 1 w.here))
      ∙ nth_left (listed take 0 T) (Send (r - 2 ^ Z) Z ∷ []) i (omega (arith, length-listed take 0 T))
      ∙ at)
      (cases_eq r 0))
    where
      at : slice_get (listed take 0 T) i ≡ Some (take i)
      at = nth_listed take 0 T i l ∙ ap (λ (k : ℕ). Some (take k)) (let q : 0 + i ≡ i = omega arith in q)

  pub tree_send : (i x k : ℕ) → i ≡ T → r % 2 ^ k ≡ 0 → bit r k ≡ true → x ≡ r - 2 ^ k → Some (Send x k) ≡ slice_get (tree p r) i
  tree_send i x k e z b f =
      ap (λ (y : ℕ). Some (Send y k)) f
      ∙ sym
      (ap (λ (y : List Action). slice_get y i) (other_tree k z b)
      ∙ nth_right (listed take 0 T) (Send (r - 2 ^ k) k ∷ []) i (omega (arith, length-listed take 0 T))
      ∙ ap (slice_get (Send (r - 2 ^ k) k ∷ [])) (let q : i - length (listed take 0 T) ≡ 0 = omega (arith, length-listed take 0 T) in q))

  pub past_tree : (i : ℕ) → T ≤ i → (i ≡ T → r ≡ 0) → None ≡ slice_get (tree p r) i
  past_tree i l e =
      sym
      (slice_get_past (tree p r) i
      (⊎_elim
      (λ (z : r ≡ 0). omega (arith, zero_length z))
      (λ (z : r ≡ 0 → ⊥). ⊎_elim (λ (q : i ≡ T). absurd (z (e q))) (λ (q : i ≡ T → ⊥). omega (arith, other_length z)) (cases_eq i T))
      (cases_eq r 0)))

-- the whole programme
pub in_two : (p root r : ℕ) → reduce p root r ≡ tree p r ++ delivered root r
unfolding reduce
in_two p root r = append_assoc (tree p r) (when (not (eqb root 0) && eqb r 0) (Send root deliver)) (when (not (eqb root 0) && eqb r root) (Take 0 deliver Replace))

pub in_tree : (p root r i : ℕ) → i < length (tree p r) → slice_get (tree p r) i ≡ slice_get (reduce p root r) i
in_tree p root r i l = sym (ap (λ (y : List Action). slice_get y i) (in_two p root r) ∙ nth_left (tree p r) (delivered root r) i l)

first_of : (o : Option Action) → o ≡ slice_get (one_of o) 0
first_of None = refl
first_of (Some a) = refl

none_after : (o : Option Action) (i : ℕ) → 0 < i → None ≡ slice_get (one_of o) i
none_after None i l = refl
none_after (Some a) i l = sym (slice_get_past (a ∷ []) i (omega arith))

module _ (p root r : ℕ) (o : Option Action) (e : delivered root r ≡ one_of o) where
  behind : (i : ℕ) → length (tree p r) ≤ i → slice_get (one_of o) (i - length (tree p r)) ≡ slice_get (reduce p root r) i
  behind i l =
      sym
      (ap (λ (y : List Action). slice_get y i) (in_two p root r ∙ ap (λ (y : List Action). tree p r ++ y) e)
      ∙ nth_right (tree p r) (one_of o) i l)

  pub after_tree : (i : ℕ) → i ≡ length (tree p r) → o ≡ slice_get (reduce p root r) i
  after_tree i q = first_of o ∙ ap (slice_get (one_of o)) (let z : 0 ≡ i - length (tree p r) = omega arith in z) ∙ behind i (omega arith)

  pub past : (i : ℕ) → length (tree p r) < i → None ≡ slice_get (reduce p root r) i
  past i l = none_after o (i - length (tree p r)) (omega arith) ∙ behind i (omega arith)

  pub whole_length : length (reduce p root r) ≡ length (tree p r) + length (one_of o)
  whole_length = ap length (in_two p root r ∙ ap (λ (y : List Action). tree p r ++ y) e) ∙ length-append (tree p r) (one_of o)

pub delivery_known : (root r : ℕ) → (o : Option Action) × (delivered root r ≡ one_of o)
delivery_known root r =
    ⊎_elim
    (λ (z : root ≡ 0). (None, rw (eq-eqb root 0 z)))
    (λ (z : root ≡ 0 → ⊥).
    ⊎_elim
    (λ (e : r ≡ 0). (Some (Send root deliver), rw (ne_eqb root 0 z, eq-eqb r 0 e, ne_eqb r root (λ q. z (sym q ∙ e)))))
    (λ (e : r ≡ 0 → ⊥).
    ⊎_elim
    (λ (q : r ≡ root). (Some (Take 0 deliver Replace), rw (ne_eqb root 0 z, ne_eqb r 0 e, eq-eqb r root q)))
    (λ (q : r ≡ root → ⊥). (None, rw (ne_eqb root 0 z, ne_eqb r 0 e, ne_eqb r root q)))
    (cases_eq r root))
    (cases_eq r 0))
    (cases_eq root 0)

pub one_more : (p root r : ℕ) {a : Action} → delivered root r ≡ a ∷ [] → length (reduce p root r) ≡ length (tree p r) + 1
one_more p root r {a} e = whole_length p root r (Some a) e

pub no_more : (p root r : ℕ) → delivered root r ≡ [] → length (reduce p root r) ≡ length (tree p r)
no_more p root r e = whole_length p root r None e ∙ omega arith
