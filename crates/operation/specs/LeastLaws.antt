-- The laws of `least`.
use Rattle.std.specs.Prelude.{◌≡◌, ℕ, ◌-◌, ◌^◌, ◌<◌, ◌≤◌, Bool, true, false, ◌&&◌, List, [], ◌∷◌, length, ℤ, pos, negsuc, Some, None, Ok, Option, ◌==◌, int_le, nat_lt, slice_index, refl}
use Rattle.std.proofs.Common.{sym, ap, ◌∙◌, inl, inr, arith}
use Rattle.std.proofs.lemmas.Bool.Decides.{nat_tests}
use Rattle.std.proofs.lemmas.Int.{ints}
use Rattle.std.proofs.lemmas.Bool.{cases_lt, cond_both, eqb-true, ltb-true, leb-true, lt-ltb, and_parts}
use Rattle.std.specs.List.{AllByRecursion}
use Rattle.operation.specs.Optional.{present_assoc, present_unit, present_proper}
use Rattle.operation.specs.Meaning.{Monoid, Packing}
use Rattle.operation.specs.Least.{least, placed_at, first, first_of, placed_proper, least_proper, least_pack, least_read, none_read, some_read, biased, unbiased}
use Rattle.operation.specs.declared.least.Placed.{Placed}
use Rattle.operation.specs.Reading.{Fair, below_fair, below-one, words_from, packing_from_words}

first_trans : (x y z : Placed) → first x y ≡ true → first y z ≡ true → first x z ≡ true
first_trans x y z p q = grind (arith, ints, nat_tests)

last_trans : (x y z : Placed) → first x y ≡ false → first y z ≡ false → first x z ≡ false
last_trans x y z p q = grind (arith, ints, nat_tests)

assoc : (x y z : Placed) → first_of (first_of x y) z ≡ first_of x (first_of y z)
assoc x y z = go (first x y) (first y z) refl refl
  where
    go : (a b : Bool) → first x y ≡ a → first y z ≡ b → first_of (first_of x y) z ≡ first_of x (first_of y z)
    go true true p q = let t = first_trans x y z p q in simp (p, q, t)
    go true false p q = simp (p, q)
    go false true p q = simp (p, q)
    go false false p q = let t = last_trans x y z p q in simp (p, q, t)

first_kept : (x y : Placed) → placed_proper x ≡ true → placed_proper y ≡ true → placed_proper (first_of x y) ≡ true
first_kept x y hx hy = cond_both (first x y) x y (λ r. placed_proper r ≡ true) (λ _. hx) (λ _. hy)

-- Words of values

biased_small : (v : ℤ) → int_le v (pos 2147483647) ≡ true → biased v < 2 ^ 32
biased_small (pos n) h = let k = leb-true n 2147483647 h in omega arith
biased_small (negsuc n) h = omega arith

biased_back : (v : ℤ) → int_le (negsuc 2147483647) v ≡ true → unbiased (biased v) ≡ v
biased_back (pos n) h = omega (arith, ints)
biased_back (negsuc n) h = let k = leb-true n 2147483647 h in omega (arith, ints)

unbiased_high : (w : ℕ) → 2147483648 ≤ w → unbiased w ≡ pos (w - 2147483648)
unbiased_high w h = omega (arith, ints)

unbiased_low : (w : ℕ) → w < 2147483648 → unbiased w ≡ negsuc (2147483647 - w)
unbiased_low w h = omega (arith, ints)

unbiased_back : (w : ℕ) → biased (unbiased w) ≡ w
unbiased_back w =
    elim (cases_lt w 2147483648) [
      | inl h ↦ ap biased (unbiased_low w h) ∙ omega arith
      | inr h ↦ ap biased (unbiased_high w h) ∙ omega arith
    ]

unbiased_proper : (w p : ℕ) → w < 2 ^ 32 → p < 2 ^ 32 → least_proper (Some (placed_at (unbiased w) p)) ≡ true
unbiased_proper w p v q =
    elim (cases_lt w 2147483648) [
      | inl h ↦ ap (λ z. least_proper (Some (placed_at z p))) (unbiased_low w h) ∙ grind (arith, nat_tests)
      | inr h ↦ ap (λ z. least_proper (Some (placed_at z p))) (unbiased_high w h) ∙ grind (arith, nat_tests)
    ]

-- Blocks

long : (x : Option Placed) → length (least_pack x) ≡ 3
long None = refl
long (Some x) = refl

-- what the test of a proper element says
bounds : (x : Placed) → placed_proper x ≡ true
    → (int_le (negsuc 2147483647) x.value ≡ true) × (int_le x.value (pos 2147483647) ≡ true) × (nat_lt x.place (2 ^ 32) ≡ true)
bounds x h =
    let k = and_parts (int_le (negsuc 2147483647) x.value) (int_le x.value (pos 2147483647) && nat_lt x.place (2 ^ 32)) h in
    let l = and_parts (int_le x.value (pos 2147483647)) (nat_lt x.place (2 ^ 32)) k.1 in
    (k.0, l.0, l.1)

words : (x : Option Placed) → least_proper x ≡ true → AllByRecursion (λ w. w < 2 ^ 32) (least_pack x)
words None h = (omega arith, (omega arith, (omega arith, tt)))
words (Some x) h = let k = bounds x h in (omega arith, (biased_small x.value k.1, (ltb-true _ _ k.2, tt)))

some_back : (x : Placed) → placed_proper x ≡ true → some_read (biased x.value) x.place ≡ Ok (Some x)
some_back x h =
    let k = bounds x h in
    let v = lt-ltb _ _ (biased_small x.value k.1) in
    simp (v, k.2) (ap (λ z. Ok (Some (placed_at z x.place))) (biased_back x.value k.0))

read_back : (x : Option Placed) → least_proper x ≡ true
    → least_read (slice_index (least_pack x) 0) (slice_index (least_pack x) 1) (slice_index (least_pack x) 2) ≡ Ok x
read_back None h = refl
read_back (Some x) h = some_back x h

read_fair : (m v p : ℕ) → Fair least (m ∷ v ∷ p ∷ []) (least_read m v p)
read_fair m v p =
    cond_both (m == 0) _ _ (Fair least (m ∷ v ∷ p ∷ [])) (λ h. none_fair (eqb-true m 0 h))
    (λ _. cond_both (m == 1) _ _ (Fair least (m ∷ v ∷ p ∷ [])) (λ h. some_fair (eqb-true m 1 h)) (λ _. omega arith))
  where
    none_fair : m ≡ 0 → Fair least (m ∷ v ∷ p ∷ []) (none_read v p)
    none_fair h =
        below_fair 1 (v ∷ p ∷ []) None 1 (Fair least (m ∷ v ∷ p ∷ []))
        (λ q. (refl, λ i. h i ∷ below-one v q.0 i ∷ below-one p q.1.0 i ∷ []))
        (λ i k. k)

    some_fair : m ≡ 1 → Fair least (m ∷ v ∷ p ∷ []) (some_read v p)
    some_fair h =
        cond_both (nat_lt v (2 ^ 32) && nat_lt p (2 ^ 32)) _ _ (Fair least (m ∷ v ∷ p ∷ []))
        (λ q. let k = and_parts (nat_lt v (2 ^ 32)) (nat_lt p (2 ^ 32)) q in
        (unbiased_proper v p (ltb-true _ _ k.0) (ltb-true _ _ k.1), λ i. h i ∷ sym (unbiased_back v) i ∷ p ∷ []))
        (λ _. omega arith)

fair : (ws : List ℕ) → Fair least (words_from ws 0 3) (least_read (slice_index ws 0) (slice_index ws 1) (slice_index ws 2))
fair ws = read_fair (slice_index ws 0) (slice_index ws 1) (slice_index ws 2)

pub least_monoid : Monoid least
least_monoid = record {
  unit_proper = refl;
  join_proper = present_proper first_of placed_proper first_kept;
  assoc = λ x y z _ _ _. present_assoc first_of assoc x y z;
  unit_left = λ x _. refl;
  unit_right = λ x _. present_unit first_of x;
}

pub least_packing : Packing least
least_packing = packing_from_words least _ (λ _. refl) fair (λ x _. long x) words read_back
