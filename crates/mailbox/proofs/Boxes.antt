-- The boxes of the pairs lie apart.
use Rattle.std.proofs.Common.{◌≡◌, ℕ, ◌+◌, ◌*◌, ◌/◌, ◌%◌, ◌<◌, ◌≤◌, true, false, ◌&&◌, eqb, ◌⊎◌, List, length, take, drop, sym, ap, ◌∙◌, inl, inr, mul-le-mul_right, add-mul, one-mul, arith}
use Rattle.std.proofs.lemmas.Nat.{mul-add-lt, div-mul-add, mod-mul-add}
use Rattle.std.proofs.lemmas.List.{drop-take}
use Rattle.std.proofs.lemmas.Slice.{take-put_mid_below, drop-put_mid}
use Rattle.std.proofs.lemmas.Bool.{cases_order, and_from, eq-eqb, true≢false}
use borrow.Rule.Slice.PartMut.{put_mid}
use Rattle.ranks.specs.Ranks.{pair_ok}
use Rattle.transport.proofs.Pairs.{pair_parts}
use Rattle.mailbox.specs.Slots.{base}

-- pairs with one place are one pair
place_same : (p a b x y : ℕ) → b < p → y < p → a * p + b ≡ x * p + y → (a ≡ x) × (b ≡ y)
place_same p a b x y hb hy e = (
  sym (div-mul-add a p b hb) ∙ ap (λ n. n / p) e ∙ div-mul-add x p y hy,
  sym (mod-mul-add a p b hb) ∙ ap (λ n. n % p) e ∙ mod-mul-add x p y hy,
)

-- a block of d before another
block_before : (d q r : ℕ) → q < r → q * d + d ≤ r * d
block_before d q r h =
    let k : (q + 1) * d ≤ r * d = mul-le-mul_right d (omega arith) in
    omega (arith, add-mul q 1 d, one-mul d)

-- another pair's box is before or behind
pub apart : (p d a b x y : ℕ) → pair_ok p a b ≡ true → pair_ok p x y ≡ true → (eqb a x && eqb b y) ≡ false → (base p d x y + d ≤ base p d a b) ⊎ (base p d a b + d ≤ base p d x y)
apart p d a b x y pair other ne = by (cases_order (a * p + b) (x * p + y))
  where
    same : (a * p + b ≡ x * p + y) → ⊥
    same e =
        let k = pair_parts p a b pair in
        let m = pair_parts p x y other in
        let s = place_same p a b x y k.1 m.1 e in
        true≢false (sym (and_from (eqb a x) (eqb b y) (eq-eqb a x s.0) (eq-eqb b y s.1)) ∙ ne)

    by : (a * p + b ≡ x * p + y) ⊎ ((a * p + b < x * p + y) ⊎ (x * p + y < a * p + b)) → (base p d x y + d ≤ base p d a b) ⊎ (base p d a b + d ≤ base p d x y)
    by (inl e) = absurd (same e)
    by (inr (inl e)) = inr (block_before d (a * p + b) (x * p + y) e)
    by (inr (inr e)) = inl (block_before d (x * p + y) (a * p + b) e)

-- what stands in a block stays where another block is written
pub block_other : {X : Type 0} (d n at : ℕ) (xs ys : List X) → (n + d ≤ at) ⊎ (at + d ≤ n) → at ≤ length xs → length ys ≡ d → take d (drop n (put_mid at d xs ys)) ≡ take d (drop n xs)
block_other d n at xs ys (inl h) i e = sym (drop-take n d (put_mid at d xs ys)) ∙ ap (drop n) (take-put_mid_below at d xs ys (n + d) h i) ∙ drop-take n d xs
block_other d n at xs ys (inr h) i e = ap (take d) (drop-put_mid at d xs ys n h i e)

-- a slot of a box lies within the words
pub slot_inside : (p d a b : ℕ) → pair_ok p a b ≡ true → base p d a b + d ≤ p * p * d
slot_inside p d a b pair =
    let k = pair_parts p a b pair in
    let q : (a * p + b) + 1 ≤ p * p = omega (arith, mul-add-lt a p b p k.0 k.1) in
    let r : ((a * p + b) + 1) * d ≤ p * p * d = mul-le-mul_right d q in
    omega (arith, add-mul (a * p + b) 1 d, one-mul d)
