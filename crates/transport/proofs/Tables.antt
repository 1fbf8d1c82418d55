-- Tables of pairs: one entry changed, and the sum of all.
use Rattle.std.proofs.Common.{◌≡◌, ℕ, ◌+◌, ◌<◌, Bool, true, false, cond, ◌&&◌, eqb, ◌⊎◌, sym, refl, ap, ◌∙◌, ap₂, inl, inr, arith}
use mathlib.Core.Path.{fun_ext}
use Rattle.std.proofs.lemmas.Bool.{cases_Bool, eqb-true, eq-eqb, and_parts}
use Rattle.std.proofs.lemmas.Bool.Decides.{nat_tests}
use Rattle.ranks.specs.Ranks.{sum_below}
use Rattle.ranks.proofs.Sums.{sum_same, sum_zeros, sum-add, sum_one}
use Rattle.transport.specs.Network.{put}

-- a table that has v at one pair and is f elsewhere
pub put_is : {A : Type 0} (f g : ℕ → ℕ → A) (a b : ℕ) (v : A) → g a b ≡ v → ((x y : ℕ) → (eqb a x && eqb b y) ≡ false → g x y ≡ f x y) → g ≡ put f a b v
put_is {A} f g a b v here there = fun_ext (λ x. fun_ext (λ y. at x y (cases_Bool (eqb a x && eqb b y))))
  where
    at : (x y : ℕ) → ((eqb a x && eqb b y) ≡ true) ⊎ ((eqb a x && eqb b y) ≡ false) → g x y ≡ put f a b v x y
    at x y (inl e) =
        let h = and_parts (eqb a x) (eqb b y) e in
        rw e (ap₂ g (sym (eqb-true a x h.0)) (sym (eqb-true b y h.1)) ∙ here)
    at x y (inr e) = rw e (there x y e)

pub put_same : {A : Type 0} (f : ℕ → ℕ → A) (a b : ℕ) → put f a b (f a b) ≡ f
put_same f a b = sym (put_is f f a b (f a b) refl (λ x y e. refl))

pub put_here : {A : Type 0} (f : ℕ → ℕ → A) (a b : ℕ) (v : A) → put f a b v a b ≡ v
put_here f a b v = rw (eq-eqb a a refl, eq-eqb b b refl)

pub put_other : {A : Type 0} (f : ℕ → ℕ → A) (a b : ℕ) (v : A) (x y : ℕ) → (eqb a x && eqb b y) ≡ false → put f a b v x y ≡ f x y
put_other f a b v x y e = rw e

-- what is put twice at a pair
pub put_put : {A : Type 0} (f : ℕ → ℕ → A) (a b : ℕ) (v w : A) → put (put f a b v) a b w ≡ put f a b w
put_put f a b v w =
    put_is f (put (put f a b v) a b w) a b w (put_here (put f a b v) a b w)
    (λ x y e. put_other (put f a b v) a b w x y e ∙ put_other f a b v x y e)

-- one value at the place x
pub sum-hit : (x v p : ℕ) → x < p → sum_below (λ k. cond (eqb x k) v 0) p ≡ v
sum-hit x v p h = sum_same (λ k. cond (eqb x k) v 0) (λ k. cond (eqb k x) v 0) p (λ k _. ap (λ t. cond t v 0) (turned k)) ∙ sum_one x v p h
  where
    turned : (k : ℕ) → eqb x k ≡ eqb k x
    turned k = grind (arith, nat_tests)

-- one value at the entry a, b of a table
pub sum-entry : (a b v p : ℕ) → a < p → b < p → sum_below (λ x. sum_below (λ y. cond (eqb a x && eqb b y) v 0) p) p ≡ v
sum-entry a b v p ha hb =
    sum_same (λ x. sum_below (λ y. cond (eqb a x && eqb b y) v 0) p) (λ x. cond (eqb a x) v 0) p (λ x _. row (eqb a x)) ∙ sum-hit a v p ha
  where
    row : (t : Bool) → sum_below (λ y. cond (t && eqb b y) v 0) p ≡ cond t v 0
    row true = sum-hit b v p hb
    row false = sum_zeros (λ y. 0) p (λ k h. refl)

-- tables are added entry by entry
pub sum-tables : (f g : ℕ → ℕ → ℕ) (p : ℕ) → sum_below (λ x. sum_below (λ y. f x y + g x y) p) p ≡ sum_below (λ x. sum_below (f x) p) p + sum_below (λ x. sum_below (g x) p) p
sum-tables f g p =
    sum_same (λ x. sum_below (λ y. f x y + g x y) p) (λ x. sum_below (f x) p + sum_below (g x) p) p (λ x _. sum-add (f x) (g x) p)
    ∙ sum-add (λ x. sum_below (f x) p) (λ x. sum_below (g x) p) p

-- equal entries have equal sums
pub sum-entries : (f g : ℕ → ℕ → ℕ) (p : ℕ) → ((x y : ℕ) → f x y ≡ g x y) → sum_below (λ x. sum_below (f x) p) p ≡ sum_below (λ x. sum_below (g x) p) p
sum-entries f g p same = sum_same (λ x. sum_below (f x) p) (λ x. sum_below (g x) p) p (λ x _. sum_same (f x) (g x) p (λ y _. same x y))

-- a table of zeros
pub sum-nowhere : (f : ℕ → ℕ → ℕ) (p : ℕ) → ((x y : ℕ) → f x y ≡ 0) → sum_below (λ x. sum_below (f x) p) p ≡ 0
sum-nowhere f p zeros = sum_zeros (λ x. sum_below (f x) p) p (λ x _. sum_zeros (f x) p (λ y _. zeros x y))

-- one entry of a table grows by d
pub sum-grown : (p a b d : ℕ) (f g : ℕ → ℕ → ℕ) → a < p → b < p → g a b ≡ f a b + d → ((x y : ℕ) → (eqb a x && eqb b y) ≡ false → g x y ≡ f x y)
    → sum_below (λ x. sum_below (g x) p) p ≡ sum_below (λ x. sum_below (f x) p) p + d
sum-grown p a b d f g ha hb here there =
    sum-entries g (λ x y. f x y + cond (eqb a x && eqb b y) d 0) p (λ x y. entry x y (cases_Bool (eqb a x && eqb b y)))
    ∙ sum-tables f (λ x y. cond (eqb a x && eqb b y) d 0) p
    ∙ ap (λ k. sum_below (λ x. sum_below (f x) p) p + k) (sum-entry a b d p ha hb)
  where
    entry : (x y : ℕ) → ((eqb a x && eqb b y) ≡ true) ⊎ ((eqb a x && eqb b y) ≡ false) → g x y ≡ f x y + cond (eqb a x && eqb b y) d 0
    entry x y (inl e) =
        let h = and_parts (eqb a x) (eqb b y) e in
        let ex = eqb-true a x h.0 in
        let ey = eqb-true b y h.1 in
        rw e (ap₂ g (sym ex) (sym ey) ∙ here ∙ ap (λ k. k + d) (ap₂ f ex ey))
    entry x y (inr e) = rw e (there x y e ∙ plus_zero (f x y))
      where
        plus_zero : (k : ℕ) → k ≡ k + 0
        plus_zero k = omega arith
