-- The laws of `affine`.
use Rattle.std.specs.Prelude.{◌≡◌, ℕ, ◌+◌, ◌*◌, ◌%◌, ◌^◌, ◌<◌, ◌≤◌, true, List, [], ◌∷◌, Ok, nat_lt, slice_index, refl}
use Rattle.std.proofs.Common.{sym, ap, ap₂, ◌∙◌, mod-lt, mod-eq_of_lt, mul-add, mul_comm, mul_assoc, mul-one, one-mul, mul-zero, add-zero, zero-add, add_assoc, arith}
use Rattle.std.proofs.Math.Nat.{mod-add-mod, add-mod-mod}
use Rattle.std.proofs.lemmas.Nat.{mul-mod_second}
use Rattle.std.proofs.lemmas.Bool.{lt-ltb, ltb-true, and_parts, and_from}
use Rattle.std.specs.List.{AllByRecursion}
use Rattle.operation.specs.Meaning.{Monoid, Packing}
use Rattle.operation.specs.Affine.{affine, affine_of, affine_proper, affine_join, affine_read}
use Rattle.operation.specs.declared.affine.AffineElement.{AffineElement}
use Rattle.operation.specs.Reading.{Fair, below_fair, words_from, packing_from_words}

mul_mod_add : (a b c m : ℕ) → (a * (b % m) + c) % m ≡ (a * b + c) % m
mul_mod_add a b c m =
    sym (mod-add-mod (a * (b % m)) m c) ∙ ap (λ n. (n + c) % m) (mul-mod_second a b m) ∙ mod-add-mod (a * b) m c

module _ (m : ℕ) (low : 2 ≤ m) (high : m ≤ 2147483647) where
  parts : (x : AffineElement) → affine_proper m x ≡ true → (x.a < m) × (x.b < m)
  parts x h = let k = and_parts (nat_lt x.a m) (nat_lt x.b m) h in (ltb-true x.a m k.0, ltb-true x.b m k.1)

  below : (a b : ℕ) → a < m → b < m → affine_proper m (affine_of a b) ≡ true
  below a b p q = and_from (nat_lt a m) (nat_lt b m) (lt-ltb a m p) (lt-ltb b m q)

  join_proper : (x y : AffineElement) → affine_proper m (affine_join m x y) ≡ true
  join_proper x y = below _ _ (mod-lt (y.a * x.a) (omega arith)) (mod-lt (y.a * x.b + y.b) (omega arith))

  assoc_a : (a c e : ℕ) → (e * ((c * a) % m)) % m ≡ (((e * c) % m) * a) % m
  assoc_a a c e =
      mul-mod_second e (c * a) m
      ∙ ap (λ n. n % m) (sym (mul_assoc e c a) ∙ mul_comm (e * c) a)
      ∙ sym (mul-mod_second a (e * c) m)
      ∙ ap (λ n. n % m) (mul_comm a ((e * c) % m))

  assoc_b : (b c d e f : ℕ) → (e * ((c * b + d) % m) + f) % m ≡ (((e * c) % m) * b + (e * d + f) % m) % m
  assoc_b b c d e f =
      mul_mod_add e (c * b + d) f m
      ∙ ap (λ n. n % m) (ap (λ n. n + f) (mul-add e (c * b) d) ∙ add_assoc (e * (c * b)) (e * d) f
      ∙ ap (λ n. n + (e * d + f)) (sym (mul_assoc e c b) ∙ mul_comm (e * c) b))
      ∙ sym (mul_mod_add b (e * c) (e * d + f) m)
      ∙ ap (λ n. (n + (e * d + f)) % m) (mul_comm b ((e * c) % m))
      ∙ sym (add-mod-mod (((e * c) % m) * b) (e * d + f) m)

  unit_left : (x : AffineElement) → affine_proper m x ≡ true → affine_join m (affine_of 1 0) x ≡ x
  unit_left x h =
      let k = parts x h in
      ap₂ affine_of
      (ap (λ n. n % m) (mul-one x.a) ∙ mod-eq_of_lt k.0)
      (ap (λ n. (n + x.b) % m) (mul-zero x.a) ∙ ap (λ n. n % m) (zero-add x.b) ∙ mod-eq_of_lt k.1)

  unit_right : (x : AffineElement) → affine_proper m x ≡ true → affine_join m x (affine_of 1 0) ≡ x
  unit_right x h =
      let k = parts x h in
      ap₂ affine_of
      (ap (λ n. n % m) (one-mul x.a) ∙ mod-eq_of_lt k.0)
      (ap (λ n. (n + 0) % m) (one-mul x.b) ∙ ap (λ n. n % m) (add-zero x.b) ∙ mod-eq_of_lt k.1)

  words : (x : AffineElement) → affine_proper m x ≡ true → AllByRecursion (λ w. w < 2 ^ 32) ((affine m).pack x)
  words x h = let k = parts x h in let a : x.a < 2 ^ 32 = omega arith in let b : x.b < 2 ^ 32 = omega arith in (a, (b, tt))

  read_fair : (a b : ℕ) → Fair (affine m) (a ∷ b ∷ []) (affine_read m a b)
  read_fair a b =
      below_fair m (a ∷ b ∷ []) (affine_of a b) 0 (Fair (affine m) (a ∷ b ∷ []))
      (λ p. (below a b p.0 p.1.0, refl))
      (λ i k. k)

  fair : (ws : List ℕ) → Fair (affine m) (words_from ws 0 2) (affine_read m (slice_index ws 0) (slice_index ws 1))
  fair ws = read_fair (slice_index ws 0) (slice_index ws 1)

  read_back : (x : AffineElement) → affine_proper m x ≡ true → affine_read m x.a x.b ≡ Ok x
  read_back x h = let k = and_parts (nat_lt x.a m) (nat_lt x.b m) h in simp (k.0, k.1)

  pub affine_monoid : Monoid (affine m)
  affine_monoid = record {
    unit_proper = below 1 0 (omega arith) (omega arith);
    join_proper = λ x y _ _. join_proper x y;
    assoc = λ x y z _ _ _. ap₂ affine_of (assoc_a x.a y.a z.a) (assoc_b x.b y.a y.b z.a z.b);
    unit_left = unit_left;
    unit_right = unit_right;
  }

  pub affine_packing : Packing (affine m)
  affine_packing = packing_from_words (affine m) _ (λ _. refl) fair (λ _ _. refl) words read_back
