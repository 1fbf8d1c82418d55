-- How long the blocks of proper elements are.
use Rattle.std.proofs.Common.{◌≡◌, ℕ, suc, ◌+◌, ◌*◌, true, List, [], ◌∷◌, length, sym, ap, ◌∙◌, ap₂, add-mul, one-mul, zero-mul, arith, length-append}
use Rattle.std.specs.List.{AllByRecursion}
use Rattle.operation.specs.Meaning.{Meaning, Packing}
use Rattle.engine_parts.specs.Outputs.{packed}

-- one block more
pub next_start : (r w : ℕ) → r * w + w ≡ (r + 1) * w
next_start r w = sym (add-mul r 1 w ∙ ap (λ n. r * w + n) (one-mul w))

module _ {E : Type 0} (m : Meaning E) (packing : Packing m) where
  pub length-block : (x : E) → m.proper x ≡ true → length (m.pack x) ≡ m.width
  length-block x proper = packing.pack_length x proper

  pub length-packed : (xs : List E) → AllByRecursion (λ x. m.proper x ≡ true) xs → length (packed m xs) ≡ length xs * m.width
  length-packed [] all = sym (zero-mul m.width)
  length-packed (x ∷ xs) all =
      length-append (m.pack x) (packed m xs)
      ∙ ap₂ ◌+◌ (length-block x all.0) (length-packed xs all.1)
      ∙ again (length xs)
    where
      again : (k : ℕ) → m.width + k * m.width ≡ suc k * m.width
      again k =
          let s : m.width + k * m.width ≡ k * m.width + m.width = omega arith in
          let t : k + 1 ≡ suc k = omega arith in
          s ∙ next_start k m.width ∙ ap (λ i. i * m.width) t
