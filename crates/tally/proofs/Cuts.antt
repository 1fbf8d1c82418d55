-- The eight parts of a text, one after the other, are the text.
use Rattle.std.proofs.Common.{◌≡◌, ℕ, zero, suc, ◌+◌, ◌-◌, ◌*◌, ◌/◌, ◌≤◌, List, ◌++◌, length, take, Option, None, fold, sym, ap, ◌∙◌, ap₂, mul-le-mul_left, mul-zero, mul-one, mul-add, add-one, arith, take_all, take-add}
use Rattle.std.proofs.lemmas.List.Sums.{fold_more}
use Rattle.operation.specs.Text.{measured, text_join}
use Rattle.operation.specs.declared.text.Counts.{Counts}
use Rattle.operation.proofs.Measured.{measured_append}
use Rattle.tally.specs.Parts.{cut_at, part_of, PartsMeasured}

pub product_le : (len rank : ℕ) → rank ≤ 8 → len / 8 * rank ≤ len / 8 * 8
product_le len rank h = mul-le-mul_left (len / 8) h

pub cut_next : (len rank : ℕ) → cut_at len rank ≤ cut_at len (rank + 1)
cut_next len rank = omega (arith, mul-add (len / 8) rank 1, mul-one (len / 8))

cut_none : (len : ℕ) → cut_at len 0 ≡ 0
cut_none len = omega (arith, mul-zero (len / 8))

cut_all : (len : ℕ) → cut_at len 8 ≡ len
cut_all len = omega arith

-- the parts before a cut, and one part more
part_more : (text : List ℕ) (rank : ℕ)
    → take (cut_at (length text) rank) text ++ part_of text rank ≡ take (cut_at (length text) (rank + 1)) text
part_more text rank =
    let e : cut_at (length text) rank + (cut_at (length text) (rank + 1) - cut_at (length text) rank) ≡ cut_at (length text) (rank + 1) =
    omega (arith, cut_next (length text) rank) in
    sym (take-add (cut_at (length text) rank) (cut_at (length text) (rank + 1) - cut_at (length text) rank) text) ∙ ap (λ n. take n text) e

joined_before : (text : List ℕ) (parts : List (Option Counts)) → PartsMeasured text parts → (n : ℕ) → n ≤ 8
    → fold text_join None (take n parts) ≡ measured (take (cut_at (length text) n) text)
joined_before text parts m zero h = sym (ap (λ n. measured (take n text)) (cut_none (length text)))
joined_before text parts m (suc n) h =
    let e : n + 1 ≡ suc n = add-one n in
    ap (λ k. fold text_join None (take k parts)) (sym e)
    ∙ fold_more text_join None parts n None (omega (arith, m.number))
    ∙ ap₂ text_join (joined_before text parts m n (omega arith)) (m.each n (omega arith))
    ∙ sym (measured_append (take (cut_at (length text) n) text) (part_of text n))
    ∙ ap measured (part_more text n)
    ∙ ap (λ k. measured (take (cut_at (length text) k) text)) e

-- joining the elements of the parts in rank order gives the element of the text
pub joined_parts : (text : List ℕ) (parts : List (Option Counts)) → PartsMeasured text parts → fold text_join None parts ≡ measured text
joined_parts text parts m =
    ap (fold text_join None) (sym (take_all 8 parts (omega (arith, m.number))))
    ∙ joined_before text parts m 8 (omega arith)
    ∙ ap (λ n. measured (take n text)) (cut_all (length text))
    ∙ ap measured (take_all (length text) text (omega arith))
