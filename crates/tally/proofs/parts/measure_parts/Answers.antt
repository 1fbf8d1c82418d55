use Rattle.std.proofs.Common.{rules, ◌≡◌, ℕ, zero, suc, ◌+◌, ◌<◌, List, None, subst, sym, arith, slice_index_or}
use denote.Param.Members.{Mut, Called}
use Rattle.std.specs.Array.{IsFromFnResultFrom}
use Rattle.operation.specs.Text.{measured}
use Rattle.tally.specs.Parts.{part_of}
use Rattle.tally.proofs.parts.measure_parts.Goals as goal

-- what holds of each call's result holds of each element, where no call changes the closure
made : {F B : Type 0} (g : Mut F (ℕ × Unit {0}) B) (P : ℕ → B → Type 0) (f : F)
    → ((i : ℕ) (y : B) (q : F) → Called g f (i, tt) y q → (q ≡ f) × P i y)
    → (ys : List B) (i n : ℕ) → IsFromFnResultFrom g f ys i n → (k j : ℕ) → j ≡ i + k → k < n → (d : B) → P j (slice_index_or ys j d)
made g P f step ys i zero gave k j e h d = absurd (omega arith)
made g P f step ys i (suc n) (q, y, at, called, more) zero j e h d =
    let here : i ≡ j = omega arith in
    subst (λ m. P m (slice_index_or ys m d)) here (subst (P i) (sym (at.1 d)) (step i y q called).1)
made g P f step ys i (suc n) (q, y, at, called, more) (suc k) j e h d =
    made g P f step ys (i + 1) n (subst (λ p. IsFromFnResultFrom g p ys (i + 1) n) (step i y q called).0 more) k j (omega arith) (omega arith) d

pub returns : goal.returns
returns c = record {
  number = c.from_fn.ensures.items.long;
  each = λ rank h. made _ (λ i y. y ≡ measured (part_of c.args.text.now i)) _ (λ i y q called. search rules) _ 0 8 c.from_fn.ensures.items.each rank rank (omega arith) h None;
}
