-- A gap in the front of a list that closes, as the elements behind it move down by one place.
use Rattle.std.proofs.Common.{◌≡◌, ℕ, suc, ◌+◌, ◌-◌, ◌<◌, ◌≤◌, List, ◌++◌, length, take, drop, sym, ap, ◌∙◌, ap₂, arith}
use Rattle.std.specs.List.{copy_within, remove}
use Rattle.std.proofs.lemmas.List.{length-drop, take-take}
use Rattle.std.proofs.lemmas.List.Edits.{take-paste}
use Rattle.std.proofs.lemmas.Slice.{between_is}

pub gap_closed : {X : Type 0} (xs ys : List X) (at used : ℕ) → ys ≡ copy_within xs (at + 1) used at → at < used → used ≤ length xs → take (used - 1) ys ≡ remove (take used xs) at
gap_closed xs ys at used e h k =
    let last : used - 1 ≡ at + (used - (at + 1)) = omega arith in
    let next : at + 1 ≡ suc at = omega arith in
    ap (take (used - 1)) e
    ∙ ap (λ n. take n (copy_within xs (at + 1) used at)) last
    ∙ take-paste xs at (drop (at + 1) xs) (used - (at + 1)) (omega arith) (omega (arith, length-drop (at + 1) xs))
    ∙ ap₂ (λ l r. l ++ r) (sym (take-take at used xs (omega arith))) (between_is xs (at + 1) used ∙ ap (λ n. drop n (take used xs)) next)
