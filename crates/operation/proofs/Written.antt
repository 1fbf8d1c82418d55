-- A block at the front of lent words.
use Rattle.std.proofs.Common.{◌≡◌, ℕ, ◌+◌, ◌-◌, ◌≤◌, leb, List, [], ◌++◌, length, take, drop, refl, ap, ◌∙◌, ap₂, append-nil, arith, length-append, length-drop, take_all}
use borrow.Rule.Slice.PartMut.{put_mid}
use lib.Seq.{take-append-le}
use Rattle.std.proofs.lemmas.List.{drop_all}
use Rattle.std.proofs.lemmas.Bool.{cond-true, cond_both, leb-true, le-leb}
use Rattle.operation.specs.Meaning.{written}

pub written_enough : (b ws : List ℕ) → length b ≤ length ws → written b ws ≡ b ++ drop (length b) ws
unfolding written
written_enough b ws h = cond-true (leb (length b) (length ws)) (b ++ drop (length b) ws) ws (le-leb (length b) (length ws) h)

pub length-written : (b ws : List ℕ) → length (written b ws) ≡ length ws
unfolding written
length-written b ws =
    cond_both {A = List ℕ} (leb (length b) (length ws)) (b ++ drop (length b) ws) ws (λ r. length r ≡ length ws)
    (λ t. let h = leb-true (length b) (length ws) t in length-append b (drop (length b) ws) ∙ ap (λ n. length b + n) (length-drop (length b) ws) ∙ omega arith)
    (λ _. refl)

pub take-written : (b ws : List ℕ) → length b ≤ length ws → take (length b) (written b ws) ≡ b
take-written b ws h =
    ap (take (length b)) (written_enough b ws h)
    ∙ take-append-le (length b) b (drop (length b) ws) (omega arith)
    ∙ take_all (length b) b (omega arith)

-- a block written to `words[v..]`
pub written_behind : (v : ℕ) (xs b part : List ℕ) → part ≡ written b (take (length xs - v) (drop v xs))
    → put_mid v (length xs - v) xs part ≡ take v xs ++ written b (drop v xs)
written_behind v xs b part e =
    let whole : take (length xs - v) (drop v xs) ≡ drop v xs = take_all (length xs - v) (drop v xs) (simp length-drop (omega arith)) in
    let none : drop (length xs - v) (drop v xs) ≡ [] = drop_all (length xs - v) (drop v xs) (simp length-drop (omega arith)) in
    ap (λ r. take v xs ++ r) (ap₂ ◌++◌ (e ∙ ap (written b) whole) none ∙ append-nil (written b (drop v xs)))
