-- The answer of each kind.
use Rattle.std.proofs.Common.{◌≡◌, ℕ, zero, suc, ◌+◌, ◌-◌, ◌<◌, ◌≤◌, List, [], ◌∷◌, ◌++◌, length, take, drop, sym, refl, ap, ◌∙◌, ap₂, append_assoc, arith, length-append}
use lib.Seq.{take-append_seam, drop-append_seam}
use Rattle.std.proofs.lemmas.Bool.{eq-eqb, ne_eqb}
use Rattle.programme.specs.declared.Kind.{Kind}
use Rattle.programme.specs.declared.Kind.TheVariants.{Broadcast, Gather, Reduce, Scan, Exscan, Allreduce}
use Rattle.programme.specs.Monoid.{span}
use Rattle.programme.specs.Rank.{Rank}
use Rattle.programme.specs.Outcome.{others, final, Promised}
use Rattle.programme.specs.Answer.{row, answer, expected, Answers}
use Rattle.programme.proofs.Order.{comes_out}

row_same : {A : Type 0} (f g : ℕ → A) (n : ℕ) → ((k : ℕ) → k < n → f k ≡ g k) → row f n ≡ row g n
unfolding row
row_same f g zero h = refl
row_same f g (suc n) h = ap₂ (λ (l : List _) (x : _). l ++ (x ∷ [])) (row_same f g n (λ k l. h k (omega arith))) (h n (omega arith))

length-row : {A : Type 0} (f : ℕ → A) (n : ℕ) → length (row f n) ≡ n
unfolding row
length-row f zero = refl
length-row f (suc n) = length-append (row f n) (f n ∷ []) ∙ omega (arith, length-row f n)

-- a row up to `root`, the one there, and n more
row_parts : {A : Type 0} (f : ℕ → A) (root n : ℕ) → row f (root + 1 + n) ≡ row f root ++ (f root ∷ row (λ k. f (root + 1 + k)) n)
unfolding row
row_parts f root zero = let e : root + 1 + 0 ≡ suc root = omega arith in rw e
row_parts f root (suc n) =
    let e : root + 1 + suc n ≡ suc (root + 1 + n) = omega arith in
    rw e (ap (λ (l : List _). l ++ (f (root + 1 + n) ∷ [])) (row_parts f root n) ∙ append_assoc (row f root) (f root ∷ row (λ k. f (root + 1 + k)) n) (f (root + 1 + n) ∷ []))

others_below : {A : Type 0} (root : ℕ) (f : ℕ → A) (n : ℕ) → n ≤ root → others root f n ≡ row f n
unfolding others row
others_below root f zero h = refl
others_below root f (suc n) h = rw (ne_eqb n root (λ e. omega arith)) (ap (λ (l : List _). l ++ (f n ∷ [])) (others_below root f n (omega arith)))

others_parts : {A : Type 0} (root : ℕ) (f : ℕ → A) (n : ℕ) → others root f (root + 1 + n) ≡ row f root ++ row (λ k. f (root + 1 + k)) n
unfolding others row
others_parts root f zero =
    let e : root + 1 + 0 ≡ suc root = omega arith in
    rw (e, eq-eqb root root refl) (ap (λ (l : List _). l ++ []) (others_below root f root (omega arith)))
others_parts root f (suc n) =
    let e : root + 1 + suc n ≡ suc (root + 1 + n) = omega arith in
    rw (e, ne_eqb (root + 1 + n) root (λ q. omega arith)) (ap (λ (l : List _). l ++ (f (root + 1 + n) ∷ [])) (others_parts root f n) ∙ append_assoc (row f root) (row (λ k. f (root + 1 + k)) n) (f (root + 1 + n) ∷ []))

-- the root's own between the others
inserted : {A : Type 0} (root p : ℕ) (f : ℕ → A) → root < p → take root (others root f p) ++ (f root ∷ drop root (others root f p)) ≡ row f p
inserted root p f h =
    let n : ℕ = p - (root + 1) in
    let e : root + 1 + n ≡ p = omega arith in
    let parts : others root f p ≡ row f root ++ row (λ k. f (root + 1 + k)) n = ap (others root f) (sym e) ∙ others_parts root f n in
    let front : take root (others root f p) ≡ row f root = ap (take root) parts ∙ ap (λ (i : ℕ). take i (row f root ++ row (λ k. f (root + 1 + k)) n)) (sym (length-row f root)) ∙ take-append_seam (row f root) (row (λ k. f (root + 1 + k)) n) in
    let back : drop root (others root f p) ≡ row (λ k. f (root + 1 + k)) n = ap (drop root) parts ∙ ap (λ (i : ℕ). drop i (row f root ++ row (λ k. f (root + 1 + k)) n)) (sym (length-row f root)) ∙ drop-append_seam (row f root) (row (λ k. f (root + 1 + k)) n) in
    ap₂ (λ (x y : List _). x ++ (f root ∷ y)) front back ∙ sym (row_parts f root n) ∙ ap (row f) e

-- from what is promised of each rank
from_promised : (kind : Kind) {E : Type 0} (unit : E) (join : E → E → E) (p root : ℕ) (inputs : ℕ → E) (x : ℕ → Rank E) → root < p →
    ((r : ℕ) → r < p → Promised unit join p root inputs kind r (x r)) → answer kind p root x ≡ expected unit join kind p root inputs
from_promised Broadcast unit join p root inputs x h c = row_same (λ r. (x r).value) (λ r. inputs root) p c
from_promised Gather unit join p root inputs x h c =
    ap₂ (λ (v : _) (l : List _). take root l ++ (v ∷ drop root l)) (c root h refl).0 (c root h refl).1
    ∙ inserted root p inputs h
from_promised Reduce unit join p root inputs x h c = ap (λ (v : _). v ∷ []) (c root h refl)
from_promised Scan unit join p root inputs x h c = row_same (λ r. (x r).value) (λ r. span unit join inputs 0 (r + 1)) p c
from_promised Exscan unit join p root inputs x h c = row_same (λ r. (x r).prefix) (λ r. span unit join inputs 0 r) p c
from_promised Allreduce unit join p root inputs x h c = row_same (λ r. (x r).value) (λ r. span unit join inputs 0 p) p c

pub answers : (kind : Kind) (E : Type 0) → Answers kind E
answers kind E proper unit join laws p root h inputs ip =
    from_promised kind unit join p root inputs (final unit join kind p root inputs) h (comes_out kind E proper unit join laws p root h inputs ip).promised
