-- What stands at an index of a rank's programme in a gather.
use Rattle.std.proofs.Common.{◌≡◌, ℕ, suc, ◌+◌, ◌-◌, ◌<◌, ◌≤◌, not, eqb, List, [], ◌∷◌, ◌++◌, length, Some, sym, refl, ap, ◌∙◌, append-nil, arith, length-append}
use Rattle.std.specs.List.{slice_get}
use Rattle.std.proofs.lemmas.Bool.{eq-eqb, ne_eqb}
use Rattle.programme.specs.declared.Action.{Action}
use Rattle.programme.specs.declared.Action.TheVariants.{Send, Take}
use Rattle.programme.specs.declared.Merge.TheVariants.{Keep}
use Rattle.programme.specs.Label.{collect}
use Rattle.programme.specs.Programme.{steps, when, gather}
use Rattle.programme.proofs.Lists.{steps_next}
use Rattle.schedule.proofs.Positions.{listed, length-listed, nth_listed, nth_left, nth_right, steps_single}

pub elsewhere : (p root r : ℕ) → (r ≡ root → ⊥) → gather p root r ≡ Send root collect ∷ []
unfolding gather
elsewhere p root r n = rw (ne_eqb r root n)

abbrev take : ℕ → Action
take a = Take a collect Keep

abbrev taking : ℕ → ℕ → List Action
taking root a = when (not (eqb a root)) (take a)

taking_other : (root a : ℕ) → (a ≡ root → ⊥) → taking root a ≡ take a ∷ []
taking_other root a n = rw (ne_eqb a root n)

taking_root : (root : ℕ) → taking root root ≡ []
taking_root root = rw (eq-eqb root root refl)

before_root : (root : ℕ) → steps (taking root) root ≡ listed take 0 root
unfolding steps
before_root root =
    steps_single (taking root) take 0 root (omega arith) (λ k a b. taking_other root k (λ e. omega arith))
    ∙ ap (listed take 0) (let e : root - 0 ≡ root = omega arith in e)

pub at_root : (p root r : ℕ) → root < p → r ≡ root → gather p root r ≡ listed take 0 root ++ listed take (suc root) (p - suc root)
unfolding gather
at_root p root r h e =
    let q : gather p root r ≡ steps (taking root) p = rw (eq-eqb r root e) in
    q
    ∙ steps_single (taking root) take (suc root) p (omega arith) (λ k a b. taking_other root k (λ e. omega arith))
    ∙ ap (λ (l : List Action). l ++ listed take (suc root) (p - suc root))
    (steps_next (taking root) root ∙ ap (λ (l : List Action). steps (taking root) root ++ l) (taking_root root) ∙ append-nil (steps (taking root) root) ∙ before_root root)

pub root_length : (p root r : ℕ) → root < p → r ≡ root → p - 1 ≡ length (gather p root r)
root_length p root r h e =
    rw (at_root p root r h e, length-append (listed take 0 root) (listed take (suc root) (p - suc root)), length-listed take 0 root, length-listed take (suc root) (p - suc root)) (omega arith)

pub root_early : (p root r i : ℕ) → root < p → r ≡ root → i < root → Some (take i) ≡ slice_get (gather p root r) i
root_early p root r i h e l =
    rw (at_root p root r h e)
    (sym
    (nth_left (listed take 0 root) (listed take (suc root) (p - suc root)) i (omega (arith, length-listed take 0 root))
    ∙ nth_listed take 0 root i l
    ∙ ap (λ (k : ℕ). Some (take k)) (let q : 0 + i ≡ i = omega arith in q)))

pub root_late : (p root r i : ℕ) → root < p → r ≡ root → root ≤ i → i < p - 1 → Some (take (i + 1)) ≡ slice_get (gather p root r) i
root_late p root r i h e l m =
    let len : length (listed take 0 root) ≡ root = length-listed take 0 root in
    rw (at_root p root r h e)
    (sym
    (nth_right (listed take 0 root) (listed take (suc root) (p - suc root)) i (omega arith)
    ∙ nth_listed take (suc root) (p - suc root) (i - length (listed take 0 root)) (omega arith)
    ∙ ap (λ (k : ℕ). Some (take k)) (let q : suc root + (i - length (listed take 0 root)) ≡ i + 1 = omega arith in q)))

pub other_first : (p root r i : ℕ) → (r ≡ root → ⊥) → i ≡ 0 → Some (Send root collect) ≡ slice_get (gather p root r) i
other_first p root r i n e = rw (elsewhere p root r n, e)

pub other_length : (p root r : ℕ) → (r ≡ root → ⊥) → 1 ≡ length (gather p root r)
other_length p root r n = rw (elsewhere p root r n)
