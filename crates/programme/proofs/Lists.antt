-- What stands in a list of actions, and what a run of them comes to.
use Rattle.std.proofs.Common.{◌≡◌, ℕ, zero, suc, ◌+◌, ◌<◌, ◌≤◌, Bool, true, false, cond, List, [], ◌∷◌, ◌++◌, length, sym, refl, ap, ◌∙◌, subst, ⊎_elim, append_assoc, arith}
use Rattle.std.proofs.lemmas.Bool.{cases_lt}
use Rattle.programme.specs.declared.Action.{Action}
use Rattle.programme.specs.declared.Action.TheVariants.{Send, Take}
use Rattle.programme.specs.declared.Merge.{Merge}
use Rattle.programme.specs.Programme.{steps, when}
use Rattle.programme.specs.Rank.{Rank, Mail, acts, act}
use Rattle.programme.specs.Solved.{Stands}
use Rattle.ranks.specs.Ranks.{sum_below}
use Rattle.programme.specs.Formula.{sends}

-- P of each action, with those before it
abbrev pub Every : (List Action → Action → Type 0) → List Action → Type 0
Every P [] = Unit {0}
Every P (a ∷ more) = P [] a × Every (λ before. P (a ∷ before)) more

every_split : (P : List Action → Action → Type 0) (before : List Action) (here : Action) (behind : List Action) →
    Every P (before ++ (here ∷ behind)) → P before here
every_split P [] here behind h = h.0
every_split P (b ∷ before) here behind h = every_split (λ x. P (b ∷ x)) before here behind h.1

pub every_stands : (P : List Action → Action → Type 0) (actions : List Action) (here : Action) → Every P actions → (s : Stands actions here) → P s.before here
every_stands P actions here h s = every_split P s.before here s.behind (subst (λ (x : List Action). Every P x) s.split h)

pub every_append : (P : List Action → Action → Type 0) (xs ys : List Action) → Every P xs → Every (λ before. P (xs ++ before)) ys → Every P (xs ++ ys)
every_append P [] ys h k = k
every_append P (x ∷ xs) ys h k = (h.0, every_append (λ before. P (x ∷ before)) xs ys h.1 k)

pub every_steps : (P : List Action → Action → Type 0) (f : ℕ → List Action) (n : ℕ) →
    ((k : ℕ) → k < n → Every (λ before. P (steps f k ++ before)) (f k)) → Every P (steps f n)
unfolding steps
every_steps P f zero h = tt
every_steps P f (suc n) h = every_append P (steps f n) (f n) (every_steps P f n (λ k l. h k (omega arith))) (h n (omega arith))

pub every_when : (P : List Action → Action → Type 0) (test : Bool) (a : Action) → (test ≡ true → P [] a) → Every P (when test a)
every_when P true a h = (h refl, tt)
every_when P false a h = tt

pub stands_first : (a : Action) (more : List Action) → Stands (a ∷ more) a
stands_first a more = record { before = []; behind = more; split = refl }

-- the same action at the same rank, by other names
pub moved_stands : (f : ℕ → List Action) (r r' : ℕ) (x y : Action) → r ≡ r' → x ≡ y → Stands (f r') y → Stands (f r) x
moved_stands f r r' x y d e s = rw (d, e) s

pub stands_left : (xs ys : List Action) (a : Action) → Stands xs a → Stands (xs ++ ys) a
stands_left xs ys a s = record { before = s.before; behind = s.behind ++ ys; split = ap (λ (l : List Action). l ++ ys) s.split ∙ append_assoc s.before (a ∷ s.behind) ys }

pub stands_right : (xs ys : List Action) (a : Action) → Stands ys a → Stands (xs ++ ys) a
stands_right xs ys a s = record { before = xs ++ s.before; behind = s.behind; split = ap (λ (l : List Action). xs ++ l) s.split ∙ sym (append_assoc xs s.before (a ∷ s.behind)) }

pub stands_when : (test : Bool) (a : Action) → test ≡ true → Stands (when test a) a
stands_when test a e = subst (λ (b : Bool). Stands (when b a) a) (sym e) (stands_first a [])

pub stands_steps : (f : ℕ → List Action) (n k : ℕ) (a : Action) → k < n → Stands (f k) a → Stands (steps f n) a
unfolding steps
stands_steps f zero k a h s = absurd (omega arith)
stands_steps f (suc n) k a h s =
    ⊎_elim
    (λ (l : k < n). stands_left (steps f n) (f n) a (stands_steps f n k a l s))
    (λ (l : n ≤ k). stands_right (steps f n) (f n) a (subst (λ (x : ℕ). Stands (f x) a) (let q : k ≡ n = omega arith in q) s))
    (cases_lt k n)

pub steps_next : (f : ℕ → List Action) (n : ℕ) → steps f (suc n) ≡ steps f n ++ f n
unfolding steps
steps_next f n = refl

pub steps_same : (f g : ℕ → List Action) (n : ℕ) → ((k : ℕ) → k < n → f k ≡ g k) → steps f n ≡ steps g n
unfolding steps
steps_same f g zero h = refl
steps_same f g (suc n) h = rw (steps_same f g n (λ k l. h k (omega arith)), h n (omega arith))

pub acts_append : {E : Type 0} (join : E → E → E) (mail : ℕ → Mail E) (xs ys : List Action) (x : Rank E) →
    acts join mail (xs ++ ys) x ≡ acts join mail ys (acts join mail xs x)
acts_append join mail [] ys x = refl
acts_append join mail (a ∷ xs) ys x = acts_append join mail xs ys (act join mail a x)

-- a rank that begins with no action done has done as many as it was given
pub acts_done : {E : Type 0} (join : E → E → E) (mail : ℕ → Mail E) (actions : List Action) (x : Rank E) → (acts join mail actions x).done ≡ x.done + length actions
acts_done join mail [] x = omega arith
acts_done join mail (a ∷ more) x = omega (arith, acts_done join mail more (act join mail a x), one_more join mail a x)
  where
    one_more : {E : Type 0} (join : E → E → E) (mail : ℕ → Mail E) (a : Action) (x : Rank E) → (act join mail a x).done ≡ x.done + 1
    one_more join mail (Send to label) x = refl
    one_more join mail (Take from label m) x = refl

pub sends_append : (xs ys : List Action) → sends (xs ++ ys) ≡ sends xs + sends ys
sends_append [] ys = omega arith
sends_append (Send to label ∷ xs) ys = omega (arith, sends_append xs ys)
sends_append (Take from label m ∷ xs) ys = sends_append xs ys

pub sends_steps : (f : ℕ → List Action) (n : ℕ) → sends (steps f n) ≡ sum_below (λ k. sends (f k)) n
unfolding steps
sends_steps f zero = refl
sends_steps f (suc n) = sends_append (steps f n) (f n) ∙ ap (λ (x : ℕ). x + sends (f n)) (sends_steps f n)

pub sends_when : (test : Bool) (to label : ℕ) → sends (when test (Send to label)) ≡ cond test 1 0
sends_when true to label = refl
sends_when false to label = refl

pub sends_when_take : (test : Bool) (from label : ℕ) (m : Merge) → sends (when test (Take from label m)) ≡ 0
sends_when_take true from label m = refl
sends_when_take false from label m = refl
