-- Programmes taken action by action.
use Rattle.std.proofs.Common.{◌≡◌, ℕ, zero, suc, ◌+◌, ◌<◌, ◌≤◌, cond, eqb, List, [], ◌∷◌, ◌++◌, length, take, drop, sym, refl, ap, ◌∙◌, inl, inr, append_assoc, add-one, arith, length-append, take-append-drop, take_all}
use mathlib.Core.Option.{Option, none, some}
use lib.ListN.{get_elem?}
use Rattle.std.proofs.lemmas.Bool.{ne_eqb, eq-eqb, eqb-true, cases_Bool, cases_eq}
use Rattle.programme.specs.declared.Action.{Action}
use Rattle.programme.specs.declared.Action.TheVariants.{Send, Take}
use Rattle.programme.specs.declared.Merge.{Merge}
use Rattle.programme.specs.Rank.{Rank, Mail, act, acts}
use Rattle.programme.specs.Solved.{Stands, Solved}
use Rattle.programme.specs.Formula.{sends as sends_in}
use Rattle.machine.specs.Sound.{sends_to, takes_from}

pub sends_to_append : (b : ℕ) (xs ys : List Action) → sends_to b (xs ++ ys) ≡ sends_to b xs + sends_to b ys
sends_to_append b [] ys = omega arith
sends_to_append b (Send to label ∷ xs) ys = omega (arith, sends_to_append b xs ys)
sends_to_append b (Take from label m ∷ xs) ys = sends_to_append b xs ys

pub takes_from_append : (a : ℕ) (xs ys : List Action) → takes_from a (xs ++ ys) ≡ takes_from a xs + takes_from a ys
takes_from_append a [] ys = omega arith
takes_from_append a (Send to label ∷ xs) ys = takes_from_append a xs ys
takes_from_append a (Take from label m ∷ xs) ys = omega (arith, takes_from_append a xs ys)

pub sends_in_append : (xs ys : List Action) → sends_in (xs ++ ys) ≡ sends_in xs + sends_in ys
sends_in_append [] ys = omega arith
sends_in_append (Send to label ∷ xs) ys = omega (arith, sends_in_append xs ys)
sends_in_append (Take from label m ∷ xs) ys = sends_in_append xs ys

pub sends_to_take : (b d : ℕ) (xs : List Action) → sends_to b (take d xs) ≤ sends_to b xs
sends_to_take b d xs =
    let parts : sends_to b xs ≡ sends_to b (take d xs) + sends_to b (drop d xs) = ap (sends_to b) (sym (take-append-drop d xs)) ∙ sends_to_append b (take d xs) (drop d xs) in
    omega arith

-- an action more
pub acts_push : {E : Type 0} (join : E → E → E) (mail : ℕ → Mail E) (xs : List Action) (a : Action) (x : Rank E) → acts join mail (xs ++ (a ∷ [])) x ≡ act join mail a (acts join mail xs x)
acts_push join mail [] a x = refl
acts_push join mail (b ∷ xs) a x = acts_push join mail xs a (act join mail b x)

-- the action at a place
pub record Next (l : List Action) (d : ℕ) (x : Action) : Type 0 where
  pub within : d < length l
  pub more : take (d + 1) l ≡ take d l ++ (x ∷ [])
  pub split : l ≡ take d l ++ (x ∷ drop (suc d) l)

pub next : (l : List Action) (d : ℕ) (x : Action) → get_elem? l d ≡ some x → Next l d x
next [] d x e = let z : ◌≡◌ {A = ℕ} 0 1 = cc in absurd (omega arith)
next (y ∷ l) zero x e =
    let same : y ≡ x = cc in
    record { within = omega arith; more = ap (λ z. z ∷ []) same; split = ap (λ z. z ∷ l) same }
next (y ∷ l) (suc d) x e =
    let n = next l d x e in
    let step : suc d + 1 ≡ suc (d + 1) = omega arith in
    record {
      within = omega arith;
      more = ap (λ k. take k (y ∷ l)) step ∙ ap (λ z. y ∷ z) n.more;
      split = ap (λ z. y ∷ z) n.split;
    }

pub next_none : (l : List Action) (d : ℕ) → get_elem? l d ≡ none → length l ≤ d
next_none [] d e = omega arith
next_none (y ∷ l) zero e = let z : ◌≡◌ {A = ℕ} 0 1 = cc in absurd (omega arith)
next_none (y ∷ l) (suc d) e = let h = next_none l d e in omega arith

pub stand_cons : (x : Action) {xs : List Action} {here : Action} → Stands xs here → Stands (x ∷ xs) here
stand_cons x s = record { before = x ∷ s.before; behind = s.behind; split = ap (λ l. x ∷ l) s.split }

-- a send among the first actions
pub stand_send : (b : ℕ) (xs : List Action) → 0 < sends_to b xs → (label : ℕ) × Stands xs (Send b label)
stand_send b [] h = absurd (omega arith)
stand_send b (Take from label m ∷ xs) h =
    let s = stand_send b xs h in
    (s.0, stand_cons (Take from label m) s.1)
stand_send b (Send to label ∷ xs) h =
    elim (cases_Bool (eqb to b)) [
      | inl e ↦ (label, record { before = []; behind = xs; split = ap (λ z. Send z label ∷ xs) (eqb-true to b e) })
      | inr e ↦
          let g : 0 < sends_to b xs = omega (arith, rw e at h) in
          let s = stand_send b xs g in
          (s.0, stand_cons (Send to label) s.1)
    ]

pub stand_take : (a : ℕ) (xs : List Action) (label : ℕ) (m : Merge) → Stands xs (Take a label m) → 0 < takes_from a xs
stand_take a xs label m s =
    let parts : takes_from a xs ≡ takes_from a s.before + (1 + takes_from a s.behind)
    = ap (takes_from a) s.split
    ∙ takes_from_append a s.before (Take a label m ∷ s.behind)
    ∙ ap (λ b. takes_from a s.before + (cond b 1 0 + takes_from a s.behind)) (eq-eqb a a refl) in
    omega arith

stand_lift : (d : ℕ) (xs : List Action) (x : Action) (s : Stands (take d xs) x) → xs ≡ s.before ++ (x ∷ (s.behind ++ drop d xs))
stand_lift d xs x s = sym (take-append-drop d xs) ∙ ap (λ l. l ++ drop d xs) s.split ∙ append_assoc s.before (x ∷ s.behind) (drop d xs)

stand_short : (d : ℕ) (xs : List Action) (x : Action) (s : Stands (take d xs) x) → length s.before < length (take d xs)
stand_short d xs x s = omega (arith, ap length s.split ∙ length-append s.before (x ∷ s.behind))

module _ {E : Type 0} {join : E → E → E} {p : ℕ} {programme : ℕ → List Action} {start : ℕ → Rank E} {mail : ℕ → ℕ → Mail E} (solved : Solved join p programme start mail) where
  -- before a rank sends to another it has sent it nothing
  pub first_send : (a b d label : ℕ) → a < p → get_elem? (programme a) d ≡ some (Send b label) → sends_to b (take d (programme a)) ≡ 0
  first_send a b d label within e = go (sends_to b (take d (programme a))) refl
    where
      go : (n : ℕ) → sends_to b (take d (programme a)) ≡ n → n ≡ 0
      go zero f = refl
      go (suc n) f =
          let here = next (programme a) d (Send b label) e in
          let s = stand_send b (take d (programme a)) (omega arith) in
          let same = solved.send_once a b label s.0 within
          (record { before = take d (programme a); behind = drop (suc d) (programme a); split = here.split })
          (record { before = s.1.before; behind = s.1.behind ++ drop d (programme a); split = stand_lift d (programme a) (Send b s.0) s.1 }) in
          absurd (omega (arith, ap length same, stand_short d (programme a) (Send b s.0) s.1))

  -- a rank sends to another once at most
  pub one_send : (a b d : ℕ) → a < p → sends_to b (take d (programme a)) ≤ 1
  one_send a b zero within = omega arith
  one_send a b (suc d) within = go (get_elem? (programme a) d) refl (one_send a b d within)
    where
      go : (o : Option Action) → get_elem? (programme a) d ≡ o → sends_to b (take d (programme a)) ≤ 1 → sends_to b (take (suc d) (programme a)) ≤ 1
      go none e h =
          let short = next_none (programme a) d e in
          let here : take (suc d) (programme a) ≡ take d (programme a) = take_all (suc d) (programme a) (omega arith) ∙ sym (take_all d (programme a) short) in
          rw here h
      go (some (Take from label m)) e h =
          let n = next (programme a) d (Take from label m) e in
          rw (sym (add-one d), n.more, sends_to_append b (take d (programme a)) (Take from label m ∷ [])) (omega arith)
      go (some (Send to label)) e h =
          let n = next (programme a) d (Send to label) e in
          rw (sym (add-one d), n.more, sends_to_append b (take d (programme a)) (Send to label ∷ []))
          (elim (cases_eq to b) [
            | inl f ↦
                let none_yet = first_send a b d label within (e ∙ ap (λ z. some (Send z label)) f) in
                rw (eq-eqb to b f) (omega arith)
            | inr f ↦ rw (ne_eqb to b f) (omega arith)
          ])

  -- what a rank sends to another in its whole programme, that one takes
  pub balanced : (a b : ℕ) → a < p → sends_to b (programme a) ≤ takes_from a (programme b)
  balanced a b within =
      let whole : take (length (programme a)) (programme a) ≡ programme a = take_all (length (programme a)) (programme a) (omega arith) in
      let once : sends_to b (programme a) ≤ 1 = rw whole at (one_send a b (length (programme a)) within) in
      go (sends_to b (programme a)) refl once
    where
      go : (n : ℕ) → sends_to b (programme a) ≡ n → n ≤ 1 → n ≤ takes_from a (programme b)
      go zero e h = omega arith
      go (suc n) e h =
          let s = stand_send b (programme a) (omega arith) in
          let met = solved.send_met a b s.0 within s.1 in
          let some_take = stand_take a (programme b) s.0 met.0 met.1 in
          omega arith

  -- a rank sends to ranks below p alone
  pub sends_within : (a b : ℕ) → a < p → p ≤ b → sends_to b (programme a) ≡ 0
  sends_within a b within beyond = go (sends_to b (programme a)) refl
    where
      go : (n : ℕ) → sends_to b (programme a) ≡ n → n ≡ 0
      go zero e = refl
      go (suc n) e =
          let s = stand_send b (programme a) (omega arith) in
          absurd (omega (arith, (solved.send_rank a b s.0 within s.1).0))
