-- A rank takes from each other rank once at most, so it keeps fewer values than there are ranks.
use Rattle.std.proofs.Common.{◌≡◌, ℕ, zero, suc, ◌+◌, ◌<◌, ◌≤◌, cond, eqb, List, [], ◌∷◌, ◌++◌, length, take, drop, sym, refl, ap, ◌∙◌, inl, inr, append_assoc, add-one, arith, length-append, take-append-drop, take_all}
use mathlib.Core.Option.{Option, none, some}
use lib.ListN.{get_elem?}
use Rattle.std.proofs.lemmas.Bool.{ne_eqb, eq-eqb, eqb-true, cases_Bool, cases_eq}
use Rattle.programme.specs.declared.Action.{Action}
use Rattle.programme.specs.declared.Action.TheVariants.{Send, Take}
use Rattle.programme.specs.declared.Merge.{Merge}
use Rattle.programme.specs.declared.Merge.TheVariants.{Replace, Keep, Before, After, Prefix}
use Rattle.programme.specs.Rank.{Rank, Mail, act, acts}
use Rattle.programme.specs.Solved.{Solved, Stands, state}
use Rattle.machine.specs.Operation.{Meaning}
use Rattle.machine.specs.Network.{Message}
use Rattle.ranks.specs.Ranks.{sum_below}
use Rattle.machine.specs.Job.{Job, rank_of, actions}
use Rattle.machine.specs.Sound.{takes_from, JobSound}
use Rattle.machine.proofs.Actions.{next, next_none, stand_cons, takes_from_append}
use Rattle.ranks.proofs.Sums.{sum_lt, sum_same, sum-add, sum_one, sum_zeros}
use Rattle.machine.proofs.Tests.{eqb_swap}

-- how many of the actions are takes
abbrev takes_in : List Action → ℕ
takes_in [] = 0
takes_in (Send to label ∷ more) = takes_in more
takes_in (Take from label m ∷ more) = suc (takes_in more)

takes_in_append : (xs ys : List Action) → takes_in (xs ++ ys) ≡ takes_in xs + takes_in ys
takes_in_append [] ys = omega arith
takes_in_append (Send to label ∷ xs) ys = takes_in_append xs ys
takes_in_append (Take from label m ∷ xs) ys = omega (arith, takes_in_append xs ys)

stand_taken : (a : ℕ) (xs : List Action) → 0 < takes_from a xs → (label : ℕ) × (m : Merge) × Stands xs (Take a label m)
stand_taken a [] h = absurd (omega arith)
stand_taken a (Send to label ∷ xs) h =
    let s = stand_taken a xs h in
    (s.0, s.1, stand_cons (Send to label) s.2)
stand_taken a (Take from label m ∷ xs) h =
    elim (cases_Bool (eqb from a)) [
      | inl e ↦ (label, m, record { before = []; behind = xs; split = ap (λ z. Take z label m ∷ xs) (eqb-true from a e) })
      | inr e ↦
          let g : 0 < takes_from a xs = omega (arith, rw e at h) in
          let s = stand_taken a xs g in
          (s.0, s.1, stand_cons (Take from label m) s.2)
    ]

-- at most one from each place but one
but_one : (r n : ℕ) (f : ℕ → ℕ) → r < n → ((i : ℕ) → f i ≤ 1) → f r ≡ 0 → sum_below f n < n
but_one r n f below most here =
    let lt = sum_lt f (λ i. 1) n (λ i _. most i) r below (omega arith) in
    omega (arith, ones n)
  where
    ones : (k : ℕ) → sum_below (λ i. 1) k ≡ k
    ones zero = refl
    ones (suc k) = omega (arith, ones k)

module _ {E : Type 0} {join : E → E → E} {p : ℕ} {programme : ℕ → List Action} {start : ℕ → Rank E} {mail : ℕ → ℕ → Mail E} (solved : Solved join p programme start mail) (r : ℕ) (below : r < p) where
  -- before a rank takes from another it has taken nothing from it
  pub first_take : (a d label : ℕ) (m : Merge) → get_elem? (programme r) d ≡ some (Take a label m) → takes_from a (take d (programme r)) ≡ 0
  first_take a d label m e = go (takes_from a (take d (programme r))) refl
    where
      go : (n : ℕ) → takes_from a (take d (programme r)) ≡ n → n ≡ 0
      go zero f = refl
      go (suc n) f =
          let here = next (programme r) d (Take a label m) e in
          let s = stand_taken a (take d (programme r)) (omega arith) in
          let whole : programme r ≡ s.2.before ++ (Take a s.0 s.1 ∷ (s.2.behind ++ drop d (programme r)))
          = sym (take-append-drop d (programme r)) ∙ ap (λ l. l ++ drop d (programme r)) s.2.split ∙ append_assoc s.2.before (Take a s.0 s.1 ∷ s.2.behind) (drop d (programme r)) in
          let same = solved.take_once a r label s.0 m s.1 below
          (record { before = take d (programme r); behind = drop (suc d) (programme r); split = here.split })
          (record { before = s.2.before; behind = s.2.behind ++ drop d (programme r); split = whole }) in
          absurd (omega (arith, ap length same, ap length s.2.split, length-append s.2.before (Take a s.0 s.1 ∷ s.2.behind)))

  -- one action more
  abbrev pushed : ℕ → Action → Type 0
  pushed d x = take (suc d) (programme r) ≡ take d (programme r) ++ (x ∷ [])

  push : (d : ℕ) (x : Action) → get_elem? (programme r) d ≡ some x → pushed d x
  push d x e = ap (λ k. take k (programme r)) (sym (add-one d)) ∙ (next (programme r) d x e).more

  stop : (d : ℕ) → get_elem? (programme r) d ≡ none → take (suc d) (programme r) ≡ take d (programme r)
  stop d e =
      let short = next_none (programme r) d e in
      take_all (suc d) (programme r) (omega arith) ∙ sym (take_all d (programme r) short)

  from_within : (a d label : ℕ) (m : Merge) → get_elem? (programme r) d ≡ some (Take a label m) → (a < p) × (a ≡ r → ⊥)
  from_within a d label m e =
      solved.take_rank a r label m below (record { before = take d (programme r); behind = drop (suc d) (programme r); split = (next (programme r) d (Take a label m) e).split })

  one_take : (a d : ℕ) → takes_from a (take d (programme r)) ≤ 1
  one_take a zero = omega arith
  one_take a (suc d) = go (get_elem? (programme r) d) refl (one_take a d)
    where
      go : (o : Option Action) → get_elem? (programme r) d ≡ o → takes_from a (take d (programme r)) ≤ 1 → takes_from a (take (suc d) (programme r)) ≤ 1
      go none e h = rw (stop d e) h
      go (some (Send to label)) e h = rw (push d (Send to label) e, takes_from_append a (take d (programme r)) (Send to label ∷ [])) (omega arith)
      go (some (Take from label m)) e h =
          rw (push d (Take from label m) e, takes_from_append a (take d (programme r)) (Take from label m ∷ []))
          (elim (cases_eq from a) [
            | inl f ↦
                let none_yet = first_take a d label m (e ∙ ap (λ z. some (Take z label m)) f) in
                rw (eq-eqb from a f) (omega arith)
            | inr f ↦ rw (ne_eqb from a f) (omega arith)
          ])

  none_own : (d : ℕ) → takes_from r (take d (programme r)) ≡ 0
  none_own zero = refl
  none_own (suc d) = go (get_elem? (programme r) d) refl (none_own d)
    where
      go : (o : Option Action) → get_elem? (programme r) d ≡ o → takes_from r (take d (programme r)) ≡ 0 → takes_from r (take (suc d) (programme r)) ≡ 0
      go none e h = rw (stop d e) h
      go (some (Send to label)) e h = rw (push d (Send to label) e, takes_from_append r (take d (programme r)) (Send to label ∷ [])) (omega arith)
      go (some (Take from label m)) e h =
          rw (push d (Take from label m) e, takes_from_append r (take d (programme r)) (Take from label m ∷ []), ne_eqb from r (from_within from d label m e).1) (omega arith)

  each_push : (xs : List Action) (x : Action) → sum_below (λ a. takes_from a (xs ++ (x ∷ []))) p ≡ sum_below (λ a. takes_from a xs) p + sum_below (λ a. takes_from a (x ∷ [])) p
  each_push xs x = sum_same _ _ p (λ a _. takes_from_append a xs (x ∷ [])) ∙ sum-add (λ a. takes_from a xs) (λ a. takes_from a (x ∷ [])) p

  one_taken : (from label : ℕ) (m : Merge) → from < p → sum_below (λ a. takes_from a (Take from label m ∷ [])) p ≡ 1
  one_taken from label m within =
      sum_same (λ a. takes_from a (Take from label m ∷ [])) (λ a. cond (eqb a from) 1 0) p
      (λ a _.
      let same : ◌≡◌ {A = ℕ} (cond (eqb from a) 1 0) (cond (eqb a from) 1 0) = ap (λ t. cond t 1 0) (eqb_swap from a) in
      omega arith)
      ∙ sum_one from 1 p within

  takes_are : (d : ℕ) → takes_in (take d (programme r)) ≡ sum_below (λ a. takes_from a (take d (programme r))) p
  takes_are zero = sym (sum_zeros (λ a. 0) p (λ _ _. refl))
  takes_are (suc d) = go (get_elem? (programme r) d) refl (takes_are d)
    where
      go : (o : Option Action) → get_elem? (programme r) d ≡ o → takes_in (take d (programme r)) ≡ sum_below (λ a. takes_from a (take d (programme r))) p
          → takes_in (take (suc d) (programme r)) ≡ sum_below (λ a. takes_from a (take (suc d) (programme r))) p
      go none e h = rw (stop d e) h
      go (some (Send to label)) e h =
          rw (push d (Send to label) e)
          (omega (arith, takes_in_append (take d (programme r)) (Send to label ∷ []), each_push (take d (programme r)) (Send to label), sum_zeros (λ a. 0) p (λ _ _. refl)))
      go (some (Take from label m)) e h =
          rw (push d (Take from label m) e)
          (omega (arith, takes_in_append (take d (programme r)) (Take from label m ∷ []), each_push (take d (programme r)) (Take from label m), one_taken from label m (from_within from d label m e).0))

  -- takes leave fewer than p
  takes_few : (d : ℕ) → takes_in (take d (programme r)) < p
  takes_few d = omega (arith, takes_are d, but_one r p (λ a. takes_from a (take d (programme r))) below (λ a. one_take a d) (none_own d))

  -- what is kept was taken
  kept_taken : (start r).kept ≡ [] → (d : ℕ) → length (state join p programme start mail r (take d (programme r))).kept ≤ takes_in (take d (programme r))
  kept_taken none_kept d = go (take d (programme r))
    where
      acts_kept : (xs : List Action) (x : Rank E) → length (acts join (λ a. mail a r) xs x).kept ≤ length x.kept + takes_in xs
      acts_kept [] x = omega arith
      acts_kept (Send to label ∷ xs) x = acts_kept xs (act join (λ a. mail a r) (Send to label) x)
      acts_kept (Take from label Replace ∷ xs) x = omega (arith, acts_kept xs (act join (λ a. mail a r) (Take from label Replace) x))
      acts_kept (Take from label Keep ∷ xs) x = omega (arith, acts_kept xs (act join (λ a. mail a r) (Take from label Keep) x), length-append x.kept ((mail from r).value ∷ []))
      acts_kept (Take from label Before ∷ xs) x = omega (arith, acts_kept xs (act join (λ a. mail a r) (Take from label Before) x))
      acts_kept (Take from label After ∷ xs) x = omega (arith, acts_kept xs (act join (λ a. mail a r) (Take from label After) x))
      acts_kept (Take from label Prefix ∷ xs) x = omega (arith, acts_kept xs (act join (λ a. mail a r) (Take from label Prefix) x))

      go : (xs : List Action) → length (state join p programme start mail r xs).kept ≤ takes_in xs
      go xs = omega (arith, acts_kept xs (start r), ap length none_kept)

module _ {E : Type 0} (m : Meaning E) (p : ℕ) (w : ℕ → ℕ → List Message) (job : Job E) (h : JobSound m p w job) (r : ℕ) (below : r < p) where
  pub kept_few : length (rank_of m job r).kept < p
  kept_few =
      omega (
        arith,
        ap (λ x. length x.kept) (h.rank_sound r below).known,
        kept_taken h.plan.solved r below refl (rank_of m job r).done,
        takes_few h.plan.solved r below (rank_of m job r).done,
      )

  -- before a take there is room for one more
  pub kept_room : (from label : ℕ) (merge : Merge) → get_elem? (actions p job r) (rank_of m job r).done ≡ some (Take from label merge) → length (rank_of m job r).kept + 1 < p
  kept_room from label merge here =
      let d = (rank_of m job r).done in
      let more = ap takes_in (push h.plan.solved r below d (Take from label merge) here) ∙ takes_in_append (take d (actions p job r)) (Take from label merge ∷ []) in
      omega (
        arith,
        ap (λ x. length x.kept) (h.rank_sound r below).known,
        kept_taken h.plan.solved r below refl d,
        takes_few h.plan.solved r below (suc d),
        more,
      )
