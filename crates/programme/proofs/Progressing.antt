-- Solved programmes never stand still: each send bears a later stamp than the takes before it.
use Rattle.std.proofs.Common.{◌≡◌, ℕ, zero, suc, ◌<◌, ◌⊎◌, List, [], ◌∷◌, ◌++◌, sym, refl, ap, ◌∙◌, ap₂, inl, inr, ⊎_elim, arith}
use Rattle.programme.specs.declared.Action.{Action}
use Rattle.programme.specs.declared.Action.TheVariants.{Send, Take}
use Rattle.programme.specs.declared.Merge.{Merge}
use Rattle.programme.specs.Rank.{Rank, Mail}
use Rattle.programme.specs.Solved.{Stands, Solved}
use Rattle.programme.specs.Progress.{GoesOn, NeverStuck}
use Rattle.programme.proofs.Order.{take_then_send}

not_none : (a : Action) (l : List Action) → a ∷ l ≡ [] → ⊥
not_none a l e = let z : ◌≡◌ {A = ℕ} 0 1 = cc in omega arith

-- what stands in two lists stands in the first, or in the second behind all of the first
stands_parts : (xs ys before behind : List Action) (a : Action) → xs ++ ys ≡ before ++ (a ∷ behind) → Stands xs a ⊎ ((t : Stands ys a) × (before ≡ xs ++ t.before))
stands_parts [] ys before behind a e = inr (record { before = before; behind = behind; split = e }, refl)
stands_parts (x ∷ xs) ys [] behind a e = let h : x ≡ a = cc in inl (record { before = []; behind = xs; split = ap (λ (y : Action). y ∷ xs) h })
stands_parts (x ∷ xs) ys (b ∷ before) behind a e =
    let h : x ≡ b = cc in
    let f : xs ++ ys ≡ before ++ (a ∷ behind) = cc in
    ⊎_elim
    (λ (s : Stands xs a). inl (record { before = x ∷ s.before; behind = s.behind; split = ap (λ (l : List Action). x ∷ l) s.split }))
    (λ (s : (t : Stands ys a) × (before ≡ xs ++ t.before)). inr (s.0, ap₂ (λ (y : Action) (l : List Action). y ∷ l) (sym h) s.1))
    (stands_parts xs ys before behind a f)

module _ {E : Type 0} (join : E → E → E) (p : ℕ) (actions : ℕ → List Action) (first : ℕ → Rank E) (mails : ℕ → ℕ → Mail E) (solved : Solved join p actions first mails) where
  module _ (done left : ℕ → List Action) (split : (r : ℕ) → r < p → actions r ≡ done r ++ left r) where
    -- from a rank that waits to the one that it waits for, with earlier and earlier stamps
    seek : (fuel r a label : ℕ) (m : Merge) (rest : List Action) → r < p → left r ≡ Take a label m ∷ rest → (mails a r).stamp < fuel → (g : ℕ) × (g < p) × GoesOn done left g
    seek zero r a label m rest h e l = absurd (omega arith)
    seek (suc fuel) r a label m rest h e l = go (seek fuel)
      where
        taken : Stands (actions r) (Take a label m)
        taken = record { before = done r; behind = rest; split = split r h ∙ ap (λ (x : List Action). done r ++ x) e }

        there : a < p
        there = (solved.take_rank a r label m h taken).0

        met : Stands (actions a) (Send r label)
        met = solved.take_met a r label m h taken

        waits : (t : Stands (left a) (Send r label)) → met.before ≡ done a ++ t.before → (todo : List Action) → left a ≡ todo → ((r a label : ℕ) (m : Merge) (rest : List Action) → r < p → left r ≡ Take a label m ∷ rest → (mails a r).stamp < fuel → (g : ℕ) × (g < p) × GoesOn done left g) → (g : ℕ) × (g < p) × GoesOn done left g
        waits t b [] f less = absurd (nothing t.before (sym t.split ∙ f))
          where
            nothing : (before : List Action) → before ++ (Send r label ∷ t.behind) ≡ [] → ⊥
            nothing [] q = not_none (Send r label) t.behind q
            nothing (x ∷ before) q = not_none x (before ++ (Send r label ∷ t.behind)) q
        waits t b (Send c other ∷ more) f less = (a, there, inl (record { to = c; label = other; rest = more; is = f }))
        waits t b (Take c other n ∷ more) f less = less a c other n more there f (front t.before t.split b)
          where
            front : (before : List Action) → left a ≡ before ++ (Send r label ∷ t.behind) → met.before ≡ done a ++ before → (mails c a).stamp < fuel
            front [] q b = absurd (let y : Take c other n ∷ more ≡ Send r label ∷ t.behind = sym f ∙ q in let z : ◌≡◌ {A = ℕ} 0 1 = cc in omega arith)
            front (x ∷ before) q b =
                let y : Take c other n ∷ more ≡ x ∷ (before ++ (Send r label ∷ t.behind)) = sym f ∙ q in
                let w : x ≡ Take c other n = cc in
                let s : Stands met.before (Take c other n) = record { before = done a; behind = before; split = b ∙ ap (λ (u : Action). done a ++ (u ∷ before)) w } in
                omega (arith, take_then_send join p actions first mails solved a c r label other n there met s)

        go : ((r a label : ℕ) (m : Merge) (rest : List Action) → r < p → left r ≡ Take a label m ∷ rest → (mails a r).stamp < fuel → (g : ℕ) × (g < p) × GoesOn done left g) → (g : ℕ) × (g < p) × GoesOn done left g
        go less =
            ⊎_elim
            (λ (s : Stands (done a) (Send r label)). (r, h, inr (record { from = a; label = label; merge = m; rest = rest; is = e; sent = s })))
            (λ (s : (t : Stands (left a) (Send r label)) × (met.before ≡ done a ++ t.before)). waits s.0 s.1 (left a) refl less)
            (stands_parts (done a) (left a) met.before met.behind (Send r label) (sym (split a there) ∙ met.split))

    goes_on : (r : ℕ) → r < p → (left r ≡ [] → ⊥) → (g : ℕ) × (g < p) × GoesOn done left g
    goes_on r h n = go (left r) refl
      where
        go : (todo : List Action) → left r ≡ todo → (g : ℕ) × (g < p) × GoesOn done left g
        go [] e = absurd (n e)
        go (Send b label ∷ more) e = (r, h, inl (record { to = b; label = label; rest = more; is = e }))
        go (Take a label m ∷ more) e = seek (suc (mails a r).stamp) r a label m more h e (omega arith)

  pub never_stuck : NeverStuck p actions
  never_stuck done left split = goes_on done left split
