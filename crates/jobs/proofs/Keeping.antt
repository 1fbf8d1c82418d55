-- The root of a gather keeps what it takes, with each of its actions; no other rank does.
use Rattle.std.proofs.Common.{◌≡◌, ℕ, zero, suc, ◌+◌, ◌-◌, ◌*◌, ◌/◌, ◌%◌, ◌^◌, ◌<◌, ◌≤◌, Bool, true, false, cond, not, eqb, leb, List, [], ◌∷◌, ◌++◌, length, sym, refl, ◌∙◌, subst, arith, length-append}
use mathlib.Core.Option.{some}
use lib.ListN.{get_elem?}
use Rattle.std.specs.List.{AllByRecursion}
use Rattle.std.proofs.lemmas.Bool.{ne_eqb, eqb-true}
use Rattle.programme.specs.Levels.{levels, floor_log, surplus}
use Rattle.programme.specs.Label.{hand_in, hand_back, collect}
use Rattle.programme.specs.declared.Action.{Action}
use Rattle.programme.specs.declared.Action.TheVariants.{Send, Take}
use Rattle.programme.specs.declared.Merge.{Merge}
use Rattle.programme.specs.declared.Merge.TheVariants.{Replace, Keep, Before, After, Prefix}
use Rattle.programme.specs.Programme.{when, steps, bit, broadcast, gather, fold_step, reduce, scan_step, scan, exscan, rank_of, flip, exchange_step, exchange, allreduce}
use Rattle.schedule.specs.declared.Collective.{Collective}
use Rattle.schedule.specs.declared.Collective.TheVariants as collective
use Rattle.schedule.specs.Collective.{actions_of}
use Rattle.jobs.specs.Tables.{keeps}

abbrev pub is_keep : Action → Bool
is_keep (Send to label) = false
is_keep (Take from label Replace) = false
is_keep (Take from label Keep) = true
is_keep (Take from label Before) = false
is_keep (Take from label After) = false
is_keep (Take from label Prefix) = false

abbrev Only : Bool → List Action → Type 0
Only b l = AllByRecursion (λ a. is_keep a ≡ b) l

only_append : (b : Bool) (xs ys : List Action) → Only b xs → Only b ys → Only b (xs ++ ys)
only_append b [] ys h k = k
only_append b (x ∷ xs) ys h k = (h.0, only_append b xs ys h.1 k)

only_when : (b t : Bool) (a : Action) → is_keep a ≡ b → Only b (when t a)
only_when b true a e = (e, tt)
only_when b false a e = tt

only_steps : (b : Bool) (f : ℕ → List Action) (n : ℕ) → ((k : ℕ) → Only b (f k)) → Only b (steps f n)
unfolding steps
only_steps b f zero h = tt
only_steps b f (suc n) h = only_append b (steps f n) (f n) (only_steps b f n h) (h n)

only_cond : (b t : Bool) (xs ys : List Action) → Only b xs → Only b ys → Only b (cond t xs ys)
only_cond b true xs ys h k = h
only_cond b false xs ys h k = k

spreads : (p root r : ℕ) → Only false (broadcast p root r)
unfolding broadcast
spreads p root r = only_append false (when _ _) (steps _ _) (only_when false _ _ refl) (only_steps false _ _ (λ k. only_when false _ _ refl))

gathers : (p root r : ℕ) → Only (eqb r root) (gather p root r)
unfolding gather
gathers p root r = go (eqb r root)
  where
    go : (t : Bool) → Only t (cond t (steps (λ a. when (not (eqb a root)) (Take a collect Keep)) p) (Send root collect ∷ []))
    go true = only_steps true _ p (λ k. only_when true _ _ refl)
    go false = (refl, tt)

folds : (p r k : ℕ) → Only false (fold_step p r k)
unfolding fold_step
folds p r k = only_cond false _ (cond _ (Send _ _ ∷ []) (when _ _)) [] (only_cond false _ (Send _ _ ∷ []) (when _ _) (refl, tt) (only_when false _ _ refl)) tt

reduces : (p root r : ℕ) → Only false (reduce p root r)
unfolding reduce
reduces p root r =
    only_append false (steps _ _ ++ when _ _) (when _ _)
    (only_append false (steps _ _) (when _ _) (only_steps false _ _ (folds p r)) (only_when false _ _ refl))
    (only_when false _ _ refl)

scans : (merge : Merge) → ((from label : ℕ) → is_keep (Take from label merge) ≡ false) → (p r k : ℕ) → Only false (scan_step merge p r k)
unfolding scan_step
scans merge e p r k = only_append false (when _ _) (when _ _) (only_when false _ _ refl) (only_when false _ _ (e (r - 2 ^ k) k))

exchanges : (p n k : ℕ) → Only false (exchange_step p n k)
unfolding exchange_step
exchanges p n k = (refl, (go (bit n k), tt))
  where
    go : (t : Bool) → is_keep (Take (rank_of p (flip n k)) k (cond t Before After)) ≡ false
    go true = refl
    go false = refl

exchanges_all : (p n : ℕ) → Only false (exchange p n)
unfolding exchange
exchanges_all p n = only_steps false (exchange_step p n) (floor_log p) (exchanges p n)

allreduces : (p r : ℕ) → Only false (allreduce p r)
unfolding allreduce
allreduces p r = at_front (leb (2 * surplus p) r) (eqb (r % 2) 0)
  where
    at_front : (t u : Bool)
        → Only false (cond t (exchange p (r - surplus p)) (cond u (Send (r + 1) hand_in ∷ Take (r + 1) hand_back Replace ∷ []) (Take (r - 1) hand_in Before ∷ exchange p ((r - 1) / 2) ++ (Send (r - 1) hand_back ∷ []))))
    at_front true u = exchanges_all p (r - surplus p)
    at_front false true = (refl, (refl, tt))
    at_front false false = (refl, only_append false (exchange p ((r - 1) / 2)) (Send (r - 1) hand_back ∷ []) (exchanges_all p ((r - 1) / 2)) (refl, tt))

each : (c : Collective) (p r : ℕ) → Only (keeps c r) (actions_of c p r)
unfolding scan exscan
each (collective.Broadcast root) p r = spreads p root r
each (collective.Gather root) p r = gathers p root r
each (collective.Reduce root) p r = reduces p root r
each collective.Scan p r = only_steps false (scan_step Before p r) (levels p) (scans Before (λ _ _. refl) p r)
each collective.Exscan p r = only_steps false (scan_step Prefix p r) (levels p) (scans Prefix (λ _ _. refl) p r)
each collective.Allreduce p r = allreduces p r

at_place : (P : Action → Type 0) (l : List Action) (i : ℕ) (a : Action) → AllByRecursion P l → get_elem? l i ≡ some a → P a
at_place P [] i a h e = let z : ◌≡◌ {A = ℕ} 0 1 = cc in absurd (omega arith)
at_place P (x ∷ l) zero a h e = let s : x ≡ a = cc in subst P s h.0
at_place P (x ∷ l) (suc i) a h e = at_place P l i a h.1 e

-- a rank keeps what it takes with an action if it is one that keeps
pub keeping : (c : Collective) (p r i : ℕ) (a : Action) → get_elem? (actions_of c p r) i ≡ some a → keeps c r ≡ is_keep a
keeping c p r i a e = sym (at_place (λ x. is_keep x ≡ keeps c r) (actions_of c p r) i a (each c p r) e)

-- no other rank keeps where one does
pub keeps_alone : (c : Collective) (r q : ℕ) → keeps c r ≡ true → (q ≡ r → ⊥) → keeps c q ≡ false
keeps_alone (collective.Broadcast root) r q h n = refl
keeps_alone (collective.Gather root) r q h n = ne_eqb q root (λ e. n (e ∙ sym (eqb-true r root h)))
keeps_alone (collective.Reduce root) r q h n = refl
keeps_alone collective.Scan r q h n = refl
keeps_alone collective.Exscan r q h n = refl
keeps_alone collective.Allreduce r q h n = refl

steps_few : (f : ℕ → List Action) (n : ℕ) → ((k : ℕ) → length (f k) ≤ 1) → length (steps f n) ≤ n
unfolding steps
steps_few f zero h = omega arith
steps_few f (suc n) h = omega (arith, length-append (steps f n) (f n), h n, steps_few f n h)

gather_few : (p root r : ℕ) → 0 < p → length (gather p root r) ≤ p
unfolding gather
gather_few p root r h = go (eqb r root)
  where
    one : (t : Bool) (a : Action) → length (when t a) ≤ 1
    one true a = omega arith
    one false a = omega arith

    go : (t : Bool) → length (cond t (steps (λ a. when (not (eqb a root)) (Take a collect Keep)) p) (Send root collect ∷ [])) ≤ p
    go true = steps_few (λ a. when (not (eqb a root)) (Take a collect Keep)) p (λ k. one (not (eqb k root)) (Take k collect Keep))
    go false = omega arith

inside : (l : List Action) (i : ℕ) (a : Action) → get_elem? l i ≡ some a → i < length l
inside [] i a e = let z : ◌≡◌ {A = ℕ} 0 1 = cc in absurd (omega arith)
inside (x ∷ l) zero a e = omega arith
inside (x ∷ l) (suc i) a e = omega (arith, inside l i a e)

-- a rank that keeps has fewer actions than there are ranks, or as many
pub keep_few : (c : Collective) (p r i from label : ℕ) → 0 < p → get_elem? (actions_of c p r) i ≡ some (Take from label Keep) → i < p
keep_few c p r i from label h e = go c e (keeping c p r i (Take from label Keep) e)
  where
    go : (d : Collective) → get_elem? (actions_of d p r) i ≡ some (Take from label Keep) → keeps d r ≡ true → i < p
    go (collective.Broadcast root) f k = let z : ◌≡◌ {A = ℕ} 0 1 = cc in absurd (omega arith)
    go (collective.Gather root) f k = omega (arith, inside (gather p root r) i (Take from label Keep) f, gather_few p root r h)
    go (collective.Reduce root) f k = let z : ◌≡◌ {A = ℕ} 0 1 = cc in absurd (omega arith)
    go collective.Scan f k = let z : ◌≡◌ {A = ℕ} 0 1 = cc in absurd (omega arith)
    go collective.Exscan f k = let z : ◌≡◌ {A = ℕ} 0 1 = cc in absurd (omega arith)
    go collective.Allreduce f k = let z : ◌≡◌ {A = ℕ} 0 1 = cc in absurd (omega arith)
