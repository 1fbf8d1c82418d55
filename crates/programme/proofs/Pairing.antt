-- In solved programmes the takes are as many as the sends.
use Rattle.std.proofs.Common.{◌≡◌, ℕ, ◌+◌, ◌*◌, ◌<◌, ◌≤◌, Bool, true, false, cond, eqb, List, [], ◌∷◌, ◌++◌, length, sym, refl, ap, ◌∙◌, subst, ⊎_elim, arith}
use Rattle.std.proofs.lemmas.Bool.{eqb-true, eq-eqb, cases_lt}
use Rattle.programme.specs.declared.Action.{Action}
use Rattle.programme.specs.declared.Action.TheVariants.{Send, Take}
use Rattle.programme.specs.declared.Merge.{Merge}
use Rattle.programme.specs.declared.Kind.{Kind}
use Rattle.programme.specs.Rank.{Rank, Mail}
use Rattle.programme.specs.Programme.{programme}
use Rattle.programme.specs.Formula.{messages, sends, takes}
use Rattle.programme.specs.Solved.{Stands, Solved}
use Rattle.ranks.specs.Ranks.{sum_below}
use Rattle.programme.specs.Outcome.{Outcome, start}
use Rattle.programme.specs.Message.{mail}
use Rattle.programme.proofs.Lists.{stands_first}
use Rattle.ranks.proofs.Sums.{sum_same, sum-swap, sum-add, sum_one, sum_zeros}

-- an action that passes a test, and how many do
abbrev tally : (Action → Bool) → List Action → ℕ
tally f [] = 0
tally f (a ∷ more) = cond (f a) 1 0 + tally f more

record Passes (f : Action → Bool) (actions : List Action) : Type 0 where
  which : Action
  passes : f which ≡ true
  stands : Stands actions which

later : (a : Action) (more : List Action) (b : Action) → Stands more b → Stands (a ∷ more) b
later a more b s = record { before = a ∷ s.before; behind = s.behind; split = ap (λ (l : List Action). a ∷ l) s.split }

passing : (f : Action → Bool) (actions : List Action) → 0 < tally f actions → Passes f actions
passing f [] h = absurd (omega arith)
passing f (a ∷ more) h = go (f a) refl (passing f more)
  where
    go : (t : Bool) → f a ≡ t → (0 < tally f more → Passes f more) → Passes f (a ∷ more)
    go true e less = record { which = a; passes = e; stands = stands_first a more }
    go false e less =
        let c : ◌≡◌ {A = ℕ} (cond (f a) 1 0) 0 = rw e in
        let l : 0 < tally f more = omega arith in
        let s : Passes f more = less l in
        record { which = s.which; passes = s.passes; stands = later a more s.which s.stands }

counted : (f : Action → Bool) (before behind : List Action) (a : Action) → f a ≡ true → 0 < tally f (before ++ (a ∷ behind))
counted f [] behind a e = let c : ◌≡◌ {A = ℕ} (cond (f a) 1 0) 1 = rw e in omega arith
counted f (x ∷ before) behind a e = omega (arith, counted f before behind a e)

stands_counted : (f : Action → Bool) (actions : List Action) (a : Action) → f a ≡ true → Stands actions a → 0 < tally f actions
stands_counted f actions a e s = subst (λ (l : List Action). 0 < tally f l) (sym s.split) (counted f s.before s.behind a e)

-- where the place of one that passes is settled, there is one at most
once : (f : Action → Bool) (actions : List Action) → ((a b : Action) → f a ≡ true → f b ≡ true → (s : Stands actions a) (t : Stands actions b) → s.before ≡ t.before) → tally f actions ≤ 1
once f [] h = omega arith
once f (a ∷ more) h = go (f a) refl (once f more (λ x y ex ey s t. tail_same (h x y ex ey (record { before = a ∷ s.before; behind = s.behind; split = ap (λ (l : List Action). a ∷ l) s.split }) (record { before = a ∷ t.before; behind = t.behind; split = ap (λ (l : List Action). a ∷ l) t.split }))))
  where
    tail_same : {xs ys : List Action} → a ∷ xs ≡ a ∷ ys → xs ≡ ys
    tail_same e = cc

    go : (t : Bool) → f a ≡ t → tally f more ≤ 1 → cond (f a) 1 0 + tally f more ≤ 1
    go true e less =
        let c : ◌≡◌ {A = ℕ} (cond (f a) 1 0) 1 = rw e in
        ⊎_elim
        (λ (l : 0 < tally f more).
        let s : Passes f more = passing f more l in
        let q : [] ≡ a ∷ s.stands.before = h a s.which e s.passes (record { before = []; behind = more; split = refl }) (record { before = a ∷ s.stands.before; behind = s.stands.behind; split = ap (λ (l : List Action). a ∷ l) s.stands.split }) in
        let z : ◌≡◌ {A = ℕ} 0 1 = cc in
        absurd (omega arith))
        (λ (l : tally f more ≤ 0). omega arith)
        (cases_lt 0 (tally f more))
    go false e less = let c : ◌≡◌ {A = ℕ} (cond (f a) 1 0) 0 = rw e in omega arith

abbrev to? : ℕ → Action → Bool
to? b (Send to label) = eqb b to
to? b (Take from label m) = false

abbrev from? : ℕ → Action → Bool
from? a (Send to label) = false
from? a (Take from label m) = eqb a from

-- the sends, one addressee after the other
sends_by : (p : ℕ) (actions : List Action) → ((b label : ℕ) → Stands actions (Send b label) → b < p) → sum_below (λ b. tally (to? b) actions) p ≡ sends actions
sends_by p [] h = sum_zeros (λ _. 0) p (λ _ _. refl)
sends_by p (Send to label ∷ more) h =
    sum-add (λ b. cond (eqb b to) 1 0) (λ b. tally (to? b) more) p
    ∙ omega (arith, sum_one to 1 p (h to label (stands_first (Send to label) more)), sends_by p more (λ b l s. h b l (later (Send to label) more (Send b l) s)))
sends_by p (Take from label m ∷ more) h =
    sum_same (λ b. 0 + tally (to? b) more) (λ b. tally (to? b) more) p (λ k l. omega arith)
    ∙ sends_by p more (λ b l s. h b l (later (Take from label m) more (Send b l) s))

takes_by : (p : ℕ) (actions : List Action) → ((a label : ℕ) (m : Merge) → Stands actions (Take a label m) → a < p) → sum_below (λ a. tally (from? a) actions) p ≡ takes actions
takes_by p [] h = sum_zeros (λ _. 0) p (λ _ _. refl)
takes_by p (Send to label ∷ more) h =
    sum_same (λ b. 0 + tally (from? b) more) (λ b. tally (from? b) more) p (λ k l. omega arith)
    ∙ takes_by p more (λ a l m s. h a l m (later (Send to label) more (Take a l m) s))
takes_by p (Take from label m ∷ more) h =
    sum-add (λ a. cond (eqb a from) 1 0) (λ a. tally (from? a) more) p
    ∙ omega (arith, sum_one from 1 p (h from label m (stands_first (Take from label m) more)), takes_by p more (λ a l n s. h a l n (later (Take from label m) more (Take a l n) s)))

module _ {E : Type 0} (join : E → E → E) (p : ℕ) (actions : ℕ → List Action) (first : ℕ → Rank E) (mails : ℕ → ℕ → Mail E) (solved : Solved join p actions first mails) where
  sends_once : (a b : ℕ) → a < p → (x y : Action) → to? b x ≡ true → to? b y ≡ true → (s : Stands (actions a) x) (t : Stands (actions a) y) → s.before ≡ t.before
  sends_once a b h (Send c l) (Send d n) ex ey s t = go c d (sym (eqb-true b c ex)) (sym (eqb-true b d ey)) s t
    where
      go : (c d : ℕ) → c ≡ b → d ≡ b → (s : Stands (actions a) (Send c l)) (t : Stands (actions a) (Send d n)) → s.before ≡ t.before
      go c d e f s t =
          let s' : Stands (actions a) (Send b l) = record { before = s.before; behind = s.behind; split = s.split ∙ ap (λ (x : ℕ). s.before ++ (Send x l ∷ s.behind)) e } in
          let t' : Stands (actions a) (Send b n) = record { before = t.before; behind = t.behind; split = t.split ∙ ap (λ (x : ℕ). t.before ++ (Send x n ∷ t.behind)) f } in
          solved.send_once a b l n h s' t'
  sends_once a b h (Send c l) (Take d n m) ex ey s t = absurd (let z : ◌≡◌ {A = ℕ} 0 1 = cc in omega arith)
  sends_once a b h (Take c l m) y ex ey s t = absurd (let z : ◌≡◌ {A = ℕ} 0 1 = cc in omega arith)

  takes_once : (a b : ℕ) → b < p → (x y : Action) → from? a x ≡ true → from? a y ≡ true → (s : Stands (actions b) x) (t : Stands (actions b) y) → s.before ≡ t.before
  takes_once a b h (Take c l m) (Take d n o) ex ey s t = go c d (sym (eqb-true a c ex)) (sym (eqb-true a d ey)) s t
    where
      go : (c d : ℕ) → c ≡ a → d ≡ a → (s : Stands (actions b) (Take c l m)) (t : Stands (actions b) (Take d n o)) → s.before ≡ t.before
      go c d e f s t =
          let s' : Stands (actions b) (Take a l m) = record { before = s.before; behind = s.behind; split = s.split ∙ ap (λ (x : ℕ). s.before ++ (Take x l m ∷ s.behind)) e } in
          let t' : Stands (actions b) (Take a n o) = record { before = t.before; behind = t.behind; split = t.split ∙ ap (λ (x : ℕ). t.before ++ (Take x n o ∷ t.behind)) f } in
          solved.take_once a b l n m o h s' t'
  takes_once a b h (Take c l m) (Send d n) ex ey s t = absurd (let z : ◌≡◌ {A = ℕ} 0 1 = cc in omega arith)
  takes_once a b h (Send c l) y ex ey s t = absurd (let z : ◌≡◌ {A = ℕ} 0 1 = cc in omega arith)

  sent_taken : (a b : ℕ) → a < p → (x : Action) → to? b x ≡ true → Stands (actions a) x → 0 < tally (from? a) (actions b)
  sent_taken a b h (Send c l) e s =
      let s' : Stands (actions a) (Send b l) = subst (λ (x : ℕ). Stands (actions a) (Send x l)) (sym (eqb-true b c e)) s in
      let met : (m : Merge) × Stands (actions b) (Take a l m) = solved.send_met a b l h s' in
      stands_counted (from? a) (actions b) (Take a l met.0) (eq-eqb a a refl) met.1
  sent_taken a b h (Take c l m) e s = absurd (let z : ◌≡◌ {A = ℕ} 0 1 = cc in omega arith)

  taken_sent : (a b : ℕ) → b < p → (x : Action) → from? a x ≡ true → Stands (actions b) x → 0 < tally (to? b) (actions a)
  taken_sent a b h (Take c l m) e s =
      let s' : Stands (actions b) (Take a l m) = subst (λ (x : ℕ). Stands (actions b) (Take x l m)) (sym (eqb-true a c e)) s in
      stands_counted (to? b) (actions a) (Send b l) (eq-eqb b b refl) (solved.take_met a b l m h s')
  taken_sent a b h (Send c l) e s = absurd (let z : ◌≡◌ {A = ℕ} 0 1 = cc in omega arith)

  pair_same : (a b : ℕ) → a < p → b < p → tally (to? b) (actions a) ≡ tally (from? a) (actions b)
  pair_same a b h l =
      let x : tally (to? b) (actions a) ≤ 1 = once (to? b) (actions a) (sends_once a b h) in
      let y : tally (from? a) (actions b) ≤ 1 = once (from? a) (actions b) (takes_once a b l) in
      ⊎_elim
      (λ (q : 0 < tally (to? b) (actions a)). let s : Passes (to? b) (actions a) = passing (to? b) (actions a) q in omega (arith, sent_taken a b h s.which s.passes s.stands))
      (λ (q : tally (to? b) (actions a) ≤ 0).
      ⊎_elim
      (λ (r : 0 < tally (from? a) (actions b)). let s : Passes (from? a) (actions b) = passing (from? a) (actions b) r in omega (arith, taken_sent a b l s.which s.passes s.stands))
      (λ (r : tally (from? a) (actions b) ≤ 0). omega arith)
      (cases_lt 0 (tally (from? a) (actions b))))
      (cases_lt 0 (tally (to? b) (actions a)))

  pub takes_are_sends : sum_below (λ r. takes (actions r)) p ≡ sum_below (λ r. sends (actions r)) p
  takes_are_sends =
      sum_same (λ b. takes (actions b)) (λ b. sum_below (λ a. tally (from? a) (actions b)) p) p (λ b h. sym (takes_by p (actions b) (λ a label m s. (solved.take_rank a b label m h s).0)))
      ∙ sum_same (λ b. sum_below (λ a. tally (from? a) (actions b)) p) (λ b. sum_below (λ a. tally (to? b) (actions a)) p) p (λ b h. sum_same (λ a. tally (from? a) (actions b)) (λ a. tally (to? b) (actions a)) p (λ a l. sym (pair_same a b l h)))
      ∙ sum-swap (λ b a. tally (to? b) (actions a)) p p
      ∙ sum_same (λ a. sum_below (λ b. tally (to? b) (actions a)) p) (λ a. sends (actions a)) p (λ a h. sends_by p (actions a) (λ b label s. (solved.send_rank a b label h s).0))

length-is : (actions : List Action) → length actions ≡ sends actions + takes actions
length-is [] = refl
length-is (Send to label ∷ more) = omega (arith, length-is more)
length-is (Take from label m ∷ more) = omega (arith, length-is more)

-- each message is sent once and taken once
pub turns_are : {E : Type 0} (unit : E) (join : E → E → E) (p root : ℕ) (inputs : ℕ → E) (kind : Kind) → Outcome unit join p root inputs kind → sum_below (λ r. length (programme kind p root r)) p ≡ 2 * messages kind p root
turns_are unit join p root inputs kind out =
    sum_same (λ r. length (programme kind p root r)) (λ r. sends (programme kind p root r) + takes (programme kind p root r)) p (λ r h. length-is (programme kind p root r))
    ∙ sum-add (λ r. sends (programme kind p root r)) (λ r. takes (programme kind p root r)) p
    ∙ omega (arith, out.messages_are, takes_are_sends join p (programme kind p root) (start unit join kind p root inputs) (mail unit join kind p root inputs) out.solved)
