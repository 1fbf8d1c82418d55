-- Gather: all but the root send once, and the root takes from each in turn.
use Rattle.std.proofs.Common.{◌≡◌, ℕ, zero, suc, ◌+◌, ◌-◌, ◌<◌, ◌≤◌, max, Bool, true, false, cond, not, eqb, ltb, List, [], ◌∷◌, ◌++◌, sym, refl, ap, ◌∙◌, subst, ap₂, ⊎_elim, append-nil, arith}
use Rattle.std.proofs.lemmas.Bool.{eqb-true, eqb-false, eq-eqb, ne_eqb, lt-ltb, le-ltb, cases_lt, cases_eq, not-true, not_from_false}
use Rattle.programme.specs.declared.Action.{Action}
use Rattle.programme.specs.declared.Action.TheVariants.{Send, Take}
use Rattle.programme.specs.declared.Merge.{Merge}
use Rattle.programme.specs.declared.Merge.TheVariants.{Keep}
use Rattle.programme.specs.declared.Kind.TheVariants.{Gather}
use Rattle.programme.specs.Monoid.{Laws, span}
use Rattle.programme.specs.Rank.{Rank, Mail, fresh, posted, acts}
use Rattle.programme.specs.Label.{collect}
use Rattle.programme.specs.Programme.{steps, when, gather}
use Rattle.programme.specs.Solved.{Stands, Solved}
use Rattle.programme.specs.Outcome.{others, ComesOut}
use Rattle.ranks.specs.Ranks.{sum_below, greatest_below}
use Rattle.programme.specs.Formula.{sends}
use Rattle.programme.proofs.Lists.{Every, every_stands, every_steps, every_when, stands_first, stands_when, stands_steps, moved_stands, acts_done, acts_append, sends_steps, sends_when_take}
use Rattle.ranks.proofs.Sums.{sum_same, sum_zeros, sum-add, sum_one, sum-constant, greatest_is}
use Rattle.programme.proofs.Spans.{span_one}
use Rattle.programme.proofs.Mails.{mail_path}

abbrev taking : (root a : ℕ) → List Action
taking root a = when (not (eqb a root)) (Take a collect Keep)

at_root : (p root : ℕ) → gather p root root ≡ steps (taking root) p
unfolding gather
at_root p root = rw (eq-eqb root root refl)

elsewhere : (p root r : ℕ) → (r ≡ root → ⊥) → gather p root r ≡ Send root collect ∷ []
unfolding gather
elsewhere p root r n = rw (ne_eqb r root n)

record Sent (root r : ℕ) (before : List Action) (b label : ℕ) : Type 0 where
  other : r ≡ root → ⊥
  to : b ≡ root
  under : label ≡ collect
  behind : before ≡ []

record Took (p root r : ℕ) (before : List Action) (a label : ℕ) (with : Merge) : Type 0 where
  is_root : r ≡ root
  other : a ≡ root → ⊥
  fits : a < p
  under : label ≡ collect
  behind : before ≡ steps (taking root) a

abbrev Told : (p root r : ℕ) → List Action → Action → Type 0
Told p root r before (Send b label) = Sent root r before b label
Told p root r before (Take a label with) = Took p root r before a label with

told_root : (p root : ℕ) → Every (Told p root root) (steps (taking root) p)
told_root p root =
    every_steps (Told p root root) (taking root) p
    λ k l. every_when (λ before. Told p root root (steps (taking root) k ++ before)) (not (eqb k root)) (Take k collect Keep)
    λ e. record { is_root = refl; other = eqb-false k root (not-true (eqb k root) e); fits = l; under = refl; behind = append-nil (steps (taking root) k) }

told : (p root r : ℕ) → Every (Told p root r) (gather p root r)
told p root r =
    ⊎_elim
    (λ (e : r ≡ root). subst (λ (x : ℕ). Every (Told p root x) (gather p root x)) (sym e) (subst (Every (Told p root root)) (sym (at_root p root)) (told_root p root)))
    (λ (n : r ≡ root → ⊥). subst (Every (Told p root r)) (sym (elsewhere p root r n)) (record { other = n; to = refl; under = refl; behind = refl }, tt))
    (cases_eq r root)

send_stands : (p root r : ℕ) → (r ≡ root → ⊥) → Stands (gather p root r) (Send root collect)
send_stands p root r n = subst (λ (x : List Action). Stands x (Send root collect)) (sym (elsewhere p root r n)) (stands_first (Send root collect) [])

take_stands : (p root a : ℕ) → (a ≡ root → ⊥) → a < p → Stands (gather p root root) (Take a collect Keep)
take_stands p root a n h =
    subst (λ (x : List Action). Stands x (Take a collect Keep)) (sym (at_root p root))
    (stands_steps (taking root) p a (Take a collect Keep) h (stands_when (not (eqb a root)) (Take a collect Keep) (not_from_false (eqb a root) (ne_eqb a root n))))

module _ {E : Type 0} (proper : E → Bool) (unit : E) (join : E → E → E) (laws : Laws proper unit join) (p root : ℕ) (root_lt : root < p) (inputs : ℕ → E) (inputs_proper : (r : ℕ) → r < p → proper (inputs r) ≡ true) where
  abbrev sent : (a b : ℕ) → Mail E
  sent a b = record { stamp = 1; value = span unit join inputs a 1 }

  one_is : (r : ℕ) → r < p → span unit join inputs r 1 ≡ inputs r
  one_is r h = span_one proper unit join laws p inputs inputs_proper r h

  abbrev said : (a b label : ℕ) (s : Stands (gather p root a) (Send b label)) → Sent root a s.before b label
  said a b label s = every_stands (Told p root a) (gather p root a) (Send b label) (told p root a) s

  abbrev heard : (a b label : ℕ) (m : Merge) (s : Stands (gather p root b) (Take a label m)) → Took p root b s.before a label m
  heard a b label m s = every_stands (Told p root b) (gather p root b) (Take a label m) (told p root b) s

  abbrev at : ℕ → List Action → Rank E
  at r before = acts join (λ a. sent a r) before (fresh unit (inputs r))

  solved : Solved join p (gather p root) (λ r. fresh unit (inputs r)) sent
  solved =
      record {
        send_rank = λ a b label h s.
            let t : Sent root a s.before b label = said a b label s in
            (omega (arith, t.to), (λ e. t.other (e ∙ t.to)));
        send_mail = λ a b label h s.
            let t : Sent root a s.before b label = said a b label s in
            mail_path (sent a b) (posted (at a [])) refl (one_is a h) ∙ ap (λ (l : List Action). posted (at a l)) (sym t.behind);
        send_met = λ a b label h s.
            let t : Sent root a s.before b label = said a b label s in
            (Keep, moved_stands (gather p root) b root (Take a label Keep) (Take a collect Keep) t.to (ap (λ (l : ℕ). Take a l Keep) t.under) (take_stands p root a t.other h));
        take_rank = λ a b label m h s.
            let t : Took p root b s.before a label m = heard a b label m s in
            (t.fits, (λ e. t.other (e ∙ t.is_root)));
        take_met = λ a b label m h s.
            let t : Took p root b s.before a label m = heard a b label m s in
            moved_stands (gather p root) a a (Send b label) (Send root collect) refl (ap₂ Send t.is_root t.under) (send_stands p root a t.other);
        send_once = λ a b label other h s u. (said a b label s).behind ∙ sym (said a b other u).behind;
        take_once = λ a b label other m o h s u. (heard a b label m s).behind ∙ sym (heard a b other o u).behind;
      }

  -- the root after the takes from the ranks below k
  record Holds (k : ℕ) (x : Rank E) : Type 0 where
    value : x.value ≡ inputs root
    kept : x.kept ≡ others root inputs k
    arrival : x.arrival + cond (ltb root k) 1 0 ≡ k

  step : (k : ℕ) (x : Rank E) → k < p → Holds k x → (t : Bool) → eqb k root ≡ t → Holds (suc k) (acts join (λ a. sent a root) (when (not t) (Take k collect Keep)) x)
  unfolding others
  step k x h c true e =
      let q : k ≡ root = eqb-true k root e in
      record {
        value = c.value;
        kept = c.kept ∙ sym (append-nil (others root inputs k)) ∙ ap (λ (t : Bool). others root inputs k ++ cond t [] (inputs k ∷ [])) (sym e);
        arrival = ap (λ (t : Bool). x.arrival + cond t 1 0) (lt-ltb root (suc k) (omega arith)) ∙ omega (arith, c.arrival, ap (λ (t : Bool). x.arrival + cond t 1 0) (le-ltb root k (omega arith)));
      }
  step k x h c false e =
      let n : k ≡ root → ⊥ = eqb-false k root e in
      record {
        value = c.value;
        kept = ap₂ (λ (l : List E) (v : E). l ++ (v ∷ [])) c.kept (one_is k h) ∙ ap (λ (t : Bool). others root inputs k ++ cond t [] (inputs k ∷ [])) (sym e);
        arrival =
            ⊎_elim
            (λ (l : root < k). ap (λ (t : Bool). max (x.arrival + 1) 1 + cond t 1 0) (lt-ltb root (suc k) (omega arith)) ∙ omega (arith, c.arrival, ap (λ (t : Bool). x.arrival + cond t 1 0) (lt-ltb root k l)))
            (λ (l : k ≤ root). ap (λ (t : Bool). max (x.arrival + 1) 1 + cond t 1 0) (le-ltb root (suc k) (omega arith)) ∙ omega (arith, c.arrival, ap (λ (t : Bool). x.arrival + cond t 1 0) (le-ltb root k l)))
            (cases_lt root k);
      }

  holds : (k : ℕ) → k ≤ p → Holds k (at root (steps (taking root) k))
  unfolding steps others
  holds zero h = record { value = refl; kept = refl; arrival = ap (λ (t : Bool). 0 + cond t 1 0) (le-ltb root 0 (omega arith)) }
  holds (suc k) h =
      subst (λ (x : Rank E). Holds (suc k) x)
      (sym (acts_append join (λ a. sent a root) (steps (taking root) k) (taking root k) (fresh unit (inputs root))))
      (step k (at root (steps (taking root) k)) (omega arith) (holds k (omega arith)) (eqb k root) refl)

  abbrev last : ℕ → Rank E
  last r = at r (gather p root r)

  root_last : last root ≡ at root (steps (taking root) p)
  root_last = ap (at root) (at_root p root)

  promised : (r : ℕ) → r < p → r ≡ root → ((last r).value ≡ inputs root) × ((last r).kept ≡ others root inputs p)
  promised r h e =
      let c : Holds p (at root (steps (taking root) p)) = holds p (omega arith) in (
        ap (λ (x : ℕ). (last x).value) e ∙ ap (λ (x : Rank E). x.value) root_last ∙ c.value,
        ap (λ (x : ℕ). (last x).kept) e ∙ ap (λ (x : Rank E). x.kept) root_last ∙ c.kept,
      )

  root_arrival : (last root).arrival ≡ p - 1
  root_arrival =
      let c : Holds p (at root (steps (taking root) p)) = holds p (omega arith) in
      ap (λ (x : Rank E). x.arrival) root_last
      ∙ omega (arith, c.arrival, ap (λ (t : Bool). (at root (steps (taking root) p)).arrival + cond t 1 0) (lt-ltb root p root_lt))

  rounds_are : greatest_below (λ r. (last r).arrival) p ≡ p - 1
  rounds_are =
      greatest_is (λ r. (last r).arrival) p (p - 1) root root_lt root_arrival
      (λ r h.
      ⊎_elim
      (λ (e : r ≡ root). omega (arith, ap (λ (x : ℕ). (last x).arrival) e, root_arrival))
      (λ (n : r ≡ root → ⊥). omega (arith, ap (λ (l : List Action). (at r l).arrival) (elsewhere p root r n)))
      (cases_eq r root))

one_unless : Bool → ℕ
one_unless true = 0
one_unless false = 1

rank_sends : (p root r : ℕ) → sends (gather p root r) ≡ one_unless (eqb r root)
unfolding one_unless
rank_sends p root r =
    ⊎_elim
    (λ (e : r ≡ root).
    ap (λ (x : ℕ). sends (gather p root x)) e
    ∙ ap sends (at_root p root)
    ∙ sends_steps (taking root) p
    ∙ sum_same (λ k. sends (taking root k)) (λ k. 0) p (λ k l. sends_when_take (not (eqb k root)) k collect Keep)
    ∙ sum_zeros (λ _. 0) p (λ _ _. refl)
    ∙ ap one_unless (sym (eq-eqb r root e)))
    (λ (n : r ≡ root → ⊥). ap sends (elsewhere p root r n) ∙ ap one_unless (sym (ne_eqb r root n)))
    (cases_eq r root)

either : (t : Bool) → one_unless t + cond t 1 0 ≡ 1
unfolding one_unless
either true = refl
either false = refl

-- all but one of the ranks
total : (root n : ℕ) → root < n → sum_below (λ r. one_unless (eqb r root)) n ≡ n - 1
total root n h =
    let one : ℕ → ℕ = λ r. one_unless (eqb r root) + cond (eqb r root) 1 0 in
    omega (arith, sum-add (λ r. one_unless (eqb r root)) (λ r. cond (eqb r root) 1 0) n, sum_one root 1 n h, sum_same one (λ r. 1) n (λ r l. either (eqb r root)), sum-constant 1 n)

pub messages_are : (p root : ℕ) → root < p → sum_below (λ r. sends (gather p root r)) p ≡ p - 1
messages_are p root h =
    sum_same (λ r. sends (gather p root r)) (λ r. one_unless (eqb r root)) p (λ r l. rank_sends p root r)
    ∙ total root p h

pub gather_comes_out : (E : Type 0) → ComesOut Gather E
gather_comes_out E proper unit join laws p root h inputs ip =
    record {
      solved = solved proper unit join laws p root h inputs ip;
      within = λ a b label l s. (omega arith, omega arith);
      promised = promised proper unit join laws p root h inputs ip;
      all_done = λ r l. acts_done join _ (gather p root r) (fresh unit (inputs r)) ∙ omega arith;
      rounds_are = rounds_are proper unit join laws p root h inputs ip;
      messages_are = messages_are p root h;
    }
