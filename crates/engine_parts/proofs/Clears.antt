-- One pair of ranks after the other cleared.
use Rattle.std.proofs.Common.{◌≡◌, ℕ, ◌+◌, Bool, true, false, cond, not, ◌&&◌, ◌||◌, eqb, ltb, ◌⊎◌, List, [], ◌++◌, Ok, Err, Result, sym, refl, ap, ◌∙◌, ap₂, inl, inr, arith}
use mathlib.Core.Path.{fun_ext}
use Rattle.std.proofs.lemmas.Bool.{cases_Bool, eq-eqb, le-ltb, and_parts}
use Rattle.std.proofs.lemmas.Bool.Decides.{nat_tests}
use Rattle.std.proofs.lemmas.List.{nil_from_length}
use Rattle.std.specs.Result.{result_unwrap_or}
use Rattle.transport.specs.declared.Fault.{Fault}
use Rattle.transport.specs.Network.{Network, Message, value, refused, put, with_lists, between, between_reply, counting, Shaped}
use Rattle.ranks.specs.Ranks.{pair_ok}
use Rattle.transport.proofs.Replies.{between_good, between_bad}
use Rattle.transport.proofs.Tables.{put_is, put_here, put_put}
use Rattle.engine_parts.specs.Clearing.{others, of_job, waiting_at, delivered, purged, cleared, with_abandoned, one_pair, row_below, rows_below}
use Rattle.engine_parts.proofs.Carries.{delivered_done}
use Rattle.engine_parts.proofs.Purges.{purged_empty}

module _ (number : ℕ) (n : Network) where
  pub cleared_same : (f g : ℕ → ℕ → Bool) → ((x y : ℕ) → f x y ≡ g x y) → cleared number f n ≡ cleared number g n
  cleared_same f g e = ap (λ t. cleared number t n) (fun_ext (λ x. fun_ext (λ y. e x y)))

  pub cleared_none : (f : ℕ → ℕ → Bool) → ((x y : ℕ) → f x y ≡ false) → cleared number f n ≡ n
  unfolding cleared
  cleared_none f e = cleared_same f (λ x y. false) e ∙ nothing
    where
      nothing : cleared number (λ x y. false) n ≡ n
      nothing = refl

  -- what is cleared in two parts
  pub cleared_join : (f g h : ℕ → ℕ → Bool) → ((x y : ℕ) → h x y ≡ (f x y || g x y)) → ((x y : ℕ) → f x y ≡ true → g x y ≡ false)
      → cleared number g (cleared number f n) ≡ cleared number h n
  unfolding cleared
  cleared_join f g h either apart =
      ap₂ (with_lists n)
      (fun_ext (λ x. fun_ext (λ y. under_at (f x y) (g x y) (h x y) (n.under x y) (either x y))))
      (fun_ext (λ x. fun_ext (λ y. arrived_at (f x y) (g x y) (h x y) (n.arrived x y) (n.under x y) (either x y) (apart x y))))
    where
      under_at : (p q r : Bool) (u : List Message) → r ≡ (p || q) → cond q [] (cond p [] u) ≡ cond r [] u
      under_at true true r u e = rw e
      under_at true false r u e = rw e
      under_at false true r u e = rw e
      under_at false false r u e = rw e

      arrived_at : (p q r : Bool) (v u : List Message) → r ≡ (p || q) → (p ≡ true → q ≡ false)
          → cond q (others (of_job number) (cond p (others (of_job number) (v ++ u)) v ++ cond p [] u)) (cond p (others (of_job number) (v ++ u)) v)
          ≡ cond r (others (of_job number) (v ++ u)) v
      arrived_at true true r v u e k = let z : ◌≡◌ {A = ℕ} 0 1 = cc (k refl) in absurd (omega arith)
      arrived_at true false r v u e k = rw e
      arrived_at false true r v u e k = rw e
      arrived_at false false r v u e k = rw e

  -- one pair: all carried, then the job's messages taken out
  pub cleared_pair : (a b : ℕ) → purged (of_job number) a b (delivered a b n) ≡ cleared number (one_pair a b) n
  unfolding cleared
  cleared_pair a b =
      ap (with_lists n (put n.under a b []))
      (put_put n.arrived a b (waiting_at n a b) _
      ∙ ap (put n.arrived a b) (ap (others (of_job number)) (put_here n.arrived a b (waiting_at n a b)))
      ∙ sym (put_is n.arrived _ a b (others (of_job number) (waiting_at n a b))
      (rw (eq-eqb a a refl, eq-eqb b b refl)) (λ x y e. rw e)))

  pub cleared_empty : (a b : ℕ) → n.under a b ≡ [] → n.arrived a b ≡ [] → cleared number (one_pair a b) n ≡ n
  cleared_empty a b u v =
      sym (cleared_pair a b)
      ∙ ap (purged (of_job number) a b) (delivered_done n a b u)
      ∙ purged_empty (of_job number) a b n v

  pub cleared_all : (most : ℕ) → Shaped most n → cleared number (rows_below n.ranks n.ranks) n ≡ with_abandoned number n
  unfolding cleared
  cleared_all most s =
      ap₂ (with_lists n)
      (fun_ext (λ x. fun_ext (λ y. under_at x y (cases_Bool (rows_below n.ranks n.ranks x y)))))
      (fun_ext (λ x. fun_ext (λ y. arrived_at x y (cases_Bool (rows_below n.ranks n.ranks x y)))))
    where
      no_pair : (p x y : ℕ) → rows_below p p x y ≡ false → pair_ok p x y ≡ false
      no_pair p x y e = by (ltb x p) (ltb y p) e
        where
          by : (u v : Bool) → (u && v) ≡ false → (u && (v && not (eqb x y))) ≡ false
          by false v k = refl
          by true false k = refl
          by true true k = let z : ◌≡◌ {A = ℕ} 0 1 = cc in absurd (omega arith)

      under_at : (x y : ℕ) → (rows_below n.ranks n.ranks x y ≡ true) ⊎ (rows_below n.ranks n.ranks x y ≡ false)
          → cond (rows_below n.ranks n.ranks x y) [] (n.under x y) ≡ []
      under_at x y (inl e) = rw e
      under_at x y (inr e) = rw e (s.no_under x y (no_pair n.ranks x y e))

      arrived_at : (x y : ℕ) → (rows_below n.ranks n.ranks x y ≡ true) ⊎ (rows_below n.ranks n.ranks x y ≡ false)
          → cond (rows_below n.ranks n.ranks x y) (others (of_job number) (waiting_at n x y)) (n.arrived x y) ≡ others (of_job number) (waiting_at n x y)
      arrived_at x y (inl e) = rw e
      arrived_at x y (inr e) =
          let u = s.no_under x y (no_pair n.ranks x y e) in
          let v = s.no_arrived x y (no_pair n.ranks x y e) in
          rw e (v ∙ sym (ap (others (of_job number)) (ap₂ ◌++◌ v u)))

-- one more pair, one more row
pub row_none : (a x y : ℕ) → row_below a 0 x y ≡ false
row_none a x y = by (eqb a x)
  where
    by : (u : Bool) → (u && ltb y 0) ≡ false
    by true = le-ltb y 0 (omega arith)
    by false = refl

pub rows_none : (q x y : ℕ) → rows_below 0 q x y ≡ false
rows_none q x y = rw (le-ltb x 0 (omega arith))

less_next : (x p : ℕ) → ltb x (p + 1) ≡ (ltb x p || eqb p x)
less_next x p = grind (arith, nat_tests)

not_less : (x p : ℕ) → ltb x p ≡ true → eqb p x ≡ false
not_less x p e = grind (arith, nat_tests)

pub row_next : (a q x y : ℕ) → row_below a (q + 1) x y ≡ (row_below a q x y || one_pair a q x y)
row_next a q x y = by (eqb a x)
  where
    by : (u : Bool) → (u && ltb y (q + 1)) ≡ ((u && ltb y q) || (u && eqb q y))
    by true = less_next y q
    by false = refl

pub row_apart : (a q x y : ℕ) → row_below a q x y ≡ true → one_pair a q x y ≡ false
row_apart a q x y = by (eqb a x)
  where
    by : (u : Bool) → (u && ltb y q) ≡ true → (u && eqb q y) ≡ false
    by true e = not_less y q e
    by false e = refl

pub rows_next : (p q x y : ℕ) → rows_below (p + 1) q x y ≡ (rows_below p q x y || row_below p q x y)
rows_next p q x y = rw (less_next x p) (by (ltb x p) (eqb p x) (ltb y q))
  where
    by : (u v w : Bool) → ((u || v) && w) ≡ ((u && w) || (v && w))
    by true true true = refl
    by true true false = refl
    by true false true = refl
    by true false false = refl
    by false true true = refl
    by false true false = refl
    by false false true = refl
    by false false false = refl

pub rows_apart : (p q x y : ℕ) → rows_below p q x y ≡ true → row_below p q x y ≡ false
rows_apart p q x y e = by (not_less x p (and_parts (ltb x p) (ltb y q) e).0)
  where
    by : eqb p x ≡ false → (eqb p x && ltb y q) ≡ false
    by k = rw k

-- what the number waiting between two ranks tells; it is 0 where they are no pair
module _ (most : ℕ) (n : Network) (shape : Shaped most n) (a b : ℕ) (r : Result ℕ Fault) (e : counting r ≡ between_reply n a b) where
  pub none_waits : result_unwrap_or r 0 ≡ 0 → (n.under a b ≡ []) × (n.arrived a b ≡ [])
  none_waits z = by (cases_Bool (pair_ok n.ranks a b))
    where
      empty : (q : Result ℕ Fault) → counting q ≡ value (between n a b) → result_unwrap_or q 0 ≡ 0 → (n.under a b ≡ []) × (n.arrived a b ≡ [])
      empty (Ok k) c v =
          let same : k ≡ between n a b = cc in
          (nil_from_length (n.under a b) (omega arith), nil_from_length (n.arrived a b) (omega arith))
      empty (Err f) c v = let z : ◌≡◌ {A = ℕ} 0 1 = cc in absurd (omega arith)

      by : (pair_ok n.ranks a b ≡ true) ⊎ (pair_ok n.ranks a b ≡ false) → (n.under a b ≡ []) × (n.arrived a b ≡ [])
      by (inl ok) = empty r (e ∙ between_good n a b ok) z
      by (inr bad) = (shape.no_under a b bad, shape.no_arrived a b bad)

  pub some_wait : (result_unwrap_or r 0 ≡ 0 → ⊥) → pair_ok n.ranks a b ≡ true
  some_wait z = by (cases_Bool (pair_ok n.ranks a b))
    where
      never : (q : Result ℕ Fault) → counting q ≡ refused 10 → (result_unwrap_or q 0 ≡ 0 → ⊥) → ⊥
      never (Ok k) c v = let z : ◌≡◌ {A = ℕ} 0 1 = cc in omega arith
      never (Err f) c v = v refl

      by : (pair_ok n.ranks a b ≡ true) ⊎ (pair_ok n.ranks a b ≡ false) → pair_ok n.ranks a b ≡ true
      by (inl ok) = ok
      by (inr bad) = absurd (never r (e ∙ between_bad n a b bad) z)
