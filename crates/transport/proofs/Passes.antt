-- A pass over a list: it counts those that pass a test, or stops at the first.
use Rattle.std.proofs.Common.{◌≡◌, ℕ, ◌+◌, ◌<◌, ◌≤◌, Bool, true, false, cond, List, [], ◌∷◌, ◌++◌, length, get_or, take, drop, filter, sym, ap, ◌∙◌, subst}
use Rattle.std.specs.List.{AllByRecursion}
use Rattle.std.proofs.lemmas.List.{take_all, get_or_default, drop_more, take-append-drop}
use Rattle.std.proofs.lemmas.List.Filters.{length-filter_more}
use Rattle.std.proofs.ByRecursion.{All-more}

module _ {X : Type 0} (test : X → Bool) (xs : List X) where
  pub counted_more : (i n : ℕ) (d : X) (t : Bool) → i < length xs → n ≡ length (filter test (take i xs)) → t ≡ test (get_or xs i d) → n + cond t 1 0 ≡ length (filter test (take (i + 1) xs))
  counted_more i n d t h e r = rw (e, r) (sym (length-filter_more test xs i d h))

  pub counted_all : (i n : ℕ) → length xs ≤ i → n ≡ length (filter test (take i xs)) → n ≡ length (filter test xs)
  counted_all i n h e = e ∙ ap (λ l. length (filter test l)) (take_all i xs h)

  pub here : (i : ℕ) (d : X) → i < length xs → true ≡ test (get_or xs i d) → (e : X) → test (get_or xs i e) ≡ true
  here i d h r e = ap test (get_or_default xs i e d h) ∙ sym r

  pub passed : (i : ℕ) (d : X) → i < length xs → AllByRecursion (λ x. test x ≡ false) (take i xs) → false ≡ test (get_or xs i d) → AllByRecursion (λ x. test x ≡ false) (take (i + 1) xs)
  passed i d h before r = All-more (λ x. test x ≡ false) xs i d h before (sym r)

  pub passed_all : (i : ℕ) → length xs ≤ i → AllByRecursion (λ x. test x ≡ false) (take i xs) → AllByRecursion (λ x. test x ≡ false) xs
  passed_all i h before = subst (AllByRecursion (λ x. test x ≡ false)) (take_all i xs h) before

module _ {X : Type 0} where
  -- a list is what stands before a place, there and behind it
  pub split_at : (xs : List X) (i : ℕ) (d : X) → i < length xs → take i xs ++ (get_or xs i d ∷ drop (i + 1) xs) ≡ xs
  split_at xs i d h = ap (λ l. take i xs ++ l) (sym (drop_more xs i d h)) ∙ take-append-drop i xs

  -- all of a list with one element left out, or another in its place
  pub all_skip : (P : X → Type 0) (p : List X) (x : X) (q : List X) → AllByRecursion P (p ++ (x ∷ q)) → AllByRecursion P (p ++ q)
  all_skip P [] x q h = h.1
  all_skip P (r ∷ p) x q h = (h.0, all_skip P p x q h.1)

  pub all_swap : (P : X → Type 0) (p : List X) (x y : X) (q : List X) → P y → AllByRecursion P (p ++ (x ∷ q)) → AllByRecursion P (p ++ (y ∷ q))
  all_swap P [] x y q k h = (k, h.1)
  all_swap P (r ∷ p) x y q k h = (h.0, all_swap P p x y q k h.1)

  pub all_at : (P : X → Type 0) (p : List X) (x : X) (q : List X) → AllByRecursion P (p ++ (x ∷ q)) → P x
  all_at P [] x q h = h.0
  all_at P (r ∷ p) x q h = all_at P p x q h.1
