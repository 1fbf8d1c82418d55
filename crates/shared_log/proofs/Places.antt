-- The place that `position` gives is the first that passes the test.
use Rattle.std.proofs.Common.{◌≡◌, ℕ, suc, ◌<◌, ◌≤◌, Bool, true, false, ◌⊎◌, List, [], ◌∷◌, length, take, Option, sym, subst, inl, inr, arith}
use Rattle.std.specs.List.{AllByRecursion, position, position_or_len}
use Rattle.std.proofs.lemmas.Bool.{cases_Bool, cases_lt, lt-ltb, le-ltb}
use Rattle.std.proofs.lemmas.List.{take_all}
use Rattle.std.proofs.lemmas.List.Quantifiers.{position-Some}
use Rattle.transport.specs.Stored.{Found}

module _ {X : Type 0} (test : X → Bool) where
  passed_over : (xs : List X) → AllByRecursion (λ x. test x ≡ false) (take (position_or_len test xs) xs)
  passed_over [] = tt
  passed_over (x ∷ xs) = by (passed_over xs) (cases_Bool (test x))
    where
      by : AllByRecursion (λ x. test x ≡ false) (take (position_or_len test xs) xs) → (test x ≡ true) ⊎ (test x ≡ false) → AllByRecursion (λ x. test x ≡ false) (take (position_or_len test (x ∷ xs)) (x ∷ xs))
      by rest (inl e) = rw e tt
      by rest (inr e) =
          let more : suc (position_or_len test xs) ≡ position_or_len test (x ∷ xs) = rw e (omega arith) in
          subst (λ n. AllByRecursion (λ x. test x ≡ false) (take n (x ∷ xs))) more (e, rest)

  found : (xs : List X) → Found test xs (position test xs)
  found xs = by (cases_lt (position_or_len test xs) (length xs))
    where
      by : (position_or_len test xs < length xs) ⊎ (length xs ≤ position_or_len test xs) → Found test xs (position test xs)
      by (inl h) = rw (lt-ltb (position_or_len test xs) (length xs) h) (h, passed_over xs, λ d. (position-Some test xs (position_or_len test xs) d (rw (lt-ltb (position_or_len test xs) (length xs) h))).1)
      by (inr h) = rw (le-ltb (position_or_len test xs) (length xs) h) (subst (AllByRecursion (λ x. test x ≡ false)) (take_all (position_or_len test xs) xs h) (passed_over xs))

  pub found_by : (xs : List X) (r : Option ℕ) → r ≡ position test xs → Found test xs r
  found_by xs r e = subst (Found test xs) (sym e) (found xs)
