-- The first slot of a row that passes a test.
use Rattle.std.proofs.Common.{◌≡◌, ℕ, suc, ◌<◌, ◌≤◌, Bool, true, false, cond, ltb, ◌⊎◌, List, [], ◌∷◌, length, map, take, Some, None, Option, sym, refl, ◌∙◌, ap₂, subst, inl, inr, arith}
use Rattle.std.specs.List.{AllByRecursion, position, position_or_len}
use Rattle.std.proofs.lemmas.Bool.{cases_Bool, cases_lt, lt-ltb, le-ltb}
use Rattle.std.proofs.lemmas.List.{length-map, take_all}
use Rattle.std.proofs.lemmas.List.Quantifiers.{position-Some}
use Rattle.transport.specs.Stored.{Found}
use Rattle.mailbox.specs.declared.Slot.{Slot}
use Rattle.mailbox.specs.Slots.{slot_of}

module _ (test : Slot → Bool) where
  passed_over : (xs : List Slot) → AllByRecursion (λ x. test x ≡ false) (take (position_or_len test xs) xs)
  passed_over [] = tt
  passed_over (x ∷ xs) = by (passed_over xs) (cases_Bool (test x))
    where
      by : AllByRecursion (λ x. test x ≡ false) (take (position_or_len test xs) xs) → (test x ≡ true) ⊎ (test x ≡ false) → AllByRecursion (λ x. test x ≡ false) (take (position_or_len test (x ∷ xs)) (x ∷ xs))
      by rest (inl e) = rw e tt
      by rest (inr e) =
          let more : suc (position_or_len test xs) ≡ position_or_len test (x ∷ xs) = rw e (omega arith) in
          subst (λ n. AllByRecursion (λ x. test x ≡ false) (take n (x ∷ xs))) more (e, rest)

  found : (xs : List Slot) → Found test xs (position test xs)
  found xs = by (cases_lt (position_or_len test xs) (length xs))
    where
      by : (position_or_len test xs < length xs) ⊎ (length xs ≤ position_or_len test xs) → Found test xs (position test xs)
      by (inl h) = rw (lt-ltb (position_or_len test xs) (length xs) h) (h, passed_over xs, λ d. (position-Some test xs (position_or_len test xs) d (rw (lt-ltb (position_or_len test xs) (length xs) h))).1)
      by (inr h) = rw (le-ltb (position_or_len test xs) (length xs) h) (subst (AllByRecursion (λ x. test x ≡ false)) (take_all (position_or_len test xs) xs h) (passed_over xs))

  same_place : (rows : List (List ℕ)) → position_or_len (λ ws. test (slot_of ws)) rows ≡ position_or_len test (map slot_of rows)
  same_place [] = refl
  same_place (ws ∷ rows) = rw (same_place rows) refl

  -- what a search of a row's words answers is the first of the row's slots
  pub found_in : (rows : List (List ℕ)) (slots : List Slot) (r : Option ℕ) → map slot_of rows ≡ slots → r ≡ position (λ ws. test (slot_of ws)) rows → Found test slots r
  found_in rows slots r is e =
      subst (λ l. Found test l r) is
      (subst (Found test (map slot_of rows))
      (sym (e ∙ ap₂ (λ n l. cond (ltb n l) (Some n) None) (same_place rows) (sym (length-map rows slot_of))))
      (found (map slot_of rows)))
