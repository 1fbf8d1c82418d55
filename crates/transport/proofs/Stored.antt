-- The messages of the stored places that pass a test, and the oldest of them with a tag.
use Rattle.std.proofs.Common.{◌≡◌, ℕ, ◌≤◌, Bool, true, false, ◌&&◌, eqb, ◌⊎◌, List, [], ◌∷◌, ◌++◌, map, length, Some, None, filter, sym, refl, ap, ◌∙◌, inl, inr}
use Rattle.std.specs.List.{AllByRecursion}
use Rattle.std.proofs.lemmas.List.{map-append, append-nil}
use Rattle.std.proofs.lemmas.List.Elements.{filter-append}
use Rattle.std.proofs.ByRecursion.{All-map, all_kept_by}
use Rattle.std.proofs.lemmas.Bool.{cases_Bool, and_parts}
use Rattle.transport.specs.Network.{Message, oldest, without, Short}
use Rattle.transport.specs.Stored.{listed}

module _ {X : Type 0} (message_of : X → Message) where
  module _ (test : X → Bool) where
    pub listed_append : (xs ys : List X) → listed message_of test (xs ++ ys) ≡ listed message_of test xs ++ listed message_of test ys
    unfolding listed
    listed_append xs ys = ap (map message_of) (filter-append test xs ys) ∙ map-append message_of (filter test xs) (filter test ys)

    pub listed_yes : (x : X) (q : List X) → test x ≡ true → listed message_of test (x ∷ q) ≡ message_of x ∷ listed message_of test q
    unfolding listed
    listed_yes x q e = rw e

    pub listed_no : (x : X) (q : List X) → test x ≡ false → listed message_of test (x ∷ q) ≡ listed message_of test q
    unfolding listed
    listed_no x q e = rw e

    pub listed_nil : listed message_of test [] ≡ []
    unfolding listed
    listed_nil = refl

    pub listed_none : (xs : List X) → AllByRecursion (λ x. test x ≡ false) xs → listed message_of test xs ≡ []
    listed_none [] h = listed_nil
    listed_none (x ∷ xs) h = listed_no x xs h.0 ∙ listed_none xs h.1

    pub listed_skip : (p : List X) (x : X) (q : List X) → test x ≡ false → listed message_of test (p ++ (x ∷ q)) ≡ listed message_of test (p ++ q)
    listed_skip p x q e = listed_append p (x ∷ q) ∙ ap (λ l. listed message_of test p ++ l) (listed_no x q e) ∙ sym (listed_append p q)

    pub listed_last : (p : List X) (z : X) → test z ≡ false → listed message_of test (p ++ (z ∷ [])) ≡ listed message_of test p
    listed_last p z e = listed_skip p z [] e ∙ ap (listed message_of test) (append-nil p)

    pub listed_at : (p : List X) (x : X) (q : List X) → test x ≡ true → listed message_of test (p ++ (x ∷ q)) ≡ listed message_of test p ++ (message_of x ∷ listed message_of test q)
    listed_at p x q e = listed_append p (x ∷ q) ∙ ap (λ l. listed message_of test p ++ l) (listed_yes x q e)

    pub short_listed : (l : ℕ) (xs : List X) → AllByRecursion (λ x. length (message_of x).words ≤ l) xs → Short l (listed message_of test xs)
    unfolding listed
    short_listed l xs h = All-map (λ m. length m.words ≤ l) message_of (filter test xs) (all_kept_by test (λ x. length (message_of x).words ≤ l) xs h)

    -- the first place that passes the test and has the tag t
    module _ (t : ℕ) where
      abbrev tagged : X → Bool
      tagged x = test x && eqb (message_of x).tag t

      untagged : (r : X) → test r ≡ true → tagged r ≡ false → eqb (message_of r).tag t ≡ false
      untagged r e ne = rw e at ne

      pub oldest_none : (rs : List X) → AllByRecursion (λ r. tagged r ≡ false) rs → oldest t (listed message_of test rs) ≡ None
      oldest_none [] h = ap (oldest t) listed_nil
      oldest_none (r ∷ rs) h = by (oldest_none rs h.1) (cases_Bool (test r))
        where
          by : oldest t (listed message_of test rs) ≡ None → (test r ≡ true) ⊎ (test r ≡ false) → oldest t (listed message_of test (r ∷ rs)) ≡ None
          by rest (inl e) = ap (oldest t) (listed_yes r rs e) ∙ rw (untagged r e h.0) rest
          by rest (inr e) = ap (oldest t) (listed_no r rs e) ∙ rest

      module _ (x : X) (q : List X) (here : tagged x ≡ true) where
        pub oldest_tagged : (p : List X) → AllByRecursion (λ r. tagged r ≡ false) p → oldest t (listed message_of test (p ++ (x ∷ q))) ≡ Some (message_of x)
        oldest_tagged [] h =
            let k = and_parts (test x) (eqb (message_of x).tag t) here in
            ap (oldest t) (listed_yes x q k.0) ∙ rw k.1
        oldest_tagged (r ∷ p) h = by (oldest_tagged p h.1) (cases_Bool (test r))
          where
            by : oldest t (listed message_of test (p ++ (x ∷ q))) ≡ Some (message_of x) → (test r ≡ true) ⊎ (test r ≡ false) → oldest t (listed message_of test (r ∷ (p ++ (x ∷ q)))) ≡ Some (message_of x)
            by rest (inl e) = ap (oldest t) (listed_yes r (p ++ (x ∷ q)) e) ∙ rw (untagged r e h.0) rest
            by rest (inr e) = ap (oldest t) (listed_no r (p ++ (x ∷ q)) e) ∙ rest

        pub without_tagged : (p : List X) → AllByRecursion (λ r. tagged r ≡ false) p → without t (listed message_of test (p ++ (x ∷ q))) ≡ listed message_of test (p ++ q)
        without_tagged [] h =
            let k = and_parts (test x) (eqb (message_of x).tag t) here in
            ap (without t) (listed_yes x q k.0) ∙ rw k.1
        without_tagged (r ∷ p) h = by (without_tagged p h.1) (cases_Bool (test r))
          where
            by : without t (listed message_of test (p ++ (x ∷ q))) ≡ listed message_of test (p ++ q) → (test r ≡ true) ⊎ (test r ≡ false) → without t (listed message_of test (r ∷ (p ++ (x ∷ q)))) ≡ listed message_of test (r ∷ (p ++ q))
            by rest (inl e) =
                ap (without t) (listed_yes r (p ++ (x ∷ q)) e)
                ∙ rw (untagged r e h.0) (ap (λ l. message_of r ∷ l) rest)
                ∙ sym (listed_yes r (p ++ q) e)
            by rest (inr e) = ap (without t) (listed_no r (p ++ (x ∷ q)) e) ∙ rest ∙ sym (listed_no r (p ++ q) e)
