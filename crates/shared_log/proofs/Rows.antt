-- What a row of records stands for after a send, a carry and a take.
use Rattle.std.proofs.Common.{◌≡◌, ℕ, ◌+◌, Bool, true, false, cond, not, ◌&&◌, eqb, ◌⊎◌, List, [], ◌∷◌, ◌++◌, map, length, filter, sym, refl, ap, ◌∙◌, inl, inr, arith}
use mathlib.Core.Path.{fun_ext}
use Rattle.std.specs.List.{AllByRecursion}
use Rattle.std.proofs.lemmas.List.{append-nil}
use Rattle.std.proofs.ByRecursion.{All-append}
use Rattle.std.proofs.lemmas.Bool.{cases_Bool, and_parts, and_left, and_right, and_from, eqb-true, eq-eqb, not-true, true≢false}
use Rattle.ranks.specs.Ranks.{sum_below}
use Rattle.transport.specs.Network.{put, waiting, between, without}
use Rattle.transport.specs.Stored.{listed}
use Rattle.transport.proofs.Pairs.{pair_parts}
use Rattle.transport.proofs.Tables.{put_is, sum-entry, sum-tables, sum-entries, sum-nowhere}
use Rattle.transport.proofs.Passes.{all_skip, all_swap}
use Rattle.transport.proofs.Stored as stored
use Rattle.shared_log.specs.declared.Record.{Record}
use Rattle.shared_log.specs.Records.{of_pair, is_under, is_arrived, is_tagged, message_of, log_under, log_arrived, log_network, Good, Ordered}

-- a record of the pair a, b is of no other
pub other_pair : (r : Record) (a b x y : ℕ) → of_pair a b r ≡ true → (eqb a x && eqb b y) ≡ false → of_pair x y r ≡ false
other_pair r a b x y e ne =
    let h = and_parts (eqb r.from a) (eqb r.to b) e in
    rw (eqb-true r.from a h.0, eqb-true r.to b h.1) ne

same_pair : (r : Record) → of_pair r.from r.to r ≡ true
same_pair r = and_from (eqb r.from r.from) (eqb r.to r.to) (eq-eqb r.from r.from refl) (eq-eqb r.to r.to refl)

-- the record of a message that has arrived
abbrev pub marked : Record → Record
marked r = record { from = r.from; to = r.to; tag = r.tag; length = r.length; words = r.words; arrived = true }

pub good_taken : (n : ℕ) (p : List Record) (x : Record) (q : List Record) → AllByRecursion (Good n) (p ++ (x ∷ q)) → AllByRecursion (Good n) (p ++ q)
good_taken n = all_skip (Good n)

pub good_carried : (n : ℕ) (p : List Record) (x : Record) (q : List Record) → AllByRecursion (Good n) (p ++ (x ∷ q)) → AllByRecursion (Good n) (p ++ (marked x ∷ q))
good_carried n [] x q h = (record { pair = h.0.pair; brief = h.0.brief; four = h.0.four }, h.1)
good_carried n (r ∷ p) x q h = (h.0, good_carried n p x q h.1)

-- a send
pub under_sent : (rs : List Record) (r : Record) → r.arrived ≡ false → log_under (rs ++ (r ∷ [])) ≡ put (log_under rs) r.from r.to (log_under rs r.from r.to ++ (message_of r ∷ []))
under_sent rs r e =
    put_is (log_under rs) (log_under (rs ++ (r ∷ []))) r.from r.to _
    (stored.listed_at message_of (is_under r.from r.to) rs r [] (and_from (of_pair r.from r.to r) (not r.arrived) (same_pair r) (ap not e))
    ∙ ap (λ l. listed message_of (is_under r.from r.to) rs ++ (message_of r ∷ l)) (stored.listed_nil message_of (is_under r.from r.to)))
    (λ x y ne. stored.listed_skip message_of (is_under x y) rs r [] (and_left (of_pair x y r) (not r.arrived) ne) ∙ ap (listed message_of (is_under x y)) (append-nil rs))

pub arrived_sent : (rs : List Record) (r : Record) → r.arrived ≡ false → log_arrived (rs ++ (r ∷ [])) ≡ log_arrived rs
arrived_sent rs r e =
    fun_ext (λ x. fun_ext (λ y. stored.listed_skip message_of (is_arrived x y) rs r [] (and_right (of_pair x y r) r.arrived e) ∙ ap (listed message_of (is_arrived x y)) (append-nil rs)))

-- a carry: x is the first of p, x, q that is under way from a to b
module _ (p : List Record) (x : Record) (q : List Record) (a b : ℕ)
    (before : AllByRecursion (λ r. is_under a b r ≡ false) p) (here : is_under a b x ≡ true)
  where
    x_pair : of_pair a b x ≡ true
    x_pair = (and_parts (of_pair a b x) (not x.arrived) here).0

    pub x_way : x.arrived ≡ false
    x_way = not-true x.arrived (and_parts (of_pair a b x) (not x.arrived) here).1

    pub under_first : log_under (p ++ (x ∷ q)) a b ≡ message_of x ∷ log_under q a b
    under_first = stored.listed_at message_of (is_under a b) p x q here ∙ ap (λ l. l ++ (message_of x ∷ log_under q a b)) (stored.listed_none message_of (is_under a b) p before)

    pub under_carried : log_under (p ++ (marked x ∷ q)) ≡ put (log_under (p ++ (x ∷ q))) a b (log_under q a b)
    under_carried =
        put_is (log_under (p ++ (x ∷ q))) (log_under (p ++ (marked x ∷ q))) a b (log_under q a b)
        (stored.listed_skip message_of (is_under a b) p (marked x) q (and_right (of_pair a b x) false refl)
        ∙ stored.listed_append message_of (is_under a b) p q ∙ ap (λ l. l ++ log_under q a b) (stored.listed_none message_of (is_under a b) p before))
        (λ k l ne.
        stored.listed_skip message_of (is_under k l) p (marked x) q (and_right (of_pair k l x) false refl)
        ∙ sym (stored.listed_skip message_of (is_under k l) p x q (and_left (of_pair k l x) (not x.arrived) (other_pair x a b k l x_pair ne))))

    pub arrived_carried : AllByRecursion (λ r. is_arrived a b r ≡ false) q → log_arrived (p ++ (marked x ∷ q)) ≡ put (log_arrived (p ++ (x ∷ q))) a b (log_arrived (p ++ (x ∷ q)) a b ++ (message_of x ∷ []))
    arrived_carried after =
        let q_none : log_arrived q a b ≡ [] = stored.listed_none message_of (is_arrived a b) q after in
        let old : log_arrived (p ++ (x ∷ q)) a b ≡ log_arrived p a b =
        stored.listed_skip message_of (is_arrived a b) p x q (and_right (of_pair a b x) x.arrived x_way)
        ∙ stored.listed_append message_of (is_arrived a b) p q ∙ ap (λ l. log_arrived p a b ++ l) q_none ∙ append-nil (log_arrived p a b) in
        put_is (log_arrived (p ++ (x ∷ q))) (log_arrived (p ++ (marked x ∷ q))) a b _
        (stored.listed_at message_of (is_arrived a b) p (marked x) q (and_from (of_pair a b x) true x_pair refl)
        ∙ ap (λ l. log_arrived p a b ++ (message_of x ∷ l)) q_none
        ∙ ap (λ l. l ++ (message_of x ∷ [])) (sym old))
        (λ k l ne.
        stored.listed_skip message_of (is_arrived k l) p (marked x) q (and_left (of_pair k l x) true (other_pair x a b k l x_pair ne))
        ∙ sym (stored.listed_skip message_of (is_arrived k l) p x q (and_left (of_pair k l x) x.arrived (other_pair x a b k l x_pair ne))))

-- a take: x is the first of p, x, q that arrived from a to b with the tag t
module _ (x : Record) (q : List Record) (a b t : ℕ) (here : is_tagged a b t x ≡ true) where
  x_arrived : is_arrived a b x ≡ true
  x_arrived = (and_parts (is_arrived a b x) (eqb x.tag t) here).0

  pub arrived_taken : (p : List Record) → AllByRecursion (λ r. is_tagged a b t r ≡ false) p → log_arrived (p ++ q) ≡ put (log_arrived (p ++ (x ∷ q))) a b (without t (log_arrived (p ++ (x ∷ q)) a b))
  arrived_taken p h =
      put_is (log_arrived (p ++ (x ∷ q))) (log_arrived (p ++ q)) a b _ (sym (stored.without_tagged message_of (is_arrived a b) t x q here p h))
      (λ k l ne. sym (stored.listed_skip message_of (is_arrived k l) p x q (and_left (of_pair k l x) x.arrived
      (other_pair x a b k l (and_parts (of_pair a b x) x.arrived x_arrived).0 ne))))

  pub under_taken : (p : List Record) → log_under (p ++ q) ≡ log_under (p ++ (x ∷ q))
  under_taken p =
      fun_ext (λ k. fun_ext (λ l. sym (stored.listed_skip message_of (is_under k l) p x q (and_right (of_pair k l x) (not x.arrived)
      (ap not (and_parts (of_pair a b x) x.arrived x_arrived).1)))))

-- how many wait
pub listed_count : (a b : ℕ) (rs : List Record) → length (log_under rs a b) + length (log_arrived rs a b) ≡ length (filter (of_pair a b) rs)
unfolding listed
listed_count a b [] = refl
listed_count a b (r ∷ rs) = by (of_pair a b r) r.arrived (listed_count a b rs)
  where
    by : (t u : Bool) → length (log_under rs a b) + length (log_arrived rs a b) ≡ length (filter (of_pair a b) rs)
        → length (map message_of (cond (t && not u) (r ∷ filter (is_under a b) rs) (filter (is_under a b) rs)))
        + length (map message_of (cond (t && u) (r ∷ filter (is_arrived a b) rs) (filter (is_arrived a b) rs)))
        ≡ length (cond t (r ∷ filter (of_pair a b) rs) (filter (of_pair a b) rs))
    by true true e = omega arith
    by true false e = omega arith
    by false true e = e
    by false false e = e

-- a record counts once, at its own pair
abbrev hit : Record → ℕ → ℕ → ℕ
hit r a b = cond (of_pair a b r) 1 0

count_more : (a b : ℕ) (r : Record) (rs : List Record) → length (filter (of_pair a b) (r ∷ rs)) ≡ hit r a b + length (filter (of_pair a b) rs)
count_more a b r rs = by (of_pair a b r)
  where
    by : (t : Bool) → length (cond t (r ∷ filter (of_pair a b) rs) (filter (of_pair a b) rs)) ≡ cond t 1 0 + length (filter (of_pair a b) rs)
    by true = omega arith
    by false = omega arith

-- each good record counts once
count_all : (p : ℕ) (rs : List Record) → AllByRecursion (Good p) rs → sum_below (λ a. sum_below (λ b. length (filter (of_pair a b) rs)) p) p ≡ length rs
count_all p [] h = sum-nowhere (λ a b. 0) p (λ _ _. refl)
count_all p (r ∷ rs) h =
    let ok = pair_parts p r.from r.to h.0.pair in
    sum-entries (λ a b. length (filter (of_pair a b) (r ∷ rs))) (λ a b. hit r a b + length (filter (of_pair a b) rs)) p (λ a b. count_more a b r rs)
    ∙ sum-tables (hit r) (λ a b. length (filter (of_pair a b) rs)) p
    ∙ omega (arith, sum-entry r.from r.to 1 p ok.0 ok.1, count_all p rs h.1)

pub waiting_is : (p room : ℕ) (rs : List Record) → AllByRecursion (Good p) rs → waiting (log_network p room rs) ≡ length rs
unfolding waiting
waiting_is p room rs h =
    sum-entries (between (log_network p room rs)) (λ a b. length (filter (of_pair a b) rs)) p (λ a b. listed_count a b rs)
    ∙ count_all p rs h

-- the order
pub ordered_sent : (rs : List Record) (y : Record) → y.arrived ≡ false → Ordered rs → Ordered (rs ++ (y ∷ []))
ordered_sent [] y e o = ((λ _. tt), tt)
ordered_sent (r ∷ rs) y e o = (
  (λ w. All-append (λ s. is_arrived r.from r.to s ≡ false) rs (y ∷ []) (o.0 w) (and_right (of_pair r.from r.to y) y.arrived e, tt)),
  ordered_sent rs y e o.1,
)

pub ordered_taken : (p : List Record) (x : Record) (q : List Record) → Ordered (p ++ (x ∷ q)) → Ordered (p ++ q)
ordered_taken [] x q o = o.1
ordered_taken (r ∷ p) x q o = ((λ w. all_skip (λ s. is_arrived r.from r.to s ≡ false) p x q (o.0 w)), ordered_taken p x q o.1)

pub ordered_after : (p : List Record) (x : Record) (q : List Record) → Ordered (p ++ (x ∷ q)) → x.arrived ≡ false → AllByRecursion (λ s. is_arrived x.from x.to s ≡ false) q
ordered_after [] x q o w = o.0 w
ordered_after (r ∷ p) x q o w = ordered_after p x q o.1 w

pub ordered_carried : (a b : ℕ) (p : List Record) (x : Record) (q : List Record) → AllByRecursion (λ r. is_under a b r ≡ false) p → of_pair a b x ≡ true → Ordered (p ++ (x ∷ q)) → Ordered (p ++ (marked x ∷ q))
ordered_carried a b [] x q h e o = ((λ w. absurd (true≢false w)), o.1)
ordered_carried a b (r ∷ p) x q h e o = (
  (λ w. all_swap (λ s. is_arrived r.from r.to s ≡ false) p x (marked x) q (other w) (o.0 w)),
  ordered_carried a b p x q h.1 e o.1,
)
  where
    -- r is under way, and so of another pair
    other : r.arrived ≡ false → is_arrived r.from r.to (marked x) ≡ false
    other w = and_left (of_pair r.from r.to x) true (by (cases_Bool (of_pair r.from r.to x)))
      where
        by : (of_pair r.from r.to x ≡ true) ⊎ (of_pair r.from r.to x ≡ false) → of_pair r.from r.to x ≡ false
        by (inl y) =
            let k = and_parts (eqb x.from r.from) (eqb x.to r.to) y in
            let m = and_parts (eqb x.from a) (eqb x.to b) e in
            let f : r.from ≡ a = sym (eqb-true x.from r.from k.0) ∙ eqb-true x.from a m.0 in
            let t : r.to ≡ b = sym (eqb-true x.to r.to k.1) ∙ eqb-true x.to b m.1 in
            let u : is_under a b r ≡ true = and_from (of_pair a b r) (not r.arrived) (and_from (eqb r.from a) (eqb r.to b) (eq-eqb r.from a f) (eq-eqb r.to b t)) (ap not w) in
            absurd (true≢false (sym u ∙ h.0))
        by (inr y) = y
