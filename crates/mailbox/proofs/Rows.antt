-- The slots of a pair, and the messages that they stand for.
use Rattle.std.proofs.Common.{◌≡◌, ℕ, suc, ◌+◌, ◌≤◌, true, false, eqb, ◌⊎◌, List, [], ◌∷◌, ◌++◌, length, sym, refl, ap, ◌∙◌, ap₂, inl, inr, arith}
use Rattle.std.specs.List.{AllByRecursion}
use Rattle.std.proofs.lemmas.List.{append-nil}
use Rattle.std.proofs.ByRecursion.{All-append, All-weaker}
use Rattle.std.proofs.lemmas.Bool.{cases_Bool, and_parts, true≢false}
use Rattle.transport.specs.Stored.{listed}
use Rattle.transport.proofs.Stored as stored
use Rattle.transport.proofs.Passes.{all_skip, all_swap, all_at}
use Rattle.mailbox.specs.declared.Slot.{Slot}
use Rattle.mailbox.specs.declared.Slot.TheVariants.{Free, UnderWay, Arrived}
use Rattle.mailbox.specs.Slots.{message_of, count_of, is_free, is_under, is_arrived, is_tagged, arrived, Filed}

-- a slot is free, under way or arrived
pub free_under : (s : Slot) → is_free s ≡ true → is_under s ≡ false
free_under Free e = refl
free_under (UnderWay l) e = absurd (true≢false (sym e))
free_under (Arrived l) e = refl

pub free_arrived : (s : Slot) → is_free s ≡ true → is_arrived s ≡ false
free_arrived Free e = refl
free_arrived (UnderWay l) e = refl
free_arrived (Arrived l) e = absurd (true≢false (sym e))

pub under_arrived : (s : Slot) → is_under s ≡ true → is_arrived s ≡ false
under_arrived Free e = refl
under_arrived (UnderWay l) e = refl
under_arrived (Arrived l) e = absurd (true≢false (sym e))

pub arrived_under : (s : Slot) → is_arrived s ≡ true → is_under s ≡ false
arrived_under Free e = refl
arrived_under (UnderWay l) e = absurd (true≢false (sym e))
arrived_under (Arrived l) e = refl

pub under_free : (s : Slot) → is_under s ≡ true → is_free s ≡ false
under_free Free e = absurd (true≢false (sym e))
under_free (UnderWay l) e = refl
under_free (Arrived l) e = refl

else_arrived : (s : Slot) → is_free s ≡ false → is_under s ≡ false → is_arrived s ≡ true
else_arrived Free a b = absurd (true≢false a)
else_arrived (UnderWay l) a b = absurd (true≢false b)
else_arrived (Arrived l) a b = refl

-- a message under way that arrives
pub arrived_is : (s : Slot) → is_under s ≡ true → is_arrived (arrived s) ≡ true
arrived_is Free e = absurd (true≢false (sym e))
arrived_is (UnderWay l) e = refl
arrived_is (Arrived l) e = refl

pub arrived_message : (s : Slot) → message_of (arrived s) ≡ message_of s
arrived_message Free = refl
arrived_message (UnderWay l) = refl
arrived_message (Arrived l) = refl

pub arrived_count : (s : Slot) → count_of (arrived s) ≡ count_of s
arrived_count Free = refl
arrived_count (UnderWay l) = refl
arrived_count (Arrived l) = refl

-- what stands behind
pub filed_free : (p : List Slot) (x : Slot) (q : List Slot) → Filed (p ++ (x ∷ q)) → is_free x ≡ true → AllByRecursion (λ r. is_free r ≡ true) q
filed_free [] x q f e = f.1 e
filed_free (y ∷ p) x q f e = filed_free p x q f.3 e

pub filed_under : (p : List Slot) (x : Slot) (q : List Slot) → Filed (p ++ (x ∷ q)) → is_under x ≡ true → AllByRecursion (λ r. is_arrived r ≡ false) q
filed_under [] x q f e = f.2 e
filed_under (y ∷ p) x q f e = filed_under p x q f.3 e

-- how many are in use: the place of the first free slot
count_used : (p : List Slot) → AllByRecursion (λ s. is_free s ≡ false) p → length (listed message_of is_under p) + length (listed message_of is_arrived p) ≡ length p
count_used [] h = ap₂ (λ x y. length x + length y) (stored.listed_nil message_of is_under) (stored.listed_nil message_of is_arrived)
count_used (x ∷ p) h = by (count_used p h.1) (cases_Bool (is_under x))
  where
    by : length (listed message_of is_under p) + length (listed message_of is_arrived p) ≡ length p → (is_under x ≡ true) ⊎ (is_under x ≡ false) → length (listed message_of is_under (x ∷ p)) + length (listed message_of is_arrived (x ∷ p)) ≡ suc (length p)
    by rest (inl e) = ap₂ (λ u v. length u + length v) (stored.listed_yes message_of is_under x p e) (stored.listed_no message_of is_arrived x p (under_arrived x e)) ∙ more rest
      where
        more : length (listed message_of is_under p) + length (listed message_of is_arrived p) ≡ length p → suc (length (listed message_of is_under p)) + length (listed message_of is_arrived p) ≡ suc (length p)
        more r = omega arith
    by rest (inr e) = ap₂ (λ u v. length u + length v) (stored.listed_no message_of is_under x p e) (stored.listed_yes message_of is_arrived x p (else_arrived x h.0 e)) ∙ more rest
      where
        more : length (listed message_of is_under p) + length (listed message_of is_arrived p) ≡ length p → length (listed message_of is_under p) + suc (length (listed message_of is_arrived p)) ≡ suc (length p)
        more r = omega arith

-- a filed slot has at most two words
pub filed_count : (p : List Slot) (x : Slot) (q : List Slot) → Filed (p ++ (x ∷ q)) → count_of x ≤ 2
filed_count [] x q f = f.0
filed_count (y ∷ p) x q f = filed_count p x q f.3

-- a send into the first free slot
module _ (p : List Slot) (x y : Slot) (q : List Slot) (f : Filed (p ++ (x ∷ q))) (before : AllByRecursion (λ s. is_free s ≡ false) p) (here : is_free x ≡ true) (new : is_under y ≡ true) (small : count_of y ≤ 2) where
  q_free : AllByRecursion (λ r. is_free r ≡ true) q
  q_free = filed_free p x q f here

  q_under : listed message_of is_under q ≡ []
  q_under = stored.listed_none message_of is_under q (All-weaker (λ r. is_free r ≡ true) (λ r. is_under r ≡ false) free_under q q_free)

  q_arrived : AllByRecursion (λ r. is_arrived r ≡ false) q
  q_arrived = All-weaker (λ r. is_free r ≡ true) (λ r. is_arrived r ≡ false) free_arrived q q_free

  pub posted_under : listed message_of is_under (p ++ (y ∷ q)) ≡ listed message_of is_under (p ++ (x ∷ q)) ++ (message_of y ∷ [])
  posted_under =
      stored.listed_at message_of is_under p y q new
      ∙ ap (λ l. listed message_of is_under p ++ (message_of y ∷ l)) q_under
      ∙ ap (λ l. l ++ (message_of y ∷ [])) (sym (stored.listed_skip message_of is_under p x q (free_under x here) ∙ stored.listed_append message_of is_under p q ∙ ap (λ l. listed message_of is_under p ++ l) q_under ∙ append-nil (listed message_of is_under p)))

  pub posted_arrived : listed message_of is_arrived (p ++ (y ∷ q)) ≡ listed message_of is_arrived (p ++ (x ∷ q))
  posted_arrived = stored.listed_skip message_of is_arrived p y q (under_arrived y new) ∙ sym (stored.listed_skip message_of is_arrived p x q (free_arrived x here))

  posted_by : (r : List Slot) → AllByRecursion (λ s. is_free s ≡ false) r → Filed (r ++ (x ∷ q)) → Filed (r ++ (y ∷ q))
  posted_by [] h g = (small, (λ e. absurd (true≢false (sym e ∙ under_free y new))), (λ _. q_arrived), g.3)
  posted_by (z ∷ r) h g = (
    g.0,
    (λ e. absurd (true≢false (sym e ∙ h.0))),
    (λ e. all_swap (λ s. is_arrived s ≡ false) r x y q (under_arrived y new) (g.2 e)),
    posted_by r h.1 g.3,
  )

  pub posted_filed : Filed (p ++ (y ∷ q))
  posted_filed = posted_by p before f

pub free_count : (p : List Slot) (x : Slot) (q : List Slot) → Filed (p ++ (x ∷ q)) → AllByRecursion (λ s. is_free s ≡ false) p → is_free x ≡ true → length (listed message_of is_under (p ++ (x ∷ q))) + length (listed message_of is_arrived (p ++ (x ∷ q))) ≡ length p
free_count p x q f before here =
    let q_free = filed_free p x q f here in
    let u = stored.listed_none message_of is_under q (All-weaker (λ r. is_free r ≡ true) (λ r. is_under r ≡ false) free_under q q_free) in
    let v = stored.listed_none message_of is_arrived q (All-weaker (λ r. is_free r ≡ true) (λ r. is_arrived r ≡ false) free_arrived q q_free) in
    ap₂ (λ u v. length u + length v)
    (stored.listed_skip message_of is_under p x q (free_under x here) ∙ stored.listed_append message_of is_under p q ∙ ap (λ l. listed message_of is_under p ++ l) u ∙ append-nil (listed message_of is_under p))
    (stored.listed_skip message_of is_arrived p x q (free_arrived x here) ∙ stored.listed_append message_of is_arrived p q ∙ ap (λ l. listed message_of is_arrived p ++ l) v ∙ append-nil (listed message_of is_arrived p))
    ∙ count_used p before

pub full_count : (p : List Slot) → AllByRecursion (λ s. is_free s ≡ false) p → length (listed message_of is_under p) + length (listed message_of is_arrived p) ≡ length p
full_count p h = count_used p h

-- a carry of the first under way
module _ (p : List Slot) (x y : Slot) (q : List Slot) (f : Filed (p ++ (x ∷ q))) (before : AllByRecursion (λ s. is_under s ≡ false) p) (here : is_under x ≡ true) (now_arrived : is_arrived y ≡ true) (same : message_of y ≡ message_of x) (small : count_of y ≤ 2) where
  pub carried_first : listed message_of is_under (p ++ (x ∷ q)) ≡ message_of x ∷ listed message_of is_under q
  carried_first = stored.listed_at message_of is_under p x q here ∙ ap (λ l. l ++ (message_of x ∷ listed message_of is_under q)) (stored.listed_none message_of is_under p before)

  pub carried_under : listed message_of is_under (p ++ (y ∷ q)) ≡ listed message_of is_under q
  carried_under = stored.listed_skip message_of is_under p y q (arrived_under y now_arrived) ∙ stored.listed_append message_of is_under p q ∙ ap (λ l. l ++ listed message_of is_under q) (stored.listed_none message_of is_under p before)

  pub carried_arrived : listed message_of is_arrived (p ++ (y ∷ q)) ≡ listed message_of is_arrived (p ++ (x ∷ q)) ++ (message_of x ∷ [])
  carried_arrived =
      let none_behind = stored.listed_none message_of is_arrived q (filed_under p x q f here) in
      stored.listed_at message_of is_arrived p y q now_arrived
      ∙ ap₂ (λ m l. listed message_of is_arrived p ++ (m ∷ l)) same none_behind
      ∙ ap (λ l. l ++ (message_of x ∷ [])) (sym (stored.listed_skip message_of is_arrived p x q (under_arrived x here) ∙ stored.listed_append message_of is_arrived p q ∙ ap (λ l. listed message_of is_arrived p ++ l) none_behind ∙ append-nil (listed message_of is_arrived p)))

  carried_by : (r : List Slot) → AllByRecursion (λ s. is_under s ≡ false) r → Filed (r ++ (x ∷ q)) → Filed (r ++ (y ∷ q))
  carried_by [] h g = (small, (λ e. absurd (true≢false (sym now_arrived ∙ free_arrived y e))), (λ e. absurd (true≢false (sym e ∙ arrived_under y now_arrived))), g.3)
  carried_by (z ∷ r) h g = (
    g.0,
    (λ e. absurd (true≢false (sym (all_at (λ s. is_free s ≡ true) r x q (g.1 e)) ∙ under_free x here))),
    (λ e. absurd (true≢false (sym e ∙ h.0))),
    carried_by r h.1 g.3,
  )

  pub carried_filed : Filed (p ++ (y ∷ q))
  carried_filed = carried_by p before f

-- a take of the first with a tag
pub taken_under : (t : ℕ) (x : Slot) (q : List Slot) → is_tagged t x ≡ true → (p : List Slot) → listed message_of is_under (p ++ (x ∷ q)) ≡ listed message_of is_under (p ++ q)
taken_under t x q here p = stored.listed_skip message_of is_under p x q (arrived_under x (and_parts (is_arrived x) (eqb (message_of x).tag t) here).0)

filed_skip : (p : List Slot) (x : Slot) (q : List Slot) → Filed (p ++ (x ∷ q)) → Filed (p ++ q)
filed_skip [] x q f = f.3
filed_skip (z ∷ p) x q f =
    (f.0, (λ e. all_skip (λ s. is_free s ≡ true) p x q (f.1 e)), (λ e. all_skip (λ s. is_arrived s ≡ false) p x q (f.2 e)), filed_skip p x q f.3)

filed_push : (p : List Slot) (z : Slot) → count_of z ≤ 2 → is_free z ≡ true → Filed p → Filed (p ++ (z ∷ []))
filed_push [] z m e f = (m, (λ _. tt), (λ _. tt), tt)
filed_push (r ∷ p) z m e f = (
  f.0,
  (λ k. All-append (λ s. is_free s ≡ true) p (z ∷ []) (f.1 k) (e, tt)),
  (λ k. All-append (λ s. is_arrived s ≡ false) p (z ∷ []) (f.2 k) (free_arrived z e, tt)),
  filed_push p z m e f.3,
)

pub taken_filed : (p : List Slot) (x : Slot) (q : List Slot) → Filed (p ++ (x ∷ q)) → Filed ((p ++ q) ++ (Free ∷ []))
taken_filed p x q f = filed_push (p ++ q) Free (omega arith) refl (filed_skip p x q f)
