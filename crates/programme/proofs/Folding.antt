-- Reduce: a tree towards rank 0, and a last message to another root.
use Rattle.std.proofs.Common.{◌≡◌, ℕ, zero, suc, ◌+◌, ◌-◌, ◌%◌, ◌^◌, ◌<◌, ◌≤◌, min, Bool, true, false, cond, not, ◌&&◌, eqb, ltb, ◌⊎◌, List, [], ◌∷◌, ◌++◌, sym, refl, ap, ◌∙◌, subst, ap₂, inl, inr, ⊎_elim, append-nil, mod-eq_of_lt, arith, pow_pos}
use Rattle.std.proofs.lemmas.Bool.{ltb-true, ltb-false, lt-ltb, eqb-true, eqb-false, eq-eqb, ne_eqb, cases_eq, and_parts, and_from, and_left, and_right, not-true, not_from_false, not_from_true}
use Rattle.programme.specs.declared.Action.{Action}
use Rattle.programme.specs.declared.Action.TheVariants.{Send, Take}
use Rattle.programme.specs.declared.Merge.{Merge}
use Rattle.programme.specs.declared.Merge.TheVariants.{After, Replace}
use Rattle.programme.specs.declared.Kind.TheVariants.{Reduce}
use Rattle.programme.specs.Label.{deliver}
use Rattle.programme.specs.Levels.{levels}
use Rattle.programme.specs.Monoid.{Laws, span}
use Rattle.programme.specs.Rank.{Rank, Mail, fresh, posted, acts}
use Rattle.programme.specs.Programme.{steps, when, bit, flip, fold_step, reduce}
use Rattle.programme.specs.Solved.{Stands, Solved}
use Rattle.programme.specs.Message.{Interval, Within, reduce_stamp, reduce_covers}
use Rattle.programme.specs.Outcome.{ComesOut}
use Rattle.ranks.specs.Ranks.{sum_below, greatest_below}
use Rattle.programme.specs.Formula.{sends}
use Rattle.programme.proofs.Power.{levels_below, levels_le, levels_past, floor_log_pow, pow_inj}
use Rattle.programme.proofs.Bits.{mod_set, mod_clear, mod_next, set_le, Set, Clear, when_set, when_clear}
use Rattle.programme.proofs.Lists.{Every, every_stands, every_append, every_steps, every_when, stands_first, stands_left, stands_right, stands_when, stands_steps, moved_stands, acts_done, acts_append, sends_append, sends_steps, sends_when, sends_when_take}
use Rattle.ranks.proofs.Sums.{sum_same, greatest_is}
use Rattle.programme.proofs.Spans.{span_one, spans_join}
use Rattle.programme.proofs.Mails.{mail_path, moved_mail}

-- the four ways of a step
data Way (p r k : ℕ) : Type 0 where
  left : (r % 2 ^ k ≡ 0 → ⊥) → fold_step p r k ≡ [] → Way p r k
  sends_on : r % 2 ^ k ≡ 0 → bit r k ≡ true → fold_step p r k ≡ Send (r - 2 ^ k) k ∷ [] → Way p r k
  takes : r % 2 ^ k ≡ 0 → bit r k ≡ false → r + 2 ^ k < p → fold_step p r k ≡ Take (r + 2 ^ k) k After ∷ [] → Way p r k
  alone : r % 2 ^ k ≡ 0 → bit r k ≡ false → p ≤ r + 2 ^ k → fold_step p r k ≡ [] → Way p r k

way : (p r k : ℕ) → Way p r k
unfolding fold_step
way p r k = go (eqb (r % 2 ^ k) 0) refl (bit r k) refl (ltb (r + 2 ^ k) p) refl
  where
    go : (t : Bool) → eqb (r % 2 ^ k) 0 ≡ t → (b : Bool) → bit r k ≡ b → (l : Bool) → ltb (r + 2 ^ k) p ≡ l → Way p r k
    go false e b f l g = left (eqb-false (r % 2 ^ k) 0 e) (rw e)
    go true e true f l g = sends_on (eqb-true (r % 2 ^ k) 0 e) f (rw (e, f))
    go true e false f true g = takes (eqb-true (r % 2 ^ k) 0 e) f (ltb-true (r + 2 ^ k) p g) (rw (e, f, g))
    go true e false f false g = alone (eqb-true (r % 2 ^ k) 0 e) f (ltb-false (r + 2 ^ k) p g) (rw (e, f, g))

abbrev last_send : (root r : ℕ) → Bool
last_send root r = not (eqb root 0) && eqb r 0

abbrev last_take : (root r : ℕ) → Bool
last_take root r = not (eqb root 0) && eqb r root

last_send_is : (root r : ℕ) → last_send root r ≡ true → (root ≡ 0 → ⊥) × (r ≡ 0)
last_send_is root r e =
    let c : (not (eqb root 0) ≡ true) × (eqb r 0 ≡ true) = and_parts (not (eqb root 0)) (eqb r 0) e in
    (eqb-false root 0 (not-true (eqb root 0) c.0), eqb-true r 0 c.1)

last_take_is : (root r : ℕ) → last_take root r ≡ true → (root ≡ 0 → ⊥) × (r ≡ root)
last_take_is root r e =
    let c : (not (eqb root 0) ≡ true) × (eqb r root ≡ true) = and_parts (not (eqb root 0)) (eqb r root) e in
    (eqb-false root 0 (not-true (eqb root 0) c.0), eqb-true r root c.1)

last_send_so : (root r : ℕ) → (root ≡ 0 → ⊥) → r ≡ 0 → last_send root r ≡ true
last_send_so root r h e = and_from (not (eqb root 0)) (eqb r 0) (not_from_false (eqb root 0) (ne_eqb root 0 h)) (eq-eqb r 0 e)

last_take_so : (root r : ℕ) → (root ≡ 0 → ⊥) → r ≡ root → last_take root r ≡ true
last_take_so root r h e = and_from (not (eqb root 0)) (eqb r root) (not_from_false (eqb root 0) (ne_eqb root 0 h)) (eq-eqb r root e)

data Sent (p root r : ℕ) (before : List Action) (b label : ℕ) : Type 0 where
  climbs : (k : ℕ) → k < levels p → r % 2 ^ k ≡ 0 → bit r k ≡ true → b ≡ r - 2 ^ k → label ≡ k → before ≡ steps (fold_step p r) k → Sent p root r before b label
  delivers : (root ≡ 0 → ⊥) → r ≡ 0 → b ≡ root → label ≡ deliver → before ≡ steps (fold_step p r) (levels p) → Sent p root r before b label

data Took (p root r : ℕ) (before : List Action) (a label : ℕ) (with : Merge) : Type 0 where
  climbs : (k : ℕ) → k < levels p → r % 2 ^ k ≡ 0 → bit r k ≡ false → r + 2 ^ k < p → a ≡ r + 2 ^ k → label ≡ k → with ≡ After → before ≡ steps (fold_step p r) k → Took p root r before a label with
  delivers : (root ≡ 0 → ⊥) → r ≡ root → a ≡ 0 → label ≡ deliver → with ≡ Replace → before ≡ steps (fold_step p r) (levels p) ++ when (last_send root r) (Send root deliver) → Took p root r before a label with

abbrev Told : (p root r : ℕ) → List Action → Action → Type 0
Told p root r before (Send b label) = Sent p root r before b label
Told p root r before (Take a label with) = Took p root r before a label with

told_step : (p root r k : ℕ) → k < levels p → Way p r k → Every (λ before. Told p root r (steps (fold_step p r) k ++ before)) (fold_step p r k)
told_step p root r k l (left z e) = subst (Every (λ before. Told p root r (steps (fold_step p r) k ++ before))) (sym e) tt
told_step p root r k l (sends_on z b e) = subst (Every (λ before. Told p root r (steps (fold_step p r) k ++ before))) (sym e) (Sent.climbs k l z b refl refl (append-nil (steps (fold_step p r) k)), tt)
told_step p root r k l (takes z b f e) = subst (Every (λ before. Told p root r (steps (fold_step p r) k ++ before))) (sym e) (Took.climbs k l z b f refl refl refl (append-nil (steps (fold_step p r) k)), tt)
told_step p root r k l (alone z b f e) = subst (Every (λ before. Told p root r (steps (fold_step p r) k ++ before))) (sym e) tt

told : (p root r : ℕ) → Every (Told p root r) (reduce p root r)
unfolding reduce
told p root r =
    every_append (Told p root r) (steps (fold_step p r) (levels p) ++ when (last_send root r) (Send root deliver)) (when (last_take root r) (Take 0 deliver Replace))
    (every_append (Told p root r) (steps (fold_step p r) (levels p)) (when (last_send root r) (Send root deliver))
    (every_steps (Told p root r) (fold_step p r) (levels p) (λ k l. told_step p root r k l (way p r k)))
    (every_when (λ before. Told p root r (steps (fold_step p r) (levels p) ++ before)) (last_send root r) (Send root deliver)
    λ e. Sent.delivers (last_send_is root r e).0 (last_send_is root r e).1 refl refl (append-nil (steps (fold_step p r) (levels p)))))
    (every_when (λ before. Told p root r ((steps (fold_step p r) (levels p) ++ when (last_send root r) (Send root deliver)) ++ before)) (last_take root r) (Take 0 deliver Replace)
    λ e. Took.delivers (last_take_is root r e).0 (last_take_is root r e).1 refl refl refl (append-nil (steps (fold_step p r) (levels p) ++ when (last_send root r) (Send root deliver))))

step_stands : (p root r k : ℕ) (a : Action) → k < levels p → fold_step p r k ≡ a ∷ [] → Stands (reduce p root r) a
unfolding reduce
step_stands p root r k a l e =
    stands_left (steps (fold_step p r) (levels p) ++ when (last_send root r) (Send root deliver)) (when (last_take root r) (Take 0 deliver Replace)) a
    (stands_left (steps (fold_step p r) (levels p)) (when (last_send root r) (Send root deliver)) a
    (stands_steps (fold_step p r) (levels p) k a l (subst (λ (x : List Action). Stands x a) (sym e) (stands_first a []))))

pub send_is : (p r k : ℕ) → r % 2 ^ k ≡ 0 → bit r k ≡ true → fold_step p r k ≡ Send (r - 2 ^ k) k ∷ []
unfolding fold_step
send_is p r k z b = rw (eq-eqb (r % 2 ^ k) 0 z, b)

pub take_is : (p r k : ℕ) → r % 2 ^ k ≡ 0 → bit r k ≡ false → r + 2 ^ k < p → fold_step p r k ≡ Take (r + 2 ^ k) k After ∷ []
unfolding fold_step
take_is p r k z b l = rw (eq-eqb (r % 2 ^ k) 0 z, b, lt-ltb (r + 2 ^ k) p l)

deliver_stands : (p root : ℕ) → (root ≡ 0 → ⊥) → Stands (reduce p root 0) (Send root deliver)
unfolding reduce
deliver_stands p root h =
    stands_left (steps (fold_step p 0) (levels p) ++ when (last_send root 0) (Send root deliver)) (when (last_take root 0) (Take 0 deliver Replace)) (Send root deliver)
    (stands_right (steps (fold_step p 0) (levels p)) (when (last_send root 0) (Send root deliver)) (Send root deliver)
    (stands_when (last_send root 0) (Send root deliver) (last_send_so root 0 h refl)))

receive_stands : (p root : ℕ) → (root ≡ 0 → ⊥) → Stands (reduce p root root) (Take 0 deliver Replace)
unfolding reduce
receive_stands p root h =
    stands_right (steps (fold_step p root) (levels p) ++ when (last_send root root) (Send root deliver)) (when (last_take root root) (Take 0 deliver Replace)) (Take 0 deliver Replace)
    (stands_when (last_take root root) (Take 0 deliver Replace) (last_take_so root root h refl))

-- rank 0 has no bit
no_bit : (k : ℕ) → bit 0 k ≡ true → ⊥
no_bit k e = omega (arith, set_le 0 k e, pow_pos k)

bit_positive : (r k : ℕ) → bit r k ≡ true → r ≡ 0 → ⊥
bit_positive r k e z = omega (arith, set_le r k e, pow_pos k)

-- once a remainder, always one
mod_stays : (r k : ℕ) → r % 2 ^ suc k ≡ 0 → r % 2 ^ k ≡ 0
mod_stays r k e = omega (arith, mod_next r k)

climb_covers : (p a b k : ℕ) → a ≡ b + 2 ^ k → reduce_covers p a b ≡ record { first = a; number = min (2 ^ k) (p - a) }
climb_covers p a b k e =
    let d : a - b ≡ 2 ^ k = omega arith in
    ap (λ (t : Bool). cond t (record { first = 0; number = p }) (record { first = a; number = min (a - b) (p - a) })) (ne_eqb a 0 (λ z. omega (arith, pow_pos k)))
    ∙ ap (λ (w : ℕ). record { first = a; number = min w (p - a) }) d

within : (p root a b label : ℕ) (before : List Action) → a < p → Sent p root a before b label → Within p (reduce_covers p a b)
within p root a b label before h (climbs k l z t eb _ _) = subst (Within p) (sym (climb_covers p a b k (omega (arith, set_le a k t)))) (omega (arith, pow_pos k), omega arith)
within p root a b label before h (delivers n ea _ _ _) = subst (λ (x : ℕ). Within p (reduce_covers p x b)) (sym ea) (omega arith, omega arith)

module _ {E : Type 0} (proper : E → Bool) (unit : E) (join : E → E → E) (laws : Laws proper unit join) (p root : ℕ) (root_lt : root < p) (inputs : ℕ → E) (inputs_proper : (r : ℕ) → r < p → proper (inputs r) ≡ true) where
  abbrev joined : Interval → E
  joined i = span unit join inputs i.first i.number

  abbrev sent : (a b : ℕ) → Mail E
  sent a b = record { stamp = reduce_stamp p a b; value = joined (reduce_covers p a b) }

  climb_stamp : (a b k : ℕ) → a ≡ b + 2 ^ k → (sent a b).stamp ≡ min k (levels (p - a)) + 1
  climb_stamp a b k e =
      let d : a - b ≡ 2 ^ k = omega arith in
      rw (ne_eqb a 0 (λ z. omega (arith, pow_pos k)), d, floor_log_pow k)

  climb_value : (a b k : ℕ) → a ≡ b + 2 ^ k → (sent a b).value ≡ span unit join inputs a (min (2 ^ k) (p - a))
  climb_value a b k e = ap joined (climb_covers p a b k e)

  -- rank r after k steps
  record Holds (r k : ℕ) (x : Rank E) : Type 0 where
    value : r % 2 ^ k ≡ 0 → x.value ≡ span unit join inputs r (min (2 ^ k) (p - r))
    arrival : r % 2 ^ k ≡ 0 → x.arrival ≡ min k (levels (p - r))
    departure : r % 2 ^ k ≡ 0 → x.departure ≡ 0
    bound : x.arrival ≤ k

  step : (r k : ℕ) (x : Rank E) → r < p → Holds r k x → Way p r k → Holds r (suc k) (acts join (λ a. sent a r) (fold_step p r k) x)
  step r k x h c (left z e) =
      subst (λ (l : List Action). Holds r (suc k) (acts join (λ a. sent a r) l x)) (sym e)
      (record {
        value = λ y. absurd (z (mod_stays r k y));
        arrival = λ y. absurd (z (mod_stays r k y));
        departure = λ y. absurd (z (mod_stays r k y));
        bound = omega (arith, c.bound);
      })
  step r k x h c (sends_on z b e) =
      subst (λ (l : List Action). Holds r (suc k) (acts join (λ a. sent a r) l x)) (sym e)
      (record {
        value = λ y. absurd (omega (arith, mod_set r k b, pow_pos k));
        arrival = λ y. absurd (omega (arith, mod_set r k b, pow_pos k));
        departure = λ y. absurd (omega (arith, mod_set r k b, pow_pos k));
        bound = omega (arith, c.bound);
      })
  step r k x h c (takes z b l e) =
      subst (λ (l : List Action). Holds r (suc k) (acts join (λ a. sent a r) l x)) (sym e)
      (record {
        value = λ y.
            ap₂ join (c.value z) (climb_value (r + 2 ^ k) r k refl)
            ∙ spans_join proper unit join laws p inputs inputs_proper _ _ _ _ _ _ (omega arith) (omega arith) (omega arith) (omega arith);
        arrival = λ y. omega (arith, c.arrival z, climb_stamp (r + 2 ^ k) r k refl, levels_below (p - r) k (omega arith));
        departure = λ y. c.departure z;
        bound = omega (arith, c.bound, climb_stamp (r + 2 ^ k) r k refl);
      })
  step r k x h c (alone z b l e) =
      subst (λ (l : List Action). Holds r (suc k) (acts join (λ a. sent a r) l x)) (sym e)
      (record {
        value = λ y. c.value z ∙ ap (span unit join inputs r) (omega arith);
        arrival = λ y. omega (arith, c.arrival z, levels_le (p - r) k (omega arith));
        departure = λ y. c.departure z;
        bound = omega (arith, c.bound);
      })

  abbrev reached : (r k : ℕ) → Rank E
  reached r k = acts join (λ a. sent a r) (steps (fold_step p r) k) (fresh unit (inputs r))

  holds : (r k : ℕ) → r < p → Holds r k (reached r k)
  unfolding steps
  holds r zero h =
      record {
        value = λ y. sym (span_one proper unit join laws p inputs inputs_proper r h) ∙ ap (span unit join inputs r) (omega arith);
        arrival = λ y. omega arith;
        departure = λ y. refl;
        bound = omega arith;
      }
  holds r (suc k) h =
      subst (λ (x : Rank E). Holds r (suc k) x)
      (sym (acts_append join (λ a. sent a r) (steps (fold_step p r) k) (fold_step p r k) (fresh unit (inputs r))))
      (step r k (reached r k) h (holds r k h) (way p r k))

  climb_mail : (r k : ℕ) → r < p → r % 2 ^ k ≡ 0 → bit r k ≡ true → sent r (r - 2 ^ k) ≡ posted (reached r k)
  climb_mail r k h z b =
      let e : r ≡ r - 2 ^ k + 2 ^ k = omega (arith, set_le r k b) in
      let c : Holds r k (reached r k) = holds r k h in
      mail_path (sent r (r - 2 ^ k)) (posted (reached r k))
      (climb_stamp r (r - 2 ^ k) k e ∙ omega (arith, c.arrival z, c.departure z))
      (climb_value r (r - 2 ^ k) k e ∙ sym (c.value z))

  zero_mod : (k : ℕ) → 0 % 2 ^ k ≡ 0
  zero_mod k = mod-eq_of_lt (pow_pos k)

  pos : 0 < p
  pos = omega arith

  whole : (reached 0 (levels p)).value ≡ span unit join inputs 0 p
  whole = (holds 0 (levels p) pos).value (zero_mod (levels p)) ∙ ap (span unit join inputs 0) (omega (arith, levels_past p))

  deliver_mail : sent 0 root ≡ posted (reached 0 (levels p))
  deliver_mail =
      let c : Holds 0 (levels p) (reached 0 (levels p)) = holds 0 (levels p) pos in
      let e : p - 0 ≡ p = omega arith in
      mail_path (sent 0 root) (posted (reached 0 (levels p)))
      (omega (arith, c.arrival (zero_mod (levels p)), c.departure (zero_mod (levels p)), ap levels e))
      (sym whole)

  send_rank : (a b label : ℕ) (before : List Action) → a < p → Sent p root a before b label → (b < p) × (a ≡ b → ⊥)
  send_rank a b label before h (climbs k l z t eb el _) = (omega arith, (λ e. omega (arith, set_le a k t, pow_pos k)))
  send_rank a b label before h (delivers n ea eb el _) = (omega arith, (λ e. n (sym eb ∙ sym e ∙ ea)))

  take_rank : (a b label : ℕ) (m : Merge) (before : List Action) → b < p → Took p root b before a label m → (a < p) × (a ≡ b → ⊥)
  take_rank a b label m before h (climbs k l z t f ea el _ _) = (omega arith, (λ e. omega (arith, pow_pos k)))
  take_rank a b label m before h (delivers n eb ea el _ _) = (omega arith, (λ e. n (sym eb ∙ sym e ∙ ea)))

  abbrev at : ℕ → List Action → Rank E
  at r before = acts join (λ a. sent a r) before (fresh unit (inputs r))

  send_mail : (a b label : ℕ) (before : List Action) → a < p → Sent p root a before b label → sent a b ≡ posted (at a before)
  send_mail a b label before h (climbs k l z t eb el e) = moved_mail sent at a a b (a - 2 ^ k) before (steps (fold_step p a) k) refl eb e (climb_mail a k h z t)
  send_mail a b label before h (delivers n ea eb el e) = moved_mail sent at a 0 b root before (steps (fold_step p 0) (levels p)) ea eb (e ∙ ap (λ (r : ℕ). steps (fold_step p r) (levels p)) ea) deliver_mail

  send_met : (a b label : ℕ) (before : List Action) → a < p → Sent p root a before b label → (m : Merge) × Stands (reduce p root b) (Take a label m)
  send_met a b label before h (climbs k l z t eb el _) =
      let s : Set a k = when_set a k t in
      let f : b ≡ flip a k = omega (arith, s.flips) in
      let e : a ≡ b + 2 ^ k = omega (arith, s.low) in (
        After,
        moved_stands (reduce p root) b b (Take a label After) (Take (b + 2 ^ k) k After) refl (ap₂ (λ (x y : ℕ). Take x y After) e el)
            (step_stands p root b k (Take (b + 2 ^ k) k After) l (take_is p b k (ap (λ (x : ℕ). x % 2 ^ k) f ∙ s.rest ∙ z) (ap (λ (x : ℕ). bit x k) f ∙ s.other) (omega arith))),
      )
  send_met a b label before h (delivers n ea eb el _) = (Replace, moved_stands (reduce p root) b root (Take a label Replace) (Take 0 deliver Replace) eb (ap₂ (λ (x y : ℕ). Take x y Replace) ea el) (receive_stands p root n))

  take_met : (a b label : ℕ) (m : Merge) (before : List Action) → b < p → Took p root b before a label m → Stands (reduce p root a) (Send b label)
  take_met a b label m before h (climbs k l z t f ea el _ _) =
      let s : Clear b k = when_clear b k t in
      let g : a ≡ flip b k = ea ∙ sym s.flips in
      let e : b ≡ a - 2 ^ k = omega arith in
      moved_stands (reduce p root) a a (Send b label) (Send (a - 2 ^ k) k) refl (ap₂ Send e el)
      (step_stands p root a k (Send (a - 2 ^ k) k) l (send_is p a k (ap (λ (x : ℕ). x % 2 ^ k) g ∙ s.rest ∙ z) (ap (λ (x : ℕ). bit x k) g ∙ s.other)))
  take_met a b label m before h (delivers n eb ea el _ _) = moved_stands (reduce p root) a 0 (Send b label) (Send root deliver) ea (ap₂ Send eb el) (deliver_stands p root n)

  send_once : (a b label other : ℕ) (x y : List Action) → Sent p root a x b label → Sent p root a y b other → x ≡ y
  send_once a b label other x y (climbs k _ _ t eb _ e) (climbs k' _ _ t' eb' _ e') = e ∙ ap (steps (fold_step p a)) (pow_inj k k' (omega (arith, set_le a k t, set_le a k' t'))) ∙ sym e'
  send_once a b label other x y (climbs k _ _ t eb _ e) (delivers n ea _ _ e') = absurd (bit_positive a k t ea)
  send_once a b label other x y (delivers n ea _ _ e) (climbs k _ _ t eb _ e') = absurd (bit_positive a k t ea)
  send_once a b label other x y (delivers n _ _ _ e) (delivers n' _ _ _ e') = e ∙ sym e'

  take_once : (a b label other : ℕ) (m o : Merge) (x y : List Action) → Took p root b x a label m → Took p root b y a other o → x ≡ y
  take_once a b label other m o x y (climbs k _ _ _ _ ea _ _ e) (climbs k' _ _ _ _ ea' _ _ e') = e ∙ ap (steps (fold_step p b)) (pow_inj k k' (omega arith)) ∙ sym e'
  take_once a b label other m o x y (climbs k _ _ _ _ ea _ _ e) (delivers n _ ea' _ _ e') = absurd (omega (arith, pow_pos k))
  take_once a b label other m o x y (delivers n _ ea _ _ e) (climbs k _ _ _ _ ea' _ _ e') = absurd (omega (arith, pow_pos k))
  take_once a b label other m o x y (delivers n _ _ _ _ e) (delivers n' _ _ _ _ e') = e ∙ sym e'

  abbrev said : (a b label : ℕ) (s : Stands (reduce p root a) (Send b label)) → Sent p root a s.before b label
  said a b label s = every_stands (Told p root a) (reduce p root a) (Send b label) (told p root a) s

  abbrev heard : (a b label : ℕ) (m : Merge) (s : Stands (reduce p root b) (Take a label m)) → Took p root b s.before a label m
  heard a b label m s = every_stands (Told p root b) (reduce p root b) (Take a label m) (told p root b) s

  solved : Solved join p (reduce p root) (λ r. fresh unit (inputs r)) sent
  solved =
      record {
        send_rank = λ a b label h s. send_rank a b label s.before h (said a b label s);
        send_mail = λ a b label h s. send_mail a b label s.before h (said a b label s);
        send_met = λ a b label h s. send_met a b label s.before h (said a b label s);
        take_rank = λ a b label m h s. take_rank a b label m s.before h (heard a b label m s);
        take_met = λ a b label m h s. take_met a b label m s.before h (heard a b label m s);
        send_once = λ a b label other h s t. send_once a b label other s.before t.before (said a b label s) (said a b other t);
        take_once = λ a b label other m o h s t. take_once a b label other m o s.before t.before (heard a b label m s) (heard a b other o t);
      }

  abbrev last : ℕ → Rank E
  last r = at r (reduce p root r)

  -- the tree's end and the last two actions
  last_is : (r : ℕ) → last r ≡ acts join (λ a. sent a r) (when (last_take root r) (Take 0 deliver Replace)) (acts join (λ a. sent a r) (when (last_send root r) (Send root deliver)) (reached r (levels p)))
  unfolding reduce
  last_is r =
      acts_append join (λ a. sent a r) (steps (fold_step p r) (levels p) ++ when (last_send root r) (Send root deliver)) (when (last_take root r) (Take 0 deliver Replace)) (fresh unit (inputs r))
      ∙ ap (acts join (λ a. sent a r) (when (last_take root r) (Take 0 deliver Replace))) (acts_append join (λ a. sent a r) (steps (fold_step p r) (levels p)) (when (last_send root r) (Send root deliver)) (fresh unit (inputs r)))

  -- a rank that takes nothing more
  kept : (r : ℕ) (t : Bool) → last_take root r ≡ false → last_send root r ≡ t → ((last r).value ≡ (reached r (levels p)).value) × ((last r).arrival ≡ (reached r (levels p)).arrival)
  kept r t e f =
      let g : last r ≡ acts join (λ a. sent a r) (when t (Send root deliver)) (reached r (levels p)) =
      last_is r ∙ ap₂ (λ (u v : Bool). acts join (λ a. sent a r) (when u (Take 0 deliver Replace)) (acts join (λ a. sent a r) (when v (Send root deliver)) (reached r (levels p)))) e f in
      go t g
    where
      go : (t : Bool) → last r ≡ acts join (λ a. sent a r) (when t (Send root deliver)) (reached r (levels p)) → ((last r).value ≡ (reached r (levels p)).value) × ((last r).arrival ≡ (reached r (levels p)).arrival)
      go true g = (ap (λ (x : Rank E). x.value) g, ap (λ (x : Rank E). x.arrival) g)
      go false g = (ap (λ (x : Rank E). x.value) g, ap (λ (x : Rank E). x.arrival) g)

  -- another root
  got : (root ≡ 0 → ⊥) → ((last root).value ≡ span unit join inputs 0 p) × ((last root).arrival ≡ levels p + 1)
  got n =
      let g : last root ≡ acts join (λ a. sent a root) (Take 0 deliver Replace ∷ []) (reached root (levels p)) =
      last_is root ∙ ap₂ (λ (u v : Bool). acts join (λ a. sent a root) (when u (Take 0 deliver Replace)) (acts join (λ a. sent a root) (when v (Send root deliver)) (reached root (levels p)))) (last_take_so root root n refl) (and_right (not (eqb root 0)) (eqb root 0) (ne_eqb root 0 n)) in (
        ap (λ (x : Rank E). x.value) g,
        ap (λ (x : Rank E). x.arrival) g ∙ omega (arith, (holds root (levels p) root_lt).bound),
      )

  not_last : (r : ℕ) → (root ≡ 0) ⊎ (r ≡ root → ⊥) → last_take root r ≡ false
  not_last r (inl z) = and_left (not (eqb root 0)) (eqb r root) (not_from_true (eqb root 0) (eq-eqb root 0 z))
  not_last r (inr n) = and_right (not (eqb root 0)) (eqb r root) (ne_eqb r root n)

  last_value : (r : ℕ) → r < p → r ≡ root → (last r).value ≡ span unit join inputs 0 p
  last_value r h e =
      ⊎_elim
      (λ (z : root ≡ 0). (kept r (last_send root r) (not_last r (inl z)) refl).0 ∙ ap (λ (x : ℕ). (reached x (levels p)).value) (e ∙ z) ∙ whole)
      (λ (n : root ≡ 0 → ⊥). ap (λ (x : ℕ). (last x).value) e ∙ (got n).0)
      (cases_eq root 0)

  last_arrival : (r : ℕ) → r < p → (root ≡ 0) ⊎ (r ≡ root → ⊥) → (last r).arrival ≡ (reached r (levels p)).arrival
  last_arrival r h c = (kept r (last_send root r) (not_last r c) refl).1

  rounds_are : greatest_below (λ r. (last r).arrival) p ≡ cond (eqb root 0) (levels p) (levels p + 1)
  rounds_are =
      ⊎_elim
      (λ (z : root ≡ 0).
      let e : p - 0 ≡ p = omega arith in
      rw (eq-eqb root 0 z)
      (greatest_is (λ r. (last r).arrival) p (levels p) 0 pos
      (omega (arith, last_arrival 0 pos (inl z), (holds 0 (levels p) pos).arrival (zero_mod (levels p)), ap levels e))
      (λ r h. omega (arith, last_arrival r h (inl z), (holds r (levels p) h).bound))))
      (λ (n : root ≡ 0 → ⊥).
      rw (ne_eqb root 0 n)
      (greatest_is (λ r. (last r).arrival) p (levels p + 1) root root_lt (got n).1
      (λ r h.
      ⊎_elim
      (λ (e : r ≡ root). omega (arith, ap (λ (x : ℕ). (last x).arrival) e, (got n).1))
      (λ (m : r ≡ root → ⊥). omega (arith, last_arrival r h (inr m), (holds r (levels p) h).bound))
      (cases_eq r root))))
      (cases_eq root 0)

-- a rank has sent after n steps if a 1 stands among its lower n bits
one_if : Bool → ℕ
one_if true = 0
one_if false = 1

step_sends : (p r k : ℕ) → sum_below (λ j. sends (fold_step p r j)) k ≡ one_if (eqb (r % 2 ^ k) 0) → Way p r k → sum_below (λ j. sends (fold_step p r j)) (suc k) ≡ one_if (eqb (r % 2 ^ suc k) 0)
unfolding one_if
step_sends p r k h (left z e) = rw (ne_eqb (r % 2 ^ suc k) 0 (λ y. z (mod_stays r k y))) (omega (arith, h ∙ ap one_if (ne_eqb (r % 2 ^ k) 0 z), ap sends e))
step_sends p r k h (sends_on z b e) = rw (ne_eqb (r % 2 ^ suc k) 0 (λ y. omega (arith, mod_set r k b, pow_pos k))) (omega (arith, h ∙ ap one_if (eq-eqb (r % 2 ^ k) 0 z), ap sends e))
step_sends p r k h (takes z b l e) = rw (eq-eqb (r % 2 ^ suc k) 0 (omega (arith, mod_clear r k b))) (omega (arith, h ∙ ap one_if (eq-eqb (r % 2 ^ k) 0 z), ap sends e))
step_sends p r k h (alone z b l e) = rw (eq-eqb (r % 2 ^ suc k) 0 (omega (arith, mod_clear r k b))) (omega (arith, h ∙ ap one_if (eq-eqb (r % 2 ^ k) 0 z), ap sends e))

tree_sends : (p r k : ℕ) → sum_below (λ j. sends (fold_step p r j)) k ≡ one_if (eqb (r % 2 ^ k) 0)
unfolding one_if
tree_sends p r zero = rw (eq-eqb (r % 1) 0 (omega arith))
tree_sends p r (suc k) = step_sends p r k (tree_sends p r k) (way p r k)

rank_sends : (p root r : ℕ) → r < p → sends (reduce p root r) ≡ one_if (eqb r 0) + cond (last_send root r) 1 0
unfolding reduce
rank_sends p root r h =
    let z : r % 2 ^ levels p ≡ r = mod-eq_of_lt (let l : r < 2 ^ levels p = omega (arith, levels_past p) in l) in
    sends_append (steps (fold_step p r) (levels p) ++ when (last_send root r) (Send root deliver)) (when (last_take root r) (Take 0 deliver Replace))
    ∙ ap₂ (λ (x y : ℕ). x + y)
    (sends_append (steps (fold_step p r) (levels p)) (when (last_send root r) (Send root deliver))
    ∙ ap₂ (λ (x y : ℕ). x + y) (sends_steps (fold_step p r) (levels p) ∙ tree_sends p r (levels p) ∙ ap (λ (x : ℕ). one_if (eqb x 0)) z) (sends_when (last_send root r) root deliver))
    (sends_when_take (last_take root r) 0 deliver Replace)
    ∙ omega arith

-- all but rank 0 send in the tree, and rank 0 perhaps at the end
total : (t : Bool) (n : ℕ) → sum_below (λ r. one_if (eqb r 0) + cond (t && eqb r 0) 1 0) (suc n) ≡ n + cond t 1 0
unfolding one_if
total true zero = refl
total false zero = refl
total true (suc n) = rw (ne_eqb (suc n) 0 (λ q. omega arith)) (omega (arith, total true n))
total false (suc n) = rw (ne_eqb (suc n) 0 (λ q. omega arith)) (omega (arith, total false n))

pub messages_are : (p root : ℕ) → root < p → sum_below (λ r. sends (reduce p root r)) p ≡ cond (eqb root 0) (p - 1) p
messages_are p root h =
    let e : suc (p - 1) ≡ p = omega arith in
    sum_same (λ r. sends (reduce p root r)) (λ r. one_if (eqb r 0) + cond (last_send root r) 1 0) p (λ r l. rank_sends p root r l)
    ∙ ap (sum_below (λ r. one_if (eqb r 0) + cond (last_send root r) 1 0)) (sym e)
    ∙ total (not (eqb root 0)) (p - 1)
    ∙ ends (eqb root 0)
  where
    ends : (t : Bool) → p - 1 + cond (not t) 1 0 ≡ cond t (p - 1) p
    ends true = omega arith
    ends false = omega arith

pub reduce_comes_out : (E : Type 0) → ComesOut Reduce E
reduce_comes_out E proper unit join laws p root h inputs ip =
    record {
      solved = solved proper unit join laws p root h inputs ip;
      within = λ a b label l s. within p root a b label s.before l (every_stands (Told p root a) (reduce p root a) (Send b label) (told p root a) s);
      promised = last_value proper unit join laws p root h inputs ip;
      all_done = λ r l. acts_done join _ (reduce p root r) (fresh unit (inputs r)) ∙ omega arith;
      rounds_are = rounds_are proper unit join laws p root h inputs ip;
      messages_are = messages_are p root h;
    }
