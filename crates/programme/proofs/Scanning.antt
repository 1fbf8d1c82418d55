-- The scan and the exclusive scan: what each rank holds after k steps, and what follows.
use Rattle.std.proofs.Common.{◌≡◌, ℕ, zero, suc, ◌+◌, ◌-◌, ◌*◌, ◌^◌, ◌<◌, ◌≤◌, min, Bool, true, false, cond, ltb, leb, List, ◌++◌, sym, refl, ap, ◌∙◌, ap₂, append-nil, arith, pow_pos}
use Rattle.std.proofs.lemmas.Bool.{ltb-true, ltb-false, leb-true, leb-false, lt-ltb, le-leb}
use Rattle.programme.specs.declared.Action.{Action}
use Rattle.programme.specs.declared.Action.TheVariants.{Send, Take}
use Rattle.programme.specs.declared.Merge.{Merge}
use Rattle.programme.specs.Levels.{levels, floor_log}
use Rattle.programme.specs.Monoid.{Laws, span}
use Rattle.programme.specs.Rank.{Rank, Mail, fresh, posted, acts, merged_value}
use Rattle.programme.specs.Programme.{steps, when, scan_step, scan, exscan}
use Rattle.programme.specs.Solved.{Stands, Solved}
use Rattle.programme.specs.Message.{Within, scan_covers, scan_stamp}
use Rattle.programme.specs.Outcome.{ComesOut}
use Rattle.ranks.specs.Ranks.{sum_below, greatest_below}
use Rattle.programme.specs.Formula.{sends}
use Rattle.programme.specs.declared.Merge.TheVariants.{Before, Prefix}
use Rattle.programme.specs.declared.Kind.TheVariants.{Scan, Exscan}
use Rattle.ranks.proofs.Sums.{sum_same, sum-swap, sum-ltb, greatest_is}
use Rattle.std.proofs.lemmas.Bool.Decides.{nat_tests}
use Rattle.programme.proofs.Power.{below_levels, levels_below, levels_le, levels_past, levels_mono, floor_log_pow, pow_inj}
use Rattle.programme.proofs.Lists.{Every, every_stands, every_append, every_steps, every_when, stands_left, stands_right, stands_when, stands_steps, acts_done, acts_append, sends_append, sends_steps, sends_when, sends_when_take}
use Rattle.programme.proofs.Spans.{span_one, spans_join}
use Rattle.programme.proofs.Mails.{mail_path}

-- the send to b, under a label, at step k
pub record Sent (m : Merge) (p r : ℕ) (before : List Action) (b label : ℕ) : Type 0 where
  pub k : ℕ
  pub within : k < levels p
  pub fits : r + 2 ^ k < p
  pub to : b ≡ r + 2 ^ k
  pub under : label ≡ k
  pub behind : before ≡ steps (scan_step m p r) k

-- the take from a, under a label, at step k
pub record Took (m : Merge) (p r : ℕ) (before : List Action) (a label : ℕ) (with : Merge) : Type 0 where
  pub k : ℕ
  pub within : k < levels p
  pub fits : 2 ^ k ≤ r
  pub from : a ≡ r - 2 ^ k
  pub under : label ≡ k
  pub by : with ≡ m
  pub behind : before ≡ steps (scan_step m p r) k ++ when (ltb (r + 2 ^ k) p) (Send (r + 2 ^ k) k)

abbrev pub Told : Merge → (p r : ℕ) → List Action → Action → Type 0
Told m p r before (Send b label) = Sent m p r before b label
Told m p r before (Take a label with) = Took m p r before a label with

pub told : (m : Merge) (p r : ℕ) → Every (Told m p r) (steps (scan_step m p r) (levels p))
unfolding scan_step
told m p r =
    every_steps (Told m p r) (scan_step m p r) (levels p)
    λ k l. every_append (λ before. Told m p r (steps (scan_step m p r) k ++ before)) (when (ltb (r + 2 ^ k) p) (Send (r + 2 ^ k) k)) (when (leb (2 ^ k) r) (Take (r - 2 ^ k) k m))
    (every_when (λ before. Told m p r (steps (scan_step m p r) k ++ before)) (ltb (r + 2 ^ k) p) (Send (r + 2 ^ k) k)
    λ e. record { k = k; within = l; fits = ltb-true (r + 2 ^ k) p e; to = refl; under = refl; behind = append-nil (steps (scan_step m p r) k) })
    (every_when (λ before. Told m p r (steps (scan_step m p r) k ++ (when (ltb (r + 2 ^ k) p) (Send (r + 2 ^ k) k) ++ before))) (leb (2 ^ k) r) (Take (r - 2 ^ k) k m)
    λ e. record { k = k; within = l; fits = leb-true (2 ^ k) r e; from = refl; under = refl; by = refl; behind = ap (λ (t : List Action). steps (scan_step m p r) k ++ t) (append-nil (when (ltb (r + 2 ^ k) p) (Send (r + 2 ^ k) k))) })

pub send_stands : (m : Merge) (p a b k : ℕ) → k < levels p → b ≡ a + 2 ^ k → b < p → Stands (steps (scan_step m p a) (levels p)) (Send b k)
unfolding scan_step
send_stands m p a b k l e h =
    rw e
    (stands_steps (scan_step m p a) (levels p) k (Send (a + 2 ^ k) k) l
    (stands_left (when (ltb (a + 2 ^ k) p) (Send (a + 2 ^ k) k)) (when (leb (2 ^ k) a) (Take (a - 2 ^ k) k m)) (Send (a + 2 ^ k) k)
    (stands_when (ltb (a + 2 ^ k) p) (Send (a + 2 ^ k) k) (lt-ltb (a + 2 ^ k) p (omega arith)))))

pub take_stands : (m : Merge) (p a b k : ℕ) → k < levels p → a + 2 ^ k ≡ b → Stands (steps (scan_step m p b) (levels p)) (Take a k m)
unfolding scan_step
take_stands m p a b k l e =
    let f : a ≡ b - 2 ^ k = omega arith in
    rw f
    (stands_steps (scan_step m p b) (levels p) k (Take (b - 2 ^ k) k m) l
    (stands_right (when (ltb (b + 2 ^ k) p) (Send (b + 2 ^ k) k)) (when (leb (2 ^ k) b) (Take (b - 2 ^ k) k m)) (Take (b - 2 ^ k) k m)
    (stands_when (leb (2 ^ k) b) (Take (b - 2 ^ k) k m) (le-leb (2 ^ k) b (omega arith)))))

pub within : (m : Merge) (p a b label : ℕ) → Stands (steps (scan_step m p a) (levels p)) (Send b label) → Within p (scan_covers a b)
within m p a b label s =
    let t : Sent m p a s.before b label = every_stands (Told m p a) (steps (scan_step m p a) (levels p)) (Send b label) (told m p a) s in
    (omega (arith, t.to, pow_pos t.k), omega (arith, t.to, t.fits, pow_pos t.k))

module _ {E : Type 0} (proper : E → Bool) (unit : E) (join : E → E → E) (laws : Laws proper unit join) (p : ℕ) (inputs : ℕ → E) (inputs_proper : (r : ℕ) → r < p → proper (inputs r) ≡ true) (m : Merge) (merges : (v t : E) → merged_value join m v t ≡ join t v) where
  abbrev pub sent : (a b : ℕ) → Mail E
  sent a b = record { stamp = scan_stamp a b; value = span unit join inputs (scan_covers a b).first (scan_covers a b).number }

  -- rank r after k steps, and after the send of the next one
  pub record Holds (r k sends : ℕ) (x : Rank E) : Type 0 where
    pub value : x.value ≡ span unit join inputs (r + 1 - 2 ^ k) (min (r + 1) (2 ^ k))
    pub arrival : x.arrival ≡ min k (levels (r + 1))
    pub departure : x.departure ≡ min sends (levels (p - r))

  after_sending : (r k : ℕ) (x : Rank E) → r < p → Holds r k k x → (t : Bool) → ltb (r + 2 ^ k) p ≡ t → Holds r k (suc k) (acts join (λ a. sent a r) (when t (Send (r + 2 ^ k) k)) x)
  after_sending r k x h c true e =
      record {
        value = c.value;
        arrival = c.arrival;
        departure = omega (arith, c.arrival, c.departure, levels_below (p - r) k (omega (arith, ltb-true (r + 2 ^ k) p e)));
      }
  after_sending r k x h c false e =
      record {
        value = c.value;
        arrival = c.arrival;
        departure = omega (arith, c.departure, levels_le (p - r) k (omega (arith, ltb-false (r + 2 ^ k) p e)));
      }

  after_taking : (r k : ℕ) (x : Rank E) → r < p → Holds r k (suc k) x → (t : Bool) → leb (2 ^ k) r ≡ t → Holds r (suc k) (suc k) (acts join (λ a. sent a r) (when t (Take (r - 2 ^ k) k m)) x)
  after_taking r k x h c true e =
      let l : 2 ^ k ≤ r = leb-true (2 ^ k) r e in
      let d : r - (r - 2 ^ k) ≡ 2 ^ k = omega arith in
      let f : floor_log (r - (r - 2 ^ k)) ≡ k = ap floor_log d ∙ floor_log_pow k in
      record {
        value =
            merges x.value (sent (r - 2 ^ k) r).value
            ∙ ap (λ (v : E). join (sent (r - 2 ^ k) r).value v) c.value
            ∙ spans_join proper unit join laws p inputs inputs_proper _ _ _ _ _ _ (omega arith) (omega arith) (omega arith) (omega arith);
        arrival = omega (arith, c.arrival, f, levels_below (r + 1) k (omega arith));
        departure = c.departure;
      }
  after_taking r k x h c false e =
      let l : r < 2 ^ k = leb-false (2 ^ k) r e in
      record {
        value = c.value ∙ ap₂ (span unit join inputs) (omega arith) (omega arith);
        arrival = omega (arith, c.arrival, levels_le (r + 1) k (omega arith));
        departure = c.departure;
      }

  pub holds : (r k : ℕ) → r < p → Holds r k k (acts join (λ a. sent a r) (steps (scan_step m p r) k) (fresh unit (inputs r)))
  unfolding steps scan_step
  holds r zero h =
      record {
        value = sym (span_one proper unit join laws p inputs inputs_proper r h) ∙ ap₂ (span unit join inputs) (omega arith) (omega arith);
        arrival = omega arith;
        departure = omega arith;
      }
  holds r (suc k) h =
      let x : Rank E = acts join (λ a. sent a r) (steps (scan_step m p r) k) (fresh unit (inputs r)) in
      let y : Rank E = acts join (λ a. sent a r) (when (ltb (r + 2 ^ k) p) (Send (r + 2 ^ k) k)) x in
      rw (
        acts_append join (λ a. sent a r) (steps (scan_step m p r) k) (when (ltb (r + 2 ^ k) p) (Send (r + 2 ^ k) k) ++ when (leb (2 ^ k) r) (Take (r - 2 ^ k) k m)) (fresh unit (inputs r)),
        acts_append join (λ a. sent a r) (when (ltb (r + 2 ^ k) p) (Send (r + 2 ^ k) k)) (when (leb (2 ^ k) r) (Take (r - 2 ^ k) k m)) x,
      )
      (after_taking r k y h (after_sending r k x h (holds r k h) (ltb (r + 2 ^ k) p) refl) (leb (2 ^ k) r) refl)

  pub sends_mail : (r k : ℕ) → r < p → r + 2 ^ k < p → sent r (r + 2 ^ k) ≡ posted (acts join (λ a. sent a r) (steps (scan_step m p r) k) (fresh unit (inputs r)))
  sends_mail r k h l =
      let x : Rank E = acts join (λ a. sent a r) (steps (scan_step m p r) k) (fresh unit (inputs r)) in
      let c : Holds r k k x = holds r k h in
      let d : r + 2 ^ k - r ≡ 2 ^ k = omega arith in
      mail_path (sent r (r + 2 ^ k)) (posted x)
      (omega (arith, ap floor_log d ∙ floor_log_pow k, c.arrival, c.departure, levels_below (p - r) k (omega arith)))
      (ap₂ (span unit join inputs) (omega arith) (omega arith) ∙ sym c.value)

  abbrev actions : ℕ → List Action
  actions r = steps (scan_step m p r) (levels p)

  pub solved : Solved join p actions (λ r. fresh unit (inputs r)) sent
  solved =
      record {
        send_rank = λ a b label h s.
            let t : Sent m p a s.before b label = every_stands (Told m p a) (actions a) (Send b label) (told m p a) s in
            (omega (arith, t.to, t.fits), λ e. omega (arith, t.to, pow_pos t.k, e));
        send_mail = λ a b label h s.
            let t : Sent m p a s.before b label = every_stands (Told m p a) (actions a) (Send b label) (told m p a) s in
            ap (sent a) t.to ∙ sends_mail a t.k h t.fits ∙ ap (λ (l : List Action). posted (acts join (λ c. sent c a) l (fresh unit (inputs a)))) (sym t.behind);
        send_met = λ a b label h s.
            let t : Sent m p a s.before b label = every_stands (Told m p a) (actions a) (Send b label) (told m p a) s in
            (m, rw t.under (take_stands m p a b t.k t.within (sym t.to)));
        take_rank = λ a b label with h s.
            let t : Took m p b s.before a label with = every_stands (Told m p b) (actions b) (Take a label with) (told m p b) s in
            (omega (arith, t.from), λ e. omega (arith, t.from, t.fits, pow_pos t.k, e));
        take_met = λ a b label with h s.
            let t : Took m p b s.before a label with = every_stands (Told m p b) (actions b) (Take a label with) (told m p b) s in
            rw t.under (send_stands m p a b t.k t.within (omega (arith, t.from, t.fits)) h);
        send_once = λ a b label other h s u.
            let t : Sent m p a s.before b label = every_stands (Told m p a) (actions a) (Send b label) (told m p a) s in
            let v : Sent m p a u.before b other = every_stands (Told m p a) (actions a) (Send b other) (told m p a) u in
            let e : t.k ≡ v.k = pow_inj t.k v.k (omega (arith, t.to, v.to)) in
            t.behind ∙ ap (steps (scan_step m p a)) e ∙ sym v.behind;
        take_once = λ a b label other with others h s u.
            let t : Took m p b s.before a label with = every_stands (Told m p b) (actions b) (Take a label with) (told m p b) s in
            let v : Took m p b u.before a other others = every_stands (Told m p b) (actions b) (Take a other others) (told m p b) u in
            let e : t.k ≡ v.k = pow_inj t.k v.k (omega (arith, t.from, v.from, t.fits, v.fits)) in
            t.behind ∙ ap (λ (k : ℕ). steps (scan_step m p b) k ++ when (ltb (b + 2 ^ k) p) (Send (b + 2 ^ k) k)) e ∙ sym v.behind;
      }

  -- the whole programme
  abbrev pub last : ℕ → Rank E
  last r = acts join (λ a. sent a r) (actions r) (fresh unit (inputs r))

  pub last_value : (r : ℕ) → r < p → (last r).value ≡ span unit join inputs 0 (r + 1)
  last_value r h =
      (holds r (levels p) h).value
      ∙ ap₂ (span unit join inputs) (omega (arith, levels_past p)) (omega (arith, levels_past p))

  pub last_arrival : (r : ℕ) → r < p → (last r).arrival ≡ levels (r + 1)
  last_arrival r h = omega (arith, (holds r (levels p) h).arrival, levels_mono (r + 1) p (omega arith))

  pub rounds_are : 0 < p → greatest_below (λ r. (last r).arrival) p ≡ levels p
  rounds_are pos =
      let e : p - 1 + 1 ≡ p = omega arith in
      greatest_is (λ r. (last r).arrival) p (levels p) (p - 1) (omega arith)
      (last_arrival (p - 1) (omega arith) ∙ ap levels e)
      (λ r h. omega (arith, last_arrival r h, levels_mono (r + 1) p (omega arith)))

-- the sends of all ranks
sends_of_step : (m : Merge) (p r k : ℕ) → sends (scan_step m p r k) ≡ cond (ltb r (p - 2 ^ k)) 1 0
unfolding scan_step
sends_of_step m p r k =
    sends_append (when (ltb (r + 2 ^ k) p) (Send (r + 2 ^ k) k)) (when (leb (2 ^ k) r) (Take (r - 2 ^ k) k m))
    ∙ ap₂ (λ (x y : ℕ). x + y) (sends_when (ltb (r + 2 ^ k) p) (r + 2 ^ k) k ∙ ap (λ (b : Bool). cond b 1 0) same) (sends_when_take (leb (2 ^ k) r) (r - 2 ^ k) k m)
    ∙ omega arith
  where
    same : ltb (r + 2 ^ k) p ≡ ltb r (p - 2 ^ k)
    same = grind (arith, nat_tests)

powers_sum : (p n : ℕ) → n ≤ levels p → sum_below (λ k. p - 2 ^ k) n + 2 ^ n ≡ n * p + 1
powers_sum p zero h = omega arith
powers_sum p (suc n) h = omega (arith, powers_sum p n (omega arith), below_levels p n (omega arith))

pub messages_are : (m : Merge) (p : ℕ) → sum_below (λ r. sends (steps (scan_step m p r) (levels p))) p ≡ levels p * p + 1 - 2 ^ levels p
messages_are m p =
    sum_same (λ r. sends (steps (scan_step m p r) (levels p))) (λ r. sum_below (λ k. cond (ltb r (p - 2 ^ k)) 1 0) (levels p)) p
    (λ r h. sends_steps (scan_step m p r) (levels p) ∙ sum_same (λ k. sends (scan_step m p r k)) (λ k. cond (ltb r (p - 2 ^ k)) 1 0) (levels p) (λ k l. sends_of_step m p r k))
    ∙ sum-swap (λ r k. cond (ltb r (p - 2 ^ k)) 1 0) p (levels p)
    ∙ sum_same (λ k. sum_below (λ r. cond (ltb r (p - 2 ^ k)) 1 0) p) (λ k. p - 2 ^ k) (levels p) (λ k l. sum-ltb (p - 2 ^ k) p ∙ omega arith)
    ∙ omega (arith, powers_sum p (levels p) (omega arith))

-- the exclusive prefix
module _ {E : Type 0} (proper : E → Bool) (unit : E) (join : E → E → E) (laws : Laws proper unit join) (p : ℕ) (inputs : ℕ → E) (inputs_proper : (r : ℕ) → r < p → proper (inputs r) ≡ true) where
  -- of rank r after k steps
  abbrev Prefixed : (r k : ℕ) → Rank E → Type 0
  Prefixed r k x = x.prefix ≡ span unit join inputs (r + 1 - 2 ^ k) (min (r + 1) (2 ^ k) - 1)

  abbrev mails : (a b : ℕ) → Mail E
  mails a b = record { stamp = scan_stamp a b; value = span unit join inputs (scan_covers a b).first (scan_covers a b).number }

  prefix_sending : (r k : ℕ) (x : Rank E) → Prefixed r k x → (t : Bool) → Prefixed r k (acts join (λ a. mails a r) (when t (Send (r + 2 ^ k) k)) x)
  prefix_sending r k x c true = c
  prefix_sending r k x c false = c

  prefix_taking : (r k : ℕ) (x : Rank E) → r < p → Prefixed r k x → (t : Bool) → leb (2 ^ k) r ≡ t → Prefixed r (suc k) (acts join (λ a. mails a r) (when t (Take (r - 2 ^ k) k Prefix)) x)
  prefix_taking r k x h c true e =
      let l : 2 ^ k ≤ r = leb-true (2 ^ k) r e in
      let d : r - (r - 2 ^ k) ≡ 2 ^ k = omega arith in
      ap (λ (v : E). join (mails (r - 2 ^ k) r).value v) c
      ∙ spans_join proper unit join laws p inputs inputs_proper _ _ _ _ _ _ (omega arith) (omega arith) (omega (arith, pow_pos k)) (omega (arith, pow_pos k))
  prefix_taking r k x h c false e =
      let l : r < 2 ^ k = leb-false (2 ^ k) r e in
      c ∙ ap₂ (span unit join inputs) (omega arith) (omega arith)

  span_none : (first : ℕ) → unit ≡ span unit join inputs first 0
  unfolding span
  span_none first = refl

  prefixed : (r k : ℕ) → r < p → Prefixed r k (acts join (λ a. mails a r) (steps (scan_step Prefix p r) k) (fresh unit (inputs r)))
  unfolding steps scan_step
  prefixed r zero h =
      let e : min (r + 1) 1 - 1 ≡ 0 = omega arith in
      rw e (span_none (r + 1 - 1))
  prefixed r (suc k) h =
      let x : Rank E = acts join (λ a. mails a r) (steps (scan_step Prefix p r) k) (fresh unit (inputs r)) in
      let y : Rank E = acts join (λ a. mails a r) (when (ltb (r + 2 ^ k) p) (Send (r + 2 ^ k) k)) x in
      rw (
        acts_append join (λ a. mails a r) (steps (scan_step Prefix p r) k) (when (ltb (r + 2 ^ k) p) (Send (r + 2 ^ k) k) ++ when (leb (2 ^ k) r) (Take (r - 2 ^ k) k Prefix)) (fresh unit (inputs r)),
        acts_append join (λ a. mails a r) (when (ltb (r + 2 ^ k) p) (Send (r + 2 ^ k) k)) (when (leb (2 ^ k) r) (Take (r - 2 ^ k) k Prefix)) x,
      )
      (prefix_taking r k y h (prefix_sending r k x (prefixed r k h) (ltb (r + 2 ^ k) p)) (leb (2 ^ k) r) refl)

  pub last_prefix : (r : ℕ) → r < p → (acts join (λ a. mails a r) (steps (scan_step Prefix p r) (levels p)) (fresh unit (inputs r))).prefix ≡ span unit join inputs 0 r
  last_prefix r h = prefixed r (levels p) h ∙ ap₂ (span unit join inputs) (omega (arith, levels_past p)) (omega (arith, levels_past p))

pub scan_comes_out : (E : Type 0) → ComesOut Scan E
unfolding scan
scan_comes_out E proper unit join laws p root h inputs ip =
    record {
      solved = solved proper unit join laws p inputs ip Before (λ v t. refl);
      within = λ a b label h s. within Before p a b label s;
      promised = last_value proper unit join laws p inputs ip Before (λ v t. refl);
      all_done = λ r l. acts_done join _ (scan p r) (fresh unit (inputs r)) ∙ omega arith;
      rounds_are = rounds_are proper unit join laws p inputs ip Before (λ v t. refl) (omega arith);
      messages_are = messages_are Before p;
    }

pub exscan_comes_out : (E : Type 0) → ComesOut Exscan E
unfolding exscan
exscan_comes_out E proper unit join laws p root h inputs ip =
    record {
      solved = solved proper unit join laws p inputs ip Prefix (λ v t. refl);
      within = λ a b label h s. within Prefix p a b label s;
      promised = last_prefix proper unit join laws p inputs ip;
      all_done = λ r l. acts_done join _ (exscan p r) (fresh unit (inputs r)) ∙ omega arith;
      rounds_are = rounds_are proper unit join laws p inputs ip Prefix (λ v t. refl) (omega arith);
      messages_are = messages_are Prefix p;
    }
