-- Broadcast: each rank but the root takes once, and then sends on.
use Rattle.std.proofs.Common.{◌≡◌, ℕ, zero, suc, ◌+◌, ◌-◌, ◌%◌, ◌^◌, ◌<◌, ◌≤◌, min, max, Bool, true, false, cond, ◌&&◌, ltb, ◌⊎◌, List, [], ◌++◌, sym, refl, ap, ◌∙◌, subst, ap₂, inl, inr, ⊎_elim, append_assoc, append-nil, mod-lt, mod-eq_of_lt, arith, pow_pos}
use native.Mathlib.Nat.{mod-eq-sub-mod}
use Rattle.std.proofs.lemmas.Bool.{ltb-true, ltb-false, lt-ltb, le-ltb, cases_lt, and_parts, and_from, and_cases}
use Rattle.std.proofs.lemmas.Bool.Decides.{nat_tests}
use Rattle.programme.specs.declared.Action.{Action}
use Rattle.programme.specs.declared.Action.TheVariants.{Send, Take}
use Rattle.programme.specs.declared.Merge.{Merge}
use Rattle.programme.specs.declared.Merge.TheVariants.{Replace}
use Rattle.programme.specs.declared.Kind.TheVariants.{Broadcast}
use Rattle.programme.specs.Levels.{levels, floor_log}
use Rattle.programme.specs.Monoid.{Laws, span}
use Rattle.programme.specs.Rank.{Rank, Mail, fresh, posted, acts}
use Rattle.programme.specs.Programme.{steps, when, broadcast, from_root, rank_at}
use Rattle.programme.specs.Solved.{Stands, Solved}
use Rattle.programme.specs.Outcome.{ComesOut}
use Rattle.ranks.specs.Ranks.{sum_below, greatest_below}
use Rattle.programme.specs.Formula.{sends}
use Rattle.programme.proofs.Power.{below_levels, levels_below, levels_le, levels_past, levels_mono, levels_next, levels_one, floor_log_le, lt_floor_log, floor_log_unique, pow_inj}
use Rattle.programme.proofs.Lists.{Every, every_stands, every_append, every_steps, every_when, stands_left, stands_right, stands_when, stands_steps, moved_stands, acts_done, acts_append, sends_append, sends_steps, sends_when, sends_when_take}
use Rattle.ranks.proofs.Sums.{sum_same, sum-swap, sum-split, sum-ltb, greatest_is}
use Rattle.programme.proofs.Spans.{span_one}
use Rattle.programme.proofs.Mails.{mail_path}

-- a remainder of less than twice the divisor
pub mod_cases : (a p : ℕ) → a < p + p → ((a < p) × (a % p ≡ a)) ⊎ ((p ≤ a) × (a % p ≡ a - p))
mod_cases a p h =
    ⊎_elim
    (λ (l : a < p). inl (l, mod-eq_of_lt l))
    (λ (l : p ≤ a). let m : a - p < p = omega arith in inr (l, mod-eq-sub-mod l ∙ mod-eq_of_lt m))
    (cases_lt a p)

module _ (p root : ℕ) (h : root < p) where
  from_root_lt : (r : ℕ) → from_root p root r < p
  from_root_lt r = mod-lt (r + (p - root)) (let pos : 0 < p = omega arith in pos)

  rank_at_lt : (w : ℕ) → rank_at p root w < p
  rank_at_lt w = mod-lt (w + root) (let pos : 0 < p = omega arith in pos)

  rank_of_number : (r : ℕ) → r < p → rank_at p root (from_root p root r) ≡ r
  rank_of_number r l = omega (arith, mod_cases (r + (p - root)) p (omega arith), mod_cases (from_root p root r + root) p (omega (arith, from_root_lt r)))

  number_of_rank : (w : ℕ) → w < p → from_root p root (rank_at p root w) ≡ w
  number_of_rank w l = omega (arith, mod_cases (w + root) p (omega arith), mod_cases (rank_at p root w + (p - root)) p (omega (arith, rank_at_lt w)))

  from_root_inj : (a b : ℕ) → a < p → b < p → from_root p root a ≡ from_root p root b → a ≡ b
  from_root_inj a b k l e = sym (rank_of_number a k) ∙ ap (rank_at p root) e ∙ rank_of_number b l

  rank_at_inj : (a b : ℕ) → a < p → b < p → rank_at p root a ≡ rank_at p root b → a ≡ b
  rank_at_inj a b k l e = sym (number_of_rank a k) ∙ ap (from_root p root) e ∙ number_of_rank b l

  root_is : rank_at p root 0 ≡ root
  root_is = omega (arith, mod_cases (0 + root) p (omega arith))

-- the programme of the rank with number u
abbrev taking : (p root u : ℕ) → List Action
taking p root u = when (ltb 0 u) (Take (rank_at p root (u - 2 ^ floor_log u)) (floor_log u) Replace)

abbrev sending : (p root u k : ℕ) → List Action
sending p root u k = when (ltb u (2 ^ k) && ltb (u + 2 ^ k) p) (Send (rank_at p root (u + 2 ^ k)) k)

abbrev spread : (p root u : ℕ) → List Action
spread p root u = taking p root u ++ steps (sending p root u) (levels p)

broadcast_is : (p root r : ℕ) → broadcast p root r ≡ spread p root (from_root p root r)
unfolding broadcast
broadcast_is p root r = refl

record Sent (p root u : ℕ) (before : List Action) (b label : ℕ) : Type 0 where
  k : ℕ
  within : k < levels p
  above : u < 2 ^ k
  fits : u + 2 ^ k < p
  to : b ≡ rank_at p root (u + 2 ^ k)
  under : label ≡ k
  behind : before ≡ taking p root u ++ steps (sending p root u) k

record Took (p root u : ℕ) (before : List Action) (a label : ℕ) (with : Merge) : Type 0 where
  some : 0 < u
  from : a ≡ rank_at p root (u - 2 ^ floor_log u)
  under : label ≡ floor_log u
  by : with ≡ Replace
  behind : before ≡ []

abbrev Told : (p root u : ℕ) → List Action → Action → Type 0
Told p root u before (Send b label) = Sent p root u before b label
Told p root u before (Take a label with) = Took p root u before a label with

told : (p root u : ℕ) → Every (Told p root u) (spread p root u)
told p root u =
    every_append (Told p root u) (taking p root u) (steps (sending p root u) (levels p))
    (every_when (Told p root u) (ltb 0 u) (Take (rank_at p root (u - 2 ^ floor_log u)) (floor_log u) Replace)
    λ e. record { some = ltb-true 0 u e; from = refl; under = refl; by = refl; behind = refl })
    (every_steps (λ before. Told p root u (taking p root u ++ before)) (sending p root u) (levels p)
    λ k l. every_when (λ before. Told p root u (taking p root u ++ (steps (sending p root u) k ++ before))) (ltb u (2 ^ k) && ltb (u + 2 ^ k) p) (Send (rank_at p root (u + 2 ^ k)) k)
    λ e.
    record {
      k = k;
      within = l;
      above = ltb-true u (2 ^ k) (and_parts (ltb u (2 ^ k)) (ltb (u + 2 ^ k) p) e).0;
      fits = ltb-true (u + 2 ^ k) p (and_parts (ltb u (2 ^ k)) (ltb (u + 2 ^ k) p) e).1;
      to = refl;
      under = refl;
      behind = ap (λ (t : List Action). taking p root u ++ t) (append-nil (steps (sending p root u) k));
    })

-- the highest bit of a number with one higher bit
floor_is : (u k : ℕ) → u < 2 ^ k → floor_log (u + 2 ^ k) ≡ k
floor_is u k h = floor_log_unique (u + 2 ^ k) k (omega arith) (omega arith)

send_stands : (p root u k : ℕ) → u < 2 ^ k → u + 2 ^ k < p → Stands (spread p root u) (Send (rank_at p root (u + 2 ^ k)) k)
send_stands p root u k h l =
    stands_right (taking p root u) (steps (sending p root u) (levels p)) (Send (rank_at p root (u + 2 ^ k)) k)
    (stands_steps (sending p root u) (levels p) k (Send (rank_at p root (u + 2 ^ k)) k) (levels_below p k (omega arith))
    (stands_when (ltb u (2 ^ k) && ltb (u + 2 ^ k) p) (Send (rank_at p root (u + 2 ^ k)) k) (and_from (ltb u (2 ^ k)) (ltb (u + 2 ^ k) p) (lt-ltb u (2 ^ k) h) (lt-ltb (u + 2 ^ k) p l))))

take_stands : (p root u : ℕ) → 0 < u → Stands (spread p root u) (Take (rank_at p root (u - 2 ^ floor_log u)) (floor_log u) Replace)
take_stands p root u h =
    stands_left (taking p root u) (steps (sending p root u) (levels p)) (Take (rank_at p root (u - 2 ^ floor_log u)) (floor_log u) Replace)
    (stands_when (ltb 0 u) (Take (rank_at p root (u - 2 ^ floor_log u)) (floor_log u) Replace) (lt-ltb 0 u h))

module _ {E : Type 0} (proper : E → Bool) (unit : E) (join : E → E → E) (laws : Laws proper unit join) (p root : ℕ) (root_lt : root < p) (inputs : ℕ → E) (inputs_proper : (r : ℕ) → r < p → proper (inputs r) ≡ true) where
  abbrev sent : (a b : ℕ) → Mail E
  sent a b = record { stamp = floor_log (from_root p root b) + 1; value = span unit join inputs root 1 }

  root_value : span unit join inputs root 1 ≡ inputs root
  root_value = span_one proper unit join laws p inputs inputs_proper root root_lt

  -- number u after its take and k steps
  record Holds (u k : ℕ) (x : Rank E) : Type 0 where
    value : x.value ≡ span unit join inputs root 1
    arrival : x.arrival ≡ levels (u + 1)
    departure : x.departure ≤ k
    full : levels (u + 1) ≤ k → k < levels (p - u) → k ≤ max x.departure x.arrival

  begins : (r u : ℕ) → r < p → u ≡ from_root p root r → Holds u 0 (acts join (λ a. sent a r) (taking p root u) (fresh unit (inputs r)))
  begins r u h e =
      ⊎_elim
      (λ (l : 0 < u).
      let s : floor_log (from_root p root r) ≡ floor_log u = ap floor_log (sym e) in
      subst (λ (t : Bool). Holds u 0 (acts join (λ a. sent a r) (when t (Take (rank_at p root (u - 2 ^ floor_log u)) (floor_log u) Replace)) (fresh unit (inputs r)))) (sym (lt-ltb 0 u l))
      (record {
        value = refl;
        arrival = omega (arith, s, levels_next u l);
        departure = omega arith;
        full = λ m n. omega arith;
      }))
      (λ (l : u ≤ 0).
      let z : u ≡ 0 = omega arith in
      let is_root : r ≡ root = sym (rank_of_number p root root_lt r h) ∙ ap (rank_at p root) (sym e ∙ z) ∙ root_is p root root_lt in
      let none : levels (u + 1) ≡ 0 = ap (λ (x : ℕ). levels (x + 1)) z ∙ levels_one in
      subst (λ (t : Bool). Holds u 0 (acts join (λ a. sent a r) (when t (Take (rank_at p root (u - 2 ^ floor_log u)) (floor_log u) Replace)) (fresh unit (inputs r)))) (sym (le-ltb 0 u l))
      (record {
        value = ap inputs is_root ∙ sym root_value;
        arrival = sym none;
        departure = omega arith;
        full = λ m n. omega arith;
      }))
      (cases_lt 0 u)

  step : (r u k : ℕ) (x : Rank E) → Holds u k x → (t : Bool) → (ltb u (2 ^ k) && ltb (u + 2 ^ k) p) ≡ t → Holds u (suc k) (acts join (λ a. sent a r) (when t (Send (rank_at p root (u + 2 ^ k)) k)) x)
  step r u k x c true e =
      let above : u < 2 ^ k = ltb-true u (2 ^ k) (and_parts (ltb u (2 ^ k)) (ltb (u + 2 ^ k) p) e).0 in
      let fits : u + 2 ^ k < p = ltb-true (u + 2 ^ k) p (and_parts (ltb u (2 ^ k)) (ltb (u + 2 ^ k) p) e).1 in
      let low : levels (u + 1) ≤ k = levels_le (u + 1) k (omega arith) in
      let high : k < levels (p - u) = levels_below (p - u) k (omega arith) in
      let f : k ≤ max x.departure x.arrival = c.full low high in
      record {
        value = c.value;
        arrival = c.arrival;
        departure = omega (arith, c.arrival, c.departure);
        full = λ m n. omega arith;
      }
  step r u k x c false e =
      record {
        value = c.value;
        arrival = c.arrival;
        departure = omega (arith, c.departure);
        full = λ m n.
            ⊎_elim
            (λ (z : ltb u (2 ^ k) ≡ false). omega (arith, c.arrival, levels_below (u + 1) k (omega (arith, ltb_false_lt u (2 ^ k) z))))
            (λ (z : ltb (u + 2 ^ k) p ≡ false). absurd (omega (arith, ltb-false (u + 2 ^ k) p z, below_levels (p - u) k (omega arith))))
            (and_cases (ltb u (2 ^ k)) (ltb (u + 2 ^ k) p) e);
      }
    where
      ltb_false_lt : (a b : ℕ) → ltb a b ≡ false → b < a + 1
      ltb_false_lt a b q = omega (arith, ltb-false a b q)

  -- number u of rank r before step k
  abbrev reached : (r u k : ℕ) → Rank E
  reached r u k = acts join (λ a. sent a r) (taking p root u ++ steps (sending p root u) k) (fresh unit (inputs r))

  holds : (r u k : ℕ) → r < p → u ≡ from_root p root r → Holds u k (reached r u k)
  unfolding steps
  holds r u zero h e = subst (λ (t : List Action). Holds u 0 (acts join (λ a. sent a r) t (fresh unit (inputs r)))) (sym (append-nil (taking p root u))) (begins r u h e)
  holds r u (suc k) h e =
      subst (λ (x : Rank E). Holds u (suc k) x)
      (sym (acts_append join (λ a. sent a r) (taking p root u ++ steps (sending p root u) k) (sending p root u k) (fresh unit (inputs r)))
      ∙ ap (λ (t : List Action). acts join (λ a. sent a r) t (fresh unit (inputs r))) (append_assoc (taking p root u) (steps (sending p root u) k) (sending p root u k)))
      (step r u k (reached r u k) (holds r u k h e) (ltb u (2 ^ k) && ltb (u + 2 ^ k) p) refl)

  send_mail : (r u k : ℕ) → r < p → u ≡ from_root p root r → u < 2 ^ k → u + 2 ^ k < p → sent r (rank_at p root (u + 2 ^ k)) ≡ posted (reached r u k)
  send_mail r u k h e above fits =
      let c : Holds u k (reached r u k) = holds r u k h e in
      let low : levels (u + 1) ≤ k = levels_le (u + 1) k (omega arith) in
      let f : k ≤ max (reached r u k).departure (reached r u k).arrival = c.full low (levels_below (p - u) k (omega arith)) in
      let s : floor_log (from_root p root (rank_at p root (u + 2 ^ k))) ≡ k = ap floor_log (number_of_rank p root root_lt (u + 2 ^ k) fits) ∙ floor_is u k above in
      mail_path (sent r (rank_at p root (u + 2 ^ k))) (posted (reached r u k))
      (omega (arith, s, c.arrival, c.departure))
      (sym c.value)

  abbrev number : ℕ → ℕ
  number r = from_root p root r

  abbrev said : (a b label : ℕ) (s : Stands (spread p root (number a)) (Send b label)) → Sent p root (number a) s.before b label
  said a b label s = every_stands (Told p root (number a)) (spread p root (number a)) (Send b label) (told p root (number a)) s

  abbrev heard : (a b label : ℕ) (m : Merge) (s : Stands (spread p root (number b)) (Take a label m)) → Took p root (number b) s.before a label m
  heard a b label m s = every_stands (Told p root (number b)) (spread p root (number b)) (Take a label m) (told p root (number b)) s

  -- from the number that sends to the one that takes
  send_met : (a b label : ℕ) (before : List Action) → a < p → Sent p root (number a) before b label → Stands (spread p root (number b)) (Take a label Replace)
  send_met a b label before h t =
      let w : ℕ = number a + 2 ^ t.k in
      let e : number b ≡ w = ap number t.to ∙ number_of_rank p root root_lt w t.fits in
      let hb : floor_log w ≡ t.k = floor_is (number a) t.k t.above in
      let from : a ≡ rank_at p root (w - 2 ^ floor_log w) = sym (rank_of_number p root root_lt a h) ∙ ap (rank_at p root) (let z : number a ≡ w - 2 ^ floor_log w = omega (arith, ap (λ (x : ℕ). 2 ^ x) hb) in z) in
      moved_stands (spread p root) (number b) w (Take a label Replace) (Take (rank_at p root (w - 2 ^ floor_log w)) (floor_log w) Replace) e
      (ap₂ (λ (x y : ℕ). Take x y Replace) from (t.under ∙ sym hb))
      (take_stands p root w (omega (arith, pow_pos t.k)))

  -- the number that is taken from
  source : (u : ℕ) → ℕ
  source u = u - 2 ^ floor_log u

  take_met : (a b label : ℕ) (m : Merge) (before : List Action) → b < p → Took p root (number b) before a label m → Stands (spread p root (number a)) (Send b label)
  unfolding source
  take_met a b label m before h t =
      let u : ℕ = number b in
      let le : 2 ^ floor_log u ≤ u = floor_log_le u t.some in
      let lt : u < 2 ^ suc (floor_log u) = lt_floor_log u t.some in
      let back : source u + 2 ^ floor_log u ≡ u = omega arith in
      let e : number a ≡ source u = ap number t.from ∙ number_of_rank p root root_lt (source u) (omega (arith, from_root_lt p root root_lt b)) in
      moved_stands (spread p root) (number a) (source u) (Send b label) (Send (rank_at p root (source u + 2 ^ floor_log u)) (floor_log u)) e
      (ap₂ Send (sym (rank_of_number p root root_lt b h) ∙ ap (rank_at p root) (sym back)) t.under)
      (send_stands p root (source u) (floor_log u) (omega arith) (omega (arith, from_root_lt p root root_lt b)))

  solved : Solved join p (broadcast p root) (λ r. fresh unit (inputs r)) sent
  unfolding broadcast source
  solved =
      record {
        send_rank = λ a b label h s.
            let t : Sent p root (number a) s.before b label = said a b label s in (
              rw t.to (rank_at_lt p root root_lt (number a + 2 ^ t.k)),
              (λ e. omega (arith, pow_pos t.k, ap number e ∙ ap number t.to ∙ number_of_rank p root root_lt (number a + 2 ^ t.k) t.fits)),
            );
        send_mail = λ a b label h s.
            let t : Sent p root (number a) s.before b label = said a b label s in
            ap (sent a) t.to ∙ send_mail a (number a) t.k h refl t.above t.fits ∙ ap (λ (l : List Action). posted (acts join (λ c. sent c a) l (fresh unit (inputs a)))) (sym t.behind);
        send_met = λ a b label h s. (Replace, send_met a b label s.before h (said a b label s));
        take_rank = λ a b label m h s.
            let t : Took p root (number b) s.before a label m = heard a b label m s in
            let le : 2 ^ floor_log (number b) ≤ number b = floor_log_le (number b) t.some in (
              rw t.from (rank_at_lt p root root_lt (source (number b))),
              (λ e. omega (arith, pow_pos (floor_log (number b)), sym (ap number e) ∙ ap number t.from ∙ number_of_rank p root root_lt (source (number b)) (omega (arith, from_root_lt p root root_lt b)))),
            );
        take_met = λ a b label m h s. take_met a b label m s.before h (heard a b label m s);
        send_once = λ a b label other h s u.
            let t : Sent p root (number a) s.before b label = said a b label s in
            let v : Sent p root (number a) u.before b other = said a b other u in
            let q : number a + 2 ^ t.k ≡ number a + 2 ^ v.k = rank_at_inj p root root_lt (number a + 2 ^ t.k) (number a + 2 ^ v.k) t.fits v.fits (sym t.to ∙ v.to) in
            t.behind ∙ ap (λ (k : ℕ). taking p root (number a) ++ steps (sending p root (number a)) k) (pow_inj t.k v.k (omega arith)) ∙ sym v.behind;
        take_once = λ a b label other m n h s u. (heard a b label m s).behind ∙ sym (heard a b other n u).behind;
      }

  abbrev last : ℕ → Rank E
  last r = acts join (λ a. sent a r) (broadcast p root r) (fresh unit (inputs r))

  last_value : (r : ℕ) → r < p → (last r).value ≡ inputs root
  unfolding broadcast
  last_value r h = (holds r (number r) (levels p) h refl).value ∙ root_value

  last_arrival : (r : ℕ) → r < p → (last r).arrival ≡ levels (number r + 1)
  unfolding broadcast
  last_arrival r h = (holds r (number r) (levels p) h refl).arrival

  rounds_are : greatest_below (λ r. (last r).arrival) p ≡ levels p
  rounds_are =
      let r : ℕ = rank_at p root (p - 1) in
      let l : r < p = rank_at_lt p root root_lt (p - 1) in
      let e : number r + 1 ≡ p = omega (arith, number_of_rank p root root_lt (p - 1) (omega arith)) in
      greatest_is (λ r. (last r).arrival) p (levels p) r l
      (last_arrival r l ∙ ap levels e)
      (λ j h. omega (arith, last_arrival j h, levels_mono (number j + 1) p (omega (arith, from_root_lt p root root_lt j))))

-- a sum over the ranks is one over their numbers
pub sum-turned : (g : ℕ → ℕ) (p root : ℕ) → root < p → sum_below (λ r. g (from_root p root r)) p ≡ sum_below g p
sum-turned g p root h =
    let e : root + (p - root) ≡ p = omega arith in
    let f : p - root + root ≡ p = omega arith in
    let low : sum_below (λ r. g (from_root p root r)) root ≡ sum_below (λ k. g (p - root + k)) root =
    sum_same (λ r. g (from_root p root r)) (λ k. g (p - root + k)) root (λ k l. ap g (omega (arith, mod_cases (k + (p - root)) p (omega arith)))) in
    let high : sum_below (λ k. g (from_root p root (root + k))) (p - root) ≡ sum_below g (p - root) =
    sum_same (λ k. g (from_root p root (root + k))) g (p - root) (λ k l. ap g (omega (arith, mod_cases (root + k + (p - root)) p (omega arith)))) in
    ap (sum_below (λ r. g (from_root p root r))) (sym e)
    ∙ sum-split (λ r. g (from_root p root r)) root (p - root)
    ∙ omega (arith, low, high, sum-split g (p - root) root)
    ∙ ap (sum_below g) f

sends_of_step : (p root u k : ℕ) → sends (sending p root u k) ≡ cond (ltb u (min (2 ^ k) (p - 2 ^ k))) 1 0
sends_of_step p root u k = sends_when (ltb u (2 ^ k) && ltb (u + 2 ^ k) p) (rank_at p root (u + 2 ^ k)) k ∙ ap (λ (b : Bool). cond b 1 0) same
  where
    same : (ltb u (2 ^ k) && ltb (u + 2 ^ k) p) ≡ ltb u (min (2 ^ k) (p - 2 ^ k))
    same = grind (arith, nat_tests)

sends_of : (p root u : ℕ) → sends (spread p root u) ≡ sum_below (λ k. cond (ltb u (min (2 ^ k) (p - 2 ^ k))) 1 0) (levels p)
sends_of p root u =
    sends_append (taking p root u) (steps (sending p root u) (levels p))
    ∙ ap₂ (λ (x y : ℕ). x + y) (sends_when_take (ltb 0 u) (rank_at p root (u - 2 ^ floor_log u)) (floor_log u) Replace)
    (sends_steps (sending p root u) (levels p) ∙ sum_same (λ k. sends (sending p root u k)) (λ k. cond (ltb u (min (2 ^ k) (p - 2 ^ k))) 1 0) (levels p) (λ k l. sends_of_step p root u k))
    ∙ omega arith

-- each step doubles the numbers reached, up to p
reached_sum : (p n : ℕ) → 0 < p → n ≤ levels p → sum_below (λ k. min (2 ^ k) (p - 2 ^ k)) n + 1 ≡ min (2 ^ n) p
reached_sum p zero pos h = omega arith
reached_sum p (suc n) pos h = omega (arith, reached_sum p n pos (omega arith), below_levels p n (omega arith))

pub messages_are : (p root : ℕ) → root < p → sum_below (λ r. sends (broadcast p root r)) p ≡ p - 1
unfolding broadcast
messages_are p root h =
    sum-turned (λ u. sends (spread p root u)) p root h
    ∙ sum_same (λ u. sends (spread p root u)) (λ u. sum_below (λ k. cond (ltb u (min (2 ^ k) (p - 2 ^ k))) 1 0) (levels p)) p (λ u l. sends_of p root u)
    ∙ sum-swap (λ u k. cond (ltb u (min (2 ^ k) (p - 2 ^ k))) 1 0) p (levels p)
    ∙ sum_same (λ k. sum_below (λ u. cond (ltb u (min (2 ^ k) (p - 2 ^ k))) 1 0) p) (λ k. min (2 ^ k) (p - 2 ^ k)) (levels p) (λ k l. sum-ltb (min (2 ^ k) (p - 2 ^ k)) p ∙ omega arith)
    ∙ omega (arith, reached_sum p (levels p) (omega arith) (omega arith), levels_past p)

pub broadcast_comes_out : (E : Type 0) → ComesOut Broadcast E
broadcast_comes_out E proper unit join laws p root h inputs ip =
    record {
      solved = solved proper unit join laws p root h inputs ip;
      within = λ a b label l s. (omega arith, omega arith);
      promised = last_value proper unit join laws p root h inputs ip;
      all_done = λ r l. acts_done join _ (broadcast p root r) (fresh unit (inputs r)) ∙ omega arith;
      rounds_are = rounds_are proper unit join laws p root h inputs ip;
      messages_are = messages_are p root h;
    }
