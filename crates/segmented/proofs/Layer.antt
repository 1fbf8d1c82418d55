-- What the layer's network is after a change of the network below.
use Rattle.std.proofs.Common.{◌≡◌, ℕ, zero, suc, ◌+◌, ◌-◌, ◌*◌, ◌/◌, ◌<◌, ◌≤◌, Bool, true, false, cond, ◌&&◌, eqb, ltb, leb, ◌⊎◌, List, [], ◌∷◌, ◌++◌, length, take, drop, sym, refl, ap, ◌∙◌, subst, ap₂, inl, inr, mul_comm, add-mul, one-mul, le-div_iff_mul-le, mul-add, arith}
use mathlib.Core.Path.{fun_ext}
use native.Mathlib.Nat.{mul-div_right, zero-div}
use Rattle.std.specs.List.{flat_map}
use Rattle.std.proofs.lemmas.List.{append-nil, append_assoc, take_at, drop_at, length-append, length-drop}
use Rattle.std.proofs.ByRecursion.{All-push}
use Rattle.std.proofs.lemmas.Bool.{cases_Bool, cases_eq, and_parts, ltb-true, leb-true, eqb-true, eq-eqb, ne_eqb}
use Rattle.transport.specs.Network.{Network, Message, between, waiting, put, with_lists, sent, carried, some_moved, value, Short, Shaped}
use Rattle.transport.specs.Many.{sent_all, carried_all}
use Rattle.ranks.specs.Ranks.{sum_below}
use Rattle.ranks.proofs.Sums.{sum_same, sum-mul}
use Rattle.transport.proofs.Tables.{put_is, put_here, put_other, put_same}
use Rattle.transport.proofs.Shapes.{layer_closed, layer_open}
use Rattle.transport.proofs.Many.{nothing_waits}
use Rattle.segmented.specs.Segments.{pieces, segments, decode, open_network, segmented, usable, new_segmented, Coded, Whole}
use Rattle.segmented.proofs.Coding.{pieces_some, length-segments, decode_joined, coded, length-coded}

-- a layer with ranks
pub open_is : (lim p : ℕ) (n : Network) → 0 < p → segmented lim p n ≡ open_network (pieces lim) p n
open_is lim p n = layer_open 7 p (open_network (pieces lim) p n)

-- c below d / k leaves room for k more
pub fits_below : (k c d x : ℕ) → 0 < k → c < d / k → x ≡ k * c → x + k ≤ d
fits_below k c d x some less is =
    let h : (c + 1) * k ≤ d = (le-div_iff_mul-le {k = k} {x = c + 1} {y = d} some).0 (omega arith) in
    omega (arith, add-mul c 1 k, one-mul k, mul_comm c k)

module _ (lim p : ℕ) (n : Network) (w : Whole lim p n) (h : 0 < p) where
  abbrev above : Network
  above = open_network (pieces lim) p n

  some : 0 < lim
  some = w.some h

  pub between_is : (a b : ℕ) → between n a b ≡ pieces lim * between above a b
  between_is a b =
      let u = length-coded lim some (n.under a b) (w.under h a b) in
      let v = length-coded lim some (n.arrived a b) (w.arrived h a b) in
      ap₂ (λ x y. x + y) u v ∙ sym (mul-add (pieces lim) (length (decode (pieces lim) (n.under a b))) (length (decode (pieces lim) (n.arrived a b))))

  pub waiting_is : waiting n ≡ pieces lim * waiting above
  unfolding waiting
  waiting_is =
      ap (λ q. sum_below (λ a. sum_below (between n a) q) q) (sym (w.same h))
      ∙ sum_same (λ a. sum_below (between n a) p) (λ a. pieces lim * sum_below (between above a) p) p
      (λ a _. sum_same (between n a) (λ b. pieces lim * between above a b) p (λ b _. between_is a b) ∙ sum-mul (pieces lim) (between above a) p)
      ∙ sum-mul (pieces lim) (λ a. sum_below (between above a) p) p

  pub between_div : (a b : ℕ) → between n a b / pieces lim ≡ between above a b
  between_div a b = ap (λ x. x / pieces lim) (between_is a b) ∙ mul-div_right (between above a b) {m = pieces lim} (pieces_some lim some)

  pub waiting_div : waiting n / pieces lim ≡ waiting above
  waiting_div = ap (λ x. x / pieces lim) waiting_is ∙ mul-div_right (waiting above) {m = pieces lim} (pieces_some lim some)

  -- a changed list, decoded
  decode_put : (f : ℕ → ℕ → List Message) (a b : ℕ) (l ms : List Message) → decode (pieces lim) l ≡ ms
      → ◌≡◌ {A = ℕ → ℕ → List Message} (λ x y. decode (pieces lim) (put f a b l x y)) (put (λ x y. decode (pieces lim) (f x y)) a b ms)
  decode_put f a b l ms e =
      put_is (λ x y. decode (pieces lim) (f x y)) (λ x y. decode (pieces lim) (put f a b l x y)) a b ms
      (ap (decode (pieces lim)) (put_here f a b l) ∙ e)
      (λ x y ne. ap (decode (pieces lim)) (put_other f a b l x y ne))

  coded_put : (f : ℕ → ℕ → List Message) (a b : ℕ) (l : List Message) → Coded lim l → ((x y : ℕ) → Coded lim (f x y)) → (x y : ℕ) → Coded lim (put f a b l x y)
  coded_put f a b l here there x y = by (eqb a x && eqb b y)
    where
      by : (t : Bool) → Coded lim (cond t l (f x y))
      by true = here
      by false = there x y

  joined_push : (ms : List Message) (m : Message) → flat_map (segments lim) ms ++ segments lim m ≡ flat_map (segments lim) (ms ++ (m ∷ []))
  joined_push [] m = sym (append-nil (segments lim m))
  joined_push (x ∷ ms) m = append_assoc (segments lim x) (flat_map (segments lim) ms) (segments lim m) ∙ ap (λ l. segments lim x ++ l) (joined_push ms m)

  joined_pushed : (l : List Message) → Coded lim l → (m : Message) → l ++ segments lim m ≡ flat_map (segments lim) (decode (pieces lim) l ++ (m ∷ []))
  joined_pushed l c m = ap (λ x. x ++ segments lim m) c.is ∙ joined_push (decode (pieces lim) l) m

  short_pushed : (l : List Message) → Coded lim l → (m : Message) → length m.words ≤ 7 → Short 7 (decode (pieces lim) l ++ (m ∷ []))
  short_pushed l c m short = All-push (λ x. length x.words ≤ 7) (decode (pieces lim) l) m c.short short

  pushed : (l : List Message) → Coded lim l → (m : Message) → length m.words ≤ 7 → Coded lim (l ++ segments lim m)
  pushed l c m short = coded lim some (l ++ segments lim m) (decode (pieces lim) l ++ (m ∷ [])) (short_pushed l c m short) (joined_pushed l c m)

  decode_pushed : (l : List Message) (c : Coded lim l) (m : Message) → length m.words ≤ 7 → decode (pieces lim) (l ++ segments lim m) ≡ decode (pieces lim) l ++ (m ∷ [])
  decode_pushed l c m short = ap (decode (pieces lim)) (joined_pushed l c m) ∙ decode_joined lim some (decode (pieces lim) l ++ (m ∷ [])) (short_pushed l c m short)

  -- a send
  module _ (a b : ℕ) (m : Message) (short : length m.words ≤ 7) where
    pub sent_above : open_network (pieces lim) p (sent_all n a b (segments lim m)) ≡ sent above a b m
    unfolding sent
    sent_above =
        ap (λ u. with_lists above u above.arrived)
        (decode_put n.under a b (n.under a b ++ segments lim m) (decode (pieces lim) (n.under a b) ++ (m ∷ [])) (decode_pushed (n.under a b) (w.under h a b) m short))

    pub sent_whole : Whole lim p (sent_all n a b (segments lim m))
    sent_whole = record {
      same = w.same;
      some = w.some;
      under = λ _. coded_put n.under a b (n.under a b ++ segments lim m) (pushed (n.under a b) (w.under h a b) m short) (w.under h);
      arrived = w.arrived;
    }

  -- a carry
  front_of : (u : List Message) (m : Message) (ms : List Message) → u ≡ flat_map (segments lim) (m ∷ ms) → take (pieces lim) u ≡ segments lim m
  front_of u m ms e = ap (take (pieces lim)) e ∙ take_at (segments lim m) (flat_map (segments lim) ms) (pieces lim) (length-segments lim some m)

  rest_of : (u : List Message) (m : Message) (ms : List Message) → u ≡ flat_map (segments lim) (m ∷ ms) → drop (pieces lim) u ≡ flat_map (segments lim) ms
  rest_of u m ms e = ap (drop (pieces lim)) e ∙ drop_at (segments lim m) (flat_map (segments lim) ms) (pieces lim) (length-segments lim some m)

  nothing_drops : (k : ℕ) (u : List Message) → u ≡ [] → drop k u ≡ u
  nothing_drops zero u e = refl
  nothing_drops (suc k) u e = ap (drop (suc k)) e ∙ sym e

  nothing_taken : (k : ℕ) (u : List Message) → u ≡ [] → take k u ≡ []
  nothing_taken zero u e = refl
  nothing_taken (suc k) u e = ap (take (suc k)) e

  module _ (a b : ℕ) where
    stays : n.under a b ≡ [] → carried_all n a b (pieces lim) ≡ n
    stays e =
        ap₂ (with_lists n)
        (ap (put n.under a b) (nothing_drops (pieces lim) (n.under a b) e) ∙ put_same n.under a b)
        (ap (put n.arrived a b) (ap (λ l. n.arrived a b ++ l) (nothing_taken (pieces lim) (n.under a b) e) ∙ append-nil (n.arrived a b)) ∙ put_same n.arrived a b)

    carried_by : (ms : List Message) → Short 7 ms → n.under a b ≡ flat_map (segments lim) ms → open_network (pieces lim) p (carried_all n a b (pieces lim)) ≡ carried above a b ms
    carried_by [] short e = ap (open_network (pieces lim) p) (stays e)
    carried_by (m ∷ ms) short e =
        ap₂ (with_lists above)
        (decode_put n.under a b (drop (pieces lim) (n.under a b)) ms (ap (decode (pieces lim)) (rest_of (n.under a b) m ms e) ∙ decode_joined lim some ms short.1))
        (decode_put n.arrived a b (n.arrived a b ++ take (pieces lim) (n.under a b)) (decode (pieces lim) (n.arrived a b) ++ (m ∷ []))
        (ap (λ l. decode (pieces lim) (n.arrived a b ++ l)) (front_of (n.under a b) m ms e) ∙ decode_pushed (n.arrived a b) (w.arrived h a b) m short.0))

    pub carried_above : open_network (pieces lim) p (carried_all n a b (pieces lim)) ≡ carried above a b (above.under a b)
    carried_above = carried_by (above.under a b) (w.under h a b).short (w.under h a b).is

    whole_by : (ms : List Message) → Short 7 ms → n.under a b ≡ flat_map (segments lim) ms → Whole lim p (carried_all n a b (pieces lim))
    whole_by [] short e = subst (Whole lim p) (sym (stays e)) w
    whole_by (m ∷ ms) short e = record {
      same = w.same;
      some = w.some;
      under = λ _. coded_put n.under a b (drop (pieces lim) (n.under a b)) (coded lim some (drop (pieces lim) (n.under a b)) ms short.1 (rest_of (n.under a b) m ms e)) (w.under h);
      arrived = λ _. coded_put n.arrived a b (n.arrived a b ++ take (pieces lim) (n.under a b))
          (subst (λ (l : List Message). Coded lim (n.arrived a b ++ l)) (sym (front_of (n.under a b) m ms e)) (pushed (n.arrived a b) (w.arrived h a b) m short.0))
          (w.arrived h);
    }

    pub carried_whole : Whole lim p (carried_all n a b (pieces lim))
    carried_whole = whole_by (above.under a b) (w.under h a b).short (w.under h a b).is

    some_left : (l : List Message) → 0 < length l → some_moved l ≡ value 1
    some_left [] e = absurd (no_more e)
      where
        no_more : ◌<◌ 0 0 → ⊥
        no_more e = omega arith
    some_left (x ∷ l) e = refl

    moved_by : (ms : List Message) → n.under a b ≡ flat_map (segments lim) ms → some_moved (drop (pieces lim - 1) (n.under a b)) ≡ some_moved ms
    moved_by [] e = ap some_moved (nothing_drops (pieces lim - 1) (n.under a b) e ∙ e)
    moved_by (m ∷ ms) e =
        some_left (drop (pieces lim - 1) (n.under a b))
        (simp length-drop (omega (arith, ap length e, length-append (segments lim m) (flat_map (segments lim) ms), length-segments lim some m, pieces_some lim some)))

    pub carried_moves : some_moved (drop (pieces lim - 1) (n.under a b)) ≡ some_moved (above.under a b)
    carried_moves = moved_by (above.under a b) (w.under h a b).is

  -- a list put in the place of those that arrived
  module _ (a b : ℕ) (ms : List Message) (short : Short 7 ms) where
    rest_coded : Coded lim (flat_map (segments lim) ms)
    rest_coded = coded lim some (flat_map (segments lim) ms) ms short refl

    pub taken_above : open_network (pieces lim) p (with_lists n n.under (put n.arrived a b (flat_map (segments lim) ms))) ≡ with_lists above above.under (put above.arrived a b ms)
    taken_above = ap (with_lists above above.under) (decode_put n.arrived a b (flat_map (segments lim) ms) ms (decode_joined lim some ms short))

    pub taken_whole : Whole lim p (with_lists n n.under (put n.arrived a b (flat_map (segments lim) ms)))
    taken_whole = record {
      same = w.same;
      some = w.some;
      under = w.under;
      arrived = λ _. coded_put n.arrived a b (flat_map (segments lim) ms) rest_coded (w.arrived h);
    }

-- how many messages some segments are
pub count_open : (p k : ℕ) → 0 < p → cond (eqb p 0) 0 k ≡ k
count_open p k h = rw (ne_eqb p 0 (λ z. omega arith))

module _ (lim p : ℕ) (n : Network) (w : Whole lim p n) where
  waiting_closed : p ≡ 0 → 0 ≡ waiting (segmented lim p n)
  unfolding waiting
  waiting_closed z = ap waiting (sym (layer_closed 7 p (open_network (pieces lim) p n) z))

  pub waiting_above : waiting (segmented lim p n) ≡ cond (eqb p 0) 0 (waiting n / pieces lim)
  waiting_above = by (cases_eq p 0)
    where
      by : (p ≡ 0) ⊎ (p ≡ 0 → ⊥) → waiting (segmented lim p n) ≡ cond (eqb p 0) 0 (waiting n / pieces lim)
      by (inl z) = sym (ap (λ t. cond t 0 (waiting n / pieces lim)) (eq-eqb p 0 z) ∙ waiting_closed z)
      by (inr ne) =
          let h : 0 < p = omega arith in
          sym (count_open p (waiting n / pieces lim) h ∙ waiting_div lim p n w h ∙ ap waiting (sym (open_is lim p n h)))

-- a new layer
module _ (lim : ℕ) (n : Network) (shape : Shaped lim n) where
  used : usable lim n ≡ true → (0 < lim) × (waiting n ≡ 0)
  used e =
      let h = and_parts (ltb 0 lim) _ e in
      let k = and_parts (eqb (waiting n) 0) _ h.1 in
      (ltb-true 0 lim h.0, eqb-true (waiting n) 0 k.0)

  nil_coded : 0 < lim → (l : List Message) → l ≡ [] → Coded lim l
  nil_coded some l e = coded lim some l [] tt e

  pub new_whole : Whole lim (cond (usable lim n) n.ranks 0) n
  new_whole = by (cases_Bool (usable lim n))
    where
      by : (usable lim n ≡ true) ⊎ (usable lim n ≡ false) → Whole lim (cond (usable lim n) n.ranks 0) n
      by (inl e) = rw e (record {
        same = λ _. refl;
        some = λ _. (used e).0;
        under = λ _ a b. nil_coded (used e).0 (n.under a b) (nothing_waits lim n shape (used e).1 a b).0;
        arrived = λ _ a b. nil_coded (used e).0 (n.arrived a b) (nothing_waits lim n shape (used e).1 a b).1;
      })
      by (inr e) = rw e (record {
        same = λ h. absurd (no_more h);
        some = λ h. absurd (no_more h);
        under = λ h a b. absurd (no_more h);
        arrived = λ h a b. absurd (no_more h);
      })
        where
          no_more : ◌<◌ 0 0 → ⊥
          no_more h = omega arith

  decode_nil : (l : List Message) → 0 < lim → l ≡ [] → decode (pieces lim) l ≡ []
  decode_nil l some e = ap (decode (pieces lim)) e ∙ decode_joined lim some [] tt

  -- ranks are there, since depth is
  pub new_is : segmented lim (cond (usable lim n) n.ranks 0) n ≡ new_segmented lim n
  new_is = by (cases_Bool (usable lim n))
    where
      deep : usable lim n ≡ true → 1 ≤ n.depth / pieces lim
      deep e =
          let h = and_parts (ltb 0 lim) _ e in
          let k = and_parts (eqb (waiting n) 0) _ h.1 in
          leb-true 1 (n.depth / pieces lim) (and_parts (leb 1 (n.depth / pieces lim)) _ k.1).0

      shallow : n.ranks ≡ 0 → n.depth / pieces lim ≡ 0
      shallow z = ap (λ d. d / pieces lim) (shape.no_depth z) ∙ zero-div (pieces lim)

      positive : usable lim n ≡ true → 0 < n.ranks
      positive e = from (cases_eq n.ranks 0)
        where
          from : (n.ranks ≡ 0) ⊎ (n.ranks ≡ 0 → ⊥) → 0 < n.ranks
          from (inl z) = omega (arith, shallow z, deep e)
          from (inr ne) = omega arith

      by : (usable lim n ≡ true) ⊎ (usable lim n ≡ false) → segmented lim (cond (usable lim n) n.ranks 0) n ≡ new_segmented lim n
      by (inl e) = rw e (open_is lim n.ranks n (positive e)
          ∙ ap₂ (with_lists (open_network (pieces lim) n.ranks n))
          (fun_ext (λ a. fun_ext (λ b. decode_nil (n.under a b) (used e).0 (nothing_waits lim n shape (used e).1 a b).0)))
          (fun_ext (λ a. fun_ext (λ b. decode_nil (n.arrived a b) (used e).0 (nothing_waits lim n shape (used e).1 a b).1))))
      by (inr e) = rw e refl
