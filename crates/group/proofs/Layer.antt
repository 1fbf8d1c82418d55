-- What the group answers, and what it stands for after a call to the transport below.
use Rattle.std.proofs.Common.{◌≡◌, ℕ, ◌+◌, ◌<◌, Bool, true, false, cond, not, ◌&&◌, eqb, ltb, leb, ◌⊎◌, List, [], ◌∷◌, ◌++◌, length, get_or, sym, refl, ap, ◌∙◌, subst, ap₂, inl, inr, arith}
use mathlib.Core.Path.{fun_ext}
use Rattle.std.proofs.lemmas.Bool.{cases_Bool, cases_eq, and_parts, and_from, and_left, and_right, ne_eqb, eq-eqb, eqb-true, eqb-false, lt-ltb, true≢false}
use Rattle.transport.specs.declared.Fault.TheVariants.{BadPair, TooLong, PairFull, NoRoom, ShortBuffer}
use Rattle.transport.specs.Network.{Network, Message, Reply, nobody, refused, done, none, value, refuse_if, between, waiting, put, with_lists, between_reply, send_reply, sent, when_done, after_send, carry_reply, carried, after_carry, may_take, take_reply, after_take, taken_words, word_count, written, oldest, without, Shaped}
use Rattle.ranks.specs.Ranks.{pair_ok, sum_below}
use Rattle.ranks.proofs.Sums.{sum_same, sum_zeros}
use Rattle.transport.proofs.Pairs.{pair_parts}
use Rattle.transport.proofs.Shapes.{layer_closed, layer_open}
use Rattle.transport.proofs.Tables.{put_is, put_here, put_other}
use Rattle.transport.proofs.Many.{nothing_waits}
use Rattle.group.specs.Members.{seen, open_group, grouped, Outside, GoodList, Grouping, Listed, new_group}
use Rattle.group.proofs.Through.{sum_through}

-- a group with ranks
pub open_is : (lim c : ℕ) (table : List ℕ) (n : Network) → 0 < c → grouped lim c table n ≡ open_group c table n
open_is lim c table n = layer_open lim c (open_group c table n)

no_not : (b : Bool) → b ≡ false → not b ≡ true
no_not b e = ap not e

module _ (lim c : ℕ) (table : List ℕ) (n : Network) (shape : Shaped lim n) (s : Grouping c table n) (h : 0 < c) where
  abbrev at : ℕ → ℕ
  at k = get_or table k 0

  abbrev above : Network
  above = open_group c table n

  -- the pairs
  apart : (i j : ℕ) → i < c → j < c → eqb i j ≡ false → eqb (at i) (at j) ≡ false
  apart i j hi hj e = ne_eqb (at i) (at j) (λ q. eqb-false i j e (s.distinct i j hi hj q))

  pub pair_there : (i j : ℕ) → pair_ok c i j ≡ true → pair_ok n.ranks (at i) (at j) ≡ true
  pair_there i j e =
      let q = pair_parts c i j e in
      and_from (ltb (at i) n.ranks) (ltb (at j) n.ranks && not (eqb (at i) (at j))) (lt-ltb (at i) n.ranks (s.inside i q.0))
      (and_from (ltb (at j) n.ranks) (not (eqb (at i) (at j))) (lt-ltb (at j) n.ranks (s.inside j q.1)) (no_not (eqb (at i) (at j)) (apart i j q.0 q.1 q.2)))

  seen_here : (f : ℕ → ℕ → List Message) (i j : ℕ) → pair_ok c i j ≡ true → seen c table f i j ≡ f (at i) (at j)
  seen_here f i j e = rw e

  pub between_same : (i j : ℕ) → pair_ok c i j ≡ true → between above i j ≡ between n (at i) (at j)
  between_same i j e = ap₂ (λ x y. length x + length y) (seen_here n.under i j e) (seen_here n.arrived i j e)

  -- a rank with itself
  alone : (i j : ℕ) → i < c → j < c → pair_ok c i j ≡ false → pair_ok n.ranks (at i) (at j) ≡ false
  alone i j hi hj e = by (cases_Bool (eqb i j))
    where
      pair : eqb i j ≡ false → pair_ok c i j ≡ true
      pair q = and_from (ltb i c) (ltb j c && not (eqb i j)) (lt-ltb i c hi) (and_from (ltb j c) (not (eqb i j)) (lt-ltb j c hj) (no_not (eqb i j) q))

      by : (eqb i j ≡ true) ⊎ (eqb i j ≡ false) → pair_ok n.ranks (at i) (at j) ≡ false
      by (inl q) =
          and_right (ltb (at i) n.ranks) (ltb (at j) n.ranks && not (eqb (at i) (at j)))
          (and_right (ltb (at j) n.ranks) (not (eqb (at i) (at j))) (ap not (eq-eqb (at i) (at j) (ap at (eqb-true i j q)))))
      by (inr q) = absurd (true≢false (sym (pair q) ∙ e))

  entry_same : (i j : ℕ) → i < c → j < c → between above i j ≡ between n (at i) (at j)
  entry_same i j hi hj = by (cases_Bool (pair_ok c i j))
    where
      by : (pair_ok c i j ≡ true) ⊎ (pair_ok c i j ≡ false) → between above i j ≡ between n (at i) (at j)
      by (inl e) = between_same i j e
      by (inr e) =
          let q = alone i j hi hj e in
          rw e (sym (ap₂ (λ x y. length x + length y) (shape.no_under (at i) (at j) q) (shape.no_arrived (at i) (at j) q)))

  out_right : (a b : ℕ) → Outside c table b → between n a b ≡ 0
  out_right a b o = ap₂ (λ x y. length x + length y) (s.under h a b (inr o)) (s.arrived h a b (inr o))

  out_left : (a b : ℕ) → Outside c table a → between n a b ≡ 0
  out_left a b o = ap₂ (λ x y. length x + length y) (s.under h a b (inl o)) (s.arrived h a b (inl o))

  pub waiting_same : waiting above ≡ waiting n
  unfolding waiting
  waiting_same =
      sum_same (λ i. sum_below (between above i) c) (λ i. sum_below (between n (at i)) n.ranks) c
      (λ i hi.
      sum_same (between above i) (λ j. between n (at i) (at j)) c (λ j hj. entry_same i j hi hj)
      ∙ sum_through c n.ranks at (between n (at i)) s.inside s.distinct (λ b o. out_right (at i) b o))
      ∙ sum_through c n.ranks at (λ a. sum_below (between n a) n.ranks) s.inside s.distinct
      (λ a o. sum_zeros (between n a) n.ranks (λ b _. out_left a b o))

  -- one list changed
  put_seen : (f : ℕ → ℕ → List Message) (i j : ℕ) (v : List Message) → pair_ok c i j ≡ true → seen c table (put f (at i) (at j) v) ≡ put (seen c table f) i j v
  put_seen f i j v e =
      put_is (seen c table f) (seen c table (put f (at i) (at j) v)) i j v
      (seen_here (put f (at i) (at j) v) i j e ∙ put_here f (at i) (at j) v)
      (λ x y ne. by x y ne (cases_Bool (pair_ok c x y)))
    where
      differ : (x y : ℕ) → (eqb i x && eqb j y) ≡ false → pair_ok c x y ≡ true → (eqb (at i) (at x) && eqb (at j) (at y)) ≡ false
      differ x y ne q = from (cases_Bool (eqb (at i) (at x) && eqb (at j) (at y)))
        where
          same : (eqb (at i) (at x) && eqb (at j) (at y)) ≡ true → (eqb i x && eqb j y) ≡ true
          same z =
              let k = and_parts (eqb (at i) (at x)) (eqb (at j) (at y)) z in
              let p = pair_parts c i j e in
              let r = pair_parts c x y q in
              and_from (eqb i x) (eqb j y)
              (eq-eqb i x (s.distinct i x p.0 r.0 (eqb-true (at i) (at x) k.0)))
              (eq-eqb j y (s.distinct j y p.1 r.1 (eqb-true (at j) (at y) k.1)))

          from : ((eqb (at i) (at x) && eqb (at j) (at y)) ≡ true) ⊎ ((eqb (at i) (at x) && eqb (at j) (at y)) ≡ false) → (eqb (at i) (at x) && eqb (at j) (at y)) ≡ false
          from (inl z) = absurd (true≢false (sym (same z) ∙ ne))
          from (inr z) = z

      by : (x y : ℕ) → (eqb i x && eqb j y) ≡ false → (pair_ok c x y ≡ true) ⊎ (pair_ok c x y ≡ false) → seen c table (put f (at i) (at j) v) x y ≡ seen c table f x y
      by x y ne (inl q) = seen_here (put f (at i) (at j) v) x y q ∙ put_other f (at i) (at j) v (at x) (at y) (differ x y ne q) ∙ sym (seen_here f x y q)
      by x y ne (inr q) = rw q refl

  put_empty : (f : ℕ → ℕ → List Message) (i j : ℕ) (v : List Message) → i < c → j < c
      → ((a b : ℕ) → Outside c table a ⊎ Outside c table b → f a b ≡ []) → (a b : ℕ) → Outside c table a ⊎ Outside c table b → put f (at i) (at j) v a b ≡ []
  put_empty f i j v hi hj empty a b o = put_other f (at i) (at j) v a b (away o) ∙ empty a b o
    where
      away : Outside c table a ⊎ Outside c table b → (eqb (at i) a && eqb (at j) b) ≡ false
      away (inl x) = and_left (eqb (at i) a) (eqb (at j) b) (ne_eqb (at i) a (x i hi))
      away (inr y) = and_right (eqb (at i) a) (eqb (at j) b) (ne_eqb (at j) b (y j hj))

  grouping_with : (u v : ℕ → ℕ → List Message) → ((a b : ℕ) → Outside c table a ⊎ Outside c table b → u a b ≡ []) → ((a b : ℕ) → Outside c table a ⊎ Outside c table b → v a b ≡ []) → Grouping c table (with_lists n u v)
  grouping_with u v none-u none-v = record { few = s.few; inside = s.inside; distinct = s.distinct; under = λ _. none-u; arrived = λ _. none-v }

  module _ (i j : ℕ) (pair : pair_ok c i j ≡ true) where
    there : pair_ok n.ranks (at i) (at j) ≡ true
    there = pair_there i j pair

    hi : i < c
    hi = (pair_parts c i j pair).0

    hj : j < c
    hj = (pair_parts c i j pair).1

    pub between_reply_same : between_reply n (at i) (at j) ≡ between_reply above i j
    unfolding between_reply
    between_reply_same = rw (there, pair) refl

    -- a send
    send_test : Bool → ℕ → ℕ → List ℕ → Reply
    send_test t b w ws =
        refuse_if (not t) BadPair
        (refuse_if (ltb n.limit (length ws)) TooLong
        (refuse_if (leb n.depth b) PairFull
        (refuse_if (leb n.room w) NoRoom
        done)))

    pub send_same : (ws : List ℕ) → send_reply n (at i) (at j) ws ≡ send_reply above i j ws
    unfolding send_reply send_test
    send_same ws =
        ap (λ t. send_test t (between n (at i) (at j)) (waiting n) ws) (there ∙ sym pair)
        ∙ ap₂ (λ b w. send_test (pair_ok c i j) b w ws) (sym (between_same i j pair)) (sym waiting_same)

    sent_group : (m : Message) → open_group c table (sent n (at i) (at j) m) ≡ sent above i j m
    unfolding sent
    sent_group m =
        ap (λ u. with_lists above u above.arrived)
        (put_seen n.under i j (n.under (at i) (at j) ++ (m ∷ [])) pair
        ∙ ap (λ l. put (seen c table n.under) i j (l ++ (m ∷ []))) (sym (seen_here n.under i j pair)))

    open_when : (r : Reply) (x y : Network) → open_group c table (when_done r x y) ≡ when_done r (open_group c table x) (open_group c table y)
    open_when done x y = refl
    open_when (refused _) x y = refl
    open_when none x y = refl
    open_when (value _) x y = refl

    grouping_when : (r : Reply) (x y : Network) → Grouping c table x → Grouping c table y → Grouping c table (when_done r x y)
    grouping_when done x y p q = p
    grouping_when (refused _) x y p q = q
    grouping_when none x y p q = q
    grouping_when (value _) x y p q = q

    pub after_send_group : (m : Message) → open_group c table (after_send n (at i) (at j) m) ≡ after_send above i j m
    unfolding after_send
    after_send_group m =
        open_when (send_reply n (at i) (at j) m.words) (sent n (at i) (at j) m) n
        ∙ ap₂ (λ r x. when_done r x above) (send_same m.words) (sent_group m)

    sent_grouping : (m : Message) → Grouping c table (sent n (at i) (at j) m)
    unfolding sent
    sent_grouping m = grouping_with (put n.under (at i) (at j) (n.under (at i) (at j) ++ (m ∷ []))) n.arrived (put_empty n.under i j (n.under (at i) (at j) ++ (m ∷ [])) hi hj (s.under h)) (s.arrived h)

    pub after_send_grouping : (m : Message) → Grouping c table (after_send n (at i) (at j) m)
    unfolding after_send
    after_send_grouping m = grouping_when (send_reply n (at i) (at j) m.words) (sent n (at i) (at j) m) n (sent_grouping m) s

    -- a carry
    pub carry_same : carry_reply n (at i) (at j) ≡ carry_reply above i j
    unfolding carry_reply
    carry_same = rw (there, pair) refl

    carried_group : (l : List Message) → open_group c table (carried n (at i) (at j) l) ≡ carried above i j l
    carried_group [] = refl
    carried_group (m ∷ ms) =
        ap₂ (with_lists above)
        (put_seen n.under i j ms pair)
        (put_seen n.arrived i j (n.arrived (at i) (at j) ++ (m ∷ [])) pair
        ∙ ap (λ l. put (seen c table n.arrived) i j (l ++ (m ∷ []))) (sym (seen_here n.arrived i j pair)))

    carried_grouping : (l : List Message) → Grouping c table (carried n (at i) (at j) l)
    carried_grouping [] = s
    carried_grouping (m ∷ ms) =
        grouping_with (put n.under (at i) (at j) ms) (put n.arrived (at i) (at j) (n.arrived (at i) (at j) ++ (m ∷ [])))
        (put_empty n.under i j ms hi hj (s.under h))
        (put_empty n.arrived i j (n.arrived (at i) (at j) ++ (m ∷ [])) hi hj (s.arrived h))

    after_carry_is : after_carry n (at i) (at j) ≡ carried n (at i) (at j) (n.under (at i) (at j))
    unfolding after_carry
    after_carry_is = rw there

    after_carry_above : after_carry above i j ≡ carried above i j (seen c table n.under i j)
    unfolding after_carry
    after_carry_above = ap (λ t. cond t (carried above i j (seen c table n.under i j)) above) pair

    pub after_carry_group : open_group c table (after_carry n (at i) (at j)) ≡ after_carry above i j
    after_carry_group =
        ap (open_group c table) after_carry_is
        ∙ carried_group (n.under (at i) (at j))
        ∙ ap (carried above i j) (sym (seen_here n.under i j pair))
        ∙ sym after_carry_above

    pub after_carry_grouping : Grouping c table (after_carry n (at i) (at j))
    after_carry_grouping = subst (Grouping c table) (sym after_carry_is) (carried_grouping (n.under (at i) (at j)))

    -- a take
    module _ (t : ℕ) where
      arrived_here : seen c table n.arrived i j ≡ n.arrived (at i) (at j)
      arrived_here = seen_here n.arrived i j pair

      may_same : (size : ℕ) → may_take n (at i) (at j) size ≡ may_take above i j size
      may_same size = ap (λ b. b && leb n.limit size) (there ∙ sym pair)

      pub take_same : (size : ℕ) → take_reply n (at i) (at j) t size ≡ take_reply above i j t size
      unfolding take_reply
      take_same size =
          ap₂ (λ b l. refuse_if (not b) BadPair (refuse_if (ltb size n.limit) ShortBuffer (word_count (oldest t l)))) (there ∙ sym pair) (sym arrived_here)

      pub taken_same : (buffer : List ℕ) → taken_words n (at i) (at j) t buffer ≡ taken_words above i j t buffer
      unfolding taken_words
      taken_same buffer =
          ap₂ (λ b l. cond b (written (oldest t l) buffer) buffer) (may_same (length buffer)) (sym arrived_here)

      taken_group : open_group c table (with_lists n n.under (put n.arrived (at i) (at j) (without t (n.arrived (at i) (at j))))) ≡ with_lists above above.under (put above.arrived i j (without t (above.arrived i j)))
      taken_group =
          ap (with_lists above above.under)
          (put_seen n.arrived i j (without t (n.arrived (at i) (at j))) pair
          ∙ ap (λ l. put (seen c table n.arrived) i j (without t l)) (sym arrived_here))

      open_cond : (b : Bool) (x y : Network) → open_group c table (cond b x y) ≡ cond b (open_group c table x) (open_group c table y)
      open_cond true x y = refl
      open_cond false x y = refl

      grouping_cond : (b : Bool) (x y : Network) → Grouping c table x → Grouping c table y → Grouping c table (cond b x y)
      grouping_cond true x y p q = p
      grouping_cond false x y p q = q

      pub after_take_group : (size : ℕ) → open_group c table (after_take n (at i) (at j) t size) ≡ after_take above i j t size
      unfolding after_take
      after_take_group size =
          open_cond (may_take n (at i) (at j) size) (with_lists n n.under (put n.arrived (at i) (at j) (without t (n.arrived (at i) (at j))))) n
          ∙ ap₂ (λ b x. cond b x above) (may_same size) taken_group

      pub after_take_grouping : (size : ℕ) → Grouping c table (after_take n (at i) (at j) t size)
      unfolding after_take
      after_take_grouping size =
          grouping_cond (may_take n (at i) (at j) size) (with_lists n n.under (put n.arrived (at i) (at j) (without t (n.arrived (at i) (at j))))) n
          (grouping_with n.under (put n.arrived (at i) (at j) (without t (n.arrived (at i) (at j)))) (s.under h) (put_empty n.arrived i j (without t (n.arrived (at i) (at j))) hi hj (s.arrived h)))
          s

-- how many wait, where a group without ranks has none
module _ (lim c : ℕ) (table : List ℕ) (n : Network) (shape : Shaped lim n) (s : Grouping c table n) where
  waiting_closed : c ≡ 0 → 0 ≡ waiting (grouped lim c table n)
  unfolding waiting
  waiting_closed z = ap waiting (sym (layer_closed lim c (open_group c table n) z))

  pub waiting_above : cond (eqb c 0) 0 (waiting n) ≡ waiting (grouped lim c table n)
  waiting_above = by (cases_eq c 0)
    where
      by : (c ≡ 0) ⊎ (c ≡ 0 → ⊥) → cond (eqb c 0) 0 (waiting n) ≡ waiting (grouped lim c table n)
      by (inl z) = ap (λ t. cond t 0 (waiting n)) (eq-eqb c 0 z) ∙ waiting_closed z
      by (inr ne) =
          let h : 0 < c = omega arith in
          ap (λ t. cond t 0 (waiting n)) (ne_eqb c 0 ne) ∙ sym (waiting_same lim c table n shape s h) ∙ ap waiting (sym (open_is lim c table n h))

-- a group of nobody
pub empty_grouping : (table : List ℕ) (n : Network) → Grouping 0 table n
empty_grouping table n = record {
  few = omega arith;
  inside = λ k h. absurd (no_less k h);
  distinct = λ j k hj hk e. absurd (no_less k hk);
  under = λ h a b _. absurd (no_less 0 h);
  arrived = λ h a b _. absurd (no_less 0 h);
}
  where
    no_less : (k : ℕ) → k < 0 → ⊥
    no_less k h = omega arith

-- a new group
module _ (lim : ℕ) (ranks : List ℕ) (n : Network) (shape : Shaped lim n) where
  module _ (good : GoodList n.ranks ranks) (idle : waiting n ≡ 0) where
    new_grouping : Grouping (length ranks) ranks n
    new_grouping = record {
      few = good.few;
      inside = good.inside;
      distinct = good.distinct;
      under = λ _ a b _. (nothing_waits lim n shape idle a b).0;
      arrived = λ _ a b _. (nothing_waits lim n shape idle a b).1;
    }

    empty_seen : (f : ℕ → ℕ → List Message) → ((a b : ℕ) → f a b ≡ []) → seen (length ranks) ranks f ≡ (λ _ _. [])
    empty_seen f e = fun_ext (λ i. fun_ext (λ j. by i j (pair_ok (length ranks) i j)))
      where
        by : (i j : ℕ) (t : Bool) → cond t (f (get_or ranks i 0) (get_or ranks j 0)) [] ≡ []
        by i j true = e (get_or ranks i 0) (get_or ranks j 0)
        by i j false = refl

    new_is : grouped lim (length ranks) ranks n ≡ new_group (length ranks) n
    new_is =
        open_is lim (length ranks) ranks n good.some
        ∙ ap₂ (with_lists (open_group (length ranks) ranks n))
        (empty_seen n.under (λ a b. (nothing_waits lim n shape idle a b).0))
        (empty_seen n.arrived (λ a b. (nothing_waits lim n shape idle a b).1))

  -- its members are the ranks listed, or none
  module _ (members : List ℕ) (some : 0 < length members → Listed n ranks members) where
    pub members_grouping : Grouping (length members) members n
    members_grouping = by (cases_eq (length members) 0)
      where
        by : (length members ≡ 0) ⊎ (length members ≡ 0 → ⊥) → Grouping (length members) members n
        by (inl z) = subst (λ (c : ℕ). Grouping c members n) (sym z) (empty_grouping members n)
        by (inr ne) =
            let k = some (omega arith) in
            subst (λ (l : List ℕ). Grouping (length l) l n) (sym k.2) (new_grouping k.0 k.1)

    pub members_all : GoodList n.ranks ranks → waiting n ≡ 0 → members ≡ ranks → grouped lim (length members) members n ≡ new_group (length ranks) n
    members_all good idle e = ap (λ l. grouped lim (length l) l n) e ∙ new_is good idle

    pub members_none : (Listed n ranks members → ⊥) → grouped lim (length members) members n ≡ nobody lim
    members_none never = by (cases_eq (length members) 0)
      where
        by : (length members ≡ 0) ⊎ (length members ≡ 0 → ⊥) → grouped lim (length members) members n ≡ nobody lim
        by (inl z) = layer_closed lim (length members) (open_group (length members) members n) z
        by (inr ne) = absurd (never (some (omega arith)))
