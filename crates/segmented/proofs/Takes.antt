-- The segments of the oldest message with a tag are taken one after the other.
use Rattle.std.proofs.Common.{◌≡◌, ℕ, zero, suc, ◌+◌, ◌-◌, ◌*◌, ◌<◌, ◌≤◌, min, Bool, true, false, cond, eqb, ◌⊎◌, List, [], ◌∷◌, ◌++◌, length, take, drop, is_some, Some, None, Option, sym, refl, ap, ◌∙◌, subst, inl, inr, suc-mul, add-mul, one-mul, zero-mul, arith, take-add}
use Rattle.std.specs.List.{flat_map, AllByRecursion}
use Rattle.std.proofs.lemmas.List.{drop-drop, append_assoc, drop_all, length-take, length-drop, take_at, take_all}
use Rattle.std.proofs.ByRecursion.{All-weaker}
use Rattle.std.proofs.lemmas.Bool.{cases_Bool, eq-eqb, eqb-true, true≢false, false≢true}
use Rattle.ranks.specs.Ranks.{pair_ok}
use Rattle.transport.specs.Network.{Network, Message, message, oldest, without, none, value, refused, word_count, written, take_reply, after_take, taken_words, with_lists, put}
use Rattle.transport.specs.Many.{without_n, taken_all}
use Rattle.transport.proofs.Many.{taken_none, taken_one}
use Rattle.transport.proofs.Tables.{put_here}
use Rattle.transport.proofs.Replies.{without_absent, take_found, taken_found}
use Rattle.segmented.specs.Segments.{pieces, block, cut, segments, decode, Coded}
use Rattle.segmented.proofs.Arith.{count_more, count_all}
use Rattle.segmented.proofs.Coding.{pieces_some, length-segments, tags_segments, length-block}

-- what has other tags is passed over
module _ (t : ℕ) where
  pub oldest_other : (s v : List Message) → AllByRecursion (λ x. eqb x.tag t ≡ false) s → oldest t (s ++ v) ≡ oldest t v
  oldest_other [] v h = refl
  oldest_other (x ∷ s) v h = rw h.0 (oldest_other s v h.1)

  without_other : (s v : List Message) → AllByRecursion (λ x. eqb x.tag t ≡ false) s → without t (s ++ v) ≡ s ++ without t v
  without_other [] v h = refl
  without_other (x ∷ s) v h = rw h.0 (ap (λ l. x ∷ l) (without_other s v h.1))

  without_n_other : (k : ℕ) (s v : List Message) → AllByRecursion (λ x. eqb x.tag t ≡ false) s → without_n t k (s ++ v) ≡ s ++ without_n t k v
  without_n_other zero s v h = refl
  without_n_other (suc k) s v h = ap (without t) (without_n_other k s v h) ∙ without_other s (without_n t k v) h

  -- the first of k
  without_first : (k : ℕ) (ms : List Message) → without_n t (suc k) ms ≡ without_n t k (without t ms)
  without_first zero ms = refl
  without_first (suc k) ms = ap (without t) (without_first k ms)

  pub without_n_absent : (k : ℕ) (ms : List Message) → oldest t ms ≡ None → without_n t k ms ≡ ms
  without_n_absent zero ms e = refl
  without_n_absent (suc k) ms e = ap (without t) (without_n_absent k ms e) ∙ without_absent t ms e

  -- what has the tag goes from the front
  without_n_same : (k : ℕ) (s v : List Message) → AllByRecursion (λ x. x.tag ≡ t) s → k ≤ length s → without_n t k (s ++ v) ≡ drop k s ++ v
  without_n_same zero s v h l = refl
  without_n_same (suc k) [] v h l = absurd (too_many l)
    where
      too_many : suc k ≤ 0 → ⊥
      too_many l = omega arith
  without_n_same (suc k) (x ∷ s) v h l =
      without_first k (x ∷ (s ++ v)) ∙ ap (without_n t k) (gone (eq-eqb x.tag t h.0)) ∙ without_n_same k s v h.1 (less l)
    where
      gone : eqb x.tag t ≡ true → without t (x ∷ (s ++ v)) ≡ s ++ v
      gone e = rw e

      less : suc k ≤ suc (length s) → k ≤ length s
      less l = omega arith

  -- segment k
  segment_at : (lim k all : ℕ) (ws : List ℕ) (v : List Message) → k < all → oldest t (drop k (cut all lim t ws) ++ v) ≡ Some (message t (take lim (drop (k * lim) ws)))
  segment_at lim k zero ws v h = absurd (below_zero h)
    where
      below_zero : k < 0 → ⊥
      below_zero h = omega arith
  segment_at lim zero (suc all) ws v h =
      rw (eq-eqb t t refl) (ap (λ n. Some (message t (take lim (drop n ws)))) (sym (zero-mul lim)))
  segment_at lim (suc k) (suc all) ws v h =
      segment_at lim k all (drop lim ws) v (less h)
      ∙ ap (λ l. Some (message t (take lim l))) (drop-drop (k * lim) lim ws ∙ ap (λ n. drop n ws) (turn (suc-mul k lim)))
    where
      less : suc k < suc all → k < all
      less h = omega arith

      turn : suc k * lim ≡ k * lim + lim → lim + k * lim ≡ suc k * lim
      turn e = omega arith

pub none_some : {A : Type 0} (m : Message) → None ≡ Some m → A
none_some m e = let z : ◌≡◌ {A = ℕ} 0 1 = cc in absurd (omega arith)

some_same : {A : Type 0} (x y : A) → Some x ≡ Some y → x ≡ y
some_same x y e = cc

module _ (lim t : ℕ) (some : 0 < lim) where
  others : (x : Message) → eqb x.tag t ≡ false → AllByRecursion (λ s. eqb s.tag t ≡ false) (segments lim x)
  others x e = All-weaker (λ s. s.tag ≡ x.tag) (λ s. eqb s.tag t ≡ false) (λ s q. ap (λ y. eqb y t) q ∙ e) (segments lim x) (tags_segments lim some x)

  same_tags : (x : Message) → eqb x.tag t ≡ true → AllByRecursion (λ s. s.tag ≡ t) (segments lim x)
  same_tags x e = All-weaker (λ s. s.tag ≡ x.tag) (λ s. s.tag ≡ t) (λ s q. q ∙ eqb-true x.tag t e) (segments lim x) (tags_segments lim some x)

  pub find_none : (ms : List Message) → oldest t ms ≡ None → oldest t (flat_map (segments lim) ms) ≡ None
  find_none [] e = refl
  find_none (x ∷ ms) e = by (find_none ms) (cases_Bool (eqb x.tag t))
    where
      by : (oldest t ms ≡ None → oldest t (flat_map (segments lim) ms) ≡ None) → (eqb x.tag t ≡ true) ⊎ (eqb x.tag t ≡ false) → oldest t (segments lim x ++ flat_map (segments lim) ms) ≡ None
      by rest (inl q) = let k = rw q at e in let z : ◌≡◌ {A = ℕ} 0 1 = cc in absurd (omega arith)
      by rest (inr q) = oldest_other t (segments lim x) (flat_map (segments lim) ms) (others x q) ∙ rest (rw q at e)

  first_segment : (x : Message) (k : ℕ) (v : List Message) → eqb x.tag t ≡ true → k < pieces lim → oldest t (drop k (segments lim x) ++ v) ≡ Some (message t (take lim (drop (k * lim) (block x.words))))
  unfolding segments
  first_segment x k v e h = subst (λ (u : ℕ). oldest t (drop k (cut (pieces lim) lim u (block x.words)) ++ v) ≡ Some (message t (take lim (drop (k * lim) (block x.words))))) (sym (eqb-true x.tag t e)) (segment_at t lim k (pieces lim) (block x.words) v h)

  pub find_some : (ms : List Message) (m : Message) (k : ℕ) → oldest t ms ≡ Some m → k < pieces lim → oldest t (without_n t k (flat_map (segments lim) ms)) ≡ Some (message t (take lim (drop (k * lim) (block m.words))))
  find_some [] m k e h = let z : ◌≡◌ {A = ℕ} 0 1 = cc in absurd (omega arith)
  find_some (x ∷ ms) m k e h = by (find_some ms m k) (cases_Bool (eqb x.tag t))
    where
      by : (oldest t ms ≡ Some m → k < pieces lim → oldest t (without_n t k (flat_map (segments lim) ms)) ≡ Some (message t (take lim (drop (k * lim) (block m.words)))))
          → (eqb x.tag t ≡ true) ⊎ (eqb x.tag t ≡ false)
          → oldest t (without_n t k (segments lim x ++ flat_map (segments lim) ms)) ≡ Some (message t (take lim (drop (k * lim) (block m.words))))
      by rest (inl q) =
          let r = rw q at e in
          ap (oldest t) (without_n_same t k (segments lim x) (flat_map (segments lim) ms) (same_tags x q) (omega (arith, length-segments lim some x)))
          ∙ first_segment x k (flat_map (segments lim) ms) q h
          ∙ ap (λ y. Some (message t (take lim (drop (k * lim) (block y.words))))) (some_same x m r)
      by rest (inr q) =
          ap (oldest t) (without_n_other t k (segments lim x) (flat_map (segments lim) ms) (others x q))
          ∙ oldest_other t (segments lim x) (without_n t k (flat_map (segments lim) ms)) (others x q)
          ∙ rest (rw q at e) h

  pub all_out : (ms : List Message) (m : Message) → oldest t ms ≡ Some m → without_n t (pieces lim) (flat_map (segments lim) ms) ≡ flat_map (segments lim) (without t ms)
  all_out [] m e = let z : ◌≡◌ {A = ℕ} 0 1 = cc in absurd (omega arith)
  all_out (x ∷ ms) m e = by (all_out ms m) (cases_Bool (eqb x.tag t))
    where
      by : (oldest t ms ≡ Some m → without_n t (pieces lim) (flat_map (segments lim) ms) ≡ flat_map (segments lim) (without t ms))
          → (eqb x.tag t ≡ true) ⊎ (eqb x.tag t ≡ false)
          → without_n t (pieces lim) (segments lim x ++ flat_map (segments lim) ms) ≡ flat_map (segments lim) (without t (x ∷ ms))
      by rest (inl q) =
          without_n_same t (pieces lim) (segments lim x) (flat_map (segments lim) ms) (same_tags x q) (omega (arith, length-segments lim some x))
          ∙ ap (λ l. l ++ flat_map (segments lim) ms) (drop_all (pieces lim) (segments lim x) (omega (arith, length-segments lim some x)))
          ∙ rw q refl
      by rest (inr q) =
          without_n_other t (pieces lim) (segments lim x) (flat_map (segments lim) ms) (others x q)
          ∙ ap (λ l. segments lim x ++ l) (rest (rw q at e))
          ∙ rw q refl

pub oldest_all : (P : Message → Type 0) (t : ℕ) (ms : List Message) (m : Message) → AllByRecursion P ms → oldest t ms ≡ Some m → P m
oldest_all P t [] m h e = let z : ◌≡◌ {A = ℕ} 0 1 = cc in absurd (omega arith)
oldest_all P t (x ∷ ms) m h e = by (oldest_all P t ms m h.1) (cases_Bool (eqb x.tag t))
  where
    by : (oldest t ms ≡ Some m → P m) → (eqb x.tag t ≡ true) ⊎ (eqb x.tag t ≡ false) → P m
    by rest (inl q) = let r = rw q at e in subst P (some_same x m r) h.0
    by rest (inr q) = rest (rw q at e)

pub all_without : (P : Message → Type 0) (t : ℕ) (ms : List Message) → AllByRecursion P ms → AllByRecursion P (without t ms)
all_without P t [] h = tt
all_without P t (x ∷ ms) h = by (eqb x.tag t) (all_without P t ms h.1)
  where
    by : (u : Bool) → AllByRecursion P (without t ms) → AllByRecursion P (cond u ms (x ∷ without t ms))
    by true rest = h.1
    by false rest = (h.0, rest)

pub none_of : {A : Type 0} (o : Option A) → is_some o ≡ false → o ≡ None
none_of None e = refl
none_of (Some x) e = absurd (true≢false e)

pub some_of : {A : Type 0} (o : Option A) → is_some o ≡ true → (x : A) × (o ≡ Some x)
some_of None e = absurd (false≢true e)
some_of (Some x) e = (x, refl)

-- what an answer tells of the message found
pub count_none : (o : Option Message) → none ≡ word_count o → o ≡ None
count_none None e = refl
count_none (Some m) e = let z : ◌≡◌ {A = ℕ} 0 1 = cc in absurd (omega arith)

pub count_some : (o : Option Message) (k : ℕ) → value k ≡ word_count o → o ≡ None → ⊥
count_some None k e q = let z : ◌≡◌ {A = ℕ} 0 1 = cc in absurd (omega arith)
count_some (Some m) k e q = let z : ◌≡◌ {A = ℕ} 0 1 = cc in absurd (omega arith)

pub count_refused : {A : Type 0} (o : Option Message) (f : ℕ) → refused f ≡ word_count o → A
count_refused None f e = let z : ◌≡◌ {A = ℕ} 0 1 = cc in absurd (omega arith)
count_refused (Some m) f e = let z : ◌≡◌ {A = ℕ} 0 1 = cc in absurd (omega arith)

-- the answer to take k + 1
module _ (n : Network) (a b t k : ℕ) (pair : pair_ok n.ranks a b ≡ true) (buffer : List ℕ) (wide : n.limit ≤ length buffer) where
  pub reply_at : take_reply (taken_all n a b t k) a b t (length buffer) ≡ word_count (oldest t (without_n t k (n.arrived a b)))
  reply_at = take_found (taken_all n a b t k) a b t buffer pair wide ∙ ap (λ l. word_count (oldest t l)) (put_here n.arrived a b (without_n t k (n.arrived a b)))

  pub words_at : taken_words (taken_all n a b t k) a b t buffer ≡ written (oldest t (without_n t k (n.arrived a b))) buffer
  words_at = taken_found (taken_all n a b t k) a b t buffer pair wide ∙ ap (λ l. written (oldest t l) buffer) (put_here n.arrived a b (without_n t k (n.arrived a b)))

module _ (lim t : ℕ) (some : 0 < lim) (l : List Message) (c : Coded lim l) where
  abbrev ms : List Message
  ms = decode (pieces lim) l

  whole : flat_map (segments lim) ms ≡ l
  whole = sym c.is

  pub short_found : (m : Message) → oldest t ms ≡ Some m → length m.words ≤ 7
  short_found m e = oldest_all (λ x. length x.words ≤ 7) t ms m c.short e

  -- a segment is found where a message is
  pub found_at : (m : Message) (k : ℕ) → oldest t ms ≡ Some m → k < pieces lim → oldest t (without_n t k l) ≡ Some (message t (take lim (drop (k * lim) (block m.words))))
  found_at m k e h = ap (λ x. oldest t (without_n t k x)) (sym whole) ∙ find_some lim t some ms m k e h

  pub absent_at : (k : ℕ) → oldest t ms ≡ None → without_n t k l ≡ l
  absent_at k e = without_n_absent t k l (ap (oldest t) (sym whole) ∙ find_none lim t some ms e)

  pub none_at : (k : ℕ) → k < pieces lim → oldest t (without_n t k l) ≡ None → oldest t ms ≡ None
  none_at k h e = by (oldest t ms) refl
    where
      by : (o : Option Message) → oldest t ms ≡ o → oldest t ms ≡ None
      by None q = q
      by (Some m) q = let r = found_at m k q h in let z : ◌≡◌ {A = ℕ} 0 1 = cc in absurd (omega arith)

  pub some_at : (k j : ℕ) → value j ≡ word_count (oldest t (without_n t k l)) → is_some (oldest t ms) ≡ true
  some_at k j e = by (oldest t ms) refl
    where
      by : (o : Option Message) → oldest t ms ≡ o → is_some (oldest t ms) ≡ true
      by None q = absurd (count_some (oldest t (without_n t k l)) j e (ap (oldest t) (absent_at k q) ∙ ap (oldest t) (sym whole) ∙ find_none lim t some ms q))
      by (Some m) q = ap is_some q

  pub left_none : (k : ℕ) → oldest t ms ≡ None → without_n t k l ≡ flat_map (segments lim) (without t ms)
  left_none k e = absent_at k e ∙ sym (ap (flat_map (segments lim)) (without_absent t ms e) ∙ whole)

  pub left_some : is_some (oldest t ms) ≡ true → without_n t (pieces lim) l ≡ flat_map (segments lim) (without t ms)
  left_some e = by (oldest t ms) refl
    where
      by : (o : Option Message) → oldest t ms ≡ o → without_n t (pieces lim) l ≡ flat_map (segments lim) (without t ms)
      by None q = absurd (true≢false (sym e ∙ ap is_some q))
      by (Some m) q = ap (without_n t (pieces lim)) (sym whole) ∙ all_out lim t some ms m q

-- the block grows by one segment
pub block_next : (words held part rest post : List ℕ) (k lim start : ℕ) → length words ≡ 8 → start ≡ min (k * lim) 8 → take start held ≡ take (k * lim) words
    → part ≡ take lim (drop (k * lim) words) ++ rest → take (min ((k + 1) * lim) 8) (take start held ++ (part ++ post)) ≡ take ((k + 1) * lim) words
block_next words held part rest post k lim start full s e p =
    let q : (k + 1) * lim ≡ k * lim + lim = add-mul k 1 lim ∙ ap (λ x. k * lim + x) (one-mul lim) in
    let so_far : take start held ++ take lim (drop (k * lim) words) ≡ take (k * lim + lim) words = ap (λ l. l ++ take lim (drop (k * lim) words)) e ∙ sym (take-add (k * lim) lim words) in
    let long : length (take start held ++ take lim (drop (k * lim) words)) ≡ min (k * lim + lim) 8 = ap length so_far ∙ length-take (k * lim + lim) words ∙ ap (min (k * lim + lim)) full in
    ap (λ x. take (min x 8) (take start held ++ (part ++ post))) q
    ∙ ap (take (min (k * lim + lim) 8))
    (ap (λ x. take start held ++ (x ++ post)) p
    ∙ ap (λ x. take start held ++ x) (append_assoc (take lim (drop (k * lim) words)) rest post)
    ∙ sym (append_assoc (take start held) (take lim (drop (k * lim) words)) (rest ++ post)))
    ∙ take_at (take start held ++ take lim (drop (k * lim) words)) (rest ++ post) (min (k * lim + lim) 8) long
    ∙ so_far ∙ ap (λ x. take x words) (sym q)

-- what the loop over the places of a block's segments keeps: the first k are taken, and lie at the front of the block
abbrev pub Takes : (n : Network) (a b t lim : ℕ) → (start : ℕ) (now : Network) (held : List ℕ) → Type 0
Takes n a b t lim start now held =
    (k : ℕ) × (start ≡ k * lim) × (k * lim < 8 + lim) × (now ≡ taken_all n a b t k)
    × ((m : Message) → oldest t (decode (pieces lim) (n.arrived a b)) ≡ Some m → take (min (k * lim) 8) held ≡ take (k * lim) (block m.words))
    × (0 < k → is_some (oldest t (decode (pieces lim) (n.arrived a b))) ≡ true)

pub takes_begin : (n : Network) (a b t lim : ℕ) (held : List ℕ) → Takes n a b t lim 0 n held
takes_begin n a b t lim held =
    let none : 0 * lim ≡ 0 = zero-mul lim in (
      0,
      sym none,
      omega (arith, none),
      sym (taken_none n a b t),
      (λ m f. ap (λ k. take k held) (ap (λ k. min k 8) none) ∙ sym (ap (λ k. take k (block m.words)) none)),
      (λ h. absurd (no_less h)),
    )
  where
    no_less : ◌<◌ 0 0 → ⊥
    no_less h = omega arith

module _ (n : Network) (a b t lim : ℕ) (pair : pair_ok n.ranks a b ≡ true) (limited : n.limit ≡ lim) (low : lim ≤ 8) (some : 0 < lim)
    (coded : Coded lim (n.arrived a b)) (start : ℕ) (now : Network) (held : List ℕ) (wide : length held ≡ 16) (keeps : Takes n a b t lim start now held)
  where
    abbrev k : ℕ
    k = keeps.0

    abbrev found : Option Message
    found = oldest t (decode (pieces lim) (n.arrived a b))

    -- one turn
    module _ (more : start < 8) where
      abbrev pub part : List ℕ
      part = take (16 - start) (drop start held)

      in_count : k < pieces lim
      in_count = count_more lim k some (omega (arith, keeps.1))

      starts : start ≡ min (k * lim) 8
      starts = omega (arith, keeps.1)

      part_wide : n.limit ≤ length part
      part_wide = simp (length-take, length-drop) (omega arith)

      reply : take_reply now a b t (length part) ≡ word_count (oldest t (without_n t k (n.arrived a b)))
      reply = ap (λ m. take_reply m a b t (length part)) keeps.3 ∙ reply_at n a b t k pair part part_wide

      pub takes_ready : {A : Type 0} (f : ℕ) → refused f ≡ take_reply now a b t (length part) → A
      takes_ready f e = count_refused (oldest t (without_n t k (n.arrived a b))) f (e ∙ reply)

      module _ (after : Network) (after_is : after ≡ after_take now a b t (length part)) where
        next : after ≡ taken_all n a b t (k + 1)
        next = after_is ∙ ap (λ m. after_take m a b t (length part)) keeps.3 ∙ taken_one n a b t k part pair part_wide

        pub takes_none : none ≡ take_reply now a b t (length part)
            → (found ≡ None) × (after ≡ with_lists n n.under (put n.arrived a b (flat_map (segments lim) (without t (decode (pieces lim) (n.arrived a b))))))
        takes_none e =
            let absent = none_at lim t some (n.arrived a b) coded k in_count (count_none (oldest t (without_n t k (n.arrived a b))) (e ∙ reply)) in
            (absent, next ∙ ap (λ l. with_lists n n.under (put n.arrived a b l)) (left_none lim t some (n.arrived a b) coded (k + 1) absent))

        pub takes_more : (j : ℕ) (last post : List ℕ) (start' : ℕ) → value j ≡ take_reply now a b t (length part) → last ≡ taken_words now a b t part → start' ≡ start + lim
            → Takes n a b t lim start' after (take start held ++ (last ++ post))
        takes_more j last post start' e is on = (
          k + 1,
          omega (arith, on, keeps.1, add-mul k 1 lim, one-mul lim),
          omega (arith, keeps.1, add-mul k 1 lim, one-mul lim),
          next,
          (λ m f.
              block_next (block m.words) held last _ post k lim start (length-block m.words (short_found lim t some (n.arrived a b) coded m f)) starts
              (ap (λ x. take x held) starts ∙ keeps.4 m f)
              (is ∙ ap (λ x. taken_words x a b t part) keeps.3 ∙ words_at n a b t k pair part part_wide
              ∙ ap (λ o. written o part) (found_at lim t some (n.arrived a b) coded m k f in_count))),
          (λ _. some_at lim t some (n.arrived a b) coded k j (e ∙ reply)),
        )

    -- the end
    module _ (end : 8 ≤ start) where
      all : k ≡ pieces lim
      all = count_all lim k some (omega (arith, keeps.1)) keeps.2

      there : is_some found ≡ true
      there = keeps.5 (omega (arith, pieces_some lim some, all))

      pub takes_all : (m : Message) × (found ≡ Some m) × (take 8 held ≡ block m.words)
      takes_all =
          let f = some_of found there in
          let enough : min (k * lim) 8 ≡ 8 = omega (arith, keeps.1) in (
            f.0,
            f.1,
            ap (λ x. take x held) (sym enough) ∙ keeps.4 f.0 f.1
                ∙ take_all (k * lim) (block f.0.words) (omega (arith, keeps.1, length-block f.0.words (short_found lim t some (n.arrived a b) coded f.0 f.1))),
          )

      pub takes_rest : now ≡ with_lists n n.under (put n.arrived a b (flat_map (segments lim) (without t (decode (pieces lim) (n.arrived a b)))))
      takes_rest =
          keeps.3 ∙ ap (λ j. taken_all n a b t j) all
          ∙ ap (λ l. with_lists n n.under (put n.arrived a b l)) (left_some lim t some (n.arrived a b) coded there)
