-- What the layer answers, and what it stands for after each call.
use Rattle.std.proofs.Common.{◌≡◌, ℕ, ◌+◌, ◌-◌, ◌/◌, ◌<◌, ◌≤◌, Bool, true, false, cond, eqb, List, ◌++◌, length, get_or, take, drop, Some, None, Ok, Err, Option, Result, sym, refl, ap, ◌∙◌, ap₂, subst, arith}
use Rattle.std.specs.List.{flat_map}
use Rattle.std.proofs.lemmas.List.{get_or-take, length-take, take-take, drop-take}
use Rattle.ranks.specs.Ranks.{pair_ok}
use Rattle.transport.specs.declared.Fault.{Fault}
use Rattle.transport.specs.Network.{Network, Message, message, nobody, between, waiting, put, with_lists, sent, carried, some_moved, value, refused, done, none, without, oldest, between_reply, send_reply, after_send, carry_reply, after_carry, take_reply, after_take, taken_words, word_count, written, Short}
use Rattle.transport.specs.Many.{sent_all, carried_all}
use Rattle.transport.proofs.Replies.{between_good, send_long, send_full, send_crowded, send_done, after_done, take_found, after_take_found, taken_found, take_none, taken_none}
use Rattle.transport.proofs.Pairs.{pair_positive}
use Rattle.transport.proofs.Shapes.{layer_pair}
use Rattle.segmented.specs.Segments.{pieces, block, cut, segments, decode, open_network, segmented, BlockOf, Whole}
use Rattle.segmented.proofs.Coding.{pieces_some, length-block, unpacked_block}
use Rattle.segmented.proofs.Layer.{open_is, fits_below, between_is, waiting_is, between_div, sent_above, sent_whole, carried_above, carried_whole, carried_moves, taken_above, taken_whole}
use Rattle.segmented.proofs.Steps.{refused_value}
use Rattle.segmented.proofs.Takes.{oldest_all, all_without}

-- what the taking of a block's segments tells
differ : {A : Type 0} (x : List ℕ) → ◌≡◌ {A = Result (Option (List ℕ)) Fault} (Ok None) (Ok (Some x)) → A
differ x e = let z : ◌≡◌ {A = ℕ} 0 1 = cc in absurd (omega arith)

pub block_none : (o : Option Message) → BlockOf o (Ok None) → o ≡ None
block_none None h = refl
block_none (Some m) h = differ h.0 h.1

pub block_refused : {A : Type 0} (o : Option Message) (f : Fault) → BlockOf o (Err f) → A
block_refused None f e = let z : ◌≡◌ {A = ℕ} 0 1 = cc in absurd (omega arith)
block_refused (Some m) f h = err h.0 h.1
  where
    err : {A : Type 0} (x : List ℕ) → ◌≡◌ {A = Result (Option (List ℕ)) Fault} (Err f) (Ok (Some x)) → A
    err x e = let z : ◌≡◌ {A = ℕ} 0 1 = cc in absurd (omega arith)

pub block_some : (o : Option Message) (held : List ℕ) → BlockOf o (Ok (Some held)) → (m : Message) × (o ≡ Some m) × (take 8 held ≡ block m.words)
block_some None held h = differ held (sym h)
block_some (Some m) held h = (m, refl, ap (take 8) (same held h.0 h.1) ∙ h.2)
  where
    same : (x y : List ℕ) → ◌≡◌ {A = Result (Option (List ℕ)) Fault} (Ok (Some x)) (Ok (Some y)) → x ≡ y
    same x y e = cc

first : (ws : List ℕ) → get_or (block ws) 0 0 ≡ length ws
unfolding block
first ws = refl

-- a block read back
module _ (held ws : List ℕ) (long : 8 ≤ length held) (short : length ws ≤ 7) (is : take 8 held ≡ block ws) where
  pub held_length : get_or held 0 0 ≡ length ws
  unfolding block
  held_length = sym (get_or-take 8 held 0 0 (omega arith)) ∙ ap (λ l. get_or l 0 0) is

  pub held_words : take (get_or held 0 0) (drop 1 held) ≡ ws
  held_words =
      ap (λ k. take k (drop 1 held)) held_length
      ∙ sym (take-take (length ws) 7 (drop 1 held) short)
      ∙ ap (take (length ws)) (sym (drop-take 1 7 held) ∙ ap (drop 1) is)
      ∙ front
    where
      front : take (length ws) (drop 1 (block ws)) ≡ ws
      front = ap (λ k. take k (drop 1 (block ws))) (sym (first ws)) ∙ unpacked_block ws

module _ (lim p : ℕ) (n : Network) where
  pub limit_is : (segmented lim p n).limit ≡ 7
  limit_is = by (eqb p 0)
    where
      by : (t : Bool) → (cond t (nobody 7) (open_network (pieces lim) p n)).limit ≡ 7
      by true = refl
      by false = refl

module _ (lim p : ℕ) (n : Network) (w : Whole lim p n) (a b : ℕ) (pair : pair_ok p a b ≡ true) where
  h : 0 < p
  h = pair_positive p a b pair

  abbrev net : Network
  net = segmented lim p n

  pair_here : pair_ok net.ranks a b ≡ true
  pair_here = layer_pair 7 p (open_network (pieces lim) p n) refl a b true pair

  is_open : net ≡ open_network (pieces lim) p n
  is_open = open_is lim p n h

  pub pair_below : pair_ok n.ranks a b ≡ true
  pair_below = ap (λ q. pair_ok q a b) (sym (w.same h)) ∙ pair

  pub limit_some : 0 < lim
  limit_some = w.some h

  pub between_answer : (segments messages : ℕ) → value segments ≡ between_reply n a b → messages ≡ segments / pieces lim → value messages ≡ between_reply net a b
  between_answer s m e me =
      ap value (me ∙ ap (λ x. x / pieces lim) (same_value s (between n a b) (e ∙ between_good n a b pair_below)) ∙ between_div lim p n w h a b ∙ ap (λ m. between m a b) (sym is_open))
      ∙ sym (between_good net a b pair_here)
    where
      same_value : (x y : ℕ) → value x ≡ value y → x ≡ y
      same_value x y e = cc

  pub no_refusal : {A : Type 0} (f : ℕ) → refused f ≡ between_reply n a b → A
  no_refusal f e = refused_value f (between n a b) (e ∙ between_good n a b pair_below)

  pub no_refusal_above : {A : Type 0} (f : ℕ) → refused f ≡ between_reply net a b → A
  no_refusal_above f e = refused_value f (between net a b) (e ∙ between_good net a b pair_here)

  pub between_told : (k : ℕ) → value k ≡ between_reply net a b → k ≡ between net a b
  between_told k e = same_value k (between net a b) (e ∙ between_good net a b pair_here)
    where
      same_value : (x y : ℕ) → value x ≡ value y → x ≡ y
      same_value x y e = cc

  -- a send
  module _ (t : ℕ) (ws : List ℕ) where
    pub layer_long : 7 < length ws → send_reply net a b ws ≡ refused 11
    layer_long k = send_long net a b ws pair_here (omega (arith, limit_is lim p n))

    module _ (short : length ws ≤ 7) (told depth : ℕ) (told_is : told ≡ between net a b) (depth_is : depth ≡ net.depth) where
      pub layer_full : depth ≤ told → send_reply net a b ws ≡ refused 12
      layer_full k = send_full net a b ws pair_here (omega (arith, limit_is lim p n)) (omega arith)

      module _ (free : told < depth) (all room : ℕ) (all_is : all ≡ waiting net) (room_is : room ≡ net.room) where
        pub layer_crowded : room ≤ all → send_reply net a b ws ≡ refused 13
        layer_crowded k = send_crowded net a b ws pair_here (omega (arith, limit_is lim p n)) (omega arith) (omega arith)

        module _ (place : all < room) where
          pub layer_done : send_reply net a b ws ≡ done
          layer_done = send_done net a b ws pair_here (omega (arith, limit_is lim p n)) (omega arith) (omega arith)

          pub depth_below : between n a b + pieces lim ≤ n.depth
          depth_below =
              fits_below (pieces lim) (between (open_network (pieces lim) p n) a b) n.depth (between n a b) (pieces_some lim limit_some)
              (subst (λ (m : Network). between m a b < m.depth) is_open (omega arith)) (between_is lim p n w h a b)

          pub room_below : waiting n + pieces lim ≤ n.room
          room_below =
              fits_below (pieces lim) (waiting (open_network (pieces lim) p n)) n.room (waiting n) (pieces_some lim limit_some)
              (subst (λ (m : Network). waiting m < m.room) is_open (omega arith)) (waiting_is lim p n w h)

          module _ (after : Network) (words : List ℕ) (words_is : words ≡ block ws) (after_is : after ≡ sent_all n a b (cut (pieces lim) lim t words)) where
            sent_is : after ≡ sent_all n a b (segments lim (message t ws))
            unfolding segments
            sent_is = after_is ∙ ap (λ x. sent_all n a b (cut (pieces lim) lim t x)) words_is

            pub layer_sent : segmented lim p after ≡ after_send net a b (message t ws)
            layer_sent =
                ap (segmented lim p) sent_is
                ∙ open_is lim p (sent_all n a b (segments lim (message t ws))) h
                ∙ sent_above lim p n w h a b (message t ws) short
                ∙ ap (λ m. sent m a b (message t ws)) (sym is_open)
                ∙ sym (after_done net a b (message t ws) layer_done)

            pub layer_sent_whole : Whole lim p after
            layer_sent_whole = subst (Whole lim p) (sym sent_is) (sent_whole lim p n w h a b (message t ws) short)

  -- a carry
  module _ (after : Network) (after_is : after ≡ carried_all n a b (pieces lim)) where
    pub layer_moved : some_moved (drop (pieces lim - 1) (n.under a b)) ≡ carry_reply net a b
    unfolding carry_reply
    layer_moved = carried_moves lim p n w h a b ∙ ap (λ m. some_moved (m.under a b)) (sym is_open) ∙ sym (rw pair_here refl)

    pub layer_carried : segmented lim p after ≡ after_carry net a b
    unfolding after_carry
    layer_carried =
        ap (segmented lim p) after_is
        ∙ open_is lim p (carried_all n a b (pieces lim)) h
        ∙ carried_above lim p n w h a b
        ∙ ap (λ m. carried m a b (m.under a b)) (sym is_open)
        ∙ sym (rw pair_here refl)

    pub layer_carried_whole : Whole lim p after
    layer_carried_whole = subst (Whole lim p) (sym after_is) (carried_whole lim p n w h a b)

  -- a take
  module _ (t : ℕ) (buffer : List ℕ) (wide : 7 ≤ length buffer) where
    abbrev found : Option Message
    found = oldest t (decode (pieces lim) (n.arrived a b))

    limit_fits : net.limit ≤ length buffer
    limit_fits = omega (arith, limit_is lim p n)

    oldest_is : oldest t (net.arrived a b) ≡ found
    oldest_is = ap (λ m. oldest t (m.arrived a b)) is_open

    short_arrived : Short 7 (decode (pieces lim) (n.arrived a b))
    short_arrived = (w.arrived h a b).short

    pub layer_refused : {A : Type 0} (f : Fault) → BlockOf found (Err f) → A
    layer_refused f h = block_refused found f h

    module _ (h : BlockOf found (Ok None)) where
      pub layer_absent : none ≡ take_reply net a b t (length buffer)
      layer_absent = sym (take_none net a b t buffer pair_here limit_fits (oldest_is ∙ block_none found h))

      pub layer_unwritten : buffer ≡ taken_words net a b t buffer
      layer_unwritten = sym (taken_none net a b t buffer pair_here limit_fits (oldest_is ∙ block_none found h))

    module _ (held : List ℕ) (h : BlockOf found (Ok (Some held))) where
      it : (m : Message) × (found ≡ Some m) × (take 8 held ≡ block m.words)
      it = block_some found held h

      short : length it.0.words ≤ 7
      short = oldest_all (λ x. length x.words ≤ 7) t (decode (pieces lim) (n.arrived a b)) it.0 short_arrived it.1

      pub layer_wide : 8 ≤ length held
      layer_wide = omega (arith, length-take 8 held, ap length it.2, length-block it.0.words short)

      count : get_or held 0 0 ≡ length it.0.words
      count = held_length held it.0.words layer_wide short it.2

      pub layer_few : get_or held 0 0 ≤ 7
      layer_few = omega (arith, count, short)

      pub layer_count : (k : ℕ) → k ≡ get_or held 0 0 → value k ≡ take_reply net a b t (length buffer)
      layer_count k e = ap value (e ∙ count) ∙ sym (take_found net a b t buffer pair_here limit_fits ∙ ap word_count (oldest_is ∙ it.1))

      pub layer_words : (words : List ℕ) → words ≡ take (get_or held 0 0) (drop 1 held) ++ drop (get_or held 0 0) buffer → words ≡ taken_words net a b t buffer
      layer_words words e =
          e ∙ ap₂ (λ x y. x ++ drop y buffer) (held_words held it.0.words layer_wide short it.2) count
          ∙ sym (taken_found net a b t buffer pair_here limit_fits ∙ ap (λ x. written x buffer) (oldest_is ∙ it.1))

    module _ (after : Network) (after_is : after ≡ with_lists n n.under (put n.arrived a b (flat_map (segments lim) (without t (decode (pieces lim) (n.arrived a b)))))) where
      left : Short 7 (without t (decode (pieces lim) (n.arrived a b)))
      left = all_without (λ x. length x.words ≤ 7) t (decode (pieces lim) (n.arrived a b)) short_arrived

      pub layer_taken : segmented lim p after ≡ after_take net a b t (length buffer)
      layer_taken =
          ap (segmented lim p) after_is
          ∙ open_is lim p (with_lists n n.under (put n.arrived a b (flat_map (segments lim) (without t (decode (pieces lim) (n.arrived a b)))))) h
          ∙ taken_above lim p n w h a b (without t (decode (pieces lim) (n.arrived a b))) left
          ∙ ap (λ m. with_lists m m.under (put m.arrived a b (without t (m.arrived a b)))) (sym is_open)
          ∙ sym (after_take_found net a b t buffer pair_here limit_fits)

      pub layer_taken_whole : Whole lim p after
      layer_taken_whole = subst (Whole lim p) (sym after_is) (taken_whole lim p n w h a b (without t (decode (pieces lim) (n.arrived a b))) left)
