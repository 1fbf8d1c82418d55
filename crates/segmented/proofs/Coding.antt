-- Segments put together again give the message.
use Rattle.std.proofs.Common.{◌≡◌, ℕ, zero, suc, ◌+◌, ◌-◌, ◌*◌, ◌/◌, ◌<◌, ◌≤◌, List, [], ◌∷◌, ◌++◌, length, take, drop, replicate, sym, refl, ap, ◌∙◌, subst, ap₂, suc-mul, mul_comm, zero-mul, arith, take-add}
use native.Mathlib.Nat.{lt-div-mul-add, mul-div_right}
use Rattle.std.specs.List.{flat_map, AllByRecursion}
use Rattle.std.proofs.lemmas.List.{length-append, length-replicate, take_all, take_at, drop_at, drop-drop}
use Rattle.transport.specs.Network.{Message, message, Short}
use Rattle.segmented.specs.Segments.{pieces, block, cut, segments, first_tag, all_words, unpacked, rebuilt, groups, decode, Coded}

pub pieces_enough : (lim : ℕ) → 0 < lim → 8 ≤ pieces lim * lim
unfolding pieces
pieces_enough lim h = omega (arith, lt-div-mul-add {a = 7 + lim} {b = lim} h)

pub pieces_some : (lim : ℕ) → 0 < lim → 0 < pieces lim
pieces_some lim h = by (pieces lim) (pieces_enough lim h)
  where
    by : (k : ℕ) → 8 ≤ k * lim → 0 < k
    by zero e = omega (arith, zero-mul lim)
    by (suc k) e = omega arith

pub length-block : (ws : List ℕ) → length ws ≤ 7 → length (block ws) ≡ 8
unfolding block
length-block ws h = omega (arith, length-append ws (replicate (7 - length ws) 0), length-replicate {A = ℕ} (7 - length ws) 0)

pub unpacked_block : (ws : List ℕ) → unpacked (block ws) ≡ ws
unfolding block
unpacked_block ws = take_at ws (replicate (7 - length ws) 0) (length ws) refl

module _ (lim t : ℕ) where
  pub length_cut : (k : ℕ) (ws : List ℕ) → length (cut k lim t ws) ≡ k
  length_cut zero ws = refl
  length_cut (suc k) ws = ap suc (length_cut k (drop lim ws))

  pub words_cut : (k : ℕ) (ws : List ℕ) → all_words (cut k lim t ws) ≡ take (k * lim) ws
  words_cut zero ws = sym (ap (λ n. take n ws) (zero-mul lim))
  words_cut (suc k) ws =
      ap (λ l. take lim ws ++ l) (words_cut k (drop lim ws))
      ∙ sym (take-add lim (k * lim) ws)
      ∙ ap (λ n. take n ws) (turn (suc-mul k lim))
    where
      turn : suc k * lim ≡ k * lim + lim → lim + k * lim ≡ suc k * lim
      turn e = omega arith

  -- one segment more
  pub cut_more : (k : ℕ) (ws : List ℕ) → cut (k + 1) lim t ws ≡ cut k lim t ws ++ (message t (take lim (drop (k * lim) ws)) ∷ [])
  cut_more zero ws = ap (λ n. message t (take lim (drop n ws)) ∷ []) (sym (zero-mul lim))
  cut_more (suc k) ws =
      ap (λ n. cut n lim t ws) (step k)
      ∙ ap (λ l. message t (take lim ws) ∷ l) (cut_more k (drop lim ws) ∙ ap (λ l. cut k lim t (drop lim ws) ++ (message t (take lim l) ∷ [])) (drop-drop (k * lim) lim ws ∙ ap (λ n. drop n ws) (turn (suc-mul k lim))))
    where
      step : (k : ℕ) → suc k + 1 ≡ suc (k + 1)
      step k = omega arith

      turn : suc k * lim ≡ k * lim + lim → lim + k * lim ≡ suc k * lim
      turn e = omega arith

  pub tags_cut : (k : ℕ) (ws : List ℕ) → AllByRecursion (λ m. m.tag ≡ t) (cut k lim t ws)
  tags_cut zero ws = tt
  tags_cut (suc k) ws = (refl, tags_cut k (drop lim ws))

  first_cut : (k : ℕ) (ws : List ℕ) → 0 < k → first_tag (cut k lim t ws) ≡ t
  first_cut zero ws h = absurd (below_zero h)
    where
      below_zero : ◌<◌ 0 0 → ⊥
      below_zero h = omega arith
  first_cut (suc k) ws h = refl

module _ (lim : ℕ) (some : 0 < lim) where
  pub length-segments : (m : Message) → length (segments lim m) ≡ pieces lim
  unfolding segments
  length-segments m = length_cut lim m.tag (pieces lim) (block m.words)

  pub tags_segments : (m : Message) → AllByRecursion (λ s. s.tag ≡ m.tag) (segments lim m)
  unfolding segments
  tags_segments m = tags_cut lim m.tag (pieces lim) (block m.words)

  pub words_segments : (m : Message) → length m.words ≤ 7 → all_words (segments lim m) ≡ block m.words
  unfolding segments
  words_segments m h =
      words_cut lim m.tag (pieces lim) (block m.words)
      ∙ take_all (pieces lim * lim) (block m.words) (omega (arith, length-block m.words h, pieces_enough lim some))

  tag_segments : (m : Message) → first_tag (segments lim m) ≡ m.tag
  unfolding segments
  tag_segments m = first_cut lim m.tag (pieces lim) (block m.words) (pieces_some lim some)

  pub rebuilt_segments : (m : Message) → length m.words ≤ 7 → rebuilt (segments lim m) ≡ m
  rebuilt_segments m h = ap₂ message (tag_segments m) (ap unpacked (words_segments m h) ∙ unpacked_block m.words)

  pub length-joined : (ms : List Message) → length (flat_map (segments lim) ms) ≡ pieces lim * length ms
  length-joined [] = sym (times_zero (pieces lim))
    where
      times_zero : (k : ℕ) → k * 0 ≡ 0
      times_zero k = omega arith
  length-joined (m ∷ ms) =
      length-append (segments lim m) (flat_map (segments lim) ms)
      ∙ more (length-segments m) (length-joined ms) (mul_comm (pieces lim) (suc (length ms)) ∙ suc-mul (length ms) (pieces lim)) (mul_comm (length ms) (pieces lim))
    where
      more : length (segments lim m) ≡ pieces lim → length (flat_map (segments lim) ms) ≡ pieces lim * length ms → pieces lim * suc (length ms) ≡ length ms * pieces lim + pieces lim → length ms * pieces lim ≡ pieces lim * length ms → length (segments lim m) + length (flat_map (segments lim) ms) ≡ pieces lim * suc (length ms)
      more a b c d = omega arith

  groups_joined : (ms : List Message) → Short 7 ms → groups (pieces lim) (length ms) (flat_map (segments lim) ms) ≡ ms
  groups_joined [] h = refl
  groups_joined (m ∷ ms) h =
      ap₂ ◌∷◌
      (ap rebuilt (take_at (segments lim m) (flat_map (segments lim) ms) (pieces lim) (length-segments m)) ∙ rebuilt_segments m h.0)
      (ap (groups (pieces lim) (length ms)) (drop_at (segments lim m) (flat_map (segments lim) ms) (pieces lim) (length-segments m)) ∙ groups_joined ms h.1)

  pub decode_joined : (ms : List Message) → Short 7 ms → decode (pieces lim) (flat_map (segments lim) ms) ≡ ms
  unfolding decode
  decode_joined ms h =
      ap (λ c. groups (pieces lim) c (flat_map (segments lim) ms))
      (ap (λ n. n / pieces lim) (length-joined ms) ∙ mul-div_right (length ms) {m = pieces lim} (pieces_some lim some))
      ∙ groups_joined ms h

  -- the segments of some messages are whole
  pub coded : (l : List Message) (ms : List Message) → Short 7 ms → l ≡ flat_map (segments lim) ms → Coded lim l
  coded l ms h e =
      let d : ms ≡ decode (pieces lim) l = sym (ap (decode (pieces lim)) e ∙ decode_joined ms h) in
      record { short = subst (Short 7) d h; is = e ∙ ap (flat_map (segments lim)) d }

  pub length-coded : (l : List Message) → Coded lim l → length l ≡ pieces lim * length (decode (pieces lim) l)
  length-coded l c = ap length c.is ∙ length-joined (decode (pieces lim) l)
