-- What stands at an index of a rank's programme in a broadcast.
use Rattle.std.proofs.Common.{◌≡◌, ℕ, suc, ◌+◌, ◌-◌, ◌%◌, ◌^◌, ◌<◌, ◌≤◌, Bool, ltb, List, [], ◌∷◌, ◌++◌, length, Some, None, sym, refl, ap, ◌∙◌, ⊎_elim, arith}
use Rattle.std.specs.List.{slice_get}
use Rattle.std.proofs.lemmas.Option.{slice_get_past}
use Rattle.std.proofs.lemmas.Bool.{lt-ltb, le-ltb, cases_lt, and_right}
use Rattle.programme.specs.declared.Action.{Action}
use Rattle.programme.specs.declared.Action.TheVariants.{Send}
use Rattle.programme.specs.Levels.{levels}
use Rattle.programme.specs.Programme.{steps, when, broadcast}
use Rattle.programme.proofs.Power.{levels_mono}
use Rattle.schedule.specs.Part.{spread, spread_step, taken}
use Rattle.schedule.proofs.Places.{has_above, none_above, has_below, none_below}
use Rattle.schedule.proofs.Positions.{listed, length-listed, nth_listed, steps_quiet, steps_single}

module _ (p root u : ℕ) (h : u < p) where
  abbrev send : ℕ → Action
  send k = Send ((u + 2 ^ k + root) % p) k

  -- the first step that sends, and the end of those that do
  abbrev T : ℕ
  T = levels (u + 1)

  abbrev S : ℕ
  S = levels (p - u)

  sends : (k : ℕ) → T ≤ k → k < S → spread_step p root u k ≡ send k ∷ []
  unfolding spread_step
  sends k t s = rw (lt-ltb u (2 ^ k) (none_below u k t), lt-ltb (u + 2 ^ k) p (has_above p u k s))

  too_low : (k : ℕ) → k < T → spread_step p root u k ≡ []
  unfolding spread_step
  too_low k t = rw (le-ltb u (2 ^ k) (has_below u k t))

  too_high : (k : ℕ) → S ≤ k → spread_step p root u k ≡ []
  unfolding spread_step
  too_high k s = rw (and_right (ltb u (2 ^ k)) (ltb (u + 2 ^ k) p) (le-ltb (u + 2 ^ k) p (none_above p u k s)))

  none_yet : (n : ℕ) → n ≤ T → steps (spread_step p root u) n ≡ []
  unfolding steps
  none_yet n l = steps_quiet (spread_step p root u) 0 n (omega arith) (λ k a b. too_low k (omega arith))

  shape : steps (spread_step p root u) (levels p) ≡ listed send T (S - T)
  unfolding steps
  shape =
      ⊎_elim
      (λ (l : S < T).
      steps_quiet (spread_step p root u) 0 (levels p) (omega arith) (λ k a b. ⊎_elim (λ (m : k < T). too_low k m) (λ (m : T ≤ k). too_high k (omega arith)) (cases_lt k T))
      ∙ ap (listed send T) (let e : 0 ≡ S - T = omega arith in e))
      (λ (l : T ≤ S).
      steps_quiet (spread_step p root u) S (levels p) (levels_mono (p - u) p (omega arith)) (λ k a b. too_high k a)
      ∙ steps_single (spread_step p root u) send T S l (λ k a b. sends k a b)
      ∙ ap (λ (x : List Action). x ++ listed send T (S - T)) (none_yet T (omega arith)))
      (cases_lt S T)

  pub spread_at : (i k x : ℕ) → i < S - T → k ≡ T + i → x ≡ (u + 2 ^ k + root) % p → Some (Send x k) ≡ slice_get (steps (spread_step p root u) (levels p)) i
  spread_at i k x l e f =
      ap (λ (y : ℕ). Some (Send y k)) f
      ∙ ap (λ (j : ℕ). Some (send j)) e
      ∙ sym (ap (λ (y : List Action). slice_get y i) shape ∙ nth_listed send T (S - T) i l)

  pub spread_length : length (steps (spread_step p root u) (levels p)) ≡ S - T
  spread_length = ap length shape ∙ length-listed send T (S - T)

  pub spread_past : (i : ℕ) → S - T ≤ i → None ≡ slice_get (steps (spread_step p root u) (levels p)) i
  spread_past i l = sym (slice_get_past (steps (spread_step p root u) (levels p)) i (omega (arith, spread_length)))

  pub at_root : u ≡ 0 → spread p root u ≡ steps (spread_step p root u) (levels p)
  unfolding spread
  at_root z = ap (λ (t : Bool). when t (taken p root u) ++ steps (spread_step p root u) (levels p)) (le-ltb 0 u (omega arith))

  at_other : 0 < u → spread p root u ≡ taken p root u ∷ steps (spread_step p root u) (levels p)
  unfolding spread
  at_other l = ap (λ (t : Bool). when t (taken p root u) ++ steps (spread_step p root u) (levels p)) (lt-ltb 0 u l)

  pub takes_first : (i : ℕ) → 0 < u → i ≡ 0 → Some (taken p root u) ≡ slice_get (spread p root u) i
  takes_first i l z = rw (at_other l, z)

  pub then_sends : (i : ℕ) → 0 < u → 0 < i → slice_get (steps (spread_step p root u) (levels p)) (i - 1) ≡ slice_get (spread p root u) i
  then_sends i l z =
      let q : i ≡ suc (i - 1) = omega arith in
      ap (λ (j : ℕ). slice_get (taken p root u ∷ steps (spread_step p root u) (levels p)) j) (sym q)
      ∙ ap (λ (x : List Action). slice_get x i) (sym (at_other l))

  pub root_length : u ≡ 0 → S - T ≡ length (spread p root u)
  root_length z = sym (ap length (at_root z) ∙ spread_length)

  pub other_length : 0 < u → S - T + 1 ≡ length (spread p root u)
  other_length l = sym (ap length (at_other l) ∙ omega (arith, spread_length))

-- a rank's programme is that of its number
pub numbered : (p root r : ℕ) → broadcast p root r ≡ spread p root ((r + (p - root)) % p)
unfolding spread broadcast spread_step
numbered p root r = refl
