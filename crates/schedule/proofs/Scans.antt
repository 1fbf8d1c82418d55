-- What stands at an index of a rank's programme in a scan.
use Rattle.std.proofs.Common.{◌≡◌, ℕ, ◌+◌, ◌-◌, ◌*◌, ◌/◌, ◌%◌, ◌^◌, ◌<◌, ◌≤◌, min, List, [], ◌∷◌, ◌++◌, length, Some, sym, ap, ◌∙◌, inl, inr, ⊎_elim, arith, length-append}
use Rattle.std.specs.List.{slice_get}
use Rattle.std.specs.Option.{option_or}
use Rattle.std.proofs.lemmas.Option.{slice_get_past}
use Rattle.std.proofs.lemmas.Bool.{lt-ltb, le-ltb, le-leb, lt-leb, cases_lt}
use Rattle.programme.specs.declared.Action.{Action}
use Rattle.programme.specs.declared.Action.TheVariants.{Send, Take}
use Rattle.programme.specs.declared.Merge.{Merge}
use Rattle.programme.specs.Levels.{levels}
use Rattle.programme.specs.Programme.{steps, scan_step}
use Rattle.programme.proofs.Power.{levels_mono}
use Rattle.schedule.specs.Part.{scan_send, scan_take}
use Rattle.schedule.proofs.Places.{has_above, none_above, has_below, none_below}
use Rattle.schedule.proofs.Positions.{listed, length-listed, nth_listed, nth_right, steps_early, steps_quiet, steps_single, length_pairs, nth_first, nth_second}

module _ (m : Merge) (p r : ℕ) (h : r < p) where
  abbrev send : ℕ → Action
  send k = Send (r + 2 ^ k) k

  abbrev take : ℕ → Action
  take k = Take (r - 2 ^ k) k m

  abbrev step : ℕ → List Action
  step k = scan_step m p r k

  -- how many steps have a send, and how many a take
  abbrev S : ℕ
  S = levels (p - r)

  abbrev T : ℕ
  T = levels (r + 1)

  both : (k : ℕ) → k < S → k < T → step k ≡ send k ∷ take k ∷ []
  unfolding scan_step
  both k s t = rw (lt-ltb (r + 2 ^ k) p (has_above p r k s), le-leb (2 ^ k) r (has_below r k t))

  only_send : (k : ℕ) → k < S → T ≤ k → step k ≡ send k ∷ []
  unfolding scan_step
  only_send k s t = rw (lt-ltb (r + 2 ^ k) p (has_above p r k s), lt-leb (2 ^ k) r (none_below r k t))

  only_take : (k : ℕ) → S ≤ k → k < T → step k ≡ take k ∷ []
  unfolding scan_step
  only_take k s t = rw (le-ltb (r + 2 ^ k) p (none_above p r k s), le-leb (2 ^ k) r (has_below r k t))

  neither : (k : ℕ) → S ≤ k → T ≤ k → step k ≡ []
  unfolding scan_step
  neither k s t = rw (le-ltb (r + 2 ^ k) p (none_above p r k s), lt-leb (2 ^ k) r (none_below r k t))

  shorter : (S ≤ levels p) × (T ≤ levels p)
  shorter = (levels_mono (p - r) p (omega arith), levels_mono (r + 1) p (omega arith))

  ends_sending : T ≤ S → steps step (levels p) ≡ steps step T ++ listed send T (S - T)
  ends_sending l =
      steps_quiet step S (levels p) shorter.0 (λ k a b. neither k a (omega arith))
      ∙ steps_single step send T S l (λ k a b. only_send k b a)

  ends_taking : S ≤ T → steps step (levels p) ≡ steps step S ++ listed take S (T - S)
  ends_taking l =
      steps_quiet step T (levels p) shorter.1 (λ k a b. neither k (omega arith) a)
      ∙ steps_single step take S T l (λ k a b. only_take k a b)

  pairs : (n : ℕ) → n ≤ S → n ≤ T → length (steps step n) ≡ 2 * n
  pairs n s t = length_pairs step send take n (λ k l. both k (omega arith) (omega arith))

  pub length-scan : length (steps step (levels p)) ≡ S + T
  length-scan =
      ⊎_elim
      (λ (l : S < T). ap length (ends_taking (omega arith)) ∙ length-append (steps step S) (listed take S (T - S)) ∙ omega (arith, pairs S (omega arith) (omega arith), length-listed take S (T - S)))
      (λ (l : T ≤ S). ap length (ends_sending l) ∙ length-append (steps step T) (listed send T (S - T)) ∙ omega (arith, pairs T (omega arith) (omega arith), length-listed send T (S - T)))
      (cases_lt S T)

  -- b steps have both
  pub early_send : (i b : ℕ) → b ≡ min S T → i < 2 * b → i % 2 ≡ 0 → scan_send p r (i / 2) ≡ slice_get (steps step (levels p)) i
  early_send i b e l z =
      rw (lt-ltb (i / 2) S (omega arith))
      (sym
      (steps_early step b (levels p) i (omega (arith, shorter)) (omega (arith, pairs b (omega arith) (omega arith)))
      ∙ nth_first step send take b i (λ k l. both k (omega arith) (omega arith)) l z))

  pub early_take : (i b : ℕ) → b ≡ min S T → i < 2 * b → (i % 2 ≡ 0 → ⊥) → scan_take m r (i / 2) ≡ slice_get (steps step (levels p)) i
  early_take i b e l z =
      let odd : i % 2 ≡ 1 = omega arith in
      rw (lt-ltb (i / 2) T (omega arith))
      (sym
      (steps_early step b (levels p) i (omega (arith, shorter)) (omega (arith, pairs b (omega arith) (omega arith)))
      ∙ nth_second step send take b i (λ k l. both k (omega arith) (omega arith)) l odd))

  late_send : (i b : ℕ) → b ≡ min S T → 2 * b ≤ i → i - b < S → slice_get (steps step (levels p)) i ≡ Some (send (i - b))
  late_send i b e l s =
      let len : length (steps step T) ≡ 2 * T = pairs T (omega arith) (omega arith) in
      ap (λ (x : List Action). slice_get x i) (ends_sending (omega arith))
      ∙ nth_right (steps step T) (listed send T (S - T)) i (omega arith)
      ∙ nth_listed send T (S - T) (i - length (steps step T)) (omega arith)
      ∙ ap (λ (k : ℕ). Some (send k)) (let q : T + (i - length (steps step T)) ≡ i - b = omega arith in q)

  late_take : (i b : ℕ) → b ≡ min S T → 2 * b ≤ i → S ≤ i - b → i - b < T → slice_get (steps step (levels p)) i ≡ Some (take (i - b))
  late_take i b e l s t =
      let len : length (steps step S) ≡ 2 * S = pairs S (omega arith) (omega arith) in
      ap (λ (x : List Action). slice_get x i) (ends_taking (omega arith))
      ∙ nth_right (steps step S) (listed take S (T - S)) i (omega arith)
      ∙ nth_listed take S (T - S) (i - length (steps step S)) (omega arith)
      ∙ ap (λ (k : ℕ). Some (take k)) (let q : S + (i - length (steps step S)) ≡ i - b = omega arith in q)

  -- and then a step has one, or none
  pub late : (i b : ℕ) → b ≡ min S T → 2 * b ≤ i → option_or (scan_send p r (i - b)) (scan_take m r (i - b)) ≡ slice_get (steps step (levels p)) i
  late i b e l =
      elim (cases_lt (i - b) S) [
        | inl s ↦ rw (lt-ltb (i - b) S s) (sym (late_send i b e l s))
        | inr s ↦
            elim (cases_lt (i - b) T) [
              | inl t ↦ rw (le-ltb (i - b) S s, lt-ltb (i - b) T t) (sym (late_take i b e l s t))
              | inr t ↦ rw (le-ltb (i - b) S s, le-ltb (i - b) T t) (sym (slice_get_past (steps step (levels p)) i (omega (arith, length-scan))))
            ]
      ]
