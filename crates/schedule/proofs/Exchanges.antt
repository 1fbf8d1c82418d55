-- What stands at an index of a rank's programme in an allreduce.
use Rattle.std.proofs.Common.{◌≡◌, ℕ, suc, ◌+◌, ◌-◌, ◌*◌, ◌/◌, ◌%◌, ◌^◌, ◌<◌, ◌≤◌, cond, List, [], ◌∷◌, ◌++◌, length, Some, None, sym, refl, ap, ◌∙◌, arith, length-append, pow_mono}
use Rattle.std.specs.List.{slice_get}
use Rattle.std.proofs.lemmas.Option.{slice_get_past}
use Rattle.std.proofs.lemmas.Bool.{le-leb, lt-leb, eq-eqb, ne_eqb}
use Rattle.programme.specs.declared.Action.{Action}
use Rattle.programme.specs.declared.Action.TheVariants.{Send, Take}
use Rattle.programme.specs.declared.Merge.{Merge}
use Rattle.programme.specs.declared.Merge.TheVariants.{Before, After}
use Rattle.programme.specs.Label.{hand_back}
use Rattle.programme.specs.Levels.{floor_log, surplus}
use Rattle.programme.specs.Programme.{bit, flip, rank_of, exchange_step, exchange, allreduce}
use Rattle.programme.proofs.Power.{floor_log_le, levels_le, levels_next}
use Rattle.ranks.specs.Ranks.{most_ranks}
use Rattle.schedule.specs.Part.{handed_in, for_two}
use Rattle.schedule.proofs.Positions.{nth_left, nth_right, length_pairs, nth_first, nth_second}

-- a number that exchanges, and its partner's
pub below_twice : (p n k : ℕ) → 0 < p → n < 2 ^ floor_log p → k < floor_log p → n + 2 ^ k ≤ 2 * p
below_twice p n k h l m =
    let q : k ≤ floor_log p = omega arith in
    omega (arith, pow_mono q, floor_log_le p h)

module _ (p n : ℕ) where
  abbrev send : ℕ → Action
  send k = Send (rank_of p (flip n k)) k

  abbrev take : ℕ → Action
  take k = Take (rank_of p (flip n k)) k (cond (bit n k) Before After)

  pair : (k : ℕ) → exchange_step p n k ≡ send k ∷ take k ∷ []
  unfolding exchange_step
  pair k = refl

  pub length-exchange : length (exchange p n) ≡ 2 * floor_log p
  unfolding exchange
  length-exchange = length_pairs (exchange_step p n) send take (floor_log p) (λ k l. pair k)

  pub exchange_send : (i x : ℕ) → i < 2 * floor_log p → i % 2 ≡ 0 → x ≡ rank_of p (flip n (i / 2)) → Some (Send x (i / 2)) ≡ slice_get (exchange p n) i
  unfolding exchange
  exchange_send i x l z e =
      ap (λ (y : ℕ). Some (Send y (i / 2))) e ∙ sym (nth_first (exchange_step p n) send take (floor_log p) i (λ k l. pair k) l z)

  pub exchange_take : (i x : ℕ) (m : Merge) → i < 2 * floor_log p → i % 2 ≡ 1 → x ≡ rank_of p (flip n (i / 2)) → cond (bit n (i / 2)) Before After ≡ m → Some (Take x (i / 2) m) ≡ slice_get (exchange p n) i
  unfolding exchange
  exchange_take i x m l z e f =
      ap (λ (y : ℕ). Some (Take y (i / 2) m)) e
      ∙ ap (λ (o : Merge). Some (Take (rank_of p (flip n (i / 2))) (i / 2) o)) (sym f)
      ∙ sym (nth_second (exchange_step p n) send take (floor_log p) i (λ k l. pair k) l z)

  -- a word has room for it
  pub length_small : 0 < p → p ≤ most_ranks → length (exchange p n) ≤ 12
  length_small h few = omega (arith, length-exchange, levels_next p h, levels_le (p + 1) 7 (omega arith))

  pub exchange_past : (i : ℕ) → 2 * floor_log p ≤ i → None ≡ slice_get (exchange p n) i
  exchange_past i l = sym (slice_get_past (exchange p n) i (omega (arith, length-exchange)))

-- what each rank is
module _ (p r : ℕ) where
  pub outside : (n : ℕ) → n ≡ r - surplus p → 2 * surplus p ≤ r → exchange p n ≡ allreduce p r
  unfolding allreduce
  outside n e l = rw (e, le-leb (2 * surplus p) r l)

  pub even : r < 2 * surplus p → r % 2 ≡ 0 → handed_in (r + 1) ≡ allreduce p r
  unfolding allreduce
  even l z = rw (lt-leb (2 * surplus p) r l, eq-eqb (r % 2) 0 z)

  pub odd : (n : ℕ) → n ≡ (r - 1) / 2 → r < 2 * surplus p → (r % 2 ≡ 0 → ⊥) → for_two (r - 1) p n ≡ allreduce p r
  unfolding allreduce
  odd n e l z = rw (e, lt-leb (2 * surplus p) r l, ne_eqb (r % 2) 0 z)

-- a rank that exchanges for another too
module _ (other p n : ℕ) where
  abbrev rest : List Action
  rest = exchange p n ++ (Send other hand_back ∷ [])

  shifted : (i : ℕ) → 0 < i → slice_get rest (i - 1) ≡ slice_get (for_two other p n) i
  shifted i h =
      let q : i ≡ suc (i - 1) = omega arith in
      ap (λ (j : ℕ). slice_get (for_two other p n) j) (sym q)

  pub between : (i : ℕ) → 0 < i → i < length (exchange p n) + 1 → slice_get (exchange p n) (i - 1) ≡ slice_get (for_two other p n) i
  between i h m = sym (nth_left (exchange p n) (Send other hand_back ∷ []) (i - 1) (omega arith)) ∙ shifted i h

  pub last : (i : ℕ) → i ≡ length (exchange p n) + 1 → Some (Send other hand_back) ≡ slice_get (for_two other p n) i
  last i e =
      sym
      (nth_right (exchange p n) (Send other hand_back ∷ []) (i - 1) (omega arith)
      ∙ ap (slice_get (Send other hand_back ∷ [])) (let q : i - 1 - length (exchange p n) ≡ 0 = omega arith in q))
      ∙ shifted i (omega arith)

  pub past : (i : ℕ) → length (exchange p n) + 1 < i → None ≡ slice_get (for_two other p n) i
  past i l = sym (slice_get_past (for_two other p n) i (omega (arith, length-append (exchange p n) (Send other hand_back ∷ []))))
