-- Numbers of segments, and their words.
use Rattle.std.proofs.Common.{◌≡◌, ℕ, ◌+◌, ◌*◌, ◌<◌, ◌≤◌, min, ◌⊎◌, List, ◌++◌, length, take, drop, sym, ap, ◌∙◌, inl, inr, add-mul, one-mul, le-div_iff_mul-le, arith}
use Rattle.std.specs.Int.{div_ceil}
use Rattle.std.proofs.lemmas.Grind.{div_ceil_times}
use Rattle.std.proofs.lemmas.Bool.{cases_lt}
use Rattle.std.proofs.lemmas.List.{append-nil, length-append, take_all, drop_all, take_at, drop_at, nil_from_length}
use Rattle.segmented.specs.Segments.{pieces}

module _ (lim k : ℕ) (some : 0 < lim) where
  -- segments come while the block has words
  pub count_more : k * lim < 8 → k < pieces lim
  unfolding pieces
  count_more more =
      let fits : (k + 1) * lim ≤ 7 + lim = omega (arith, add-mul k 1 lim, one-mul lim) in
      omega (arith, (le-div_iff_mul-le {k = lim} {x = k + 1} {y = 7 + lim} some).1 fits)

  -- and no longer
  pub count_all : 8 ≤ k * lim → k * lim < 8 + lim → k ≡ pieces lim
  unfolding pieces
  count_all enough low = by (cases_lt k (pieces lim))
    where
      by : (k < pieces lim) ⊎ (pieces lim ≤ k) → k ≡ pieces lim
      by (inl less) =
          let over : (k + 1) * lim ≤ 7 + lim = (le-div_iff_mul-le {k = lim} {x = k + 1} {y = 7 + lim} some).0 (omega arith) in
          absurd (omega (arith, over, add-mul k 1 lim, one-mul lim))
      by (inr more) =
          let under : k ≤ pieces lim = (le-div_iff_mul-le {k = lim} {x = k} {y = 7 + lim} some).1 (omega arith) in
          omega arith

-- the front of a list, as chunks cut it
pub front_is : (lim : ℕ) (all front rest : List ℕ) → all ≡ front ++ rest → length front ≡ min lim (length all) → (front ≡ take lim all) × (rest ≡ drop lim all)
front_is lim all front rest cut long = by (cases_lt lim (length all))
  where
    by : (lim < length all) ⊎ (length all ≤ lim) → (front ≡ take lim all) × (rest ≡ drop lim all)
    by (inl more) =
        let e : length front ≡ lim = omega arith in
        (sym (ap (take lim) cut ∙ take_at front rest lim e), sym (ap (drop lim) cut ∙ drop_at front rest lim e))
    by (inr last) =
        let none : length rest ≡ 0 = omega (arith, ap length cut, length-append front rest) in
        let nil = nil_from_length rest none in
        (sym (take_all lim all last ∙ cut ∙ ap (λ r. front ++ r) nil ∙ append-nil front), nil ∙ sym (drop_all lim all last))

-- eight words divided by the limit, rounded up
pub pieces_up : (lim : ℕ) → 0 < lim → div_ceil 8 lim ≡ pieces lim
pieces_up lim some =
    let times = div_ceil_times 8 lim some in
    count_all lim (div_ceil 8 lim) some times.0 times.1
