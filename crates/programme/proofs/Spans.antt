-- Joins of neighbouring rows of inputs.
use Rattle.std.proofs.Common.{◌≡◌, ℕ, zero, suc, ◌+◌, ◌<◌, ◌≤◌, Bool, true, sym, ap, ◌∙◌, ap₂, arith}
use Rattle.programme.specs.Monoid.{Laws, span}

module _ {E : Type 0} (proper : E → Bool) (unit : E) (join : E → E → E) (laws : Laws proper unit join) (p : ℕ) (inputs : ℕ → E) (inputs_proper : (r : ℕ) → r < p → proper (inputs r) ≡ true) where
  pub span_proper : (first number : ℕ) → first + number ≤ p → proper (span unit join inputs first number) ≡ true
  unfolding span
  span_proper first zero h = laws.unit_proper
  span_proper first (suc n) h = laws.join_proper (span unit join inputs first n) (inputs (first + n)) (span_proper first n (omega arith)) (inputs_proper (first + n) (omega arith))

  pub span_one : (first : ℕ) → first < p → span unit join inputs first 1 ≡ inputs first
  unfolding span
  span_one first h = laws.unit_left (inputs (first + 0)) (inputs_proper (first + 0) (omega arith)) ∙ ap inputs (omega arith)

  pub span_join : (first m n : ℕ) → first + (m + n) ≤ p → join (span unit join inputs first m) (span unit join inputs (first + m) n) ≡ span unit join inputs first (m + n)
  unfolding span
  span_join first m zero h = laws.unit_right (span unit join inputs first m) (span_proper first m (omega arith)) ∙ ap (span unit join inputs first) (omega arith)
  span_join first m (suc n) h =
      let e : m + suc n ≡ suc (m + n) = omega arith in
      rw e
      (sym (laws.assoc (span unit join inputs first m) (span unit join inputs (first + m) n) (inputs (first + m + n)) (span_proper first m (omega arith)) (span_proper (first + m) n (omega arith)) (inputs_proper (first + m + n) (omega arith)))
      ∙ ap₂ join (span_join first m n (omega arith)) (ap inputs (omega arith)))

  -- the same, where the second row's first rank is only known to follow
  pub spans_join : (a m b n c k : ℕ) → b ≡ a + m → c ≡ a → k ≡ m + n → a + (m + n) ≤ p → join (span unit join inputs a m) (span unit join inputs b n) ≡ span unit join inputs c k
  spans_join a m b n c k e f g h = rw (e, f, g) (span_join a m n h)
