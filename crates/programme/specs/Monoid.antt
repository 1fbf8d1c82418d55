-- A monoid whose laws hold of its proper elements, and the join of a row of inputs.
use Rattle.std.specs.Prelude.{◌≡◌, ℕ, zero, suc, ◌+◌, Bool, true}

-- proper elements are closed under joins, which associate, and the unit changes none; joins need not commute
pub record Laws {E : Type 0} (proper : E → Bool) (unit : E) (join : E → E → E) : Type 0 where
  pub unit_proper : proper unit ≡ true
  pub join_proper : (x y : E) → proper x ≡ true → proper y ≡ true → proper (join x y) ≡ true
  pub assoc : (x y z : E) → proper x ≡ true → proper y ≡ true → proper z ≡ true → join (join x y) z ≡ join x (join y z)
  pub unit_left : (x : E) → proper x ≡ true → join unit x ≡ x
  pub unit_right : (x : E) → proper x ≡ true → join x unit ≡ x

-- the join, in ascending order of rank, of the inputs of `number` ranks from `first` on
unfoldable pub span : {E : Type 0} → E → (E → E → E) → (ℕ → E) → (first number : ℕ) → E
span unit join inputs first zero = unit
span unit join inputs first (suc n) = join (span unit join inputs first n) (inputs (first + n))
