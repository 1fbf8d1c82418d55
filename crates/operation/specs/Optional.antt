-- Elements that may be absent: none is the unit, and two that are there are joined.
use Rattle.std.specs.Prelude.{◌≡◌, Bool, true, Some, None, Option, refl}
use Rattle.std.proofs.Common.{ap}

-- joining with none gives the other
abbrev pub join_present : {E : Type 0} → (E → E → E) → Option E → Option E → Option E
join_present join None y = y
join_present join (Some x) None = Some x
join_present join (Some x) (Some y) = Some (join x y)

abbrev pub proper_present : {E : Type 0} → (E → Bool) → Option E → Bool
proper_present proper None = true
proper_present proper (Some x) = proper x

module _ {E : Type 0} (join : E → E → E) where
  pub present_assoc : ((x y z : E) → join (join x y) z ≡ join x (join y z)) → (x y z : Option E)
      → join_present join (join_present join x y) z ≡ join_present join x (join_present join y z)
  present_assoc assoc None y z = refl
  present_assoc assoc (Some x) None z = refl
  present_assoc assoc (Some x) (Some y) None = refl
  present_assoc assoc (Some x) (Some y) (Some z) = ap Some (assoc x y z)

  pub present_unit : (x : Option E) → join_present join x None ≡ x
  present_unit None = refl
  present_unit (Some x) = refl

  pub present_proper : (proper : E → Bool) → ((x y : E) → proper x ≡ true → proper y ≡ true → proper (join x y) ≡ true)
      → (x y : Option E) → proper_present proper x ≡ true → proper_present proper y ≡ true → proper_present proper (join_present join x y) ≡ true
  present_proper proper keeps None y hx hy = hy
  present_proper proper keeps (Some x) None hx hy = hx
  present_proper proper keeps (Some x) (Some y) hx hy = keeps x y hx hy
