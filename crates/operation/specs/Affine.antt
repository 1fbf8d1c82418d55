-- Maps y → a × y + b modulo m, joined by doing the left one first.
use Rattle.std.specs.Prelude.{ℕ, ◌+◌, ◌*◌, ◌%◌, Bool, cond, ◌&&◌, [], ◌∷◌, Ok, Err, Result, nat_le, nat_lt, slice_index}
use Rattle.operation.specs.Meaning.{Meaning, sized, where_below}
use Rattle.operation.specs.declared.fault.BlockFault.{BlockFault}
use Rattle.operation.specs.declared.fault.ModulusFault.{ModulusFault}
use Rattle.operation.specs.declared.fault.ModulusFault.TheVariants.{OutOfRange}
use Rattle.operation.specs.declared.affine.AffineElement.{AffineElement}

-- a modulus is taken from 2 to 2,147,483,647
abbrev pub accepted_modulus : ℕ → Result ℕ ModulusFault
accepted_modulus m = cond (nat_le 2 m && nat_le m 2147483647) (Ok m) (Err OutOfRange)

abbrev pub affine_of : ℕ → ℕ → AffineElement
affine_of a b = record { a = a; b = b }

-- both numbers are below the modulus
abbrev pub affine_proper : ℕ → AffineElement → Bool
affine_proper m x = nat_lt x.a m && nat_lt x.b m

-- c × (a × y + b) + d = (c × a) × y + (c × b + d)
abbrev pub affine_join : ℕ → AffineElement → AffineElement → AffineElement
affine_join m x y = affine_of ((y.a * x.a) % m) ((y.a * x.b + y.b) % m)

-- the wrong word is the first that is not below the modulus
abbrev pub affine_read : (m a b : ℕ) → Result AffineElement BlockFault
affine_read m a b = where_below m (affine_of a b) 0 (a ∷ b ∷ [])

abbrev pub affine : ℕ → Meaning AffineElement
affine m = record {
  proper = affine_proper m;
  unit = affine_of 1 0;
  join = affine_join m;
  width = 2;
  pack = λ x. x.a ∷ x.b ∷ [];
  unpack = sized 2 (λ ws. affine_read m (slice_index ws 0) (slice_index ws 1));
}
