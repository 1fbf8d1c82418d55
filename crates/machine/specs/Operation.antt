-- An operation's meaning, with the laws that its trait has.
use Rattle.std.specs.Prelude.{◌≤◌}
pub use Rattle.std.specs.declared.result.Result.{Result}
pub use Rattle.std.specs.declared.result.Result.TheVariants.{Ok, Err}
pub use Rattle.operation.specs.declared.fault.BlockFault.{BlockFault}
pub use Rattle.operation.specs.declared.fault.BlockFault.TheVariants.{WrongLength, WrongWord}
pub use Rattle.operation.specs.Meaning.{Meaning}
use Rattle.operation.specs.Meaning.{Monoid, Packing, widest}

-- an operation that keeps the laws of all operations
pub record Lawful {E : Type 0} (m : Meaning E) : Type 0 where
  pub wide : 1 ≤ m.width
  pub monoid : Monoid m
  pub packing : m.width ≤ widest → Packing m
