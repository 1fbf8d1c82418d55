-- Room in memory for an engine.
use Rattle.std.specs.Borrow.{RattleType}
use Rattle.std.specs.Mem.{FitsInMemory}
use Rattle.operation.specs.declared.Operation.{Ghosts as Operation}
use Rattle.transport.specs.declared.Transport.{Ghosts as Transport}
use Rattle.segmented.specs.contracts.Segmented.{the_row as segmented}
use Rattle.group.specs.contracts.Group.{the_row as group}
use Rattle.engine.specs.contracts.state.Engine.{the_row as engine}

module _ (operation element below : RattleType) (op : Operation operation.Denot element.Denot) (net : Transport below.Denot) where
  -- an engine of an operation on elements over a group over segmenting is no larger than memory, which is plain wherever the
  -- operation and the transport below are known
  abbrev pub EngineFits : (layer : Transport (segmented below net).Denot) → Transport (group (segmented below net) layer).Denot → Type 0
  EngineFits layer members = FitsInMemory (engine operation (group (segmented below net) layer) element op members)
