use Rattle.engine_parts.proofs.Blocks.{Reading}
use Rattle.engine_parts.proofs.inputs.read_inputs.Given as goal

abbrev pub invariant-loop-rank : goal.invariant-loop-rank
invariant-loop-rank g l = Reading (g.O.Operation.meaning l.op) l.ranks l.words l.rank l.inputs
