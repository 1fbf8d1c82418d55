use Rattle.std.proofs.Common.{◌≡◌, length}
use Rattle.engine_parts.specs.Clearing.{delivered}
use Rattle.engine_parts.proofs.clearing.carry_all.Given as goal

-- what is left to do comes to the same
abbrev pub invariant-loop-pair : goal.invariant-loop-pair
invariant-loop-pair g l =
    delivered l.pair.from l.pair.to (g.T.Transport.meaning l.transport) ≡ delivered l.pair.from l.pair.to (g.T.Transport.meaning l.initial.transport)

abbrev pub decreases-loop-pair : goal.decreases-loop-pair
decreases-loop-pair g l = length ((g.T.Transport.meaning l.transport).under l.pair.from l.pair.to)
