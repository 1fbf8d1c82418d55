use Rattle.std.proofs.Common.{◌≡◌}
use Rattle.engine_parts.specs.Clearing.{purged, labelled}
use Rattle.engine_parts.proofs.clearing.take_job.Given as goal

abbrev pub invariant-loop-label : goal.invariant-loop-label
invariant-loop-label g l =
    g.T.Transport.meaning l.transport ≡ purged (labelled l.number l.label) l.pair.from l.pair.to (g.T.Transport.meaning l.initial.transport)
