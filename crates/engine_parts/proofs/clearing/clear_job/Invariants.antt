use Rattle.std.proofs.Common.{◌≡◌}
use Rattle.engine_parts.specs.Clearing.{cleared, rows_below}
use Rattle.engine_parts.proofs.clearing.clear_job.Given as goal

abbrev pub invariant-loop-from : goal.invariant-loop-from
invariant-loop-from g l =
    g.T.Transport.meaning l.transport ≡ cleared l.number (rows_below l.from l.ranks) (g.T.Transport.meaning l.initial.transport)
