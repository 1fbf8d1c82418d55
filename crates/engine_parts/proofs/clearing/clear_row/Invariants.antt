use Rattle.std.proofs.Common.{◌≡◌}
use Rattle.engine_parts.specs.Clearing.{cleared, row_below}
use Rattle.engine_parts.proofs.clearing.clear_row.Given as goal

abbrev pub invariant-loop-to : goal.invariant-loop-to
invariant-loop-to g l =
    g.T.Transport.meaning l.transport ≡ cleared l.number (row_below l.from l.to) (g.T.Transport.meaning l.initial.transport)
