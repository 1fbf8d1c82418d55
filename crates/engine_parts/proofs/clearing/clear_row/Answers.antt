use Rattle.std.proofs.Common.{◌+◌, sym, ap, ◌∙◌}
use Rattle.engine_parts.specs.Clearing.{cleared, one_pair, row_below}
use Rattle.engine_parts.proofs.Clears.{cleared_none, cleared_join, row_none, row_next, row_apart}
use Rattle.engine_parts.proofs.clearing.clear_row.Goals as goal

pub loop-to-init : goal.loop-to-init
loop-to-init g c =
    sym (cleared_none c.args.number (g.T.Transport.meaning c.args.transport.now) (row_below c.args.from 0) (row_none c.args.from))

pub loop-to-preserved : goal.loop-to-preserved
loop-to-preserved g c =
    let from = c.args.from in
    let to = c.loop-to.to in
    c.clear_pair.ensures
    ∙ ap (cleared c.args.number (one_pair from to)) c.loop-to.invariant
    ∙ cleared_join c.args.number (g.T.Transport.meaning c.args.transport.now) (row_below from to) (one_pair from to) (row_below from (to + 1)) (row_next from to) (row_apart from to)
