use Rattle.std.proofs.Common.{◌+◌, ◌*◌, sym, ap, ◌∙◌, arith}
use Rattle.engine_parts.specs.Clearing.{purged, tagged, labelled}
use Rattle.engine_parts.proofs.Purges.{purged_purged, purged_nothing, label_next, label_none}
use Rattle.engine_parts.proofs.clearing.take_job.Goals as goal

pub loop-label-init : goal.loop-label-init
loop-label-init g c =
    sym (purged_nothing (labelled c.args.number 0) c.args.pair.from c.args.pair.to (g.T.Transport.meaning c.args.transport.now) (label_none c.args.number))

pub loop-label-preserved : goal.loop-label-preserved
loop-label-preserved g c =
    let number = c.args.number in
    let label = c.loop-label.label in
    c.take_all.ensures
    ∙ ap (purged (tagged (16 * number + label)) c.args.pair.from c.args.pair.to) c.loop-label.invariant
    ∙ purged_purged (labelled number label) (tagged (16 * number + label)) (labelled number (label + 1)) (label_next number label (omega (arith, c.loop-label-test.true)))
    c.args.pair.from c.args.pair.to (g.T.Transport.meaning c.args.transport.now)
