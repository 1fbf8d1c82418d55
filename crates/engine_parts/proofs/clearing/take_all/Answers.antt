use Rattle.std.proofs.Common.{◌<◌, length, sym, ap, ◌∙◌, subst}
use Rattle.engine_parts.specs.Clearing.{purged, tagged}
use Rattle.engine_parts.proofs.Purges.{purged_taken, purged_done, taken_done, taken_fewer, none_some}
use Rattle.engine_parts.proofs.clearing.take_all.Goals as goal

pub loop-pair-smaller : goal.loop-pair-smaller
loop-pair-smaller g c =
    let n = g.T.Transport.meaning c.loop-pair.transport in
    let fewer = taken_fewer c.args.tag n c.args.pair.from c.args.pair.to c.loop-pair-test.ensures.answer in
    let same = ap (λ m. length (m.arrived c.args.pair.from c.args.pair.to)) c.take_one.ensures.after in
    subst (λ k. k < length (n.arrived c.args.pair.from c.args.pair.to)) (sym same) fewer

pub loop-pair-preserved : goal.loop-pair-preserved
loop-pair-preserved g c =
    ap (purged (tagged c.args.tag) c.args.pair.from c.args.pair.to) c.take_one.ensures.after
    ∙ purged_taken c.args.tag (g.T.Transport.meaning c.loop-pair.transport) c.args.pair.from c.args.pair.to
    ∙ c.loop-pair.invariant

pub returns : goal.returns
returns g c =
    let n = g.T.Transport.meaning c.loop-pair.transport in
    let none = none_some _ c.loop-pair-test.ensures.answer in
    c.take_one.ensures.after
    ∙ taken_done c.args.tag n c.args.pair.from c.args.pair.to none
    ∙ sym (purged_done c.args.tag n c.args.pair.from c.args.pair.to none)
    ∙ c.loop-pair.invariant
