use Rattle.std.proofs.Common.{sym, ap, ◌∙◌}
use Rattle.engine_parts.specs.Clearing.{delivered}
use Rattle.engine_parts.proofs.Carries.{delivered_carried, delivered_done, carried_done, none_in}
use Rattle.engine_parts.proofs.clearing.carry_all.Goals as goal

pub loop-pair-preserved : goal.loop-pair-preserved
loop-pair-preserved g c =
    ap (delivered c.args.pair.from c.args.pair.to) c.carry_one.ensures.after
    ∙ delivered_carried (g.T.Transport.meaning c.loop-pair.transport) c.args.pair.from c.args.pair.to
    ∙ c.loop-pair.invariant

pub returns : goal.returns
returns g c =
    let n = g.T.Transport.meaning c.loop-pair.transport in
    let none = none_in (n.under c.args.pair.from c.args.pair.to) c.loop-pair-test.ensures.answer in
    c.carry_one.ensures.after
    ∙ carried_done n c.args.pair.from c.args.pair.to none
    ∙ sym (delivered_done n c.args.pair.from c.args.pair.to none)
    ∙ c.loop-pair.invariant
