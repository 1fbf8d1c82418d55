use Rattle.bridge.proofs.Grouped.{over_segmented}
use Rattle.bridge.proofs.Telling.{comes_to}
use Rattle.bridge.proofs.request.Request.run_with.Goals as goal

pub returns : goal.returns
returns g c =
    over_segmented g.T.Transport.most _ _ _ _ c.new.ensures.meaning c.new-group.ensures.good c.new-group.ensures.bad _
    (comes_to _ _ c.args.self.now.collective c.args.self.now.inputs.now c.args.out.now c.args.self.now.sweeps _ _ c.new-engine.ensures.stands c.new-engine.ensures.fresh
    _ _ c.complete-outcome.ensures.answered c.complete-outcome.ensures.refused c.complete-outcome.ensures.did)
