use Rattle.std.proofs.Common.{ap, ◌∙◌}
use Rattle.machine.specs.Call.{Answer}
use Rattle.machine.specs.Plain.{Plain}
use Rattle.runner.specs.Sweeps.{tells_finished}
use Rattle.runner.proofs.is_finished.Goals as goal

pub returns-in-Ok : goal.returns-in-Ok
returns-in-Ok g c = λ o h. c.are_all.ensures ∙ ap (λ (x : Answer × Plain g.row.O-Element.Denot). tells_finished c.args.ranks x.0) (c.in-Ok.ensures o h).1

pub returns-in-Err : goal.returns-in-Err
returns-in-Err g c = λ o h. ap (λ (x : Answer × Plain g.row.O-Element.Denot). tells_finished c.args.ranks x.0) (c.in-Err.ensures o h).1
