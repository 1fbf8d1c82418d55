use Rattle.std.proofs.Common.{refl}
use Rattle.programme.proofs.Figured.{figures}
use Rattle.machine.proofs.figures_stand.Goals as goal

pub returns : goal.returns
returns c = ((refl, refl, refl, refl, refl, refl), figures)
