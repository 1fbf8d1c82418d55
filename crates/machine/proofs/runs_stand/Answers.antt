use Rattle.std.proofs.Common.{refl}
use Rattle.programme.specs.Levels.{levels}
use Rattle.programme.specs.Programme.{scan, scan_step, steps, reduce, fold_step, gather}
use Rattle.transport.specs.Network as transport
use Rattle.machine.proofs.Reachable.{run_follows}
use Rattle.machine.specs.Runs.{new_machine, scanned, beside, left_behind}
use Rattle.machine.proofs.runs_stand.Goals as goal

pub returns : goal.returns
unfolding levels scan scan_step steps reduce fold_step gather transport.waiting
returns c = (run_follows new_machine scanned refl, run_follows new_machine beside refl, run_follows new_machine left_behind refl, refl, refl, refl)
