use Rattle.runner.specs.Sweeps.{carries_from, Runs}
use Rattle.runner.proofs.carry_from.Given as goal

abbrev pub invariant-loop-to : goal.invariant-loop-to
invariant-loop-to g l = Runs l.initial.engine l.engine (carries_from l.from l.to)
