use Rattle.runner.specs.Sweeps.{carries, Runs}
use Rattle.runner.proofs.carry_all.Given as goal

abbrev pub invariant-loop-from : goal.invariant-loop-from
invariant-loop-from g l = Runs l.initial.engine l.engine (carries l.ranks l.from)
