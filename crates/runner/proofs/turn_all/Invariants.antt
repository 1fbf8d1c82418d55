use Rattle.runner.specs.Sweeps.{turns, Runs}
use Rattle.runner.proofs.turn_all.Given as goal

abbrev pub invariant-loop-rank : goal.invariant-loop-rank
invariant-loop-rank g l = Runs l.initial.engine l.engine (turns l.token.name l.token.number l.rank)
