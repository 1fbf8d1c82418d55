use Rattle.runner.specs.Sweeps.{sweeps, Runs}
use Rattle.runner.proofs.run.Given as goal

abbrev pub invariant-loop-sweeps : goal.invariant-loop-sweeps
invariant-loop-sweeps g l = Runs l.initial.engine l.engine (sweeps l.token.name l.token.number (g.T.Transport.meaning l.initial.engine.transport).ranks l.sweeps)
