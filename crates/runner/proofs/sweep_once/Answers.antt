use Rattle.runner.specs.Sweeps.{turns, carries}
use Rattle.runner.proofs.Running.{runs_then}
use Rattle.runner.proofs.sweep_once.Goals as goal

pub returns : goal.returns
returns g c =
    runs_then c.args.engine.now c.turn_all.new.engine c.carry_all.new.engine (turns c.args.token.now.name c.args.token.now.number c.args.ranks) (carries c.args.ranks c.args.ranks)
    c.turn_all.ensures c.carry_all.ensures
