use Rattle.std.proofs.Common.{◌≡◌, sym, subst, add-one, arith}
use Rattle.machine.specs.Call.{turn}
use Rattle.engine.specs.Answers.{turn_answer}
use Rattle.runner.specs.Sweeps.{turns, Runs}
use Rattle.runner.proofs.Running.{runs_none, runs_call}
use Rattle.runner.proofs.turn_all.Goals as goal

pub loop-rank-init : goal.loop-rank-init
loop-rank-init g c = runs_none c.args.engine.now

pub loop-rank-preserved : goal.loop-rank-preserved
loop-rank-preserved g c =
    let e = c.args.engine.now in
    let name = c.args.token.now.name in
    let number = c.args.token.now.number in
    let r = c.loop-rank.rank in
    let after = c.turn.new.self in
    let more = runs_call e c.loop-rank.engine after (turns name number r) (turn name number r) (turn_answer c.turn.result) c.loop-rank.invariant c.turn.ensures in
    subst (λ k. Runs e after (turns name number k)) (sym (add-one r)) more

pub returns : goal.returns
returns g c =
    let last : c.loop-rank.rank ≡ c.args.ranks = omega (arith, c.loop-rank-test.false, c.loop-rank.auto.rank-end) in
    subst (λ k. Runs c.args.engine.now c.loop-rank.engine (turns c.args.token.now.name c.args.token.now.number k)) last c.loop-rank.invariant
