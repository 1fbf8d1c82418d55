use Rattle.std.proofs.Common.{◌≡◌, sym, subst, add-one, arith}
use Rattle.runner.specs.Sweeps.{carries_from, carries, Runs}
use Rattle.runner.proofs.Running.{runs_none, runs_then}
use Rattle.runner.proofs.carry_all.Goals as goal

pub loop-from-init : goal.loop-from-init
loop-from-init g c = runs_none c.args.engine.now

pub loop-from-preserved : goal.loop-from-preserved
loop-from-preserved g c =
    let e = c.args.engine.now in
    let p = c.args.ranks in
    let from = c.loop-from.from in
    let after = c.carry_from.new.engine in
    let more = runs_then e c.loop-from.engine after (carries p from) (carries_from from p) c.loop-from.invariant c.carry_from.ensures in
    subst (λ k. Runs e after (carries p k)) (sym (add-one from)) more

pub returns : goal.returns
returns g c =
    let last : c.loop-from.from ≡ c.args.ranks = omega (arith, c.loop-from-test.false, c.loop-from.auto.from-end) in
    subst (λ k. Runs c.args.engine.now c.loop-from.engine (carries c.args.ranks k)) last c.loop-from.invariant
