use Rattle.std.proofs.Common.{◌≡◌, sym, refl, ap, ◌∙◌, subst, add-one, arith}
use Rattle.machine.specs.Call.{look}
use Rattle.machine.specs.Plain.{step}
use Rattle.engine.specs.Abs.{plain}
use Rattle.runner.specs.Sweeps.{sweep, sweeps, tells_finished, Runs}
use Rattle.runner.proofs.Running.{runs_none, runs_then}
use Rattle.runner.proofs.run.Goals as goal

pub loop-sweeps-init : goal.loop-sweeps-init
loop-sweeps-init g c = runs_none c.args.engine.now

pub returns-then-is_finished : goal.returns-then-is_finished
returns-then-is_finished g c =
    let name = c.args.token.now.name in
    let number = c.args.token.now.number in
    record {
      did = c.loop-sweeps.invariant;
      within = omega (arith, c.loop-sweeps-test.true);
      stopped = λ _. refl;
      told = λ o h. c.if-is_finished.ensures o h ∙ ap (λ p. tells_finished p (step (plain o c.loop-sweeps.engine) (look name number)).0) c.ranks-ranks.ensures;
    }

pub loop-sweeps-preserved : goal.loop-sweeps-preserved
loop-sweeps-preserved g c =
    let e = c.args.engine.now in
    let name = c.args.token.now.name in
    let number = c.args.token.now.number in
    let p = (g.T.Transport.meaning e.transport).ranks in
    let n = c.loop-sweeps.sweeps in
    let after = c.sweep_once.new.engine in
    let swept = subst (λ q. Runs c.loop-sweeps.engine after (sweep name number q)) c.ranks-ranks.ensures c.sweep_once.ensures in
    let more = runs_then e c.loop-sweeps.engine after (sweeps name number p n) (sweep name number p) c.loop-sweeps.invariant swept in
    subst (λ k. Runs e after (sweeps name number p k)) (sym (add-one n)) more

pub returns : goal.returns
returns g c =
    let e = c.args.engine.now in
    let name = c.args.token.now.name in
    let number = c.args.token.now.number in
    let p = (g.T.Transport.meaning e.transport).ranks in
    let last : c.loop-sweeps.sweeps ≡ c.args.budget = omega (arith, c.loop-sweeps-test.false, c.loop-sweeps.auto.sweeps-end) in
    record {
      did = subst (λ k. Runs e c.loop-sweeps.engine (sweeps name number p k)) last c.loop-sweeps.invariant;
      within = omega arith;
      stopped = λ less. absurd (omega arith);
      told = λ o h. c.is_finished-2.ensures o h ∙ ap (λ q. tells_finished q (step (plain o c.loop-sweeps.engine) (look name number)).0) c.ranks-ranks.ensures;
    }
