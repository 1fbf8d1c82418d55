use Rattle.std.proofs.Common.{[], ◌∷◌, Err, sym, refl, ap, ◌∙◌, subst}
use Rattle.std.proofs.lemmas.Result.{err_from_is_err_and}
use Rattle.machine.specs.Call.{abandon, ended, refused}
use Rattle.engine.specs.Answers.{end_refusal}
use Rattle.runner.specs.Complete.{Completes, Unwritten, Does}
use Rattle.runner.proofs.Completing.{driven, driven_completes}
use Rattle.runner.proofs.complete.Goals as goal

pub returns-in_err-token : goal.returns-in_err-token
returns-in_err-token g c =
    let e = c.args.engine.now in
    let job = c.args.job in
    let words = c.args.inputs.now in
    let lent = c.args.out.now in
    let q = err_from_is_err_and c.from_residual.result c.from_residual.ensures.1 in
    let is = q.1 ∙ ap Err q.2 in
    record {
      answered = subst (Completes e job words lent lent) (sym is) tt;
      refused = subst (λ r. Unwritten r lent lent) (sym is) refl;
      did = subst (Does e c.start.new.self job words lent lent c.args.budget) (sym is) c.in_err-token.ensures.step;
    }

pub returns-in_err-tally : goal.returns-in_err-tally
returns-in_err-tally g c =
    let e = c.args.engine.now in
    let job = c.args.job in
    let words = c.args.inputs.now in
    let lent = c.args.out.now in
    let out = c.finish.new.out in
    let last = c.finish.new.engine in
    let token = c.in_ok-token.token in
    let q = err_from_is_err_and c.from_residual-in_err-tally.result c.from_residual-in_err-tally.ensures.1 in
    let is = q.1 ∙ ap Err q.2 in
    let fault = c.in_err-tally.field-0.0 in
    let went =
    driven e c.start.new.self c.run.new.engine last job words lent c.args.budget token.name token.number c.run.result.sweeps c.run.result.finished
    (refused (end_refusal fault)) (λ name number. abandon name number ∷ []) c.in_ok-token.ensures.step c.run.ensures.did c.run.ensures.within
    c.run.ensures.stopped c.run.ensures.told c.in_err-tally.ensures.did in
    record {
      answered = subst (Completes e job words lent out) (sym is) tt;
      refused = subst (λ r. Unwritten r lent out) (sym is) c.in_err-tally.ensures.refused;
      did = subst (Does e last job words lent out c.args.budget) (sym is) went;
    }

pub returns : goal.returns
returns g c =
    let e = c.args.engine.now in
    let job = c.args.job in
    let words = c.args.inputs.now in
    let lent = c.args.out.now in
    let out = c.finish.new.out in
    let last = c.finish.new.engine in
    let token = c.in_ok-token.token in
    let tally = c.in_ok-tally.tally in
    let went =
    driven e c.start.new.self c.run.new.engine last job words lent c.args.budget token.name token.number c.run.result.sweeps c.run.result.finished
    (ended out tally.rounds tally.messages) (λ name number. []) c.in_ok-token.ensures.step c.run.ensures.did c.run.ensures.within
    c.run.ensures.stopped c.run.ensures.told c.in_ok-tally.ensures.did in
    record {
      answered = driven_completes e last job words lent out c.args.budget tally (λ name number. []) went;
      refused = tt;
      did = went;
    }
