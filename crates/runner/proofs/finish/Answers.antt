use Rattle.std.proofs.Common.{[], ◌∷◌, subst}
use Rattle.machine.specs.Call.{end, abandon, ended, refused}
use Rattle.engine.specs.declared.token.Token.{Token}
use Rattle.engine.specs.Abs.{Steps}
use Rattle.engine.specs.Answers.{end_refusal, abandon_answer}
use Rattle.runner.proofs.Running.{runs_then}
use Rattle.runner.proofs.Completing.{told_step, runs_one}
use Rattle.runner.proofs.finish.Goals as goal

pub returns-in-Ok : goal.returns-in-Ok
returns-in-Ok g c =
    let e = c.args.engine.now in
    let last = c.end.new.self in
    let call = end c.args.token.name c.args.token.number c.args.out.now in
    let answer = ended c.end.new.words c.in-Ok.tally.rounds c.in-Ok.tally.messages in
    let step = c.in-Ok.ensures.step in
    record {
      did = record { told = told_step e last call answer step; runs = runs_one e last call answer step };
      refused = tt;
    }

pub returns-in-Err : goal.returns-in-Err
returns-in-Err g c =
    let e = c.args.engine.now in
    let token = c.args.token in
    let mid = c.end.new.self in
    let last = c.abandon.new.self in
    let call = end token.name token.number c.args.out.now in
    let answer = refused (end_refusal c.in-Err.fault) in
    let step = c.in-Err.ensures.step in
    let given = abandon_answer c.abandon.result in
    let left = subst (λ (t : Token). Steps mid last (abandon t.name t.number) given) c.in-Err.ensures.refused.0 c.abandon.ensures in
    let gone = abandon token.name token.number in
    record {
      did = record {
        told = told_step e mid call answer step;
        runs = runs_then e mid last (call ∷ []) (gone ∷ []) (runs_one e mid call answer step) (runs_one mid last gone given left);
      };
      refused = c.in-Err.ensures.refused.1;
    }
