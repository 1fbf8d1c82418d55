use Rattle.std.proofs.Common.{◌≡◌, ◌<◌, None, Some, Err, ok_or, sym, refl, ap, ◌∙◌, arith, rules}
use Rattle.std.proofs.lemmas.Bool.{ltb-true, ltb-false}
use Rattle.std.proofs.lemmas.Result.{err_from_is_err_and}
use denote.Struct.Props.{props}
use Rattle.engine.specs.declared.answer.TurnFault.TheVariants.{UnknownJob}
use Rattle.engine.specs.Abs.{plain}
use Rattle.engine.specs.Answers.{turn_answer}
use Rattle.programme.specs.declared.Action.TheVariants.{Send, Take}
use Rattle.engine.proofs.Onward.{known}
use Rattle.engine.proofs.Shown.{place_within}
use Rattle.engine.proofs.Turning.{schedule_ranks}
use Rattle.engine.proofs.Situation.{no_job_step, bad_rank_step, due_from, through_step}
use Rattle.engine.proofs.state.Engine.turn.Goals as goal

pub returns-in_err-place : goal.returns-in_err-place
returns-in_err-place g c = λ o h.
    let e = c.args.self.now in
    let absent = c.in_err-place.ensures.ok_part in
    let fault : Err c.in_err-place.field-0.0 ≡ ok_or None UnknownJob = c.in_err-place.ensures.value ∙ ap (λ i. ok_or i UnknownJob) absent in
    let same : c.in_err-place.field-0.0 ≡ UnknownJob = cc in
    let q = err_from_is_err_and c.from_residual.result c.from_residual.ensures.1 in
    (h, ap (λ r. (turn_answer r, plain o e)) (q.1 ∙ ap Err (q.2 ∙ same)) ∙ no_job_step e c.args.token.now c.args.rank (sym c.find.ensures ∙ absent) o)

pub returns-then-not-has_rank : goal.returns-then-not-has_rank
returns-then-not-has_rank g c = λ o h. (
  h,
  bad_rank_step c.args.self.now c.args.token.now c.args.rank c.in_ok-place.place (sym c.find.ensures ∙ c.in_ok-place.ensures.ok_part) (ltb-false c.args.rank _ (sym c.if-not-has_rank.ensures)) o,
)

pub job-requires : goal.job-requires
job-requires g c = (search rules, (search rules, place_within c.args.self.now c.args.token.now c.in_ok-place.place (sym c.find.ensures ∙ c.in_ok-place.ensures.ok_part)))

pub next_action-requires : goal.next_action-requires
next_action-requires g c =
    let e = c.args.self.now in
    let below : c.args.rank < (g.T.Transport.meaning e.transport).ranks = ltb-true c.args.rank _ (sym c.if-not-has_rank.ensures) in
    (search rules, known e (hlevel props) (λ o h. omega (arith, below, schedule_ranks e c.args.token.now c.in_ok-place.place (sym c.find.ensures ∙ c.in_ok-place.ensures.ok_part) c.job.result.now c.job.ensures o h)))

pub send-requires : goal.send-requires
send-requires g c =
    let arm = c.in-Send in
    let act = c.in-Some in
    let below = ltb-true c.args.rank _ (sym c.if-not-has_rank.ensures) in (
      search rules,
      due_from c.args.self.now c.args.token.now c.args.rank c.in_ok-place.place (sym c.find.ensures ∙ c.in_ok-place.ensures.ok_part) c.job.result.now c.job.ensures (Send arm.to arm.label) below
          (λ s. ap Some (sym arm.is) ∙ act.ensures.here s) (act.ensures.few refl),
    )

pub take-requires : goal.take-requires
take-requires g c =
    let arm = c.in-Take in
    let act = c.in-Some in
    let below = ltb-true c.args.rank _ (sym c.if-not-has_rank.ensures) in (
      search rules,
      due_from c.args.self.now c.args.token.now c.args.rank c.in_ok-place.place (sym c.find.ensures ∙ c.in_ok-place.ensures.ok_part) c.job.result.now c.job.ensures (Take arm.from arm.label arm.merge) below
          (λ s. ap Some (sym arm.is) ∙ act.ensures.here s) (act.ensures.few refl),
    )

pub returns-in_default : goal.returns-in_default
returns-in_default g c = λ o h. (
  h,
  through_step c.args.self.now c.args.token.now c.args.rank c.in_ok-place.place (sym c.find.ensures ∙ c.in_ok-place.ensures.ok_part) c.job.result.now c.job.ensures (ltb-true c.args.rank _ (sym c.if-not-has_rank.ensures))
      (λ s. sym c.in_default.is ∙ c.next_action.ensures.here s) o h,
)
