use Rattle.std.proofs.Common.{◌*◌, ◌<◌, ◌≤◌, length, sym, refl, ◌∙◌, subst, ap₂, mul-le-mul_right, arith, rules}
use denote.Struct.Props.{props}
use Rattle.jobs.specs.Tables.{pending_jobs, result_count}
use Rattle.engine.proofs.Onward.{known, stays_sound}
use Rattle.engine.proofs.Shown.{place_within, narrow}
use Rattle.engine.proofs.Ending.{no_job_ended, unfinished_step, too_few_step, results_proper, count_few, ends}
use Rattle.engine.proofs.state.Engine.end.Goals as goal

pub returns-in_default : goal.returns-in_default
returns-in_default g c = record {
  step = λ o h. (h, no_job_ended c.args.self.now c.args.token c.args.words.now (sym c.find.ensures ∙ c.in_default.is) o);
  refused = (refl, refl);
}

pub job-job-requires : goal.job-job-requires
job-job-requires g c = (search rules, (search rules, place_within c.args.self.now c.args.token c.in-Some.place (sym c.find.ensures ∙ c.in-Some.is)))

pub returns-then-idle_ranks-ranks : goal.returns-then-idle_ranks-ranks
returns-then-idle_ranks-ranks g c =
    let at = sym c.find.ensures ∙ c.in-Some.is in
    record {
      step = λ o h. (
        h,
        unfinished_step c.args.self.now c.args.token c.args.words.now c.in-Some.place at c.job-job.result.now c.job-job.ensures c.idle_ranks.result c.idle_ranks.ensures o h (λ q. c.if-idle_ranks-ranks.true (q ∙ sym c.ranks.ensures)),
      );
      refused = (refl, refl);
    }

pub overflow_mul-result_count : goal.overflow_mul-result_count
overflow_mul-result_count g c =
    let s = c.job-job.result.now.schedule in
    let thin : c.width.result ≤ 6 = omega (arith, c.width.ensures, known c.args.self.now (hlevel props) (narrow c.args.self.now c.args.token c.in-Some.place (sym c.find.ensures ∙ c.in-Some.is))) in
    let low : c.result_count.result ≤ 64 = omega (arith, c.result_count.ensures, count_few s.collective s.ranks s.allowed) in
    omega (arith, mul-le-mul_right c.width.result low, thin)

pub returns-then-words-result_count : goal.returns-then-words-result_count
returns-then-words-result_count g c =
    let e = c.args.self.now in
    let ws = c.args.words.now in
    let at = sym c.find.ensures ∙ c.in-Some.is in
    let j = c.job-job.result.now in
    let short : length ws < result_count j.schedule.collective j.schedule.ranks * (g.O.Operation.meaning e.operation).width
    = subst (λ n. length ws < n) (ap₂ ◌*◌ c.result_count.ensures c.width.ensures) c.if-words-result_count.true in
    record {
      step = λ o h. (
        h,
        too_few_step e c.args.token ws c.in-Some.place at j c.job-job.ensures c.idle_ranks.result c.idle_ranks.ensures o h (c.if-idle_ranks-ranks.false ∙ c.ranks.ensures) short,
      );
      refused = (refl, refl);
    }

pub write_results-requires : goal.write_results-requires
write_results-requires g c =
    let e = c.args.self.now in
    let t = c.args.token in
    let ws = c.args.words.now in
    let at = sym c.find.ensures ∙ c.in-Some.is in
    let j = c.job-job.result.now in
    let done = c.if-idle_ranks-ranks.false ∙ c.ranks.ensures in
    let room : result_count j.schedule.collective j.schedule.ranks * (g.O.Operation.meaning e.operation).width ≤ length ws
    = subst (λ n. n ≤ length ws) (ap₂ ◌*◌ c.result_count.ensures c.width.ensures) c.if-words-result_count.false in (
      search rules,
      (
        known e (hlevel props) (narrow e t c.in-Some.place at),
        (results_proper e t ws c.in-Some.place at j c.job-job.ensures c.idle_ranks.result c.idle_ranks.ensures done, room),
      ),
    )

pub remove-requires : goal.remove-requires
remove-requires g c = (search rules, place_within c.args.self.now c.args.token c.in-Some.place (sym c.find.ensures ∙ c.in-Some.is))

pub invariant_of-self-2 : goal.invariant_of-self-2
invariant_of-self-2 g c =
    let e = c.args.self.now in
    let ws = c.args.words.now in
    let at = sym c.find.ensures ∙ c.in-Some.is in
    let j = c.job-job.result.now in
    let room : result_count j.schedule.collective j.schedule.ranks * (g.O.Operation.meaning e.operation).width ≤ length ws
    = subst (λ n. n ≤ length ws) (ap₂ ◌*◌ c.result_count.ensures c.width.ensures) c.if-words-result_count.false in
    let steps = ends e c.args.token ws c.in-Some.place at j c.job-job.ensures c.idle_ranks.result c.idle_ranks.ensures (c.if-idle_ranks-ranks.false ∙ c.ranks.ensures) room
    c.rounds.result c.rounds.ensures c.sent.result c.sent.ensures c.write_results.new.words c.write_results.ensures (pending_jobs c.remove.new.self) c.remove.ensures in
    record { sound = stays_sound e (λ o h. (steps o h).0) }

pub returns : goal.returns
returns g c =
    let e = c.args.self.now in
    let ws = c.args.words.now in
    let at = sym c.find.ensures ∙ c.in-Some.is in
    let j = c.job-job.result.now in
    let room : result_count j.schedule.collective j.schedule.ranks * (g.O.Operation.meaning e.operation).width ≤ length ws
    = subst (λ n. n ≤ length ws) (ap₂ ◌*◌ c.result_count.ensures c.width.ensures) c.if-words-result_count.false in
    let steps = ends e c.args.token ws c.in-Some.place at j c.job-job.ensures c.idle_ranks.result c.idle_ranks.ensures (c.if-idle_ranks-ranks.false ∙ c.ranks.ensures) room
    c.rounds.result c.rounds.ensures c.sent.result c.sent.ensures c.write_results.new.words c.write_results.ensures (pending_jobs c.remove.new.self) c.remove.ensures in
    record { step = steps; refused = tt }
