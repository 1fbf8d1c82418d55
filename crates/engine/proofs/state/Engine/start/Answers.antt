use Rattle.std.proofs.Common.{◌+◌, ◌*◌, ◌<◌, ◌≤◌, [], ◌∷◌, ◌++◌, length, sym, ap, ◌∙◌, ap₂, mul-le-mul_right, arith, rules}
use Rattle.std.proofs.lemmas.Option.{MatchOption-at_none}
use Rattle.std.proofs.lemmas.Result.{err_from_is_err_and}
use denote.Struct.Props.{props}
use Rattle.schedule.specs.Collective.{kind_of, root_of, Allowed}
use Rattle.machine.specs.Plain.{refused, crowds}
use Rattle.machine.proofs.Keep.{width_fits}
use Rattle.engine_parts.specs.Inputs.{padded, inputs_of, blocks_read}
use Rattle.jobs.specs.Tables.{pending_jobs, first_job}
use Rattle.engine.specs.Abs.{plain}
use Rattle.engine.specs.Answers.{start_answer, start_refusal}
use Rattle.engine.proofs.Onward.{known, stays_sound}
use Rattle.engine.proofs.Starting.{ranks_few, rooted_in, unfit_step, root_step, length-step, block_step, four_step, crowded_step, spent_step, starts}
use Rattle.engine.proofs.state.Engine.start.Goals as goal

pub returns-then-not-is_fit : goal.returns-then-not-is_fit
returns-then-not-is_fit g c = record {
  step = λ o h. (h, unfit_step c.args.self.now o h c.args.job c.args.words.now (c.if-not-is_fit.ensures o h));
  numbered = tt;
}

pub returns-in_default : goal.returns-in_default
returns-in_default g c =
    let e = c.args.self.now in
    let k = c.args.job in
    let bad : Allowed k c.ranks-ranks.result → ⊥ = MatchOption-at_none _ _ c.in_default.is c.new.ensures.is in
    record {
      step = λ o h. (h, root_step e o h k c.args.words.now (c.if-not-is_fit.ensures o h) (λ l. bad (omega (arith, c.ranks-ranks.ensures), omega (arith, c.ranks-ranks.ensures, ranks_few e))));
      numbered = tt;
    }

pub overflow_mul-ranks : goal.overflow_mul-ranks
overflow_mul-ranks g c =
    let e = c.args.self.now in
    let narrow : (g.O.Operation.meaning e.operation).width ≤ 6 = known e (hlevel props) (λ o h. width_fits (plain o e) (sym (c.if-not-is_fit.ensures o h))) in
    let low : c.ranks-ranks.result ≤ 64 = omega (arith, c.ranks-ranks.ensures, ranks_few e) in
    omega (arith, mul-le-mul_right c.width.result low, narrow, c.width.ensures)

pub returns-then-words-ranks : goal.returns-then-words-ranks
returns-then-words-ranks g c =
    let e = c.args.self.now in
    let k = c.args.job in
    let rooted = rooted_in c.in-Some.schedule c.in-Some.ensures.is.0 (c.in-Some.ensures.is.1 ∙ c.ranks-ranks.ensures) in
    record {
      step = λ o h. (h, length-step e o h k c.args.words.now (c.if-not-is_fit.ensures o h) rooted (λ l. c.if-words-ranks.true (l ∙ sym (ap₂ ◌*◌ c.ranks-ranks.ensures c.width.ensures))));
      numbered = tt;
    }

pub read_inputs-requires : goal.read_inputs-requires
read_inputs-requires g c =
    (search rules, (omega (arith, c.ranks-ranks.ensures, ranks_few c.args.self.now), c.if-words-ranks.false ∙ ap (λ w. c.ranks-ranks.result * w) c.width.ensures))

pub returns-in_err-inputs : goal.returns-in_err-inputs
returns-in_err-inputs g c =
    let e = c.args.self.now in
    let m = g.O.Operation.meaning e.operation in
    let k = c.args.job in
    let ws = c.args.words.now in
    let rooted = rooted_in c.in-Some.schedule c.in-Some.ensures.is.0 (c.in-Some.ensures.is.1 ∙ c.ranks-ranks.ensures) in
    let full = c.if-words-ranks.false ∙ ap₂ ◌*◌ c.ranks-ranks.ensures c.width.ensures in
    let b = c.in_err-inputs.field-0.0 in
    let q = err_from_is_err_and c.from_residual.result c.from_residual.ensures.1 in
    let answer = ap start_answer q.1 ∙ ap (λ f. refused (start_refusal f)) q.2 in
    record {
      step = λ o h. (
        h,
        ap (λ a. (a, plain o e)) answer ∙ block_step e o h k ws (c.if-not-is_fit.ensures o h) rooted full b (c.in_err-inputs.ensures ∙ ap (λ n. padded m n (inputs_of 0 (blocks_read m n ws))) c.ranks-ranks.ensures),
      );
      numbered = rw q.1 tt;
    }

pub returns-then-len-ge-MAX_PENDING : goal.returns-then-len-ge-MAX_PENDING
returns-then-len-ge-MAX_PENDING g c =
    let e = c.args.self.now in
    let m = g.O.Operation.meaning e.operation in
    let k = c.args.job in
    let ws = c.args.words.now in
    let rooted = rooted_in c.in-Some.schedule c.in-Some.ensures.is.0 (c.in-Some.ensures.is.1 ∙ c.ranks-ranks.ensures) in
    let full = c.if-words-ranks.false ∙ ap₂ ◌*◌ c.ranks-ranks.ensures c.width.ensures in
    let read = c.in_ok-inputs.ensures ∙ ap (λ n. padded m n (inputs_of 0 (blocks_read m n ws))) c.ranks-ranks.ensures in
    record {
      step = λ o h. (h, four_step e o h k ws (c.if-not-is_fit.ensures o h) rooted full c.in_ok-inputs.inputs read (omega (arith, c.len.ensures, c.if-len-ge-MAX_PENDING.true)));
      numbered = tt;
    }

pub returns-then-is_crowded : goal.returns-then-is_crowded
returns-then-is_crowded g c =
    let e = c.args.self.now in
    let m = g.O.Operation.meaning e.operation in
    let k = c.args.job in
    let ws = c.args.words.now in
    let same = c.in-Some.ensures.is.0 in
    let rooted = rooted_in c.in-Some.schedule same (c.in-Some.ensures.is.1 ∙ c.ranks-ranks.ensures) in
    let full = c.if-words-ranks.false ∙ ap₂ ◌*◌ c.ranks-ranks.ensures c.width.ensures in
    let read = c.in_ok-inputs.ensures ∙ ap (λ n. padded m n (inputs_of 0 (blocks_read m n ws))) c.ranks-ranks.ensures in
    let few : length (pending_jobs e.jobs) < 4 = omega (arith, c.len.ensures, c.if-len-ge-MAX_PENDING.false) in
    record {
      step = λ o h. (
        h,
        crowded_step e o h k ws (c.if-not-is_fit.ensures o h) rooted full c.in_ok-inputs.inputs read few (c.if-is_crowded.ensures o h ∙ ap (λ d. crowds (plain o e) (kind_of d) (root_of d)) same),
      );
      numbered = tt;
    }

pub returns-then-self-ge-MAX_STARTED : goal.returns-then-self-ge-MAX_STARTED
returns-then-self-ge-MAX_STARTED g c =
    let e = c.args.self.now in
    let m = g.O.Operation.meaning e.operation in
    let k = c.args.job in
    let ws = c.args.words.now in
    let same = c.in-Some.ensures.is.0 in
    let rooted = rooted_in c.in-Some.schedule same (c.in-Some.ensures.is.1 ∙ c.ranks-ranks.ensures) in
    let full = c.if-words-ranks.false ∙ ap₂ ◌*◌ c.ranks-ranks.ensures c.width.ensures in
    let read = c.in_ok-inputs.ensures ∙ ap (λ n. padded m n (inputs_of 0 (blocks_read m n ws))) c.ranks-ranks.ensures in
    let few : length (pending_jobs e.jobs) < 4 = omega (arith, c.len.ensures, c.if-len-ge-MAX_PENDING.false) in
    record {
      step = λ o h. (
        h,
        spent_step e o h k ws (c.if-not-is_fit.ensures o h) rooted full c.in_ok-inputs.inputs read few (c.if-is_crowded.ensures o h ∙ ap (λ d. crowds (plain o e) (kind_of d) (root_of d)) same) c.if-self-ge-MAX_STARTED.true,
      );
      numbered = tt;
    }

pub invariant_of-self-5 : goal.invariant_of-self-5
invariant_of-self-5 g c =
    let e = c.args.self.now in
    let m = g.O.Operation.meaning e.operation in
    let k = c.args.job in
    let ws = c.args.words.now in
    let same = c.in-Some.ensures.is.0 in
    let among = c.in-Some.ensures.is.1 ∙ c.ranks-ranks.ensures in
    let schedule = c.in-Some.schedule in
    let full = c.if-words-ranks.false ∙ ap₂ ◌*◌ c.ranks-ranks.ensures c.width.ensures in
    let xs = c.in_ok-inputs.inputs in
    let read = c.in_ok-inputs.ensures ∙ ap (λ n. padded m n (inputs_of 0 (blocks_read m n ws))) c.ranks-ranks.ensures in
    let few : length (pending_jobs e.jobs) < 4 = omega (arith, c.len.ensures, c.if-len-ge-MAX_PENDING.false) in
    let left : e.started < 65535 = omega (arith, c.if-self-ge-MAX_STARTED.false) in
    let pushed = c.push.ensures ∙ ap (λ j. pending_jobs e.jobs ++ (j ∷ [])) (c.new-2.ensures ∙ ap (first_job (e.started + 1) schedule xs) c.unit.ensures) in
    let steps = starts e k ws c.if-not-is_fit.ensures (rooted_in schedule same among) full xs read few
    (λ o h. c.if-is_crowded.ensures o h ∙ ap (λ d. crowds (plain o e) (kind_of d) (root_of d)) same) left schedule same among (pending_jobs c.push.new.self) pushed in
    record { sound = stays_sound e (λ o h. (steps o h).0) }

pub returns : goal.returns
returns g c =
    let e = c.args.self.now in
    let m = g.O.Operation.meaning e.operation in
    let k = c.args.job in
    let ws = c.args.words.now in
    let same = c.in-Some.ensures.is.0 in
    let among = c.in-Some.ensures.is.1 ∙ c.ranks-ranks.ensures in
    let schedule = c.in-Some.schedule in
    let full = c.if-words-ranks.false ∙ ap₂ ◌*◌ c.ranks-ranks.ensures c.width.ensures in
    let xs = c.in_ok-inputs.inputs in
    let read = c.in_ok-inputs.ensures ∙ ap (λ n. padded m n (inputs_of 0 (blocks_read m n ws))) c.ranks-ranks.ensures in
    let few : length (pending_jobs e.jobs) < 4 = omega (arith, c.len.ensures, c.if-len-ge-MAX_PENDING.false) in
    let left : e.started < 65535 = omega (arith, c.if-self-ge-MAX_STARTED.false) in
    let pushed = c.push.ensures ∙ ap (λ j. pending_jobs e.jobs ++ (j ∷ [])) (c.new-2.ensures ∙ ap (first_job (e.started + 1) schedule xs) c.unit.ensures) in
    let steps = starts e k ws c.if-not-is_fit.ensures (rooted_in schedule same among) full xs read few
    (λ o h. c.if-is_crowded.ensures o h ∙ ap (λ d. crowds (plain o e) (kind_of d) (root_of d)) same) left schedule same among (pending_jobs c.push.new.self) pushed in
    record { step = steps; numbered = omega arith }
