use Rattle.std.proofs.Common.{◌+◌, ◌*◌, ◌≤◌, sym, subst, arith}
use Rattle.std.proofs.lemmas.Result.{err_from_is_err_and}
use Rattle.engine_parts.proofs.Blocks.{within, reading_more, reading_refused, reading_all}
use Rattle.engine_parts.proofs.inputs.read_inputs.Goals as goal

pub read_block-requires : goal.read_block-requires
read_block-requires g c =
    let m = g.O.Operation.meaning c.args.op.now in
    subst (λ k. (c.loop-rank.rank + 1) * m.width ≤ k) (sym c.requires.full) (within c.loop-rank.rank c.args.ranks m.width c.loop-rank-test.true)

pub returns-in_err-inputs : goal.returns-in_err-inputs
returns-in_err-inputs g c =
    let p = err_from_is_err_and c.from_residual.result c.from_residual.ensures.1 in
    rw (p.1, p.2)
    (reading_refused (g.O.Operation.meaning c.args.op.now) c.args.ranks c.args.words.now c.loop-rank.rank c.loop-rank.inputs c.loop-rank.invariant
    c.in_err-inputs.field-0.0 c.loop-rank-test.true c.in_err-inputs.ensures)

pub loop-rank-preserved : goal.loop-rank-preserved
loop-rank-preserved g c =
    let m = g.O.Operation.meaning c.args.op.now in
    let r = c.loop-rank.rank in
    reading_more m c.args.ranks c.args.words.now r c.loop-rank.inputs c.loop-rank.invariant c.in_ok-inputs.field-0
    c.loop-rank-test.true (omega (arith, c.loop-rank-test.true, c.requires.few)) c.in_ok-inputs.ensures

pub returns : goal.returns
returns g c =
    reading_all (g.O.Operation.meaning c.args.op.now) c.args.ranks c.args.words.now c.loop-rank.rank c.loop-rank.inputs c.loop-rank.invariant
    (omega (arith, c.loop-rank-test.false, c.loop-rank.auto.rank-end))
