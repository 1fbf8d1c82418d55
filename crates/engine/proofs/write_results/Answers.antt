use Rattle.std.proofs.Common.{◌≡◌, ◌+◌, ◌*◌, ◌<◌, ◌≤◌, [], ◌∷◌, ◌++◌, drop, sym, ap, ◌∙◌, subst, mul-le-mul_right, add-one, arith}
use Rattle.machine.specs.Job.{listed}
use Rattle.machine.specs.Sound.{Proper}
use Rattle.machine.proofs.Finish.{length-listed}
use Rattle.engine_parts.specs.Outputs.{packed, block_over}
use Rattle.engine_parts.proofs.Blocks.{packed_push, packed_all}
use Rattle.jobs.specs.declared.job.RankState.{RankState}
use Rattle.jobs.specs.Tables.{result_at, result_count}
use Rattle.engine.proofs.Results.{all_listed, listed_at}
use Rattle.engine.proofs.write_results.Goals as goal

pub write_block-requires : goal.write_block-requires
write_block-requires g c =
    let m = g.O.Operation.meaning c.args.operation.now in
    let j = c.args.job.now in
    let x = c.result.result in
    let i = c.loop-index.index in
    let n = result_count j.schedule.collective j.schedule.ranks in
    let below : i < n = omega (arith, c.loop-index-test.true, c.result_count-index-end.ensures) in
    let d : RankState g.row.O-Element.Denot = record { done = 0; value = x; prefix = x; arrival = 0; departure = 0 } in
    let more : i + 1 ≤ n = omega arith in
    record {
      narrow = c.requires.narrow;
      proper = subst (Proper m) (sym (c.result.ensures d)) (listed_at (Proper m) (result_at j d) n (c.requires.proper d) i below);
      room = omega (arith, mul-le-mul_right m.width more, c.requires.room, c.loop-index.auto.words);
    }

pub loop-index-preserved : goal.loop-index-preserved
loop-index-preserved g c = λ d.
    let o = c.args.operation.now in
    let m = g.O.Operation.meaning o in
    let j = c.args.job.now in
    let x = c.result.result in
    let i = c.loop-index.index in
    let ws = c.args.words.now in
    let n = result_count j.schedule.collective j.schedule.ranks in
    let below : i < n = omega (arith, c.loop-index-test.true, c.result_count-index-end.ensures) in
    let f = result_at j d in
    let all = all_listed (Proper m) f i (λ k lt. listed_at (Proper m) f n (c.requires.proper d) k (omega arith)) in
    c.write_block.ensures
    ∙ ap (block_over m x i) (c.loop-index.invariant d)
    ∙ packed_push m (g.met.O.Operation.packing o c.requires.narrow) (listed f i) all x i (length-listed f i) ws
    ∙ ap (λ y. packed m (listed f i ++ (y ∷ [])) ++ drop ((i + 1) * m.width) ws) (c.result.ensures d)
    ∙ ap (λ k. packed m (listed f k) ++ drop ((i + 1) * m.width) ws) (sym (add-one i))

pub returns : goal.returns
returns g c = λ d.
    let o = c.args.operation.now in
    let m = g.O.Operation.meaning o in
    let j = c.args.job.now in
    let i = c.loop-index.index in
    let ws = c.args.words.now in
    let n = result_count j.schedule.collective j.schedule.ranks in
    let f = result_at j d in
    let last : i ≡ n = omega (arith, c.loop-index-test.false, c.loop-index.auto.index-end, c.result_count-index-end.ensures) in
    c.loop-index.invariant d
    ∙ ap (λ k. packed m (listed f k) ++ drop (k * m.width) ws) last
    ∙ packed_all m (g.met.O.Operation.packing o c.requires.narrow) (listed f n) (c.requires.proper d) n (length-listed f n) ws
