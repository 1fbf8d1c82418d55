use Rattle.std.proofs.Common.{◌≡◌, ◌*◌, ◌++◌, drop}
use Rattle.machine.specs.Job.{listed}
use Rattle.engine_parts.specs.Outputs.{packed}
use Rattle.jobs.specs.declared.job.RankState.{RankState}
use Rattle.jobs.specs.Tables.{result_at}
use Rattle.engine.proofs.write_results.Given as goal

abbrev pub invariant-loop-index : goal.invariant-loop-index
invariant-loop-index g l =
    let m = g.O.Operation.meaning l.operation in
    (d : RankState g.row.O-Element.Denot) → l.words ≡ packed m (listed (result_at l.job d) l.index) ++ drop (l.index * m.width) l.initial.words
