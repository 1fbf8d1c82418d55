use Rattle.std.proofs.Common.{◌≡◌}
use Rattle.ranks.specs.Ranks.{greatest_below}
use Rattle.jobs.specs.declared.job.RankState.{RankState}
use Rattle.jobs.specs.Tables.{arrival_at}
use Rattle.jobs.proofs.job.Job.rounds.Given as goal

abbrev pub invariant-loop-rank : goal.invariant-loop-rank
invariant-loop-rank g l = (d : RankState g.row.E.Denot) → l.rounds ≡ greatest_below (arrival_at l.self d) l.rank
