use Rattle.std.proofs.Common.{◌≡◌, ◌≤◌}
use Rattle.jobs.specs.declared.job.RankState.{RankState}
use Rattle.jobs.specs.Tables.{idle_below}
use Rattle.jobs.proofs.job.Job.idle_ranks.Given as goal

abbrev pub invariant-loop-rank : goal.invariant-loop-rank
invariant-loop-rank g l = ((d : RankState g.row.E.Denot) → l.idle ≡ idle_below l.self d l.rank) × (l.idle ≤ l.rank)
