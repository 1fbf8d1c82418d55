use Rattle.std.proofs.Common.{◌≡◌, ◌+◌}
use Rattle.std.specs.List.{copy_within}
use Rattle.jobs.proofs.table.Table.remove.Given as goal

abbrev pub invariant-loop-place : goal.invariant-loop-place
invariant-loop-place g l = (l.self.jobs ≡ copy_within l.initial.self.jobs (l.i + 1) (l.place + 1) l.i) × (l.self.pending ≡ l.initial.self.pending)
