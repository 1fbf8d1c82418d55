use Rattle.std.proofs.Common.{◌≡◌, map, take}
use Rattle.jobs.specs.Tables.{first_state}
use Rattle.jobs.proofs.hold_inputs.Given as goal

abbrev pub invariant-loop-rank : goal.invariant-loop-rank
invariant-loop-rank g l = take l.rank l.states ≡ map (first_state l.unit) (take l.rank l.inputs)
