-- The programmes and the messages, both by computation.
use Rattle.std.proofs.Common.{refl}
use Rattle.programme.specs.Levels.{levels, floor_log, surplus}
use Rattle.programme.specs.Programme.{steps, broadcast, gather, fold_step, reduce, scan_step, scan, exscan, exchange_step, exchange, allreduce}
use Rattle.schedule_tests.specs.Messages.{Agrees}

pub agrees : Agrees
unfolding levels floor_log surplus steps broadcast gather fold_step reduce scan_step scan exscan exchange_step exchange allreduce
agrees = refl
