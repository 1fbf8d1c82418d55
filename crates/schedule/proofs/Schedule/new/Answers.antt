use Rattle.std.proofs.Common.{refl, arith}
use Rattle.programme.proofs.Flowing.{flows}
use Rattle.schedule.proofs.Schedule.new.Goals as goal

pub returns-then-ranks-le-MAX_RANKS : goal.returns-then-ranks-le-MAX_RANKS
returns-then-ranks-le-MAX_RANKS c = record { flows = flows _ _ _ (omega arith); is = (refl, refl) }
