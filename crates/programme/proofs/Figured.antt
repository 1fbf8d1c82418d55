-- The figures, by computation.
use Rattle.std.proofs.Common.{◌≡◌, refl}
use Rattle.programme.specs.declared.Kind.{Kind}
use Rattle.programme.specs.declared.Kind.TheVariants.{Broadcast, Gather, Reduce, Scan, Exscan, Allreduce}
use Rattle.programme.specs.Levels.{levels, floor_log, surplus}
use Rattle.programme.specs.Formula.{rounds, messages}
use Rattle.programme.specs.Figures.{Figures}

alone : (kind : Kind) → (rounds kind 1 0 ≡ 0) × (messages kind 1 0 ≡ 0)
unfolding levels floor_log surplus
alone Broadcast = (refl, refl)
alone Gather = (refl, refl)
alone Reduce = (refl, refl)
alone Scan = (refl, refl)
alone Exscan = (refl, refl)
alone Allreduce = (refl, refl)

pub figures : Figures
unfolding levels floor_log surplus
figures =
    record {
      reduce_of_six = (refl, refl);
      allreduce_of_six = (refl, refl);
      scan_of_five = (refl, refl);
      scan_of_many = (refl, refl);
      alone = alone;
    }
