-- The actions of a rank in an allreduce, by what it does there.
use Rattle.std.specs.Prelude.{List}
use Rattle.programme.specs.declared.Action.{Action}
use Rattle.programme.specs.Programme.{exchange}
use Rattle.schedule.specs.declared.allreduce.Allreduce.{Allreduce}
use Rattle.schedule.specs.declared.allreduce.Allreduce.TheVariants.{Alone, HandsIn, ForTwo}
use Rattle.schedule.specs.Part.{handed_in, for_two}

abbrev pub actions_of : Allreduce → List Action
actions_of (Alone e) = exchange e.ranks e.number
actions_of (HandsIn other) = handed_in other
actions_of (ForTwo other e) = for_two other e.ranks e.number
