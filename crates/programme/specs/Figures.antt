-- Rounds and messages at a few numbers of ranks.
use Rattle.std.specs.Prelude.{◌≡◌}
use Rattle.programme.specs.declared.Kind.{Kind}
use Rattle.programme.specs.declared.Kind.TheVariants.{Reduce, Scan, Allreduce}
use Rattle.programme.specs.Formula.{rounds, messages}

-- each line has the rounds and the messages
pub record Figures : Type 0 where
  pub reduce_of_six : (rounds Reduce 6 4 ≡ 4) × (messages Reduce 6 4 ≡ 6)
  pub allreduce_of_six : (rounds Allreduce 6 0 ≡ 4) × (messages Allreduce 6 0 ≡ 12)
  pub scan_of_five : (rounds Scan 5 0 ≡ 3) × (messages Scan 5 0 ≡ 8)
  pub scan_of_many : (rounds Scan 64 0 ≡ 6) × (messages Scan 64 0 ≡ 321)
  -- one rank has nothing to do
  pub alone : (kind : Kind) → (rounds kind 1 0 ≡ 0) × (messages kind 1 0 ≡ 0)
