use Rattle.std.proofs.Common.{arith}
use Rattle.std.proofs.lemmas.Bool.{eq-eqb}
use Rattle.std.proofs.lemmas.Nat.{trailing_le}
use Rattle.programme.proofs.Power.{levels_below}
use Rattle.schedule.proofs.powers.lowest_bit.Goals as goal
use Rattle.schedule.proofs.Places.{place_fits}
use Rattle.schedule.proofs.Trailing.{lowest, lowest_le, none, cleared}

pub returns : goal.returns
returns c = record {
  none = λ e. none c.args.n e;
  below = cleared c.args.n (omega arith);
  here = λ h. eq-eqb _ 1 (lowest 64 c.args.n h (omega arith)).here;
  power = λ h. levels_below _ _ (omega (arith, lowest_le c.args.n _ (lowest 64 c.args.n h (omega arith))));
  place = λ h. place_fits _ (omega (arith, lowest_le c.args.n _ (lowest 64 c.args.n h (omega arith))));
  within = trailing_le 64 c.args.n;
}
