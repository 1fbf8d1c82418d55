use Rattle.std.proofs.Common.{arith}
use Rattle.schedule.proofs.powers.flipped.Goals as goal
use Rattle.schedule.proofs.Places.{place_fits, xor_flips}

pub power-requires : goal.power-requires
power-requires c = place_fits c.args.k (omega arith)

pub returns-clause-is : goal.returns-clause-is
returns-clause-is c = xor_flips c.args.n c.args.k c.power.result c.power.ensures
