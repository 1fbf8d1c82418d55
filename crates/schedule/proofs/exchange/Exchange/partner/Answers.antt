use Rattle.std.proofs.Common.{arith}
use Rattle.schedule.proofs.exchange.Exchange.partner.Goals as goal
use Rattle.schedule.proofs.Exchanges.{below_twice}

pub flipped-requires : goal.flipped-requires
flipped-requires c =
    let s = c.args.self in
    omega (arith, below_twice s.ranks s.number c.args.k s.some s.within (omega arith))

pub rank_of-requires : goal.rank_of-requires
rank_of-requires c =
    let s = c.args.self in
    omega (arith, below_twice s.ranks s.number c.args.k s.some s.within (omega arith))
