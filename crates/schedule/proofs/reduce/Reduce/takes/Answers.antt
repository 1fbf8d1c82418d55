use Rattle.std.proofs.Common.{arith}
use Rattle.schedule.proofs.reduce.Reduce.takes.Goals as goal
use Rattle.schedule.proofs.Trees.{takes_are}

pub returns-clause-is : goal.returns-clause-is
returns-clause-is c =
    let m = c.args.self.member in
    let b = c.lowest_bit.ensures in
    omega (arith, takes_are m.ranks m.rank m.within c.lowest_bit.result (λ e. omega (arith, b.none e)) b.below b.here)
