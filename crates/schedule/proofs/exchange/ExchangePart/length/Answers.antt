use Rattle.std.proofs.Common.{arith}
use Rattle.schedule.proofs.exchange.ExchangePart.length.Goals as goal
use Rattle.schedule.proofs.Exchanges.{length-exchange}

pub returns : goal.returns
returns c = omega (arith, length-exchange c.args.self.ranks c.args.self.number)
