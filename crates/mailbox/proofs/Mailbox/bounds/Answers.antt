use Rattle.std.proofs.Common.{arith}
use Rattle.mailbox.proofs.Calls.{within}
use Rattle.mailbox.proofs.Mailbox.bounds.Goals as goal

pub returns-clause-inside : goal.returns-clause-inside
returns-clause-inside c = omega (arith, within c.args.self.now c.args.pair.from c.args.pair.to c.requires, c.first_slot-first.ensures)
