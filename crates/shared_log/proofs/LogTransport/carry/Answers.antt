use Rattle.std.proofs.Common.{rules}
use Rattle.shared_log.proofs.Calls.{log_moved, log_carried, log_carried_sound}
use Rattle.shared_log.proofs.LogTransport.carry.Goals as goal

pub returns-in-Some : goal.returns-in-Some
returns-in-Some c = record { answer = search (rules, log_moved); after = search (rules, log_carried) }

pub invariant_of-self : goal.invariant_of-self
invariant_of-self c = search (rules, log_carried_sound)
