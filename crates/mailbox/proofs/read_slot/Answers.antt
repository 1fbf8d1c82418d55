use Rattle.std.proofs.Common.{sym, ◌∙◌}
use Rattle.mailbox.proofs.Words.{slot_there}
use Rattle.mailbox.proofs.read_slot.Goals as goal

pub returns : goal.returns
returns c = λ other. slot_there c.args.place c.args.row.now other c.requires ∙ sym c.read.ensures
