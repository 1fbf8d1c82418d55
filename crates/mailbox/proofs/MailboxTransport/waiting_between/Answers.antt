use Rattle.std.proofs.Common.{sym, ap, ◌∙◌}
use Rattle.transport.specs.Network.{value}
use Rattle.transport.proofs.Replies.{between_bad, between_good}
use Rattle.mailbox.specs.Matrix.{mailbox_network}
use Rattle.mailbox.specs.Slots.{is_free}
use Rattle.mailbox.proofs.Calls.{waiting_here}
use Rattle.mailbox.proofs.Searches.{found_in}
use Rattle.mailbox.proofs.MailboxTransport.waiting_between.Goals as goal

pub returns-then-not-is_among : goal.returns-then-not-is_among
returns-then-not-is_among c =
    let m = c.args.self.now in
    let n = mailbox_network m.ranks m.depth m.words.now in
    let a = c.args.pair.from in
    let b = c.args.pair.to in
    let e = sym c.if-not-is_among.ensures in
    sym (between_bad n a b e)

pub returns : goal.returns
returns c =
    let m = c.args.self.now in
    let n = mailbox_network m.ranks m.depth m.words.now in
    let a = c.args.pair.from in
    let b = c.args.pair.to in
    let e = sym c.if-not-is_among.ensures in
    ap value (c.unwrap_or.ensures ∙ sym (waiting_here m a b e c.first_free.result (found_in is_free c.row.result.now _ c.first_free.result c.row.ensures c.first_free.ensures))) ∙ sym (between_good n a b e)
