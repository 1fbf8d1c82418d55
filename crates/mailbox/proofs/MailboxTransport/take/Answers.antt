use Rattle.std.proofs.Common.{◌≤◌, Some, None, sym, ap, ◌∙◌, subst}
use Rattle.transport.specs.Network.{value, word_count, written, oldest}
use Rattle.transport.proofs.Replies.{take_bad, after_take_bad, taken_bad, take_short, after_take_short, taken_short, take_none, after_take_none, taken_none, take_found, after_take_found, taken_found}
use Rattle.transport.proofs.Stored.{oldest_none}
use Rattle.mailbox.specs.Matrix.{mailbox_network}
use Rattle.mailbox.specs.Slots.{message_of, count_of, is_arrived, is_tagged}
use Rattle.mailbox.proofs.Calls.{idle, arrived_here, row_place, row_whole, row_read, tagged_small, tagged_oldest, matrix_taken, matrix_taken_sound}
use Rattle.mailbox.proofs.Searches.{found_in}
use Rattle.mailbox.proofs.MailboxTransport.take.Goals as goal

pub returns-then-not-is_among : goal.returns-then-not-is_among
returns-then-not-is_among c =
    let m = c.args.self.now in
    let n = mailbox_network m.ranks m.depth m.words.now in
    let a = c.args.pair.from in
    let b = c.args.pair.to in
    let e = sym c.if-not-is_among.ensures in
    record { answer = sym (take_bad n a b c.args.tag c.args.buffer.now e); words = sym (taken_bad n a b c.args.tag c.args.buffer.now e); after = sym (after_take_bad n a b c.args.tag c.args.buffer.now e) }

pub returns-then-buffer-lt-MESSAGE_LIMIT : goal.returns-then-buffer-lt-MESSAGE_LIMIT
returns-then-buffer-lt-MESSAGE_LIMIT c =
    let m = c.args.self.now in
    let n = mailbox_network m.ranks m.depth m.words.now in
    let a = c.args.pair.from in
    let b = c.args.pair.to in
    let e = sym c.if-not-is_among.ensures in
    let h = c.if-buffer-lt-MESSAGE_LIMIT.true in
    record { answer = sym (take_short n a b c.args.tag c.args.buffer.now e h); words = sym (taken_short n a b c.args.tag c.args.buffer.now e h); after = sym (after_take_short n a b c.args.tag c.args.buffer.now e h) }

pub returns-then-self-eq0 : goal.returns-then-self-eq0
returns-then-self-eq0 c =
    let m = c.args.self.now in
    let n = mailbox_network m.ranks m.depth m.words.now in
    let a = c.args.pair.from in
    let b = c.args.pair.to in
    let e = sym c.if-not-is_among.ensures in
    let h = c.if-buffer-lt-MESSAGE_LIMIT.false in
    let o = ap (oldest c.args.tag) (idle m c.if-self-eq0.true a b).1 in
    record { answer = sym (take_none n a b c.args.tag c.args.buffer.now e h o); words = sym (taken_none n a b c.args.tag c.args.buffer.now e h o); after = sym (after_take_none n a b c.args.tag c.args.buffer.now e h o) }

pub returns-in_default : goal.returns-in_default
returns-in_default c =
    let m = c.args.self.now in
    let n = mailbox_network m.ranks m.depth m.words.now in
    let a = c.args.pair.from in
    let b = c.args.pair.to in
    let e = sym c.if-not-is_among.ensures in
    let h = c.if-buffer-lt-MESSAGE_LIMIT.false in
    let o = ap (oldest c.args.tag) (arrived_here m a b e) ∙ oldest_none message_of is_arrived c.args.tag _ (found_in (is_tagged c.args.tag) c.row.result.now _ None c.row.ensures c.in_default.ensures) in
    record { answer = sym (take_none n a b c.args.tag c.args.buffer.now e h o); words = sym (taken_none n a b c.args.tag c.args.buffer.now e h o); after = sym (after_take_none n a b c.args.tag c.args.buffer.now e h o) }

pub read_slot-requires : goal.read_slot-requires
read_slot-requires c =
    let m = c.args.self.now in
    let a = c.args.pair.from in
    let b = c.args.pair.to in
    let e = sym c.if-not-is_among.ensures in
    let f = found_in (is_tagged c.args.tag) c.row.result.now _ (Some c.in-Some.place) c.row.ensures c.in-Some.ensures in
    row_place m a b e c.bounds-bounds.result.start c.bounds-bounds.result.end c.bounds-bounds.ensures.start c.bounds-bounds.ensures.end c.in-Some.place f.0

pub deliver-length-requires : goal.deliver-length-requires
deliver-length-requires c =
    let m = c.args.self.now in
    let n = mailbox_network m.ranks m.depth m.words.now in
    let a = c.args.pair.from in
    let b = c.args.pair.to in
    let e = sym c.if-not-is_among.ensures in
    let f = found_in (is_tagged c.args.tag) c.row.result.now _ (Some c.in-Some.place) c.row.ensures c.in-Some.ensures in
    let read = row_read m a b e c.bounds-bounds.result.start c.bounds-bounds.result.end c.bounds-bounds.ensures.start c.bounds-bounds.ensures.end c.in-Some.place c.read_slot.result c.read_slot.ensures in
    (subst (λ x. count_of x ≤ 2) read (tagged_small m a b e c.args.tag c.in-Some.place f.0 f.1 f.2), c.if-buffer-lt-MESSAGE_LIMIT.false)

pub remove-self-requires-clause-place : goal.remove-self-requires-clause-place
remove-self-requires-clause-place c =
    let m = c.args.self.now in
    let n = mailbox_network m.ranks m.depth m.words.now in
    let a = c.args.pair.from in
    let b = c.args.pair.to in
    let e = sym c.if-not-is_among.ensures in
    let f = found_in (is_tagged c.args.tag) c.row.result.now _ (Some c.in-Some.place) c.row.ensures c.in-Some.ensures in
    (row_place m a b e c.bounds-bounds.result.start c.bounds-bounds.result.end c.bounds-bounds.ensures.start c.bounds-bounds.ensures.end c.in-Some.place f.0, row_whole m a b e c.bounds-bounds.result.start c.bounds-bounds.result.end c.bounds-bounds.ensures.start c.bounds-bounds.ensures.end)

pub invariant_of-self : goal.invariant_of-self
invariant_of-self c =
    let m = c.args.self.now in
    let n = mailbox_network m.ranks m.depth m.words.now in
    let a = c.args.pair.from in
    let b = c.args.pair.to in
    let e = sym c.if-not-is_among.ensures in
    let f = found_in (is_tagged c.args.tag) c.row.result.now _ (Some c.in-Some.place) c.row.ensures c.in-Some.ensures in
    record { sound = matrix_taken_sound m a b e c.args.tag c.in-Some.place f.0 f.1 f.2 c.bounds-bounds.result.start c.bounds-bounds.result.end c.bounds-bounds.ensures.start c.bounds-bounds.ensures.end c.remove-self.new.row c.remove-self.auto.row c.remove-self.ensures.row c.remove-self.result c.remove-self.ensures.left }

pub returns : goal.returns
returns c =
    let m = c.args.self.now in
    let n = mailbox_network m.ranks m.depth m.words.now in
    let a = c.args.pair.from in
    let b = c.args.pair.to in
    let e = sym c.if-not-is_among.ensures in
    let f = found_in (is_tagged c.args.tag) c.row.result.now _ (Some c.in-Some.place) c.row.ensures c.in-Some.ensures in
    let h = c.if-buffer-lt-MESSAGE_LIMIT.false in
    let read = row_read m a b e c.bounds-bounds.result.start c.bounds-bounds.result.end c.bounds-bounds.ensures.start c.bounds-bounds.ensures.end c.in-Some.place c.read_slot.result c.read_slot.ensures in
    let found = tagged_oldest m a b e c.args.tag c.in-Some.place f.0 f.1 f.2 ∙ ap (λ r. Some (message_of r)) read in
    record {
      answer = ap value c.deliver-length.ensures.count ∙ sym (take_found n a b c.args.tag c.args.buffer.now e h ∙ ap word_count found);
      words = c.deliver-length.ensures.words ∙ sym (taken_found n a b c.args.tag c.args.buffer.now e h ∙ ap (λ x. written x c.args.buffer.now) found);
      after = matrix_taken m a b e c.args.tag c.in-Some.place f.0 f.1 f.2 c.bounds-bounds.result.start c.bounds-bounds.result.end c.bounds-bounds.ensures.start c.bounds-bounds.ensures.end c.remove-self.new.row c.remove-self.auto.row c.remove-self.ensures.row ∙ sym (after_take_found n a b c.args.tag c.args.buffer.now e h);
    }
