use Rattle.std.proofs.Common.{Some, None, refl, sym, ap, ◌∙◌, arith}
use Rattle.transport.specs.Network.{message, sent}
use Rattle.transport.proofs.Replies.{send_bad, send_long, send_full, send_crowded, send_done, after_refused, after_done}
use Rattle.mailbox.specs.Matrix.{mailbox_network}
use Rattle.mailbox.specs.Slots.{is_free}
use Rattle.mailbox.specs.declared.Slot.TheVariants.{UnderWay}
use Rattle.mailbox.proofs.Searches.{found_in}
use Rattle.mailbox.proofs.Calls.{full_between, free_between, slots_length, row_place, matrix_sent, matrix_sent_sound}
use Rattle.mailbox.proofs.MailboxTransport.send.Goals as goal

pub returns-then-not-is_among : goal.returns-then-not-is_among
returns-then-not-is_among c =
    let m = c.args.self.now in
    let n = mailbox_network m.ranks m.depth m.words.now in
    let a = c.args.pair.from in
    let b = c.args.pair.to in
    let e = sym c.if-not-is_among.ensures in
    let r = send_bad n a b c.args.words.now e in
    record { answer = sym r; after = sym (after_refused n a b (message c.args.tag c.args.words.now) 10 r) }

pub returns-then-words-gt-MESSAGE_LIMIT : goal.returns-then-words-gt-MESSAGE_LIMIT
returns-then-words-gt-MESSAGE_LIMIT c =
    let m = c.args.self.now in
    let n = mailbox_network m.ranks m.depth m.words.now in
    let a = c.args.pair.from in
    let b = c.args.pair.to in
    let e = sym c.if-not-is_among.ensures in
    let r = send_long n a b c.args.words.now e c.if-words-gt-MESSAGE_LIMIT.true in
    record { answer = sym r; after = sym (after_refused n a b (message c.args.tag c.args.words.now) 11 r) }

pub returns-in_default : goal.returns-in_default
returns-in_default c =
    let m = c.args.self.now in
    let n = mailbox_network m.ranks m.depth m.words.now in
    let a = c.args.pair.from in
    let b = c.args.pair.to in
    let e = sym c.if-not-is_among.ensures in
    let r = send_full n a b c.args.words.now e c.if-words-gt-MESSAGE_LIMIT.false (omega (arith, full_between m a b e (found_in is_free c.row.result.now _ None c.row.ensures c.in_default.ensures))) in
    record { answer = sym r; after = sym (after_refused n a b (message c.args.tag c.args.words.now) 12 r) }

pub returns-then-self-room : goal.returns-then-self-room
returns-then-self-room c =
    let m = c.args.self.now in
    let n = mailbox_network m.ranks m.depth m.words.now in
    let a = c.args.pair.from in
    let b = c.args.pair.to in
    let e = sym c.if-not-is_among.ensures in
    let f = found_in is_free c.row.result.now _ (Some c.in-Some.place) c.row.ensures c.in-Some.ensures in
    let r = send_crowded n a b c.args.words.now e c.if-words-gt-MESSAGE_LIMIT.false (omega (arith, free_between m a b e c.in-Some.place f.0 f.1 f.2, slots_length m a b e, f.0)) (omega (arith, c.if-self-room.true, c.room.ensures, m.sound.counted)) in
    record { answer = sym r; after = sym (after_refused n a b (message c.args.tag c.args.words.now) 13 r) }

pub write_slot-requires : goal.write_slot-requires
write_slot-requires c =
    let m = c.args.self.now in
    let a = c.args.pair.from in
    let b = c.args.pair.to in
    let e = sym c.if-not-is_among.ensures in
    let f = found_in is_free c.row.result.now _ (Some c.in-Some.place) c.row.ensures c.in-Some.ensures in
    (row_place m a b e c.bounds-row.result.start c.bounds-row.result.end c.bounds-row.ensures.start c.bounds-row.ensures.end c.in-Some.place f.0, c.new-letter.ensures.count)

pub invariant_of-self : goal.invariant_of-self
invariant_of-self c =
    let m = c.args.self.now in
    let n = mailbox_network m.ranks m.depth m.words.now in
    let a = c.args.pair.from in
    let b = c.args.pair.to in
    let e = sym c.if-not-is_among.ensures in
    let f = found_in is_free c.row.result.now _ (Some c.in-Some.place) c.row.ensures c.in-Some.ensures in
    record { sound = matrix_sent_sound m a b e c.in-Some.place f.0 f.1 f.2 (UnderWay c.new-letter.result) refl c.new-letter.ensures.count c.bounds-row.result.start c.bounds-row.result.end c.bounds-row.ensures.start c.bounds-row.ensures.end c.write_slot.new.row c.write_slot.auto.row c.write_slot.ensures }

pub returns : goal.returns
returns c =
    let m = c.args.self.now in
    let n = mailbox_network m.ranks m.depth m.words.now in
    let a = c.args.pair.from in
    let b = c.args.pair.to in
    let e = sym c.if-not-is_among.ensures in
    let f = found_in is_free c.row.result.now _ (Some c.in-Some.place) c.row.ensures c.in-Some.ensures in
    let r = send_done n a b c.args.words.now e c.if-words-gt-MESSAGE_LIMIT.false (omega (arith, free_between m a b e c.in-Some.place f.0 f.1 f.2, slots_length m a b e, f.0)) (omega (arith, c.if-self-room.false, c.room.ensures, m.sound.counted)) in
    record {
      answer = sym r;
      after = matrix_sent m a b e c.in-Some.place f.0 f.1 f.2 (UnderWay c.new-letter.result) refl c.new-letter.ensures.count c.bounds-row.result.start c.bounds-row.result.end c.bounds-row.ensures.start c.bounds-row.ensures.end c.write_slot.new.row c.write_slot.auto.row c.write_slot.ensures ∙ ap (sent n a b) c.new-letter.ensures.message ∙ sym (after_done n a b (message c.args.tag c.args.words.now) r);
    }
