use Rattle.std.proofs.Common.{◌≤◌, Some, None, set, sym, ap, ◌∙◌, subst}
use Rattle.transport.proofs.Replies.{carry_bad, after_carry_bad, carry_none, after_carry_none}
use Rattle.transport.proofs.Stored.{listed_none}
use Rattle.mailbox.specs.Matrix.{mailbox_network}
use Rattle.mailbox.specs.Slots.{message_of, count_of, is_under, arrived}
use Rattle.mailbox.proofs.Calls.{idle, under_here, row_place, row_read, old_small, carried_answer, carried_network, matrix_carried_sound}
use Rattle.mailbox.proofs.Searches.{found_in}
use Rattle.mailbox.proofs.MailboxTransport.carry.Goals as goal

pub returns-then-not-is_among : goal.returns-then-not-is_among
returns-then-not-is_among c =
    let m = c.args.self.now in
    let n = mailbox_network m.ranks m.depth m.words.now in
    let a = c.args.pair.from in
    let b = c.args.pair.to in
    let e = sym c.if-not-is_among.ensures in
    record { answer = sym (carry_bad n a b e); after = sym (after_carry_bad n a b e) }

pub returns-then-self-eq0 : goal.returns-then-self-eq0
returns-then-self-eq0 c =
    let m = c.args.self.now in
    let n = mailbox_network m.ranks m.depth m.words.now in
    let a = c.args.pair.from in
    let b = c.args.pair.to in
    let e = sym c.if-not-is_among.ensures in
    let u = (idle m c.if-self-eq0.true a b).0 in
    record { answer = sym (carry_none n a b e u); after = sym (after_carry_none n a b e u) }

pub returns-in_default : goal.returns-in_default
returns-in_default c =
    let m = c.args.self.now in
    let n = mailbox_network m.ranks m.depth m.words.now in
    let a = c.args.pair.from in
    let b = c.args.pair.to in
    let e = sym c.if-not-is_among.ensures in
    let u = under_here m a b e ∙ listed_none message_of is_under _ (found_in is_under c.row.result.now _ None c.row.ensures c.in_default.ensures) in
    record { answer = sym (carry_none n a b e u); after = sym (after_carry_none n a b e u) }

pub read_slot-slot-requires : goal.read_slot-slot-requires
read_slot-slot-requires c =
    let m = c.args.self.now in
    let a = c.args.pair.from in
    let b = c.args.pair.to in
    let e = sym c.if-not-is_among.ensures in
    let f = found_in is_under c.row.result.now _ (Some c.in-Some.place) c.row.ensures c.in-Some.ensures in
    row_place m a b e c.bounds-bounds.result.start c.bounds-bounds.result.end c.bounds-bounds.ensures.start c.bounds-bounds.ensures.end c.in-Some.place f.0

pub write_slot-requires : goal.write_slot-requires
write_slot-requires c =
    let m = c.args.self.now in
    let n = mailbox_network m.ranks m.depth m.words.now in
    let a = c.args.pair.from in
    let b = c.args.pair.to in
    let e = sym c.if-not-is_among.ensures in
    let f = found_in is_under c.row.result.now _ (Some c.in-Some.place) c.row.ensures c.in-Some.ensures in
    let read = row_read m a b e c.bounds-bounds.result.start c.bounds-bounds.result.end c.bounds-bounds.ensures.start c.bounds-bounds.ensures.end c.in-Some.place c.read_slot-slot.result c.read_slot-slot.ensures in
    (row_place m a b e c.bounds-bounds.result.start c.bounds-bounds.result.end c.bounds-bounds.ensures.start c.bounds-bounds.ensures.end c.in-Some.place f.0, subst (λ x. count_of x ≤ 2) (ap arrived read ∙ sym c.arrived.ensures) (old_small m a b e c.in-Some.place f.0 f.1 f.2))

pub invariant_of-self : goal.invariant_of-self
invariant_of-self c =
    let m = c.args.self.now in
    let n = mailbox_network m.ranks m.depth m.words.now in
    let a = c.args.pair.from in
    let b = c.args.pair.to in
    let e = sym c.if-not-is_among.ensures in
    let f = found_in is_under c.row.result.now _ (Some c.in-Some.place) c.row.ensures c.in-Some.ensures in
    let read = row_read m a b e c.bounds-bounds.result.start c.bounds-bounds.result.end c.bounds-bounds.ensures.start c.bounds-bounds.ensures.end c.in-Some.place c.read_slot-slot.result c.read_slot-slot.ensures in
    let now = c.write_slot.ensures ∙ ap (set _ c.in-Some.place) (c.arrived.ensures ∙ ap arrived (sym read)) in
    record { sound = matrix_carried_sound m a b e c.in-Some.place f.0 f.1 f.2 c.bounds-bounds.result.start c.bounds-bounds.result.end c.bounds-bounds.ensures.start c.bounds-bounds.ensures.end c.write_slot.new.row c.write_slot.auto.row now }

pub returns : goal.returns
returns c =
    let m = c.args.self.now in
    let n = mailbox_network m.ranks m.depth m.words.now in
    let a = c.args.pair.from in
    let b = c.args.pair.to in
    let e = sym c.if-not-is_among.ensures in
    let f = found_in is_under c.row.result.now _ (Some c.in-Some.place) c.row.ensures c.in-Some.ensures in
    let read = row_read m a b e c.bounds-bounds.result.start c.bounds-bounds.result.end c.bounds-bounds.ensures.start c.bounds-bounds.ensures.end c.in-Some.place c.read_slot-slot.result c.read_slot-slot.ensures in
    let now = c.write_slot.ensures ∙ ap (set _ c.in-Some.place) (c.arrived.ensures ∙ ap arrived (sym read)) in
    record { answer = sym (carried_answer m a b e c.in-Some.place f.0 f.1 f.2 c.bounds-bounds.result.start c.bounds-bounds.result.end c.bounds-bounds.ensures.start c.bounds-bounds.ensures.end c.write_slot.new.row c.write_slot.auto.row now); after = carried_network m a b e c.in-Some.place f.0 f.1 f.2 c.bounds-bounds.result.start c.bounds-bounds.result.end c.bounds-bounds.ensures.start c.bounds-bounds.ensures.end c.write_slot.new.row c.write_slot.auto.row now }
