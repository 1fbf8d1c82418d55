use Rattle.std.proofs.Common.{false, length, sym, refl, ap, ◌∙◌}
use Rattle.transport.specs.Network.{message}
use Rattle.transport.proofs.Replies.{send_bad, after_refused}
use Rattle.segmented.specs.Segments.{pieces, open_network, segmented}
use Rattle.segmented.proofs.Coding.{length-block}
use Rattle.transport.proofs.Shapes.{layer_pair}
use Rattle.segmented.proofs.Calls.{pair_below, limit_some, no_refusal_above, between_told, layer_long, layer_full, layer_crowded, layer_done, depth_below, room_below, layer_sent, layer_sent_whole}
use Rattle.segmented.proofs.SegmentedTransport.send.Goals as goal

pub returns-then-not-is_among : goal.returns-then-not-is_among
returns-then-not-is_among g c =
    let t = g.T.Transport in
    let l = c.args.self.now in
    let n = t.meaning l.below in
    let e = send_bad (segmented t.most l.ranks n) c.args.pair.from c.args.pair.to c.args.words.now (layer_pair 7 l.ranks (open_network (pieces t.most) l.ranks n) refl c.args.pair.from c.args.pair.to false (sym c.if-not-is_among.ensures)) in
    record { answer = sym e; after = sym (after_refused (segmented t.most l.ranks n) c.args.pair.from c.args.pair.to (message c.args.tag c.args.words.now) 10 e) }

pub returns-then-words-gt-WORDS : goal.returns-then-words-gt-WORDS
returns-then-words-gt-WORDS g c =
    let t = g.T.Transport in
    let l = c.args.self.now in
    let n = t.meaning l.below in
    let e = sym c.if-not-is_among.ensures in
    let r = layer_long t.most l.ranks n c.args.self.now.whole c.args.pair.from c.args.pair.to e c.args.tag c.args.words.now c.if-words-gt-WORDS.true in
    record { answer = sym r; after = sym (after_refused (segmented t.most l.ranks n) c.args.pair.from c.args.pair.to (message c.args.tag c.args.words.now) 11 r) }

pub returns-in_err-between : goal.returns-in_err-between
returns-in_err-between g c =
    let t = g.T.Transport in
    let l = c.args.self.now in
    let n = t.meaning l.below in
    let e = sym c.if-not-is_among.ensures in
    no_refusal_above t.most l.ranks n c.args.self.now.whole c.args.pair.from c.args.pair.to e _ c.in_err-between.ensures

pub returns-then-between-depth : goal.returns-then-between-depth
returns-then-between-depth g c =
    let t = g.T.Transport in
    let l = c.args.self.now in
    let n = t.meaning l.below in
    let e = sym c.if-not-is_among.ensures in
    let r = layer_full t.most l.ranks n c.args.self.now.whole c.args.pair.from c.args.pair.to e c.args.tag c.args.words.now c.if-words-gt-WORDS.false c.in_ok-between.between c.depth.result (between_told t.most l.ranks n c.args.self.now.whole c.args.pair.from c.args.pair.to e c.in_ok-between.between c.in_ok-between.ensures) c.depth.ensures c.if-between-depth.true in
    record { answer = sym r; after = sym (after_refused (segmented t.most l.ranks n) c.args.pair.from c.args.pair.to (message c.args.tag c.args.words.now) 12 r) }

pub returns-then-waiting-room : goal.returns-then-waiting-room
returns-then-waiting-room g c =
    let t = g.T.Transport in
    let l = c.args.self.now in
    let n = t.meaning l.below in
    let e = sym c.if-not-is_among.ensures in
    let r = layer_crowded t.most l.ranks n c.args.self.now.whole c.args.pair.from c.args.pair.to e c.args.tag c.args.words.now c.if-words-gt-WORDS.false c.in_ok-between.between c.depth.result (between_told t.most l.ranks n c.args.self.now.whole c.args.pair.from c.args.pair.to e c.in_ok-between.between c.in_ok-between.ensures) c.depth.ensures c.if-between-depth.false c.waiting.result c.room.result c.waiting.ensures c.room.ensures c.if-waiting-room.true in
    record { answer = sym r; after = sym (after_refused (segmented t.most l.ranks n) c.args.pair.from c.args.pair.to (message c.args.tag c.args.words.now) 13 r) }

pub send_segments-requires : goal.send_segments-requires
send_segments-requires g c =
    let t = g.T.Transport in
    let l = c.args.self.now in
    let n = t.meaning l.below in
    let e = sym c.if-not-is_among.ensures in
    record {
      pair = pair_below t.most l.ranks n c.args.self.now.whole c.args.pair.from c.args.pair.to e;
      some = limit_some t.most l.ranks n c.args.self.now.whole c.args.pair.from c.args.pair.to e;
      full = ap length c.block_of-block.ensures ∙ length-block c.args.words.now c.if-words-gt-WORDS.false;
      depth = depth_below t.most l.ranks n c.args.self.now.whole c.args.pair.from c.args.pair.to e c.args.tag c.args.words.now c.if-words-gt-WORDS.false c.in_ok-between.between c.depth.result (between_told t.most l.ranks n c.args.self.now.whole c.args.pair.from c.args.pair.to e c.in_ok-between.between c.in_ok-between.ensures) c.depth.ensures c.if-between-depth.false c.waiting.result c.room.result c.waiting.ensures c.room.ensures c.if-waiting-room.false;
      room = room_below t.most l.ranks n c.args.self.now.whole c.args.pair.from c.args.pair.to e c.args.tag c.args.words.now c.if-words-gt-WORDS.false c.in_ok-between.between c.depth.result (between_told t.most l.ranks n c.args.self.now.whole c.args.pair.from c.args.pair.to e c.in_ok-between.between c.in_ok-between.ensures) c.depth.ensures c.if-between-depth.false c.waiting.result c.room.result c.waiting.ensures c.room.ensures c.if-waiting-room.false;
    }

pub returns : goal.returns
returns g c =
    let t = g.T.Transport in
    let l = c.args.self.now in
    let n = t.meaning l.below in
    let e = sym c.if-not-is_among.ensures in
    let k = c.send_segments.ensures in
    let after = t.meaning c.send_segments.new.below in
    record {
      answer = k.answer ∙ sym (layer_done t.most l.ranks n c.args.self.now.whole c.args.pair.from c.args.pair.to e c.args.tag c.args.words.now c.if-words-gt-WORDS.false c.in_ok-between.between c.depth.result (between_told t.most l.ranks n c.args.self.now.whole c.args.pair.from c.args.pair.to e c.in_ok-between.between c.in_ok-between.ensures) c.depth.ensures c.if-between-depth.false c.waiting.result c.room.result c.waiting.ensures c.room.ensures c.if-waiting-room.false);
      after = layer_sent t.most l.ranks n c.args.self.now.whole c.args.pair.from c.args.pair.to e c.args.tag c.args.words.now c.if-words-gt-WORDS.false c.in_ok-between.between c.depth.result (between_told t.most l.ranks n c.args.self.now.whole c.args.pair.from c.args.pair.to e c.in_ok-between.between c.in_ok-between.ensures) c.depth.ensures c.if-between-depth.false c.waiting.result c.room.result c.waiting.ensures c.room.ensures c.if-waiting-room.false after c.block_of-block.result c.block_of-block.ensures k.after;
    }

pub invariant_of-self : goal.invariant_of-self
invariant_of-self g c =
    let t = g.T.Transport in
    let l = c.args.self.now in
    let n = t.meaning l.below in
    let e = sym c.if-not-is_among.ensures in
    record { whole = layer_sent_whole t.most l.ranks n l.whole c.args.pair.from c.args.pair.to e c.args.tag c.args.words.now c.if-words-gt-WORDS.false c.in_ok-between.between c.depth.result (between_told t.most l.ranks n l.whole c.args.pair.from c.args.pair.to e c.in_ok-between.between c.in_ok-between.ensures) c.depth.ensures c.if-between-depth.false c.waiting.result c.room.result c.waiting.ensures c.room.ensures c.if-waiting-room.false (t.meaning c.send_segments.new.below) c.block_of-block.result c.block_of-block.ensures c.send_segments.ensures.after }
