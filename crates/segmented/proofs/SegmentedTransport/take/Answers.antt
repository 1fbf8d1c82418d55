use Rattle.std.proofs.Common.{ℕ, List, Option, Ok, subst, ◌<◌, true, false, length, sym, refl, arith}
use Rattle.transport.specs.Network.{oldest}
use Rattle.transport.proofs.Replies.{take_bad, after_take_bad, taken_bad, take_short, after_take_short, taken_short}
use Rattle.segmented.specs.Segments.{pieces, decode, open_network, segmented, BlockOf}
use Rattle.transport.proofs.Shapes.{layer_pair}
use Rattle.segmented.proofs.Calls.{limit_is, layer_refused, layer_absent, layer_unwritten, layer_wide, layer_few, layer_count, layer_words, layer_taken, layer_taken_whole}
use Rattle.segmented.proofs.SegmentedTransport.take.Goals as goal

pub returns-then-not-is_among : goal.returns-then-not-is_among
returns-then-not-is_among g c =
    let t = g.T.Transport in
    let l = c.args.self.now in
    let n = t.meaning l.below in
    let e = layer_pair 7 l.ranks (open_network (pieces t.most) l.ranks n) refl c.args.pair.from c.args.pair.to false (sym c.if-not-is_among.ensures) in
    record {
      answer = sym (take_bad (segmented t.most l.ranks n) c.args.pair.from c.args.pair.to c.args.tag c.args.buffer.now e);
      words = sym (taken_bad (segmented t.most l.ranks n) c.args.pair.from c.args.pair.to c.args.tag c.args.buffer.now e);
      after = sym (after_take_bad (segmented t.most l.ranks n) c.args.pair.from c.args.pair.to c.args.tag c.args.buffer.now e);
    }

pub returns-then-buffer-lt-WORDS : goal.returns-then-buffer-lt-WORDS
returns-then-buffer-lt-WORDS g c =
    let t = g.T.Transport in
    let l = c.args.self.now in
    let n = t.meaning l.below in
    let e = layer_pair 7 l.ranks (open_network (pieces t.most) l.ranks n) refl c.args.pair.from c.args.pair.to true (sym c.if-not-is_among.ensures) in
    let h : length c.args.buffer.now < (segmented t.most l.ranks n).limit = omega (arith, limit_is t.most l.ranks n, c.if-buffer-lt-WORDS.true) in
    record {
      answer = sym (take_short (segmented t.most l.ranks n) c.args.pair.from c.args.pair.to c.args.tag c.args.buffer.now e h);
      words = sym (taken_short (segmented t.most l.ranks n) c.args.pair.from c.args.pair.to c.args.tag c.args.buffer.now e h);
      after = sym (after_take_short (segmented t.most l.ranks n) c.args.pair.from c.args.pair.to c.args.tag c.args.buffer.now e h);
    }

pub returns-in_err-block : goal.returns-in_err-block
returns-in_err-block g c =
    let t = g.T.Transport in
    let l = c.args.self.now in
    let n = t.meaning l.below in
    let e = sym c.if-not-is_among.ensures in
    layer_refused t.most l.ranks n l.whole c.args.pair.from c.args.pair.to e c.args.tag c.args.buffer.now c.if-buffer-lt-WORDS.false c.in_err-block.field-0.0 c.in_err-block.ensures.found

pub returns-in-None : goal.returns-in-None
returns-in-None g c =
    let t = g.T.Transport in
    let l = c.args.self.now in
    let n = t.meaning l.below in
    let e = sym c.if-not-is_among.ensures in
    let found = oldest c.args.tag (decode (pieces t.most) (n.arrived c.args.pair.from c.args.pair.to)) in
    let h = subst (λ (o : Option (List ℕ)). BlockOf found (Ok o)) c.in-None.is c.in_ok-block.ensures.found in
    record {
      answer = layer_absent t.most l.ranks n l.whole c.args.pair.from c.args.pair.to e c.args.tag c.args.buffer.now c.if-buffer-lt-WORDS.false h;
      words = layer_unwritten t.most l.ranks n l.whole c.args.pair.from c.args.pair.to e c.args.tag c.args.buffer.now c.if-buffer-lt-WORDS.false h;
      after = layer_taken t.most l.ranks n l.whole c.args.pair.from c.args.pair.to e c.args.tag c.args.buffer.now c.if-buffer-lt-WORDS.false (t.meaning c.take_segments.new.below) c.in_ok-block.ensures.after;
    }

pub unpack-requires : goal.unpack-requires
unpack-requires g c =
    let t = g.T.Transport in
    let l = c.args.self.now in
    let n = t.meaning l.below in
    let e = sym c.if-not-is_among.ensures in
    let found = oldest c.args.tag (decode (pieces t.most) (n.arrived c.args.pair.from c.args.pair.to)) in
    let h = subst (λ (o : Option (List ℕ)). BlockOf found (Ok o)) c.in-Some.is c.in_ok-block.ensures.found in
    record {
      block = layer_wide t.most l.ranks n l.whole c.args.pair.from c.args.pair.to e c.args.tag c.args.buffer.now c.if-buffer-lt-WORDS.false c.in-Some.block h;
      few = layer_few t.most l.ranks n l.whole c.args.pair.from c.args.pair.to e c.args.tag c.args.buffer.now c.if-buffer-lt-WORDS.false c.in-Some.block h;
      buffer = c.if-buffer-lt-WORDS.false;
    }

pub returns-in-Some : goal.returns-in-Some
returns-in-Some g c =
    let t = g.T.Transport in
    let l = c.args.self.now in
    let n = t.meaning l.below in
    let e = sym c.if-not-is_among.ensures in
    let found = oldest c.args.tag (decode (pieces t.most) (n.arrived c.args.pair.from c.args.pair.to)) in
    let h = subst (λ (o : Option (List ℕ)). BlockOf found (Ok o)) c.in-Some.is c.in_ok-block.ensures.found in
    record {
      answer = layer_count t.most l.ranks n l.whole c.args.pair.from c.args.pair.to e c.args.tag c.args.buffer.now c.if-buffer-lt-WORDS.false c.in-Some.block h c.unpack.result c.unpack.ensures.count;
      words = layer_words t.most l.ranks n l.whole c.args.pair.from c.args.pair.to e c.args.tag c.args.buffer.now c.if-buffer-lt-WORDS.false c.in-Some.block h c.unpack.new.buffer c.unpack.ensures.words;
      after = layer_taken t.most l.ranks n l.whole c.args.pair.from c.args.pair.to e c.args.tag c.args.buffer.now c.if-buffer-lt-WORDS.false (t.meaning c.take_segments.new.below) c.in_ok-block.ensures.after;
    }

pub invariant_of-self : goal.invariant_of-self
invariant_of-self g c =
    let t = g.T.Transport in
    let l = c.args.self.now in
    record { whole = layer_taken_whole t.most l.ranks (t.meaning l.below) l.whole c.args.pair.from c.args.pair.to (sym c.if-not-is_among.ensures) c.args.tag c.args.buffer.now c.if-buffer-lt-WORDS.false (t.meaning c.take_segments.new.below) c.take_segments.ensures.after }
