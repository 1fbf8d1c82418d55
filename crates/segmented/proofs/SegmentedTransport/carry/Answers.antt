use Rattle.std.proofs.Common.{false, sym, refl, ◌∙◌}
use Rattle.transport.proofs.Replies.{carry_bad, after_carry_bad}
use Rattle.segmented.specs.Segments.{pieces, open_network, segmented}
use Rattle.transport.proofs.Shapes.{layer_pair}
use Rattle.segmented.proofs.Calls.{layer_moved, layer_carried, layer_carried_whole}
use Rattle.segmented.proofs.SegmentedTransport.carry.Goals as goal

pub returns-then-not-is_among : goal.returns-then-not-is_among
returns-then-not-is_among g c =
    let t = g.T.Transport in
    let l = c.args.self.now in
    let n = t.meaning l.below in
    let e = layer_pair 7 l.ranks (open_network (pieces t.most) l.ranks n) refl c.args.pair.from c.args.pair.to false (sym c.if-not-is_among.ensures) in
    record {
      answer = sym (carry_bad (segmented t.most l.ranks n) c.args.pair.from c.args.pair.to e);
      after = sym (after_carry_bad (segmented t.most l.ranks n) c.args.pair.from c.args.pair.to e);
    }

pub returns : goal.returns
returns g c =
    let t = g.T.Transport in
    let l = c.args.self.now in
    let n = t.meaning l.below in
    let e = sym c.if-not-is_among.ensures in
    let k = c.carry_segments.ensures in
    record {
      answer = k.answer ∙ layer_moved t.most l.ranks n c.args.self.now.whole c.args.pair.from c.args.pair.to e (t.meaning c.carry_segments.new.below) k.after;
      after = layer_carried t.most l.ranks n c.args.self.now.whole c.args.pair.from c.args.pair.to e (t.meaning c.carry_segments.new.below) k.after;
    }

pub invariant_of-self : goal.invariant_of-self
invariant_of-self g c =
    let t = g.T.Transport in
    let l = c.args.self.now in
    record { whole = layer_carried_whole t.most l.ranks (t.meaning l.below) l.whole c.args.pair.from c.args.pair.to (sym c.if-not-is_among.ensures) (t.meaning c.carry_segments.new.below) c.carry_segments.ensures.after }
