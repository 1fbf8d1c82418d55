use Rattle.std.proofs.Common.{◌/◌, ◌∙◌, false, sym, refl}
use Rattle.transport.proofs.Replies.{between_bad}
use Rattle.segmented.specs.Segments.{pieces, open_network, segmented}
use Rattle.transport.proofs.Shapes.{layer_pair}
use Rattle.transport.proofs.Pairs.{pair_positive}
use Rattle.segmented.proofs.Layer.{count_open}
use Rattle.segmented.proofs.Calls.{between_answer, no_refusal}
use Rattle.segmented.proofs.SegmentedTransport.waiting_between.Goals as goal

pub returns-then-not-is_among : goal.returns-then-not-is_among
returns-then-not-is_among g c =
    let t = g.T.Transport in
    let l = c.args.self.now in
    let n = t.meaning l.below in
    sym (between_bad (segmented t.most l.ranks n) c.args.pair.from c.args.pair.to (layer_pair 7 l.ranks (open_network (pieces t.most) l.ranks n) refl c.args.pair.from c.args.pair.to false (sym c.if-not-is_among.ensures)))

pub returns-in_err-segments : goal.returns-in_err-segments
returns-in_err-segments g c =
    let t = g.T.Transport in
    let l = c.args.self.now in
    let n = t.meaning l.below in
    no_refusal t.most l.ranks n c.args.self.now.whole c.args.pair.from c.args.pair.to (sym c.if-not-is_among.ensures) _ c.in_err-segments.ensures

pub returns : goal.returns
returns g c =
    let t = g.T.Transport in
    let l = c.args.self.now in
    let n = t.meaning l.below in
    between_answer t.most l.ranks n c.args.self.now.whole c.args.pair.from c.args.pair.to (sym c.if-not-is_among.ensures) c.in_ok-segments.segments c.messages.result c.in_ok-segments.ensures
    (c.messages.ensures ∙ count_open l.ranks (c.in_ok-segments.segments / pieces t.most) (pair_positive l.ranks c.args.pair.from c.args.pair.to (sym c.if-not-is_among.ensures)))
