use Rattle.std.proofs.Common.{length}
use Rattle.segmented.proofs.Steps.{Sends}
use Rattle.segmented.proofs.send_segments.Given as goal

abbrev pub invariant-loop-segment : goal.invariant-loop-segment
invariant-loop-segment g l =
    let t = g.T.Transport in
    Sends (t.meaning l.initial.below) l.pair.from l.pair.to t.most l.tag l.block (length l.yielded) (t.meaning l.below) l.segment-iterator.rest.now l.segment-iterator.size
