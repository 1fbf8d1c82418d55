use Rattle.std.proofs.Common.{◌≡◌, ◌≤◌, length}
use Rattle.segmented.proofs.Takes.{Takes}
use Rattle.segmented.proofs.take_segments.Given as goal

abbrev pub invariant-loop-start : goal.invariant-loop-start
invariant-loop-start g l =
    let t = g.T.Transport in
    (l.start-step ≡ t.most) × (l.start-step ≤ 8) × (length l.block ≡ 16) × Takes (t.meaning l.initial.below) l.pair.from l.pair.to l.tag t.most l.start (t.meaning l.below) l.block
