use Rattle.std.proofs.Common.{◌≡◌, ◌-◌, ◌<◌, drop}
use Rattle.transport.specs.Network.{some_moved, value}
use Rattle.transport.specs.Many.{carried_all}
use Rattle.segmented.proofs.carry_segments.Given as goal

abbrev pub invariant-loop : goal.invariant-loop
invariant-loop g l =
    let n = g.T.Transport.meaning l.initial.below in
    (g.T.Transport.meaning l.below ≡ carried_all n l.pair.from l.pair.to l.counter)
    × (0 < l.counter → value 1 ≡ some_moved (drop (l.counter - 1) (n.under l.pair.from l.pair.to)))
