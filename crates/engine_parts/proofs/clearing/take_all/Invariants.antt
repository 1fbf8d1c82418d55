use Rattle.std.proofs.Common.{◌≡◌, length}
use Rattle.engine_parts.specs.Clearing.{purged, tagged}
use Rattle.engine_parts.proofs.clearing.take_all.Given as goal

-- what is left to do comes to the same
abbrev pub invariant-loop-pair : goal.invariant-loop-pair
invariant-loop-pair g l =
    purged (tagged l.tag) l.pair.from l.pair.to (g.T.Transport.meaning l.transport) ≡ purged (tagged l.tag) l.pair.from l.pair.to (g.T.Transport.meaning l.initial.transport)

abbrev pub decreases-loop-pair : goal.decreases-loop-pair
decreases-loop-pair g l = length ((g.T.Transport.meaning l.transport).arrived l.pair.from l.pair.to)
