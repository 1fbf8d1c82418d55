use Rattle.machine.proofs.Records.{record_laws}
use Rattle.machine.proofs.Wires.{well_made}
use Rattle.machine.proofs.made_laws.Goals as goal

pub returns : goal.returns
returns g c =
    let laws = g.met.O.Operation in
    let t = g.T.Transport in
    let op = c.args.operation.now in
    let net = c.args.transport.now in
    record_laws c.args.name (g.O.Operation.meaning op) (t.meaning net)
    (record { wide = laws.wide op; monoid = laws.monoid op; packing = laws.packing op })
    (well_made t.most (t.meaning net) (g.met.T.Transport.shaped net))
