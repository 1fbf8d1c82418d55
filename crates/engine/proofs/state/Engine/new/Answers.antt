use Rattle.std.proofs.Common.{ap}
use Rattle.machine.specs.Operation.{Lawful}
use Rattle.machine.proofs.Records.{record_laws}
use Rattle.machine.proofs.Wires.{well_made}
use Rattle.engine.specs.Fields.{with_jobs}
use Rattle.engine.proofs.Onward.{new_stands}
use Rattle.engine.proofs.state.Engine.new.Goals as goal

pub invariant_of-result : goal.invariant_of-result
invariant_of-result g c =
    let laws = g.met.O.Operation in
    let op = c.args.operation in
    let t = c.args.transport in
    let lawful : Lawful (g.O.Operation.meaning op) = record { wide = laws.wide op; monoid = laws.monoid op; packing = laws.packing op } in
    record {
      sound = ∣ record { origin = g.T.Transport.meaning t; stands = new_stands c.args.name lawful (well_made g.T.Transport.most (g.T.Transport.meaning t) (g.met.T.Transport.shaped t)) c.is_empty-clean.ensures c.new-jobs.ensures } ∣₁;
    }

pub returns : goal.returns
returns g c =
    let laws = g.met.O.Operation in
    let op = c.args.operation in
    let m = g.O.Operation.meaning op in
    let t = c.args.transport in
    let net = g.T.Transport.meaning t in
    let lawful : Lawful m = record { wide = laws.wide op; monoid = laws.monoid op; packing = laws.packing op } in
    let well = well_made g.T.Transport.most net (g.met.T.Transport.shaped t) in
    record {
      stands = new_stands c.args.name lawful well c.is_empty-clean.ensures c.new-jobs.ensures;
      fresh = ap (λ js. with_jobs c.args.name m net net 0 js) c.new-jobs.ensures;
      laws = record_laws c.args.name m net lawful well;
    }
