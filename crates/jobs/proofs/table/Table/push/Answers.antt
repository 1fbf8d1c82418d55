use Rattle.std.proofs.Common.{◌∙◌, arith}
use Rattle.std.proofs.lemmas.List.{length-set, take_more_set}
use Rattle.jobs.proofs.Sizes.{pending_size}
use Rattle.jobs.proofs.table.Table.push.Goals as goal

pub listed : goal.listed
listed g c = let t = c.args.self.now in omega (arith, c.requires, pending_size t, t.sized)

pub bounds-self-self : goal.bounds-self-self
bounds-self-self g c = let t = c.args.self.now in omega (arith, c.requires, pending_size t)

pub invariant_of-self : goal.invariant_of-self
invariant_of-self g c = let t = c.args.self.now in record { sized = length-set t.jobs t.pending c.args.job ∙ t.sized; few = omega (arith, c.requires, pending_size t) }

pub returns : goal.returns
returns g c =
    let t = c.args.self.now in
    take_more_set t.jobs t.pending c.args.job (omega (arith, t.sized, pending_size t, c.requires))
