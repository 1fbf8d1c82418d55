use Rattle.std.proofs.Common.{◌<◌, sym, ◌∙◌, arith, get_or-take}
use Rattle.std.proofs.lemmas.List.{get_or_default}
use Rattle.jobs.proofs.Sizes.{pending_size}
use Rattle.jobs.proofs.table.Table.job.Goals as goal

pub offset_bounds-self-i : goal.offset_bounds-self-i
offset_bounds-self-i g c = let t = c.args.self.now in omega (arith, c.requires, pending_size t, t.few)

pub listed : goal.listed
listed g c = let t = c.args.self.now in omega (arith, c.requires, pending_size t, t.sized, t.few)

pub bounds-self-i : goal.bounds-self-i
bounds-self-i g c = let t = c.args.self.now in omega (arith, c.requires, pending_size t, t.few)

pub returns : goal.returns
returns g c d =
    let t = c.args.self.now in
    let size = pending_size t in
    let lt : c.args.i < t.pending = omega (arith, c.requires) in
    get_or_default t.jobs c.args.i _ d (omega (arith, t.sized, t.few)) ∙ sym (get_or-take t.pending t.jobs c.args.i d lt)
