use Rattle.std.proofs.Common.{◌+◌, ◌^◌, ◌<◌, take, set, ap, ◌∙◌, subst, arith, get_or-take, rules}
use Rattle.jobs.specs.Tables.{with_sent}
use Rattle.jobs.proofs.Lists.{set-update, take-update}
use Rattle.jobs.proofs.Sizes.{pending_size}
use Rattle.jobs.proofs.table.Table.send.Goals as goal

pub offset_bounds-self-i : goal.offset_bounds-self-i
offset_bounds-self-i g c = let t = c.args.self.now in omega (arith, c.requires.0, pending_size t, t.few)

pub listed : goal.listed
listed g c = let t = c.args.self.now in omega (arith, c.requires.0, pending_size t, t.sized, t.few)

pub bounds-self-i : goal.bounds-self-i
bounds-self-i g c = let t = c.args.self.now in omega (arith, c.requires.0, pending_size t, t.few)

pub send-requires : goal.send-requires
send-requires g c =
    let t = c.args.self.now in
    let lt : c.args.i < t.pending = omega (arith, pending_size t, c.requires.0) in
    (search rules, (c.requires.1, subst (λ j. j.sent + 1 < 2 ^ 64) (get_or-take t.pending t.jobs c.args.i c.index-self-i.result lt) (c.requires.2 c.index-self-i.result)))

pub returns : goal.returns
returns g c =
    let t = c.args.self.now in
    let f = with_sent c.args.rank c.args.state in
    ap (take t.pending) (ap (set t.jobs c.args.i) c.send.ensures ∙ set-update t.jobs c.args.i f c.index-self-i.result) ∙ take-update t.jobs t.pending c.args.i f
