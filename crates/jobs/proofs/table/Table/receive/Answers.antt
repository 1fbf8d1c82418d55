use Rattle.std.proofs.Common.{◌≡◌, ◌<◌, length, take, set, sym, ap, ◌∙◌, subst, arith, get_or-take}
use Rattle.std.proofs.lemmas.List.{get_or_default}
use Rattle.ranks.specs.Ranks.{most_ranks}
use Rattle.jobs.specs.Tables.{with_received}
use Rattle.jobs.proofs.Lists.{set-update, take-update}
use Rattle.jobs.proofs.Sizes.{pending_size}
use Rattle.jobs.proofs.table.Table.receive.Goals as goal

pub offset_bounds-self-i : goal.offset_bounds-self-i
offset_bounds-self-i g c = let t = c.args.self.now in omega (arith, c.requires.0, pending_size t, t.few)

pub listed : goal.listed
listed g c = let t = c.args.self.now in omega (arith, c.requires.0, pending_size t, t.sized, t.few)

pub bounds-self-i : goal.bounds-self-i
bounds-self-i g c = let t = c.args.self.now in omega (arith, c.requires.0, pending_size t, t.few)

pub returns : goal.returns
returns g c =
    let t = c.args.self.now in
    let f = with_received c.args.rank c.args.state c.args.merge c.args.at c.args.value in
    let size = pending_size t in
    let lt : c.args.i < t.pending = omega (arith, c.requires.0) in
    record {
      changed = ap (take t.pending) (ap (set t.jobs c.args.i) c.receive.ensures.changed ∙ set-update t.jobs c.args.i f c.index-self-i.result) ∙ take-update t.jobs t.pending c.args.i f;
      room = λ d.
          subst (λ j. length j.kept ≡ most_ranks)
          (get_or_default t.jobs c.args.i _ d (omega (arith, t.sized, t.few)) ∙ sym (get_or-take t.pending t.jobs c.args.i d lt))
          c.receive.ensures.room;
    }
