use Rattle.std.proofs.Common.{cond, eqb, length, ap, ◌∙◌}
use Rattle.group.proofs.Layer.{waiting_above}
use Rattle.group.proofs.GroupTransport.waiting.Goals as goal

pub returns : goal.returns
returns g c =
    let t = g.T.Transport in
    let l = c.args.self.now in
    c.seen.ensures
    ∙ ap (λ k. cond (eqb (length l.members.items) 0) 0 k) c.waiting.ensures
    ∙ waiting_above t.most (length l.members.items) l.members.items (t.meaning l.below) (g.met.T.Transport.shaped l.below) l.grouping
