use Rattle.std.proofs.Common.{ℕ, sym, refl, ap, ◌∙◌, subst}
use Rattle.segmented.specs.Segments.{segmented, Whole}
use Rattle.segmented.proofs.Layer.{new_is, new_whole}
use Rattle.segmented.proofs.Segmented.new.Goals as goal

pub returns : goal.returns
returns g c =
    let t = g.T.Transport in
    let n = t.meaning c.args.below in
    let shape = g.met.T.Transport.shaped c.args.below in
    let e = c.usable_ranks-ranks.ensures in
    record {
      held = refl;
      meaning = ap (λ p. segmented t.most p n) e ∙ new_is t.most n shape;
    }

pub invariant_of-result : goal.invariant_of-result
invariant_of-result g c =
    let t = g.T.Transport in
    let n = t.meaning c.args.below in
    record { whole = subst (λ (p : ℕ). Whole t.most p n) (sym c.usable_ranks-ranks.ensures) (new_whole t.most n (g.met.T.Transport.shaped c.args.below)) }
