-- What holds of an action that a schedule answers.
use Rattle.std.proofs.Common.{◌≡◌, ℕ, ◌^◌, ◌<◌, ◌≤◌, Some, None, Option, sym, refl, subst, arith}
use Rattle.std.specs.List.{slice_get}
use Rattle.programme.specs.declared.Action.{Action}
use Rattle.programme.specs.declared.Action.TheVariants.{Send, Take}
use Rattle.programme.specs.declared.Kind.{Kind}
use Rattle.programme.specs.Label.{label_count}
use Rattle.programme.specs.Programme.{programme}
use Rattle.programme.proofs.Indexed.{next_at}
use Rattle.programme.proofs.Flowing.{solved_for_one}
use Rattle.programme.proofs.Labels.{labels_fit}
use Rattle.schedule.specs.declared.Collective.{Collective}
use Rattle.schedule.specs.Collective.{kind_of, root_of, Allowed, actions_of, NamesOther}

names_other : (kind : Kind) (p root r i : ℕ) → root < p → p ≤ 2 ^ label_count → r < p → NamesOther p r (slice_get (programme kind p root r) i)
names_other kind p root r i h few l = go (slice_get (programme kind p root r) i) refl
  where
    go : (o : Option Action) → slice_get (programme kind p root r) i ≡ o → NamesOther p r o
    go None e = tt
    go (Some (Send to label)) e =
        let s = (next_at (programme kind p root r) i (Send to label) e).stands in
        let there = (solved_for_one kind p root h).send_rank r to label l s in
        (there.0, λ q. there.1 (sym q), labels_fit p few kind root r h (Send to label) s)
    go (Some (Take from label m)) e =
        let s = (next_at (programme kind p root r) i (Take from label m) e).stands in
        let there = (solved_for_one kind p root h).take_rank from r label m l s in
        (there.0, there.1, labels_fit p few kind root r h (Take from label m) s)

pub other : (collective : Collective) (p r i : ℕ) (o : Option Action) → Allowed collective p → r < p → o ≡ slice_get (actions_of collective p r) i → NamesOther p r o
other collective p r i o a l e = subst (NamesOther p r) (sym e) (names_other (kind_of collective) p (root_of collective) r i a.0 (omega arith) l)
