-- That a log is sound has one proof at most, as its invariant has to.
use Rattle.std.specs.Prelude.{◌≡◌, ℕ, false, List, [], ◌∷◌}
use Rattle.std.specs.List.{AllByRecursion, AllByRecursion-prop}
use Rattle.std.specs.Coded.{×_prop, Unit-prop}
use Rattle.std.proofs.Props.{props}
use Rattle.shared_log.specs.declared.Record.{Record}
use Rattle.shared_log.specs.Records.{is_arrived, Good, Ordered, SoundLog}

Good-prop : (p : ℕ) (r : Record) → IsProp (Good p r)
Good-prop p r = hlevel props

Ordered-prop : (rs : List Record) → IsProp (Ordered rs)
Ordered-prop [] = Unit-prop
Ordered-prop (r ∷ rs) =
    let behind : IsProp (AllByRecursion (λ s. is_arrived r.from r.to s ≡ false) rs) = AllByRecursion-prop _ (λ s. hlevel props) rs in
    ×_prop (hlevel (props, behind)) (Ordered-prop rs)

pub SoundLog-prop : (p room used : ℕ) (rs : List Record) → IsProp (SoundLog p room used rs)
SoundLog-prop p room used rs =
    hlevel (props, AllByRecursion-prop (Good p) (Good-prop p), Ordered-prop)
