-- Whatever the values, every kind flows: its programmes are solved over the monoid of one element.
use Rattle.std.proofs.Common.{ℕ, ◌<◌, Bool, true, refl}
use Rattle.programme.specs.declared.Kind.{Kind}
use Rattle.programme.specs.Message.{mail}
use Rattle.programme.specs.Monoid.{Laws}
use Rattle.programme.specs.Programme.{programme}
use Rattle.programme.specs.Solved.{Solved}
use Rattle.programme.specs.Outcome.{Outcome, start}
use Rattle.programme.specs.Progress.{Flows}
use Rattle.programme.proofs.Labels.{labels_fit}
use Rattle.programme.proofs.Order.{comes_out, chain_grows, send_then_send, stamp_positive, stamps_by_rounds}
use Rattle.programme.proofs.Progressing.{never_stuck}
use Rattle.programme.proofs.Pairing.{turns_are}

abbrev always : Unit {0} → Bool
always x = true

abbrev pub one : Unit {0} → Unit {0} → Unit {0}
one x y = tt

abbrev pub nothing : ℕ → Unit {0}
nothing r = tt

trivial : Laws always tt one
trivial = record { unit_proper = refl; join_proper = λ x y p q. refl; assoc = λ x y z p q r. refl; unit_left = λ x p. refl; unit_right = λ x p. refl }

outcome_for_one : (kind : Kind) (p root : ℕ) → root < p → Outcome tt one p root nothing kind
outcome_for_one kind p root h = comes_out kind (Unit {0}) always tt one trivial p root h nothing (λ r l. refl)

pub solved_for_one : (kind : Kind) (p root : ℕ) → root < p → Solved one p (programme kind p root) (start tt one kind p root nothing) (mail tt one kind p root nothing)
solved_for_one kind p root h = (outcome_for_one kind p root h).solved

pub flows : (kind : Kind) → Flows kind
flows kind p root h =
    let solved = solved_for_one kind p root h in
    record {
      never_stuck = never_stuck one p _ _ _ solved;
      turns = turns_are tt one p root nothing kind (outcome_for_one kind p root h);
      stamps_within = λ a b label l s. (stamp_positive one p _ _ _ solved a b label l s, stamps_by_rounds always tt one trivial kind p root h nothing (λ r m. refl) a b label l s);
      chains_grow = chain_grows one p _ _ _ solved;
      sends_grow = λ a b c l s. send_then_send one p _ _ _ solved a b c s.label s.first_label l s.sends s.first;
      labels_fit = λ few r l action s. labels_fit p few kind root r h action s;
    }
