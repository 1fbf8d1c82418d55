-- Every call is refused by the first of its refusals that applies, and by none otherwise.
use Rattle.std.proofs.Common.{◌≡◌, ℕ, Bool, true, false, not, ltb, List, [], ◌∷◌, sym, refl, ap, ◌∙◌, arith}
use mathlib.Core.Option.{Option, none, some}
use lib.ListN.{get_elem?}
use Rattle.programme.specs.declared.Action.{Action}
use Rattle.programme.specs.declared.Action.TheVariants.{Send, Take}
use Rattle.programme.specs.declared.Merge.{Merge}
use Rattle.programme.specs.Rank.{Rank, Mail}
use Rattle.machine.specs.Operation.{Meaning}
use Rattle.machine.specs.Network.{Network, apart, oldest}
use Rattle.machine.specs.Job.{Job, rank_of, actions}
use Rattle.machine.specs.Plain.{Plain, Call, Answer, Refusal, start, turn, carry, look, end, abandon, refused, no_job, bad_rank, bad_pair, step, when, first_refusal, refusals, of_token, root_for, end_refusals, shown, after_start, after_carry, after_look, after_end, end_shown, after_abandon, answer_of, action_move, take_move, mail_of, tag_of}
use Rattle.machine.specs.Laws.{RefusesFirst}
use Rattle.machine.proofs.Steps.{turn_no_job, turn_bad_rank}

only_one : (o : Option Refusal) → first_refusal (o ∷ []) ≡ o
only_one none = refl
only_one (some f) = refl

module _ {E : Type 0} where
  -- a rank's action is never refused
  take_answers : (m : Meaning E) (from tag : ℕ) (merge : Merge) (x : Rank E) (o : Option (Mail E)) (f : Refusal) → answer_of (take_move m from tag merge x o) ≡ refused f → ⊥
  take_answers m from tag merge x none f e = let z : ◌≡◌ {A = ℕ} 0 1 = cc in omega arith
  take_answers m from tag merge x (some mail) f e = let z : ◌≡◌ {A = ℕ} 0 1 = cc in omega arith

  action_answers : (m : Meaning E) (net : Network) (number r : ℕ) (x : Rank E) (o : Option Action) (f : Refusal) → answer_of (action_move m net number r x o) ≡ refused f → ⊥
  action_answers m net number r x none f e = let z : ◌≡◌ {A = ℕ} 0 1 = cc in omega arith
  action_answers m net number r x (some (Send to label)) f e = let z : ◌≡◌ {A = ℕ} 0 1 = cc in omega arith
  action_answers m net number r x (some (Take from label merge)) f e =
      take_answers m from (tag_of number label) merge x (mail_of m (oldest (tag_of number label) (net.arrived from r))) f e

  turn_refuses : (s : Plain E) (name number r : ℕ) (o : Option (Job E)) → shown s name number ≡ o → (b : Bool) → ltb r s.now.ranks ≡ b → RefusesFirst s (turn name number r)
  turn_refuses s name number r none e b below = record {
    refused_by = λ f given.
        let no_such : some no_job ≡ some f = rw e at given in
        let same : no_job ≡ f = cc in
        turn_no_job s name number r e ∙ ap (λ g. (refused g, s)) same;
    not_refused = λ given f answer.
        let no_such : some no_job ≡ none = rw e at given in
        let z : ◌≡◌ {A = ℕ} 0 1 = cc in omega arith;
  }
  turn_refuses s name number r (some job) e false below = record {
    refused_by = λ f given.
        let no_such : some bad_rank ≡ some f = rw (e, below) at given in
        let same : bad_rank ≡ f = cc in
        turn_bad_rank s name number r job e below ∙ ap (λ g. (refused g, s)) same;
    not_refused = λ given f answer.
        let no_such : some bad_rank ≡ none = rw (e, below) at given in
        let z : ◌≡◌ {A = ℕ} 0 1 = cc in omega arith;
  }
  turn_refuses s name number r (some job) e true below = record {
    refused_by = λ f given.
        let no_such : none ≡ some f = rw (e, below) at given in
        let z : ◌≡◌ {A = ℕ} 0 1 = cc in absurd (omega arith);
    not_refused = λ given f answer.
        action_answers s.meaning s.now job.number r (rank_of s.meaning job r) (get_elem? (actions s.now.ranks job r) (rank_of s.meaning job r).done) f (rw (e, below) at answer);
  }

  -- a look, an end or an abandon of the job shown, where an unrefused one is answered otherwise
  shown_refuses : (s : Plain E) (call : Call) (o : Option (Job E)) (more : Job E → List (Option Refusal)) (does : Option (Job E) → Answer × Plain E)
      → refusals s call ≡ of_token o more
      → step s call ≡ does o
      → does none ≡ (refused no_job, s)
      → ((job : Job E) (f : Refusal) → first_refusal (more job) ≡ some f → does (some job) ≡ (refused f, s))
      → ((job : Job E) → first_refusal (more job) ≡ none → (f : Refusal) → (does (some job)).0 ≡ refused f → ⊥)
      → RefusesFirst s call
  shown_refuses s call none more does listed steps no_such refuses answers = record {
    refused_by = λ f given.
        let first : some no_job ≡ some f = sym (ap first_refusal listed) ∙ given in
        let same : no_job ≡ f = cc in
        steps ∙ no_such ∙ ap (λ g. (refused g, s)) same;
    not_refused = λ given f answer.
        let first : some no_job ≡ none = sym (ap first_refusal listed) ∙ given in
        let z : ◌≡◌ {A = ℕ} 0 1 = cc in omega arith;
  }
  shown_refuses s call (some job) more does listed steps no_such refuses answers = record {
    refused_by = λ f given. steps ∙ refuses job f (sym (ap first_refusal listed) ∙ given);
    not_refused = λ given f answer. answers job (sym (ap first_refusal listed) ∙ given) f (sym (ap (λ x. x.0) steps) ∙ answer);
  }

  pub refuses_first : (s : Plain E) (call : Call) → RefusesFirst s call
  refuses_first s (start kind root words) = record {
    refused_by = λ f given. ap (after_start s kind (root_for kind root) words) given;
    not_refused = λ given f answer.
        let unrefused = ap (λ o. (after_start s kind (root_for kind root) words o).0) (sym given) ∙ answer in
        let z : ◌≡◌ {A = ℕ} 0 1 = cc in omega arith;
  }
  refuses_first s (turn name number r) = turn_refuses s name number r (shown s name number) refl (ltb r s.now.ranks) refl
  refuses_first s (carry from to) =
      let one = only_one (when (not (apart s.now.ranks from to)) bad_pair) in
      record {
        refused_by = λ f given. ap (after_carry s from to) (sym one ∙ given);
        not_refused = λ given f answer.
            let unrefused = ap (λ o. (after_carry s from to o).0) (sym given ∙ one) ∙ answer in
            let z : ◌≡◌ {A = ℕ} 0 1 = cc in omega arith;
      }
  refuses_first s (look name number) =
      shown_refuses s (look name number) (shown s name number) (λ job. []) (after_look s) refl refl refl
      (λ job f e. let z : ◌≡◌ {A = ℕ} 0 1 = cc in absurd (omega arith))
      (λ job e f answer. let z : ◌≡◌ {A = ℕ} 0 1 = cc in omega arith)
  refuses_first s (end name number lent) =
      shown_refuses s (end name number lent) (shown s name number) (λ job. end_refusals s job lent) (λ o. end_shown s o lent) refl refl refl
      (λ job f e. ap (after_end s job lent) e)
      (λ job e f answer.
      let unrefused = ap (λ o. (after_end s job lent o).0) (sym e) ∙ answer in
      let z : ◌≡◌ {A = ℕ} 0 1 = cc in omega arith)
  refuses_first s (abandon name number) =
      shown_refuses s (abandon name number) (shown s name number) (λ job. []) (after_abandon s) refl refl refl
      (λ job f e. let z : ◌≡◌ {A = ℕ} 0 1 = cc in absurd (omega arith))
      (λ job e f answer. let z : ◌≡◌ {A = ℕ} 0 1 = cc in omega arith)
