-- Every machine that a new one becomes by calls is good.
use Rattle.std.proofs.Common.{◌≡◌, ℕ, not, List, [], ◌∷◌, map, sym, refl, subst, ap₂}
use mathlib.Core.List.{head-eq_of_cons-eq, tail-eq_of_cons-eq}
use mathlib.Core.Option.{Option, none, some}
use Rattle.machine.specs.Operation.{Meaning, Lawful}
use Rattle.machine.specs.Network.{Network, apart, WellMade}
use Rattle.machine.specs.Job.{Job}
use Rattle.machine.specs.Plain.{Plain, Answer, Call, Refusal, start, turn, carry, look, end, abandon, step, made, when, bad_pair, root_for, start_refusal, after_start, after_carry, after_look, after_end, end_shown, end_refusal, after_abandon, shown}
use Rattle.machine.specs.Record.{Entry, Follows, after}
use Rattle.machine.specs.Sound.{Sound, Good}
use Rattle.machine.proofs.Turned.{turned}
use Rattle.machine.proofs.Keep.{turn_sound, carry_sound}
use Rattle.machine.proofs.Begin.{start_sound, made_sound}
use Rattle.machine.proofs.Finish.{end_sound, abandon_sound}
use Rattle.machine.proofs.Plans.{planned}

module _ {E : Type 0} where
  -- what never changes
  pub record Same (s t : Plain E) : Type 0 where
    pub name_same : t.name ≡ s.name
    pub meaning_same : t.meaning ≡ s.meaning
    pub origin_same : t.origin ≡ s.origin

  unaltered : {s t : Plain E} → t.name ≡ s.name → t.meaning ≡ s.meaning → t.origin ≡ s.origin → Same s t
  unaltered a b c = record { name_same = a; meaning_same = b; origin_same = c }

  pub step_same : (s : Plain E) (c : Call) → Same s (step s c).1
  step_same s (start kind root words) = go (start_refusal s kind (root_for kind root) words)
    where
      go : (o : Option Refusal) → Same s (after_start s kind (root_for kind root) words o).1
      go none = unaltered refl refl refl
      go (some f) = unaltered refl refl refl
  step_same s (turn name number r) = unaltered refl refl refl
  step_same s (carry from to) = go (when (not (apart s.now.ranks from to)) bad_pair)
    where
      go : (o : Option Refusal) → Same s (after_carry s from to o).1
      go none = unaltered refl refl refl
      go (some f) = unaltered refl refl refl
  step_same s (look name number) = go (shown s name number)
    where
      go : (o : Option (Job E)) → Same s (after_look s o).1
      go none = unaltered refl refl refl
      go (some job) = unaltered refl refl refl
  step_same s (end name number lent) = go (shown s name number)
    where
      ways : (job : Job E) (o : Option Refusal) → Same s (after_end s job lent o).1
      ways job none = unaltered refl refl refl
      ways job (some f) = unaltered refl refl refl

      go : (o : Option (Job E)) → Same s (end_shown s o lent).1
      go none = unaltered refl refl refl
      go (some job) = ways job (end_refusal s job lent)
  step_same s (abandon name number) = go (shown s name number)
    where
      go : (o : Option (Job E)) → Same s (after_abandon s o).1
      go none = unaltered refl refl refl
      go (some job) = unaltered refl refl refl

  look_same : (s : Plain E) (o : Option (Job E)) → (after_look s o).1 ≡ s
  look_same s none = refl
  look_same s (some job) = refl

  pub step_sound : (s : Plain E) → Good s → (c : Call) → Sound (step s c).1
  step_sound s h (start kind root words) = start_sound s h.lawful (planned s.meaning h.lawful) h.well h.sound kind (root_for kind root) words (start_refusal s kind (root_for kind root) words) refl
  step_sound s h (turn name number r) = turn_sound s h.lawful h.sound number r (turned s number r name)
  step_sound s h (carry from to) = carry_sound s h.sound from to (when (not (apart s.now.ranks from to)) bad_pair)
  step_sound s h (look name number) = subst Sound (sym (look_same s (shown s name number))) h.sound
  step_sound s h (end name number lent) = end_sound s h.sound name number lent (shown s name number) refl
  step_sound s h (abandon name number) = abandon_sound s h.sound (shown s name number)

  pub step_good : (s : Plain E) → Good s → (c : Call) → Good (step s c).1
  step_good s h c =
      let same = step_same s c in
      record {
        lawful = subst (λ m. Lawful m) (sym same.meaning_same) h.lawful;
        well = subst WellMade (sym same.origin_same) h.well;
        sound = step_sound s h c;
      }

-- a record follows a machine exactly where its answers are those of the run --

module _ {E : Type 0} where
  -- the answers to a list of calls
  abbrev pub answers : Plain E → List Call → List Answer
  answers s [] = []
  answers s (c ∷ more) = (step s c).0 ∷ answers (step s c).1 more

  pub follows_run : (s : Plain E) (entries : List Entry) → Follows s entries → map (λ e. e.answer) entries ≡ answers s (map (λ e. e.call) entries)
  follows_run s [] f = refl
  follows_run s (e ∷ entries) f = ap₂ ◌∷◌ f.0 (follows_run (step s e.call).1 entries f.1)

  pub run_follows : (s : Plain E) (entries : List Entry) → map (λ e. e.answer) entries ≡ answers s (map (λ e. e.call) entries) → Follows s entries
  run_follows s [] f = tt
  run_follows s (e ∷ entries) f = (head-eq_of_cons-eq f, run_follows (step s e.call).1 entries (tail-eq_of_cons-eq f))

  -- every machine that a new one becomes by calls is good
  pub after_good : (s : Plain E) → Good s → (calls : List Call) → Good (after s calls)
  after_good s h [] = h
  after_good s h (c ∷ calls) = after_good (step s c).1 (step_good s h c) calls

  pub made_good : (name : ℕ) (m : Meaning E) (net : Network) → Lawful m → WellMade net → Good (made name m net)
  made_good name m net lawful well = record { lawful = lawful; well = well; sound = made_sound name m net well }
