-- For an engine that keeps its jobs by place: the list of pending jobs after a look-up, a turn, an end;
-- and the network after a job's messages were taken out one by one.
use Rattle.std.proofs.Common.{◌≡◌, ℕ, zero, suc, ◌/◌, ◌<◌, ◌≤◌, Bool, true, false, cond, not, ◌&&◌, eqb, List, [], ◌∷◌, ◌++◌, map, length, get_or, take, drop, set, filter, sym, refl, ap, ◌∙◌, subst, ap₂, inl, inr, append-nil, arith}
use mathlib.Core.Path.{fun_ext}
use mathlib.Core.Option.{none, some}
use Rattle.std.proofs.lemmas.Bool.{ne_eqb, eq-eqb}
use Rattle.std.proofs.lemmas.List.Elements.{filter-append}
use Rattle.machine.specs.Network.{Message, Network, waiting, with_abandoned, of_job, oldest, with_carried, with_taken, without}
use Rattle.machine.specs.Job.{Job}
use Rattle.machine.specs.Plain.{Plain, Move, Answer, stays, moved_job, after_move, numbered, tag_of}
use Rattle.machine.specs.Sound.{Among, Distinct, numbers, Sound}
use Rattle.machine.proofs.Lists.{none_found, others_without}
use Rattle.machine.proofs.Between.{waiting_carried, waiting_taken}
use Rattle.machine.proofs.Jobs.{found, jobs_stay, job_elsewhere}
use Rattle.machine.proofs.Begin.{started_above}

module _ {E : Type 0} where
  among_at : (jobs : List (Job E)) (i : ℕ) (d : Job E) → i < length jobs → Among (get_or jobs i d).number (numbers jobs)
  among_at [] i d h = absurd (omega arith)
  among_at (k ∷ jobs) zero d h = inl refl
  among_at (k ∷ jobs) (suc i) d h = inr (among_at jobs i d (omega arith))

  -- the job at a place is the one that its number shows
  pub numbered_at : (jobs : List (Job E)) (i : ℕ) (d : Job E) → Distinct (numbers jobs) → i < length jobs → numbered (get_or jobs i d).number jobs ≡ some (get_or jobs i d)
  numbered_at [] i d distinct h = absurd (omega arith)
  numbered_at (k ∷ jobs) zero d distinct h = rw (eq-eqb k.number k.number refl)
  numbered_at (k ∷ jobs) (suc i) d distinct h =
      let g : i < length jobs = omega arith in
      let other : k.number ≡ (get_or jobs i d).number → ⊥ = λ e. distinct.0 (subst (λ n. Among n (numbers jobs)) (sym e) (among_at jobs i d g)) in
      rw (ne_eqb k.number (get_or jobs i d).number other) (numbered_at jobs i d distinct.1 g)

  -- a number that no place has
  pub numbered_none : (n : ℕ) (jobs : List (Job E)) (d : Job E) → ((i : ℕ) → i < length jobs → (get_or jobs i d).number ≡ n → ⊥) → numbered n jobs ≡ none
  numbered_none n [] d h = refl
  numbered_none n (k ∷ jobs) d h = rw (ne_eqb k.number n (h 0 (omega arith))) (numbered_none n jobs d (λ i g. h (suc i) (omega arith)))

  untouched : (n r : ℕ) (move : Move E) (jobs : List (Job E)) → (Among n (numbers jobs) → ⊥) → map (moved_job n r move) jobs ≡ jobs
  untouched n r move [] absent = refl
  untouched n r move (k ∷ jobs) absent = ap₂ ◌∷◌ (job_elsewhere n r move k (λ e. absent (inl e))) (untouched n r move jobs (λ t. absent (inr t)))

  -- a turn alters the job at its place alone
  pub moved_at : (jobs : List (Job E)) (i : ℕ) (d : Job E) (r : ℕ) (move : Move E) → Distinct (numbers jobs) → i < length jobs
      → map (moved_job (get_or jobs i d).number r move) jobs ≡ set jobs i (moved_job (get_or jobs i d).number r move (get_or jobs i d))
  moved_at [] i d r move distinct h = absurd (omega arith)
  moved_at (k ∷ jobs) zero d r move distinct h = ap (λ l. moved_job k.number r move k ∷ l) (untouched k.number r move jobs distinct.0)
  moved_at (k ∷ jobs) (suc i) d r move distinct h =
      let g : i < length jobs = omega arith in
      let other : k.number ≡ (get_or jobs i d).number → ⊥ = λ e. distinct.0 (subst (λ n. Among n (numbers jobs)) (sym e) (among_at jobs i d g)) in
      ap₂ ◌∷◌ (job_elsewhere (get_or jobs i d).number r move k other) (moved_at jobs i d r move distinct.1 g)

  all_kept : (n : ℕ) (jobs : List (Job E)) → (Among n (numbers jobs) → ⊥) → filter (λ job. not (eqb job.number n)) jobs ≡ jobs
  all_kept n [] absent = refl
  all_kept n (k ∷ jobs) absent = rw (ne_eqb k.number n (λ e. absent (inl e))) (ap (λ l. k ∷ l) (all_kept n jobs (λ t. absent (inr t))))

  -- an end or an abandoned job takes its place out
  pub without_at : (jobs : List (Job E)) (i : ℕ) (d : Job E) → Distinct (numbers jobs) → i < length jobs
      → filter (λ job. not (eqb job.number (get_or jobs i d).number)) jobs ≡ take i jobs ++ drop (suc i) jobs
  without_at [] i d distinct h = absurd (omega arith)
  without_at (k ∷ jobs) zero d distinct h = rw (eq-eqb k.number k.number refl) (all_kept k.number jobs distinct.0)
  without_at (k ∷ jobs) (suc i) d distinct h =
      let g : i < length jobs = omega arith in
      let other : k.number ≡ (get_or jobs i d).number → ⊥ = λ e. distinct.0 (subst (λ n. Among n (numbers jobs)) (sym e) (among_at jobs i d g)) in
      rw (ne_eqb k.number (get_or jobs i d).number other) (ap (λ l. k ∷ l) (without_at jobs i d distinct.1 g))

  -- a turn that neither sends nor takes alters nothing
  pub stays_same : (s : Plain E) (n r : ℕ) (a : Answer) → after_move s n r (stays a) ≡ s
  stays_same s n r a = λ i. record {
    name = s.name;
    meaning = s.meaning;
    origin = s.origin;
    now = s.now;
    started = s.started;
    jobs = jobs_stay n r a s.jobs i;
  }

  -- a pending job's number
  pub number_small : (s : Plain E) → Sound s → (n : ℕ) (job : Job E) → numbered n s.jobs ≡ some job → n ≤ 65535
  number_small s h n job at = omega (arith, started_above s.started n (numbers s.jobs) h.started_all (found n s.jobs job at).among, h.started_few)

-- abandoning, one carry and one take at a time --

-- what waits but for the messages of a job
abbrev pub rest : ℕ → Network → ℕ → ℕ → List Message
rest n net a b = filter (λ msg. not (of_job n msg)) (waiting net a b)

pub rest_carried : (n from to : ℕ) (net : Network) (a b : ℕ) → rest n (with_carried from to net) a b ≡ rest n net a b
rest_carried n from to net a b = ap (λ w. filter (λ msg. not (of_job n msg)) (w a b)) (waiting_carried from to net)

pub rest_taken : (n from r tag : ℕ) (net : Network) → tag / 16 ≡ n → (a b : ℕ) → rest n (with_taken from r tag net) a b ≡ rest n net a b
rest_taken n from r tag net mine a b =
    ap (filter (λ msg. not (of_job n msg))) (waiting_taken from r tag net a b) ∙ same (eqb a from && eqb b r) (net.arrived a b) (net.under a b)
  where
    same : (t : Bool) (l u : List Message) → filter (λ msg. not (of_job n msg)) (cond t (without tag l) l ++ u) ≡ filter (λ msg. not (of_job n msg)) (l ++ u)
    same true l u =
        filter-append (λ msg. not (of_job n msg)) (without tag l) u
        ∙ ap (λ x. x ++ filter (λ msg. not (of_job n msg)) u) (others_without n tag l mine)
        ∙ sym (filter-append (λ msg. not (of_job n msg)) l u)
    same false l u = refl

-- nothing under way, and nothing found under any tag of the job: it is abandoned
pub abandoned_is : (n : ℕ) (old new : Network) → new.ranks ≡ old.ranks → new.depth ≡ old.depth → new.room ≡ old.room → new.limit ≡ old.limit
    → ((a b : ℕ) → new.under a b ≡ [])
    → ((a b : ℕ) → rest n new a b ≡ rest n old a b)
    → ((a b label : ℕ) → label < 16 → oldest (tag_of n label) (new.arrived a b) ≡ none)
    → new ≡ with_abandoned n old
abandoned_is n old new er ed em el under same gone = λ i. record {
  ranks = er i;
  depth = ed i;
  room = em i;
  limit = el i;
  under = fun_ext {f = new.under} {g = λ a b. []} (λ a. fun_ext (λ b. under a b)) i;
  arrived = fun_ext (λ a. fun_ext (λ b. all a b)) i;
}
  where
    all : (a b : ℕ) → new.arrived a b ≡ filter (λ msg. not (of_job n msg)) (waiting old a b)
    all a b =
        sym (none_found n (new.arrived a b) (gone a b))
        ∙ ap (filter (λ msg. not (of_job n msg))) (sym (append-nil (new.arrived a b)) ∙ ap (λ l. new.arrived a b ++ l) (sym (under a b)))
        ∙ same a b
