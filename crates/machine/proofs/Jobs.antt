-- The list of pending jobs: one looked up, one changed, one taken out.
use Rattle.std.proofs.Common.{◌≡◌, ℕ, ◌+◌, ◌≤◌, Bool, true, false, cond, not, eqb, List, [], ◌∷◌, map, length, filter, sym, refl, ap, ◌∙◌, subst, ap₂, inl, inr, arith}
use mathlib.Core.Option.{none, some}
use Rattle.std.specs.List.{AllByRecursion}
use Rattle.std.proofs.lemmas.Bool.{ne_eqb, eqb-true, eqb-false, cases_Bool}
use Rattle.programme.specs.Formula.{messages}
use Rattle.machine.specs.Job.{Job}
use Rattle.machine.specs.Plain.{Plain, Move, Answer, stays, moved_job, numbered, shown, messages_pending}
use Rattle.machine.specs.Sound.{Among, Distinct, numbers}

module _ {E : Type 0} where
  -- the job of a number
  pub record Found (n : ℕ) (jobs : List (Job E)) (job : Job E) : Type 1 where
    pub number_is : job.number ≡ n
    pub among : Among n (numbers jobs)
    pub all_have : (P : Job E → Type 0) → AllByRecursion P jobs → P job

  pub found : (n : ℕ) (jobs : List (Job E)) (job : Job E) → numbered n jobs ≡ some job → Found n jobs job
  found n [] job e = let z : ◌≡◌ {A = ℕ} 0 1 = cc in absurd (omega arith)
  found n (k ∷ jobs) job e =
      elim (cases_Bool (eqb k.number n)) [
        | inl f ↦
            let g : some k ≡ some job = rw f at e in
            let same : k ≡ job = cc in
            record {
              number_is = sym (ap (λ x. x.number) same) ∙ eqb-true k.number n f;
              among = inl (eqb-true k.number n f);
              all_have = λ P h. subst P same h.0;
            }
        | inr f ↦
            let r = found n jobs job (rw f at e) in
            record { number_is = r.number_is; among = inr r.among; all_have = λ P h. r.all_have P h.1 }
      ]

  pub shown_found : (s : Plain E) (name n : ℕ) (job : Job E) → shown s name n ≡ some job → numbered n s.jobs ≡ some job
  shown_found s name n job e = go (eqb name s.name) e
    where
      go : (b : Bool) → cond b (numbered n s.jobs) none ≡ some job → numbered n s.jobs ≡ some job
      go true f = f
      go false f = let z : ◌≡◌ {A = ℕ} 0 1 = cc in absurd (omega arith)

  -- a change of the job of one number, and of none other
  others : (P Q : Job E → Type 0) (f : Job E → Job E) (n : ℕ) (jobs : List (Job E)) → (Among n (numbers jobs) → ⊥) → AllByRecursion P jobs
      → ((k : Job E) → (k.number ≡ n → ⊥) → P k → Q (f k))
      → AllByRecursion Q (map f jobs)
  others P Q f n [] absent h other = tt
  others P Q f n (k ∷ jobs) absent h other = (other k (λ e. absent (inl e)) h.0, others P Q f n jobs (λ t. absent (inr t)) h.1 other)

  pub update : (P Q : Job E → Type 0) (f : Job E → Job E) (n : ℕ) (jobs : List (Job E)) (job : Job E) → Distinct (numbers jobs) → numbered n jobs ≡ some job → AllByRecursion P jobs
      → (P job → Q (f job))
      → ((k : Job E) → (k.number ≡ n → ⊥) → P k → Q (f k))
      → AllByRecursion Q (map f jobs)
  update P Q f n [] job d e h here other = tt
  update P Q f n (k ∷ jobs) job d e h here other =
      elim (cases_Bool (eqb k.number n)) [
        | inl g ↦
            let i : some k ≡ some job = rw g at e in
            let same : k ≡ job = cc in
            (subst (λ x. P x → Q (f x)) (sym same) here h.0, others P Q f n jobs (subst (λ i. Among i (numbers jobs) → ⊥) (eqb-true k.number n g) d.0) h.1 other)
        | inr g ↦ (other k (eqb-false k.number n g) h.0, update P Q f n jobs job d.1 (rw g at e) h.1 here other)
      ]

  pub numbers_moved : (n r : ℕ) (move : Move E) (jobs : List (Job E)) → numbers (map (moved_job n r move) jobs) ≡ numbers jobs
  numbers_moved n r move [] = refl
  numbers_moved n r move (k ∷ jobs) = ap (λ l. k.number ∷ l) (numbers_moved n r move jobs)

  pub messages_moved : (p n r : ℕ) (move : Move E) (jobs : List (Job E)) → messages_pending p (map (moved_job n r move) jobs) ≡ messages_pending p jobs
  messages_moved p n r move [] = refl
  messages_moved p n r move (k ∷ jobs) = ap (λ i. messages k.kind p k.root + i) (messages_moved p n r move jobs)

  pub job_stays : (n r : ℕ) (a : Answer) (job : Job E) → moved_job n r (stays a) job ≡ job
  job_stays n r a job = λ i. record {
    number = job.number;
    kind = job.kind;
    root = job.root;
    inputs = job.inputs;
    ranks = same (eqb job.number n) job.ranks i;
    sent = same (eqb job.number n) job.sent i;
  }
    where
      same : {A : Type 0} (b : Bool) (x : A) → cond b x x ≡ x
      same true x = refl
      same false x = refl

  pub jobs_stay : (n r : ℕ) (a : Answer) (jobs : List (Job E)) → map (moved_job n r (stays a)) jobs ≡ jobs
  jobs_stay n r a [] = refl
  jobs_stay n r a (k ∷ jobs) = ap₂ ◌∷◌ (job_stays n r a k) (jobs_stay n r a jobs)

  pub job_elsewhere : (n r : ℕ) (move : Move E) (job : Job E) → (job.number ≡ n → ⊥) → moved_job n r move job ≡ job
  job_elsewhere n r move job other = rw (ne_eqb job.number n other)

  -- the jobs but for one number
  pub without_all : (P Q : Job E → Type 0) (n : ℕ) (jobs : List (Job E)) → ((k : Job E) → (k.number ≡ n → ⊥) → P k → Q k) → AllByRecursion P jobs → AllByRecursion Q (filter (λ job. not (eqb job.number n)) jobs)
  without_all P Q n [] other h = tt
  without_all P Q n (k ∷ jobs) other h =
      elim (cases_Bool (eqb k.number n)) [
        | inl e ↦ rw e (without_all P Q n jobs other h.1)
        | inr e ↦ rw e (other k (eqb-false k.number n e) h.0, without_all P Q n jobs other h.1)
      ]

  pub without_numbers : (n : ℕ) (jobs : List (Job E)) → numbers (filter (λ job. not (eqb job.number n)) jobs) ≡ filter (λ i. not (eqb i n)) (numbers jobs)
  without_numbers n [] = refl
  without_numbers n (k ∷ jobs) =
      elim (cases_Bool (eqb k.number n)) [
        | inl e ↦ rw e (without_numbers n jobs)
        | inr e ↦ rw e (ap (λ l. k.number ∷ l) (without_numbers n jobs))
      ]

  pub without_length : (n : ℕ) (jobs : List (Job E)) → length (filter (λ job. not (eqb job.number n)) jobs) ≤ length jobs
  without_length n [] = omega arith
  without_length n (k ∷ jobs) =
      let h = without_length n jobs in
      elim (cases_Bool (eqb k.number n)) [
        | inl e ↦ rw e (omega arith)
        | inr e ↦ rw e (omega arith)
      ]

  pub without_messages : (p n : ℕ) (jobs : List (Job E)) → messages_pending p (filter (λ job. not (eqb job.number n)) jobs) ≤ messages_pending p jobs
  without_messages p n [] = omega arith
  without_messages p n (k ∷ jobs) =
      let h = without_messages p n jobs in
      elim (cases_Bool (eqb k.number n)) [
        | inl e ↦ rw e (omega arith)
        | inr e ↦ rw e (omega arith)
      ]
