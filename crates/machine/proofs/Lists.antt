-- Lists of messages and of numbers.
use Rattle.std.proofs.Common.{◌≡◌, ℕ, zero, suc, ◌/◌, ◌%◌, ◌<◌, true, cond, not, eqb, ◌⊎◌, List, [], ◌∷◌, ◌++◌, replicate, filter, sym, refl, ap, ◌∙◌, subst, inl, inr, ⊎_elim, arith}
use mathlib.Core.List.{head-eq_of_cons-eq, tail-eq_of_cons-eq, cons≢nil}
use mathlib.Core.Option.{none, some}
use Rattle.std.specs.List.{AllByRecursion}
use Rattle.std.proofs.lemmas.Bool.{ne_eqb, eq-eqb, eqb-true, eqb-false, cases_Bool, cases_eq}
use Rattle.machine.specs.Network.{Message, oldest, without, of_job}
use Rattle.machine.specs.Plain.{tag_of}
use Rattle.machine.specs.Sound.{Among, Distinct}

pub tag_job : (n label : ℕ) → label < 16 → tag_of n label / 16 ≡ n
tag_job n label h = omega arith

-- the messages of another job are as they were without the oldest one with a tag
pub kept_without : (k tag : ℕ) (l : List Message) → (tag / 16 ≡ k → ⊥) → filter (of_job k) (without tag l) ≡ filter (of_job k) l
kept_without k tag [] other = refl
kept_without k tag (x ∷ l) other =
    elim (cases_Bool (eqb x.tag tag)) [
      | inl e ↦ rw (e, ne_eqb (x.tag / 16) k (λ f. other (ap (λ t. t / 16) (sym (eqb-true x.tag tag e)) ∙ f)))
      | inr e ↦ rw e (ap (λ r. cond (of_job k x) (x ∷ r) r) (kept_without k tag l other))
    ]

-- one of several equal messages of a job is found under its tag, and taken out
pub record Removed (n tag : ℕ) (words : List ℕ) (l u : List Message) (c : ℕ) (msg : Message) : Type 0 where
  pub left : ℕ
  pub one_less : c ≡ suc left
  pub words_are : words ≡ msg.words
  pub rest_are : filter (of_job n) (without tag l ++ u) ≡ replicate left msg

cons_replicate : (x msg : Message) (l : List Message) (c : ℕ) → x ∷ l ≡ replicate c msg → (d : ℕ) × (c ≡ suc d) × (x ≡ msg) × (l ≡ replicate d msg)
cons_replicate x msg l zero e = absurd (cons≢nil e)
cons_replicate x msg l (suc d) e = (d, refl, head-eq_of_cons-eq e, tail-eq_of_cons-eq e)

pub removed : (n tag : ℕ) (words : List ℕ) (l u : List Message) (c : ℕ) (msg : Message) → tag / 16 ≡ n → oldest tag l ≡ some words → filter (of_job n) (l ++ u) ≡ replicate c msg → Removed n tag words l u c msg
removed n tag words [] u c msg job found all = let z : ◌≡◌ {A = ℕ} 0 1 = cc in absurd (omega arith)
removed n tag words (x ∷ l) u c msg job found all =
    elim (cases_Bool (eqb x.tag tag)) [
      | inl e ↦
          let mine : of_job n x ≡ true = eq-eqb (x.tag / 16) n (ap (λ t. t / 16) (eqb-true x.tag tag e) ∙ job) in
          let here = cons_replicate x msg (filter (of_job n) (l ++ u)) c (rw mine at all) in
          let first : some x.words ≡ some words = rw e at found in
          let same : words ≡ x.words = cc in
          record { left = here.0; one_less = here.1; words_are = same ∙ ap (λ y. y.words) here.2; rest_are = rw e here.3 }
      | inr e ↦
          let later : oldest tag l ≡ some words = rw e at found in
          elim (cases_Bool (of_job n x)) [
            | inl f ↦
                let here = cons_replicate x msg (filter (of_job n) (l ++ u)) c (rw f at all) in
                let more = removed n tag words l u here.0 msg job later here.3 in
                record {
                  left = suc more.left;
                  one_less = here.1 ∙ ap suc more.one_less;
                  words_are = more.words_are;
                  rest_are = rw (e, f) (rw more.rest_are (ap (λ y. y ∷ replicate more.left msg) here.2));
                }
            | inr f ↦
                let more = removed n tag words l u c msg job later (rw f at all) in
                record { left = more.left; one_less = more.one_less; words_are = more.words_are; rest_are = rw (e, f) more.rest_are }
          ]
    ]

-- the messages of a job, of those that are not of another
pub kept_others : (k n : ℕ) (l : List Message) → (k ≡ n → ⊥) → filter (of_job k) (filter (λ msg. not (of_job n msg)) l) ≡ filter (of_job k) l
kept_others k n [] other = refl
kept_others k n (x ∷ l) other =
    elim (cases_Bool (of_job n x)) [
      | inl e ↦ rw (e, ne_eqb (x.tag / 16) k (λ f. other (sym f ∙ eqb-true (x.tag / 16) n e))) (kept_others k n l other)
      | inr e ↦ rw e (ap (λ r. cond (of_job k x) (x ∷ r) r) (kept_others k n l other))
    ]

-- no message is of a job that none of them is known of
pub kept_none : (n : ℕ) (ks : List ℕ) (l : List Message) → (Among n ks → ⊥) → AllByRecursion (λ msg. Among (msg.tag / 16) ks) l → filter (of_job n) l ≡ []
kept_none n ks [] absent all = refl
kept_none n ks (x ∷ l) absent all =
    rw (ne_eqb (x.tag / 16) n (λ e. absent (subst (λ k. Among k ks) e all.0))) (kept_none n ks l absent all.1)

pub none_of : (n : ℕ) (l : List Message) → filter (of_job n) l ≡ [] → AllByRecursion (λ msg. msg.tag / 16 ≡ n → ⊥) l
none_of n [] e = tt
none_of n (x ∷ l) e =
    elim (cases_Bool (of_job n x)) [
      | inl f ↦ absurd (cons≢nil (rw f at e))
      | inr f ↦ (eqb-false (x.tag / 16) n f, none_of n l (rw f at e))
    ]

pub among_kept : (n k : ℕ) (ks : List ℕ) → (k ≡ n → ⊥) → Among k ks → Among k (filter (λ i. not (eqb i n)) ks)
among_kept n k (i ∷ ks) other (inl e) = rw (ne_eqb i n (λ f. other (sym e ∙ f))) (inl e)
among_kept n k (i ∷ ks) other (inr h) =
    elim (cases_Bool (eqb i n)) [
      | inl f ↦ rw f (among_kept n k ks other h)
      | inr f ↦ rw f (inr (among_kept n k ks other h))
    ]
among_kept n k [] other h = absurd h

pub kept_among : (n k : ℕ) (ks : List ℕ) → Among k (filter (λ i. not (eqb i n)) ks) → Among k ks
kept_among n k [] h = h
kept_among n k (i ∷ ks) h =
    elim (cases_Bool (eqb i n)) [
      | inl f ↦ inr (kept_among n k ks (rw f at h))
      | inr f ↦
          let g : (i ≡ k) ⊎ Among k (filter (λ j. not (eqb j n)) ks) = rw f at h in
          ⊎_elim (λ e. inl e) (λ t. inr (kept_among n k ks t)) g
    ]

pub distinct_kept : (n : ℕ) (ks : List ℕ) → Distinct ks → Distinct (filter (λ i. not (eqb i n)) ks)
distinct_kept n [] d = tt
distinct_kept n (i ∷ ks) d =
    elim (cases_Bool (eqb i n)) [
      | inl f ↦ rw f (distinct_kept n ks d.1)
      | inr f ↦ rw f ((λ h. d.0 (kept_among n i ks h)), distinct_kept n ks d.1)
    ]

among_push : (n i : ℕ) (ks : List ℕ) → Among i (ks ++ (n ∷ [])) → (n ≡ i) ⊎ Among i ks
among_push n i [] (inl e) = inl e
among_push n i [] (inr h) = absurd h
among_push n i (k ∷ ks) (inl e) = inr (inl e)
among_push n i (k ∷ ks) (inr h) = ⊎_elim (λ e. inl e) (λ t. inr (inr t)) (among_push n i ks h)

pub push_among : (n i : ℕ) (ks : List ℕ) → Among i ks → Among i (ks ++ (n ∷ []))
push_among n i (k ∷ ks) (inl e) = inl e
push_among n i (k ∷ ks) (inr h) = inr (push_among n i ks h)
push_among n i [] h = absurd h

pub distinct_push : (n : ℕ) (ks : List ℕ) → Distinct ks → (Among n ks → ⊥) → Distinct (ks ++ (n ∷ []))
distinct_push n [] d absent = ((λ h. h), tt)
distinct_push n (i ∷ ks) d absent =
    ((λ h. ⊎_elim (λ e. absent (inl (sym e))) d.0 (among_push n i ks h)), distinct_push n ks d.1 (λ h. absent (inr h)))

-- taking a job's messages out one by one --

-- a take under a tag of the job leaves the others
pub others_without : (n tag : ℕ) (l : List Message) → tag / 16 ≡ n → filter (λ msg. not (of_job n msg)) (without tag l) ≡ filter (λ msg. not (of_job n msg)) l
others_without n tag [] mine = refl
others_without n tag (x ∷ l) mine =
    elim (cases_Bool (eqb x.tag tag)) [
      | inl e ↦ rw (e, eq-eqb (x.tag / 16) n (ap (λ t. t / 16) (eqb-true x.tag tag e) ∙ mine))
      | inr e ↦ rw e (ap (λ r. cond (not (of_job n x)) (x ∷ r) r) (others_without n tag l mine))
    ]

-- once none is found under any of its sixteen tags, only the others are left
pub none_found : (n : ℕ) (l : List Message) → ((label : ℕ) → label < 16 → oldest (tag_of n label) l ≡ none) → filter (λ msg. not (of_job n msg)) l ≡ l
none_found n [] h = refl
none_found n (x ∷ l) h =
    elim (cases_eq (x.tag / 16) n) [
      | inl e ↦
          let label : ℕ = x.tag % 16 in
          let same : x.tag ≡ tag_of n label = omega arith in
          let small : label < 16 = omega arith in
          let found : some x.words ≡ none = rw (eq-eqb x.tag (tag_of n label) same) at (h label small) in
          let z : ◌≡◌ {A = ℕ} 0 1 = cc in
          absurd (omega arith)
      | inr e ↦
          rw (ne_eqb (x.tag / 16) n e)
          (ap (λ r. x ∷ r) (none_found n l (λ label small.
          let other : x.tag ≡ tag_of n label → ⊥ = λ f. e (ap (λ t. t / 16) f ∙ tag_job n label small) in
          rw (ne_eqb x.tag (tag_of n label) other) at (h label small))))
    ]
