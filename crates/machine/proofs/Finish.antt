-- A job taken out, ended or abandoned, leaves a machine sound; what a finished job has come to.
use Rattle.std.proofs.Common.{◌≡◌, ℕ, zero, suc, ◌-◌, ◌/◌, ◌<◌, ◌≤◌, true, not, eqb, leb, List, [], ◌∷◌, length, get_or, take, filter, sym, refl, ap, ◌∙◌, subst, inl, inr, append-nil, arith, length-append, take_all}
use mathlib.Core.Option.{Option, none, some}
use Rattle.std.specs.List.{AllByRecursion}
use Rattle.std.proofs.lemmas.Bool.{eqb-true, eqb-false, leb-true, cases_Bool, cases_lt, not-false}
use Rattle.std.proofs.ByRecursion.{all_kept_by}
use Rattle.std.proofs.lemmas.List.{get_or_past, ext_get_or, get_or_append_left, get_or_push}
use Rattle.programme.specs.Rank.{Rank, fresh}
use Rattle.programme.specs.Solved.{state}
use Rattle.programme.specs.Formula.{rounds, messages}
use Rattle.machine.specs.Operation.{Meaning}
use Rattle.machine.specs.Network.{Message, Network, waiting, of_job, with_abandoned}
use Rattle.ranks.specs.Ranks.{sum_below}
use Rattle.machine.specs.Job.{Job, rank_of, actions, finished, idle_ranks, listed, rounds_of}
use Rattle.programme.specs.Formula.{sends as sends_in}
use Rattle.machine.specs.Plain.{Plain, Refusal, fit, shown, without_job, messages_pending, after_end, end_shown, end_refusal, after_abandon, when, unfinished}
use Rattle.machine.specs.Sound.{Among, numbers, acts_done, sends_to, takes_from, final, JobSound, Sound}
use Rattle.machine.proofs.Lists.{none_of, among_kept, distinct_kept}
use Rattle.machine.proofs.Actions.{balanced, sends_within}
use Rattle.machine.proofs.Between.{abandoned_others}
use Rattle.machine.proofs.Advance.{job_same}
use Rattle.machine.proofs.Jobs.{found, shown_found, without_all, without_numbers, without_length, without_messages}
use Rattle.ranks.proofs.Sums.{all_ones, sum_same, greatest_same}
use Rattle.machine.proofs.Begin.{refusals_none, when_none}

both : (P Q R : Message → Type 0) → ((x : Message) → P x → Q x → R x) → (l : List Message) → AllByRecursion P l → AllByRecursion Q l → AllByRecursion R l
both P Q R f [] p q = tt
both P Q R f (x ∷ l) p q = (f x p.0 q.0, both P Q R f l p.1 q.1)

-- the messages that are not of a job
not_of : (P Q : Message → Type 0) (n : ℕ) → ((x : Message) → (x.tag / 16 ≡ n → ⊥) → P x → Q x) → (l : List Message) → AllByRecursion P l → AllByRecursion Q (filter (λ x. not (of_job n x)) l)
not_of P Q n f [] h = tt
not_of P Q n f (x ∷ l) h =
    elim (cases_Bool (of_job n x)) [
      | inl e ↦ rw e (not_of P Q n f l h.1)
      | inr e ↦ rw e (f x (eqb-false (x.tag / 16) n e) h.0, not_of P Q n f l h.1)
    ]

pub length-listed : {A : Type 0} (f : ℕ → A) (n : ℕ) → length (listed f n) ≡ n
length-listed f zero = refl
length-listed f (suc n) = omega (arith, length-append (listed f n) (f n ∷ []), length-listed f n)

pub get_d_listed : {A : Type 0} (f : ℕ → A) (n i : ℕ) (d : A) → i < n → get_or (listed f n) i d ≡ f i
get_d_listed f zero i d h = absurd (omega arith)
get_d_listed f (suc n) i d h =
    elim (cases_lt i n) [
      | inl g ↦ get_or_append_left (listed f n) (f n ∷ []) d i (omega (arith, length-listed f n)) ∙ get_d_listed f n i d g
      | inr g ↦
          let e : n ≡ i = omega arith in
          get_or_push (listed f n) (f n) d i (length-listed f n ∙ e) ∙ ap f e
    ]

module _ {E : Type 0} where
  dropped : (s : Plain E) → Sound s → (n : ℕ) (net : Network)
      → net.ranks ≡ s.now.ranks → net.depth ≡ s.now.depth → net.room ≡ s.now.room → net.limit ≡ s.now.limit
      → ((k : Job E) → (k.number ≡ n → ⊥) → JobSound s.meaning s.now.ranks (waiting s.now) k → JobSound s.meaning net.ranks (waiting net) k)
      → (fit s ≡ true → (a b : ℕ) → AllByRecursion (λ x. Among (x.tag / 16) (filter (λ i. not (eqb i n)) (numbers s.jobs))) (waiting net a b))
      → Sound (without_job n s net)
  dropped s h n net er ed em el kept known =
      let fewer = without_length n s.jobs in
      let same = without_numbers n s.jobs in
      let p = s.now.ranks in
      let jobs : List (Job E) = filter (λ job. not (eqb job.number n)) s.jobs in
      record {
        same_ranks = er ∙ h.same_ranks;
        same_depth = ed ∙ h.same_depth;
        same_room = em ∙ h.same_room;
        same_limit = el ∙ h.same_limit;
        started_few = h.started_few;
        fits = λ g. h.fits (omega arith);
        distinct = rw same (distinct_kept n (numbers s.jobs) h.distinct);
        started_all = rw same (all_kept_by (λ i. not (eqb i n)) (λ i. i ≤ s.started) (numbers s.jobs) h.started_all);
        pending_few = omega (arith, h.pending_few);
        pending_depth = omega (arith, h.pending_depth);
        pending_room = omega (arith, without_messages p n s.jobs, ap (λ q. messages_pending q jobs) er, h.pending_room);
        jobs_sound = without_all (JobSound s.meaning p (waiting s.now)) (JobSound s.meaning net.ranks (waiting net)) n s.jobs kept h.jobs_sound;
        waiting_known = λ f a b. subst (λ ks. AllByRecursion (λ x. Among (x.tag / 16) ks) (waiting net a b)) (sym same) (known f a b);
      }

  pub abandon_sound : (s : Plain E) → Sound s → (o : Option (Job E)) → Sound (after_abandon s o).1
  abandon_sound s h none = h
  abandon_sound s h (some job) =
      let n = job.number in
      let net : Network = with_abandoned n s.now in
      dropped s h n net refl refl refl refl
      (λ k other hk. job_same s.now.ranks (waiting s.now) (waiting net) k (abandoned_others k.number n s.now other) hk)
      (λ f a b.
      rw (append-nil (filter (λ x. not (of_job n x)) (waiting s.now a b)))
      (not_of (λ x. Among (x.tag / 16) (numbers s.jobs)) (λ x. Among (x.tag / 16) (filter (λ i. not (eqb i n)) (numbers s.jobs))) n
      (λ x other t. among_kept n (x.tag / 16) (numbers s.jobs) other t) (waiting s.now a b) (h.waiting_known f a b)))

  module _ (m : Meaning E) (p : ℕ) (w : ℕ → ℕ → List Message) (job : Job E) (h : JobSound m p w job) (all_idle : finished m p job ≡ true) where
    pub all_done : (r : ℕ) → r < p → acts_done m p job r ≡ actions p job r
    all_done r below =
        let count : idle_ranks m p job ≡ p = eqb-true (idle_ranks m p job) p all_idle in
        let none_left = all_ones (λ q. leb (length (actions p job q)) (rank_of m job q).done) p count r below in
        take_all (rank_of m job r).done (actions p job r) (leb-true (length (actions p job r)) (rank_of m job r).done none_left)

    past : (r : ℕ) → p ≤ r → acts_done m p job r ≡ []
    past r beyond = ap (λ x. take x.done (actions p job r)) (get_or_past job.ranks r (fresh m.unit m.unit) (omega (arith, h.ranks_all)))

    even : (a b : ℕ) → sends_to b (acts_done m p job a) ≤ takes_from a (acts_done m p job b)
    even a b =
        elim (cases_lt a p) [
          | inl below ↦
              elim (cases_lt b p) [
                | inl within ↦ rw (all_done a below, all_done b within) (balanced h.plan.solved a b below)
                | inr beyond ↦ omega (arith, ap (sends_to b) (all_done a below), sends_within h.plan.solved a b below beyond)
              ]
          | inr beyond ↦ omega (arith, ap (sends_to b) (past a beyond))
        ]

    -- nothing of a finished job waits
    pub drained : (a b : ℕ) → filter (of_job job.number) (w a b) ≡ []
    drained a b =
        let zero_left : sends_to b (acts_done m p job a) - takes_from a (acts_done m p job b) ≡ 0 = omega (arith, even a b) in
        rw zero_left at (h.flight a b).between

    rank_done : (r : ℕ) → r < p → rank_of m job r ≡ state m.join p (actions p job) (λ q. fresh m.unit (get_or job.inputs q m.unit)) h.plan.mail r (actions p job r)
    rank_done r below = (h.rank_sound r below).known ∙ ap (state m.join p (actions p job) (λ q. fresh m.unit (get_or job.inputs q m.unit)) h.plan.mail r) (all_done r below)

    -- its ranks have come to what was known ahead
    pub ranks_final : job.ranks ≡ listed (final m job.kind p job.root job.inputs h.plan.mail) p
    ranks_final =
        let last : ℕ → Rank E = λ r. state m.join p (actions p job) (λ q. fresh m.unit (get_or job.inputs q m.unit)) h.plan.mail r (actions p job r) in
        let d : Rank E = fresh m.unit m.unit in
        ext_get_or d job.ranks (listed last p) (h.ranks_all ∙ sym (length-listed last p))
        (λ r within.
        let below : r < p = omega (arith, h.ranks_all) in
        rank_done r below ∙ sym (get_d_listed last p r d below))

    -- its turns answered sent are as many as the formula says
    pub messages_final : job.sent ≡ messages job.kind p job.root
    messages_final = h.sent_counted ∙ sum_same _ _ p (λ r below. ap sends_in (all_done r below)) ∙ h.plan.messages_are

    -- and its greatest arrival is
    pub rounds_final : rounds_of m p job ≡ rounds job.kind p job.root
    rounds_final = greatest_same _ _ p (λ r below. ap (λ x. x.arrival) (rank_done r below)) ∙ h.plan.rounds_are

    -- its ranks have done all their actions, two a message
    pub turns_final : sum_below (λ r. (rank_of m job r).done) p ≡ sum_below (λ r. length (actions p job r)) p
    turns_final =
        sum_same _ _ p (λ r below.
        let within = (h.rank_sound r below).done_within in
        let none_left = all_ones (λ q. leb (length (actions p job q)) (rank_of m job q).done) p (eqb-true (idle_ranks m p job) p all_idle) r below in
        omega (arith, within, leb-true (length (actions p job r)) (rank_of m job r).done none_left))

  pub end_sound : (s : Plain E) → Sound s → (name n : ℕ) (lent : List ℕ) (o : Option (Job E)) → shown s name n ≡ o → Sound (end_shown s o lent).1
  end_sound s h name n lent none e = h
  end_sound s h name n lent (some job) e = go (end_refusal s job lent) refl
    where
      go : (r : Option Refusal) → end_refusal s job lent ≡ r → Sound (after_end s job lent r).1
      go (some f) g = h
      go none g =
          let k = job.number in
          let ok = refusals_none (when (not (finished s.meaning s.now.ranks job)) unfinished) _ g in
          let this = found n s.jobs job (shown_found s name n job e) in
          let sound = this.all_have (JobSound s.meaning s.now.ranks (waiting s.now)) h.jobs_sound in
          let idle : finished s.meaning s.now.ranks job ≡ true = not-false _ (when_none _ unfinished ok.0) in
          dropped s h k s.now refl refl refl refl (λ i other hi. hi)
          (λ f a b.
          both (λ x. x.tag / 16 ≡ k → ⊥) (λ x. Among (x.tag / 16) (numbers s.jobs)) (λ x. Among (x.tag / 16) (filter (λ i. not (eqb i k)) (numbers s.jobs)))
          (λ x other t. among_kept k (x.tag / 16) (numbers s.jobs) other t) (waiting s.now a b)
          (none_of k (waiting s.now a b) (drained s.meaning s.now.ranks (waiting s.now) job sound idle a b))
          (h.waiting_known f a b))
