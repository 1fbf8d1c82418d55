-- Two neighbouring turns of different ranks can trade positions.
use Rattle.std.proofs.Common.{◌≡◌, ℕ, Bool, true, false, cond, ◌&&◌, eqb, ltb, List, [], ◌∷◌, ◌++◌, map, get_or, sym, refl, ap, ◌∙◌, subst, subst₂, inl, inr}
use mathlib.Core.Path.{fun_ext}
use mathlib.Core.Option.{Option, none, some}
use lib.ListN.{get_elem?}
use Rattle.std.proofs.lemmas.Bool.{eqb-true, and_parts, cases_Bool}
use Rattle.std.proofs.lemmas.List.{set_comm, get_or-set_other}
use Rattle.programme.specs.declared.Action.{Action}
use Rattle.programme.specs.declared.Action.TheVariants.{Send, Take}
use Rattle.programme.specs.Rank.{Rank, fresh}
use Rattle.machine.specs.Operation.{Meaning}
use Rattle.machine.specs.Network.{Network, put, without, oldest}
use Rattle.machine.specs.Job.{Job, rank_of, actions}
use Rattle.machine.specs.Plain.{Plain, Call, Answer, Move, stays, sends, takes, turn, step, moved, moved_ranks, moved_count, moved_job, after_move, answer_of, move_of, job_move, action_move, take_move, mail_of, tag_of, numbered, shown, refused, bad_rank}
use Rattle.machine.specs.Record.{Entry, TurnOf, Follows}

swap_cond : {A : Type 0} (p q : Bool) (x y z : A) → (p ≡ true → q ≡ true → ⊥) → cond p x (cond q y z) ≡ cond q y (cond p x z)
swap_cond true true x y z no_both = absurd (no_both refl refl)
swap_cond true false x y z no_both = refl
swap_cond false true x y z no_both = refl
swap_cond false false x y z no_both = refl

not_both : (a b c d : ℕ) → (a ≡ c → b ≡ d → ⊥) → (eqb a c && eqb b d) ≡ false
not_both a b c d differ =
    elim (cases_Bool (eqb a c && eqb b d)) [
      | inl e ↦ let parts = and_parts (eqb a c) (eqb b d) e in absurd (differ (eqb-true a c parts.0) (eqb-true b d parts.1))
      | inr e ↦ e
    ]

-- two changes at different pairs, each made of what stood there
put_comm : {A : Type 0} (f : ℕ → ℕ → A) (a b c d : ℕ) (g h : A → A) → (a ≡ c → b ≡ d → ⊥)
    → put (put f a b (g (f a b))) c d (h (put f a b (g (f a b)) c d)) ≡ put (put f c d (h (f c d))) a b (g (put f c d (h (f c d)) a b))
put_comm f a b c d g h differ =
    let there = not_both c d a b (λ x y. differ (sym x) (sym y)) in
    let here = not_both a b c d differ in
    rw (there, here)
    (fun_ext λ x.
    fun_ext λ y.
    swap_cond (eqb c x && eqb d y) (eqb a x && eqb b y) (h (f c d)) (g (f a b)) (f x y)
    (λ p q.
    let left = and_parts (eqb c x) (eqb d y) p in
    let right = and_parts (eqb a x) (eqb b y) q in
    differ (eqb-true a x right.0 ∙ sym (eqb-true c x left.0)) (eqb-true b y right.1 ∙ sym (eqb-true d y left.1))))

abbrev option_map : {A B : Type 0} → (A → B) → Option A → Option B
option_map f none = none
option_map f (some a) = some (f a)

-- two changes of one thing that commute, each made or not
both_or_one : {A : Type 0} (f g : A → A) (p o : Bool) (x : A) → g (f x) ≡ f (g x) → cond o (g (cond p (f x) x)) (cond p (f x) x) ≡ cond p (f (cond o (g x) x)) (cond o (g x) x)
both_or_one f g true true x same = same
both_or_one f g true false x same = refl
both_or_one f g false true x same = refl
both_or_one f g false false x same = refl

module _ {E : Type 0} where
  moved_count_comm : (x y : Move E) (n : ℕ) → moved_count y (moved_count x n) ≡ moved_count x (moved_count y n)
  moved_count_comm (stays _) (stays _) n = refl
  moved_count_comm (stays _) (sends _ _ _) n = refl
  moved_count_comm (stays _) (takes _ _ _) n = refl
  moved_count_comm (sends _ _ _) (stays _) n = refl
  moved_count_comm (sends _ _ _) (sends _ _ _) n = refl
  moved_count_comm (sends _ _ _) (takes _ _ _) n = refl
  moved_count_comm (takes _ _ _) (stays _) n = refl
  moved_count_comm (takes _ _ _) (sends _ _ _) n = refl
  moved_count_comm (takes _ _ _) (takes _ _ _) n = refl

module _ {E : Type 0} (q r : ℕ) (differ : q ≡ r → ⊥) where
  moved_comm : (x y : Move E) (net : Network) → moved r y (moved q x net) ≡ moved q x (moved r y net)
  moved_comm (stays _) (stays _) net = refl
  moved_comm (stays _) (sends _ _ _) net = refl
  moved_comm (stays _) (takes _ _ _) net = refl
  moved_comm (sends _ _ _) (stays _) net = refl
  moved_comm (sends b m _) (sends d n _) net = λ i. record {
    ranks = net.ranks;
    depth = net.depth;
    room = net.room;
    limit = net.limit;
    under = put_comm net.under q b r d (λ l. l ++ (m ∷ [])) (λ l. l ++ (n ∷ [])) (λ e _. differ e) i;
    arrived = net.arrived;
  }
  moved_comm (sends _ _ _) (takes _ _ _) net = refl
  moved_comm (takes _ _ _) (stays _) net = refl
  moved_comm (takes _ _ _) (sends _ _ _) net = refl
  moved_comm (takes a s _) (takes c t _) net = λ i. record {
    ranks = net.ranks;
    depth = net.depth;
    room = net.room;
    limit = net.limit;
    under = net.under;
    arrived = put_comm net.arrived a q c r (without s) (without t) (λ _ e. differ e) i;
  }

  moved_ranks_comm : (x y : Move E) (ranks : List (Rank E)) → moved_ranks r y (moved_ranks q x ranks) ≡ moved_ranks q x (moved_ranks r y ranks)
  moved_ranks_comm (stays _) (stays _) ranks = refl
  moved_ranks_comm (stays _) (sends _ _ _) ranks = refl
  moved_ranks_comm (stays _) (takes _ _ _) ranks = refl
  moved_ranks_comm (sends _ _ _) (stays _) ranks = refl
  moved_ranks_comm (sends _ _ x) (sends _ _ y) ranks = set_comm ranks q r x y differ
  moved_ranks_comm (sends _ _ x) (takes _ _ y) ranks = set_comm ranks q r x y differ
  moved_ranks_comm (takes _ _ _) (stays _) ranks = refl
  moved_ranks_comm (takes _ _ x) (sends _ _ y) ranks = set_comm ranks q r x y differ
  moved_ranks_comm (takes _ _ x) (takes _ _ y) ranks = set_comm ranks q r x y differ

  moved_jobs_comm : (k n : ℕ) (x y : Move E) (jobs : List (Job E)) → map (moved_job n r y) (map (moved_job k q x) jobs) ≡ map (moved_job k q x) (map (moved_job n r y) jobs)
  moved_jobs_comm k n x y [] = refl
  moved_jobs_comm k n x y (job ∷ jobs) = λ i.
      record {
        number = job.number;
        kind = job.kind;
        root = job.root;
        inputs = job.inputs;
        ranks = both_or_one (moved_ranks q x) (moved_ranks r y) (eqb job.number k) (eqb job.number n) job.ranks (moved_ranks_comm x y job.ranks) i;
        sent = both_or_one (moved_count x) (moved_count y) (eqb job.number k) (eqb job.number n) job.sent (moved_count_comm x y job.sent) i;
      }
      ∷ moved_jobs_comm k n x y jobs i

  pub after_comm : (s : Plain E) (k n : ℕ) (x y : Move E) → after_move (after_move s k q x) n r y ≡ after_move (after_move s n r y) k q x
  after_comm s k n x y = λ i. record {
    name = s.name;
    meaning = s.meaning;
    origin = s.origin;
    now = moved_comm x y s.now i;
    started = s.started;
    jobs = moved_jobs_comm k n x y s.jobs i;
  }

  -- what the turn of r reads stays as it was under a move of q
  ranks_kept : (x : Move E) (net : Network) → (moved q x net).ranks ≡ net.ranks
  ranks_kept (stays _) net = refl
  ranks_kept (sends _ _ _) net = refl
  ranks_kept (takes _ _ _) net = refl

  arrived_kept : (x : Move E) (net : Network) (from : ℕ) → (moved q x net).arrived from r ≡ net.arrived from r
  arrived_kept (stays _) net from = refl
  arrived_kept (sends _ _ _) net from = refl
  arrived_kept (takes a t _) net from = rw (not_both a q from r (λ _ e. differ e))

  rank_kept : (x : Move E) (ranks : List (Rank E)) (d : Rank E) → get_or (moved_ranks q x ranks) r d ≡ get_or ranks r d
  rank_kept (stays _) ranks d = refl
  rank_kept (sends _ _ x) ranks d = get_or-set_other ranks q r x d (λ e. differ (sym e))
  rank_kept (takes _ _ x) ranks d = get_or-set_other ranks q r x d (λ e. differ (sym e))

  rank_of_kept : (m : Meaning E) (k : ℕ) (x : Move E) (job : Job E) → rank_of m (moved_job k q x job) r ≡ rank_of m job r
  rank_of_kept m k x job =
      let d : Rank E = fresh m.unit m.unit in
      elim (eqb job.number k) as (λ b. get_or (cond b (moved_ranks q x job.ranks) job.ranks) r d ≡ get_or job.ranks r d) [
        | true ↦ rank_kept x job.ranks d
        | false ↦ refl
      ]

  numbered_kept : (k : ℕ) (x : Move E) (n : ℕ) (jobs : List (Job E)) → numbered n (map (moved_job k q x) jobs) ≡ option_map (moved_job k q x) (numbered n jobs)
  numbered_kept k x n [] = refl
  numbered_kept k x n (job ∷ jobs) =
      elim (eqb job.number n) as (λ b. cond b (some (moved_job k q x job)) (numbered n (map (moved_job k q x) jobs)) ≡ option_map (moved_job k q x) (cond b (some job) (numbered n jobs))) [
        | true ↦ refl
        | false ↦ numbered_kept k x n jobs
      ]

  action_kept : (m : Meaning E) (x : Move E) (net : Network) (n : ℕ) (at : Rank E) (a : Option Action) → action_move m (moved q x net) n r at a ≡ action_move m net n r at a
  action_kept m x net n at none = refl
  action_kept m x net n at (some (Send to label)) = refl
  action_kept m x net n at (some (Take from label merge)) =
      ap (λ l. take_move m from (tag_of n label) merge at (mail_of m (oldest (tag_of n label) l))) (arrived_kept x net from)

  job_kept : (m : Meaning E) (k : ℕ) (x : Move E) (net : Network) (o : Option (Job E)) → job_move m (moved q x net) r (option_map (moved_job k q x) o) ≡ job_move m net r o
  job_kept m k x net none = refl
  job_kept m k x net (some job) =
      rw (ranks_kept x net, rank_of_kept m k x job)
      (ap (λ v. cond (ltb r net.ranks) v (stays (refused bad_rank)))
      (action_kept m x net job.number (rank_of m job r) (get_elem? (actions net.ranks job r) (rank_of m job r).done)))

  shown_kept : (s : Plain E) (k : ℕ) (x : Move E) (name n : ℕ) → shown (after_move s k q x) name n ≡ option_map (moved_job k q x) (shown s name n)
  shown_kept s k x name n =
      elim (eqb name s.name) as (λ b. cond b (numbered n (map (moved_job k q x) s.jobs)) none ≡ option_map (moved_job k q x) (cond b (numbered n s.jobs) none)) [
        | true ↦ numbered_kept k x n s.jobs
        | false ↦ refl
      ]

  pub move_kept : (s : Plain E) (k : ℕ) (x : Move E) (name n : ℕ) → move_of (after_move s k q x) name n r ≡ move_of s name n r
  move_kept s k x name n =
      ap (job_move s.meaning (moved q x s.now) r) (shown_kept s k x name n) ∙ job_kept s.meaning k x s.now (shown s name n)

abbrev entry : Call → Answer → Entry
entry c a = record { call = c; answer = a }

module _ {E : Type 0} where
  trade_here : (q r : ℕ) → (q ≡ r → ⊥) → (s : Plain E) (a k b n : ℕ) (x y : Answer) (behind : List Entry)
      → Follows s (entry (turn a k q) x ∷ entry (turn b n r) y ∷ behind)
      → Follows s (entry (turn b n r) y ∷ entry (turn a k q) x ∷ behind)
  trade_here q r differ s a k b n x y behind h =
      let first : Move E = move_of s a k q in
      let second : Move E = move_of s b n r in
      let first_same : move_of (after_move s n r second) a k q ≡ first = move_kept r q (λ e. differ (sym e)) s n second a k in
      let second_same : move_of (after_move s k q first) b n r ≡ second = move_kept q r differ s k first b n in
      let same : after_move (after_move s k q first) n r (move_of (after_move s k q first) b n r) ≡ after_move (after_move s n r second) k q (move_of (after_move s n r second) a k q)
      = ap (after_move (after_move s k q first) n r) second_same
      ∙ after_comm q r differ s k n first second
      ∙ sym (ap (after_move (after_move s n r second) k q) first_same) in
      (h.1.0 ∙ ap answer_of second_same, (h.0 ∙ sym (ap answer_of first_same), subst (λ t. Follows t behind) same h.1.1))

  trade_from : (s : Plain E) (behind : List Entry) (e f : Entry) (q r : ℕ) → TurnOf q e.call → TurnOf r f.call → (q ≡ r → ⊥)
      → Follows s (e ∷ f ∷ behind)
      → Follows s (f ∷ e ∷ behind)
  trade_from s behind e f q r t u differ =
      let P : Call → Call → Type 0 = λ c d. Follows s (entry c e.answer ∷ entry d f.answer ∷ behind) → Follows s (entry d f.answer ∷ entry c e.answer ∷ behind) in
      subst₂ P (sym t.2) (sym u.2) (trade_here q r differ s t.0 t.1 u.0 u.1 e.answer f.answer behind)

  -- from any machine
  pub trades : (s : Plain E) (before behind : List Entry) (e f : Entry) (q r : ℕ) → TurnOf q e.call → TurnOf r f.call → (q ≡ r → ⊥)
      → Follows s (before ++ (e ∷ f ∷ behind))
      → Follows s (before ++ (f ∷ e ∷ behind))
  trades s [] behind e f q r t u differ h = trade_from s behind e f q r t u differ h
  trades s (b ∷ before) behind e f q r t u differ h = (h.0, trades (step s b.call).1 before behind e f q r t u differ h.1)
