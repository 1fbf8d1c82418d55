-- What a record of calls tells of the pending jobs, and of those that are no longer.
use Rattle.std.proofs.Common.{◌≡◌, ℕ, suc, ◌+◌, ◌*◌, ◌<◌, ◌≤◌, Bool, true, false, cond, not, eqb, ◌⊎◌, List, [], ◌∷◌, ◌++◌, map, length, get_or, take, sym, refl, ap, ◌∙◌, subst, ap₂, inl, inr, ⊎_elim, append_assoc, append-nil, arith, length-append}
use mathlib.Core.Option.{Option, none, some}
use lib.ListN.{get_elem?}
use Rattle.std.specs.List.{AllByRecursion}
use Rattle.std.proofs.lemmas.Bool.{ne_eqb, eq-eqb, cases_eq, or_parts}
use Rattle.std.proofs.ByRecursion.{All-weaker, All-append, all_kept_by}
use Rattle.ranks.specs.Ranks.{sum_below}
use Rattle.ranks.proofs.Sums.{sum_zeros, sum_lt}
use Rattle.programme.specs.declared.Kind.{Kind}
use Rattle.programme.specs.declared.Action.{Action}
use Rattle.programme.specs.declared.Action.TheVariants.{Send, Take}
use Rattle.programme.specs.Formula.{messages}
use Rattle.programme.specs.Rank.{Rank, Mail, act, fresh, posted, after_send, after_take}
use Rattle.programme.proofs.Flowing.{flows}
use Rattle.machine.specs.Operation.{Meaning, Result, Ok, Err, BlockFault}
use Rattle.machine.specs.Network.{Network, waiting, apart, with_abandoned}
use Rattle.machine.specs.Job.{Job, rank_of, actions, blocks, elements}
use Rattle.machine.specs.Plain.{Plain, Call, Answer, Refusal, Move, sends, takes, start, turn, carry, look, end, abandon, started, step, when, bad_pair, root_for, start_refusal, after_start, new_job, block_refusal, blocks_read, after_move, moved, moved_job, answer_of, numbered, after_carry, after_look, after_end, end_shown, end_refusal, after_abandon, without_job, shown, mail_of, message_of, tag_of}
use Rattle.machine.specs.Record.{Entry, Recorded, is_sent, is_took, acts, turning, turns}
use Rattle.machine.specs.Replay.{Clocks, at_first, ticked, replay}
use Rattle.machine.specs.Sound.{numbers, acts_done, sends_to, JobSound, Good}
use Rattle.machine.proofs.Actions.{next}
use Rattle.machine.proofs.Advance.{advanced, done_new}
use Rattle.machine.proofs.Turn.{mail_took, one_out}
use Rattle.machine.proofs.Jobs.{found, update, jobs_stay, job_elsewhere}
use Rattle.machine.proofs.Turned.{Turned, idle, sending, taking, turned}
use Rattle.machine.proofs.Keep.{width_fits, some_pending}
use Rattle.machine.proofs.Begin.{starts, new_rank, started_above}
use Rattle.machine.proofs.Replaying.{Told, told_send, told_take, replay_push}

-- one entry more --

abbrev pub entry : Call → Answer → Entry
entry c a = record { call = c; answer = a }

-- what one entry adds to the turns of a job
abbrev one : (Answer → Bool) → ℕ → Entry → List ℕ
one passes n e = cond (passes e.answer) (turning n e.call) []

turns_push : (passes : Answer → Bool) (n : ℕ) (before : List Entry) (e : Entry) → turns passes n (before ++ (e ∷ [])) ≡ turns passes n before ++ one passes n e
turns_push passes n [] e = append-nil (one passes n e)
turns_push passes n (b ∷ before) e = ap (λ l. one passes n b ++ l) (turns_push passes n before e) ∙ sym (append_assoc (one passes n b) (turns passes n before) (one passes n e))

turns_on : (passes : Answer → Bool) (n : ℕ) (before : List Entry) (e : Entry) → one passes n e ≡ [] → turns passes n (before ++ (e ∷ [])) ≡ turns passes n before
turns_on passes n before e quiet = turns_push passes n before e ∙ ap (λ l. turns passes n before ++ l) quiet ∙ append-nil (turns passes n before)

length_push : (l : List ℕ) (r : ℕ) → length (l ++ (r ∷ [])) ≡ length l + 1
length_push l r = length-append l (r ∷ [])

recorded_push : (c : Call) (a : Answer) (before : List Entry) (e : Entry) → Recorded c a before → Recorded c a (before ++ (e ∷ []))
recorded_push c a (b ∷ before) e (inl h) = inl h
recorded_push c a (b ∷ before) e (inr h) = inr (recorded_push c a before e h)
recorded_push c a [] e h = absurd h

recorded_last : (c : Call) (a : Answer) (before : List Entry) (e : Entry) → e.call ≡ c → e.answer ≡ a → Recorded c a (before ++ (e ∷ []))
recorded_last c a [] e p q = inl (p, q)
recorded_last c a (b ∷ before) e p q = inr (recorded_last c a before e p q)

recorded_split : (c : Call) (a : Answer) (before : List Entry) (e : Entry) → Recorded c a (before ++ (e ∷ [])) → Recorded c a before ⊎ ((e.call ≡ c) × (e.answer ≡ a))
recorded_split c a [] e (inl h) = inr h
recorded_split c a [] e (inr h) = absurd h
recorded_split c a (b ∷ before) e (inl h) = inl (inl h)
recorded_split c a (b ∷ before) e (inr h) = ⊎_elim (λ l. inl (inr l)) (λ r. inr r) (recorded_split c a before e h)

-- the entry is no turn of job n that acts
abbrev NoTurn : ℕ → Entry → Type 0
NoTurn n e = (one is_sent n e ≡ []) × (one acts n e ≡ [])

-- the entry does not start job n
abbrev NoStart : (name n : ℕ) → Entry → Type 0
NoStart name n e = (kind : Kind) (root : ℕ) (words : List ℕ) → e.call ≡ start kind root words → e.answer ≡ started name n → ⊥

-- an entry that speaks of no job
record Silent (name : ℕ) (e : Entry) : Type 0 where
  pub no_turn : (n : ℕ) → NoTurn n e
  pub no_start : (n : ℕ) → NoStart name n e

cond_nil : (b : Bool) → ◌≡◌ {A = List ℕ} (cond b [] []) []
cond_nil true = refl
cond_nil false = refl

-- a call that is neither a turn nor a start
silent_call : (c : Call) (a : Answer) (name : ℕ) → ((n : ℕ) → turning n c ≡ []) → ((kind : Kind) (root : ℕ) (words : List ℕ) → c ≡ start kind root words → ⊥)
    → Silent name (entry c a)
silent_call c a name no-rank other = record {
  no_turn = λ n. (ap (λ l. cond (is_sent a) l []) (no-rank n) ∙ cond_nil (is_sent a), ap (λ l. cond (acts a) l []) (no-rank n) ∙ cond_nil (acts a));
  no_start = λ n kind root words call answer. other kind root words call;
}

-- a turn, as the entries of a job n and of the others have it
turn_here : (passes : Answer → Bool) (a : Answer) (name n r : ℕ) → passes a ≡ true → one passes n (entry (turn name n r) a) ≡ r ∷ []
turn_here passes a name n r yes-passes = rw (yes-passes, eq-eqb n n refl)

turn_elsewhere : (passes : Answer → Bool) (a : Answer) (name n r k : ℕ) → (k ≡ n → ⊥) → one passes k (entry (turn name n r) a) ≡ []
turn_elsewhere passes a name n r k other = rw (ne_eqb n k (λ e. other (sym e))) (cond_nil (passes a))

turn_fails : (passes : Answer → Bool) (a : Answer) (name n r k : ℕ) → passes a ≡ false → one passes k (entry (turn name n r) a) ≡ []
turn_fails passes a name n r k fails = rw fails

turn_no_start : (name n r : ℕ) (a : Answer) (own k : ℕ) → NoStart own k (entry (turn name n r) a)
turn_no_start name n r a own k kind root words call answer = let z : ◌≡◌ {A = ℕ} 0 1 = cc in omega arith

neither : (a : Answer) → acts a ≡ false → is_sent a ≡ false
neither a e = (or_parts (is_sent a) (is_took a) e).0

module _ {E : Type 0} where
  -- what the record tells of a pending job
  pub record Begun (before : List Entry) (name : ℕ) (m : Meaning E) (p : ℕ) (job : Job E) : Type 0 where
    pub root_given : ℕ
    pub words : List ℕ
    pub root_is : job.root ≡ root_for job.kind root_given
    pub begun : Recorded (start job.kind root_given words) (started name job.number) before
    pub only : (kind : Kind) (root : ℕ) (ws : List ℕ) → Recorded (start kind root ws) (started name job.number) before → (kind ≡ job.kind) × (root ≡ root_given) × (ws ≡ words)
    pub read : map m.unpack (blocks m.width p words) ≡ map Ok job.inputs
    pub counted : job.sent ≡ length (turns is_sent job.number before)
    pub paced : sum_below (λ r. (rank_of m job r).done) p ≡ length (turns acts job.number before)
    pub told : Told m p job (replay (actions p job) (turns acts job.number before) at_first)

  -- and of all jobs
  pub record History (before : List Entry) (s : Plain E) : Type 0 where
    pub jobs_begun : AllByRecursion (Begun before s.name s.meaning s.now.ranks) s.jobs
    pub later : (n : ℕ) → s.started < n → (turns is_sent n before ≡ []) × (turns acts n before ≡ [])
    pub known : (kind : Kind) (root : ℕ) (words : List ℕ) (n : ℕ) → Recorded (start kind root words) (started s.name n) before → n ≤ s.started
    pub few : (kind : Kind) (root : ℕ) (words : List ℕ) (n : ℕ) → Recorded (start kind root words) (started s.name n) before
        → length (turns acts n before) ≤ 2 * messages kind s.now.ranks (root_for kind root)

  -- a job that the new entry does not speak of
  begun_on : (before : List Entry) (e : Entry) (name : ℕ) (m : Meaning E) (p : ℕ) (job : Job E) → NoTurn job.number e → NoStart name job.number e
      → Begun before name m p job
      → Begun (before ++ (e ∷ [])) name m p job
  begun_on before e name m p job quiet other b = record {
    root_given = b.root_given;
    words = b.words;
    root_is = b.root_is;
    begun = recorded_push _ _ before e b.begun;
    only = λ kind root words h.
        ⊎_elim (λ l. b.only kind root words l) (λ r. absurd (other kind root words r.0 r.1)) (recorded_split _ _ before e h);
    read = b.read;
    counted = b.counted ∙ ap length (sym (turns_on is_sent job.number before e quiet.0));
    paced = b.paced ∙ ap length (sym (turns_on acts job.number before e quiet.1));
    told = subst (λ l. Told m p job (replay (actions p job) l at_first)) (sym (turns_on acts job.number before e quiet.1)) b.told;
  }

  silent_on : (before : List Entry) (e : Entry) (s : Plain E) → Silent s.name e → History before s → History (before ++ (e ∷ [])) s
  silent_on before e s quiet h = record {
    jobs_begun =
        All-weaker (Begun before s.name s.meaning s.now.ranks) (Begun (before ++ (e ∷ [])) s.name s.meaning s.now.ranks)
        (λ job b. begun_on before e s.name s.meaning s.now.ranks job (quiet.no_turn job.number) (quiet.no_start job.number) b) s.jobs h.jobs_begun;
    later = λ n above.
        (turns_on is_sent n before e (quiet.no_turn n).0 ∙ (h.later n above).0, turns_on acts n before e (quiet.no_turn n).1 ∙ (h.later n above).1);
    known = λ kind root words n r.
        ⊎_elim (λ l. h.known kind root words n l) (λ new. absurd (quiet.no_start n kind root words new.0 new.1)) (recorded_split _ _ before e r);
    few = λ kind root words n r.
        rw (turns_on acts n before e (quiet.no_turn n).1)
        (⊎_elim (λ l. h.few kind root words n l) (λ new. absurd (quiet.no_start n kind root words new.0 new.1)) (recorded_split _ _ before e r));
  }

  -- start --

  read_right : (r : ℕ) (us : List (Result E BlockFault)) → block_refusal r us ≡ none → us ≡ map Ok (elements us)
  read_right r [] e = refl
  read_right r (Ok x ∷ us) e = ap (λ l. Ok x ∷ l) (read_right (suc r) us e)
  read_right r (Err f ∷ us) e = let z : ◌≡◌ {A = ℕ} 0 1 = cc in absurd (omega arith)

  start_on : (before : List Entry) (s : Plain E) → Good s → History before s → (kind : Kind) (root : ℕ) (words : List ℕ) (a : Answer) (o : Option Refusal)
      → start_refusal s kind (root_for kind root) words ≡ o
      → a ≡ (after_start s kind (root_for kind root) words o).0
      → History (before ++ (entry (start kind root words) a ∷ [])) (after_start s kind (root_for kind root) words o).1
  start_on before s good h kind root words a (some f) e given =
      silent_on before (entry (start kind root words) a) s
      (record {
        no_turn = λ n. (cond_nil (is_sent a), cond_nil (acts a));
        no_start = λ n k r w call answer. let z : ◌≡◌ {A = ℕ} 0 1 = cc in omega arith;
      }) h
  start_on before s good h kind root words a none e given =
      let c = starts s kind (root_for kind root) words e in
      let this : Entry = entry (start kind root words) a in
      let p = s.now.ranks in
      let m = s.meaning in
      let inputs : List E = elements (blocks_read s words) in
      let job : Job E = new_job s kind (root_for kind root) inputs in
      let number : ℕ = s.started + 1 in
      let quiet : (n : ℕ) → NoTurn n this = λ n. (cond_nil (is_sent a), cond_nil (acts a)) in
      let is_new : (n : ℕ) → a ≡ started s.name n → n ≡ number = λ n answer. cc in
      let none_before = h.later number (omega arith) in
      let none_yet : turns acts number (before ++ (this ∷ [])) ≡ [] = turns_on acts number before this (quiet number).1 ∙ none_before.1 in
      let at_start : (r : ℕ) → rank_of m job r ≡ fresh m.unit (get_or inputs r m.unit) = λ r. new_rank m inputs job refl r in
      record {
        jobs_begun =
            All-append (Begun (before ++ (this ∷ [])) s.name m p) s.jobs (job ∷ [])
            (pending_on s.jobs h.jobs_begun good.sound.started_all) (
              record {
                root_given = root;
                words = words;
                root_is = refl;
                begun = recorded_last (start kind root words) (started s.name number) before this refl given;
                only = λ k r w rec.
                    ⊎_elim (λ l. absurd (omega (arith, h.known k r w number l))) (λ new. same_start k r w new.0) (recorded_split _ _ before this rec);
                read = read_right 0 (blocks_read s words) c.blocks_right;
                counted = sym (ap length (turns_on is_sent number before this (quiet number).0 ∙ none_before.0));
                paced = sum_zeros _ p (λ r _. ap (λ x. x.done) (at_start r)) ∙ sym (ap length none_yet);
                told = subst (λ l. Told m p job (replay (actions p job) l at_first)) (sym none_yet) (record {
                  done_is = λ r. sym (ap (λ x. x.done) (at_start r));
                  arrival_is = λ r. sym (ap (λ x. x.arrival) (at_start r));
                  departure_is = λ r. sym (ap (λ x. x.departure) (at_start r));
                  stamp_is = λ a b sent. absurd (omega (arith, ap (λ x. sends_to b (take x.done (actions p job a))) (at_start a)));
                });
              },
              tt,
            );
        later = λ n above.
            let was = h.later n (omega arith) in
            (turns_on is_sent n before this (quiet n).0 ∙ was.0, turns_on acts n before this (quiet n).1 ∙ was.1);
        known = λ k r w n rec. ⊎_elim (λ l. omega (arith, h.known k r w n l)) (λ new. omega (arith, is_new n new.1)) (recorded_split _ _ before this rec);
        few = λ k r w n rec.
            rw (turns_on acts n before this (quiet n).1)
            (⊎_elim (λ l. h.few k r w n l) (λ new. rw (h.later n (omega (arith, is_new n new.1))).1 (omega arith)) (recorded_split _ _ before this rec));
      }
    where
      same_start : (k : Kind) (r : ℕ) (w : List ℕ) → start kind root words ≡ start k r w → (k ≡ kind) × (r ≡ root) × (w ≡ words)
      same_start k r w e =
          let one : k ≡ kind = cc in
          let two : r ≡ root = cc in
          let three : w ≡ words = cc in
          (one, two, three)

      pending_on : (jobs : List (Job E)) → AllByRecursion (Begun before s.name s.meaning s.now.ranks) jobs → AllByRecursion (λ n. n ≤ s.started) (numbers jobs)
          → AllByRecursion (Begun (before ++ (entry (start kind root words) a ∷ [])) s.name s.meaning s.now.ranks) jobs
      pending_on [] hs below = tt
      pending_on (job ∷ jobs) hs below = (
        begun_on before (entry (start kind root words) a) s.name s.meaning s.now.ranks job (cond_nil (is_sent a), cond_nil (acts a))
            (λ k r w call answer.
            let same : started s.name (s.started + 1) ≡ started s.name job.number = sym given ∙ answer in
            let number : s.started + 1 ≡ job.number = cc in
            omega (arith, below.0)) hs.0,
        pending_on jobs hs.1 below.1,
      )

  -- turn --

  module _ (m : Meaning E) (p : ℕ) (net : Network) (job : Job E) (h : JobSound m p (waiting net) job) where
    -- two actions a message
    pub actions_are : sum_below (λ q. length (actions p job q)) p ≡ 2 * messages job.kind p job.root
    actions_are = (flows job.kind p job.root h.root_within).turns

    module _ (r : ℕ) (below : r < p) (a : Action) (here : get_elem? (actions p job r) (rank_of m job r).done ≡ some a) where
      -- an action is left
      one_left : sum_below (λ q. (rank_of m job q).done) p < sum_below (λ q. length (actions p job q)) p
      one_left =
          sum_lt (λ q. (rank_of m job q).done) (λ q. length (actions p job q)) p (λ q within. (h.rank_sound q within).done_within) r below
          (next (actions p job r) (rank_of m job r).done a here).within

      bounded : (before : List Entry) (e : Entry) (name : ℕ) → one acts job.number e ≡ r ∷ [] → Begun before name m p job
          → length (turns acts job.number (before ++ (e ∷ []))) ≤ 2 * messages job.kind p job.root
      bounded before e name acted b =
          let was : List ℕ = turns acts job.number before in
          let pushed : turns acts job.number (before ++ (e ∷ [])) ≡ was ++ (r ∷ []) = turns_push acts job.number before e ∙ ap (λ l. was ++ l) acted in
          omega (arith, ap length pushed, length_push was r, b.paced, one_left, actions_are)

      -- the job whose turn acts
      advanced_on : (before : List Entry) (e : Entry) (name n : ℕ) (x : Rank E) → x ≡ act m.join (λ q. h.plan.mail q r) a (rank_of m job r)
          → NoStart name job.number e
          → one acts job.number e ≡ r ∷ []
          → n ≡ length (turns is_sent job.number (before ++ (e ∷ [])))
          → ((c : Clocks) → Told m p job c → Told m p (advanced job r x n) (ticked r (some a) c))
          → Begun before name m p job
          → Begun (before ++ (e ∷ [])) name m p (advanced job r x n)
      advanced_on before e name n x x-is other acted counts tells b =
          let was : List ℕ = turns acts job.number before in
          let c : Clocks = replay (actions p job) was at_first in
          let pushed : turns acts job.number (before ++ (e ∷ [])) ≡ was ++ (r ∷ []) = turns_push acts job.number before e ∙ ap (λ l. was ++ l) acted in
          let more : sum_below (λ q. (rank_of m (advanced job r x n) q).done) p ≡ sum_below (λ q. (rank_of m job q).done) p + 1
          = ap (λ y. sum_below (λ q. (rank_of m (advanced job r y n) q).done) p) x-is ∙ done_new p (waiting net) job h r below a here n in
          record {
            root_given = b.root_given;
            words = b.words;
            root_is = b.root_is;
            begun = recorded_push _ _ before e b.begun;
            only = λ kind root words rec.
                ⊎_elim (λ l. b.only kind root words l) (λ new. absurd (other kind root words new.0 new.1)) (recorded_split _ _ before e rec);
            read = b.read;
            counted = counts;
            paced = omega (arith, more, b.paced, ap length pushed, length_push was r);
            told =
                subst (Told m p (advanced job r x n))
                (sym (ap (λ l. replay (actions p job) l at_first) pushed
                ∙ replay_push (actions p job) was r at_first
                ∙ ap (λ o. ticked r o c) (ap (get_elem? (actions p job r)) (b.told.done_is r) ∙ here)))
                (tells c b.told);
          }

  -- the jobs after a turn that acts, where the entry is no turn of another job
  acted_on : (before : List Entry) (s : Plain E) → Good s → History before s → (e : Entry) (n r : ℕ) (move : Move E) (job : Job E) → numbered n s.jobs ≡ some job
      → ((k : ℕ) → (k ≡ n → ⊥) → NoTurn k e)
      → ((k : ℕ) → NoStart s.name k e)
      → (Begun before s.name s.meaning s.now.ranks job → Begun (before ++ (e ∷ [])) s.name s.meaning s.now.ranks (moved_job n r move job))
      → (Begun before s.name s.meaning s.now.ranks job → length (turns acts job.number (before ++ (e ∷ []))) ≤ 2 * messages job.kind s.now.ranks job.root)
      → ((moved r move s.now).ranks ≡ s.now.ranks)
      → History (before ++ (e ∷ [])) (after_move s n r move)
  acted_on before s good h e n r move job at elsewhere other moves at_most same_ranks =
      let m = s.meaning in
      let p = s.now.ranks in
      let this = found n s.jobs job at in
      let b : Begun before s.name m p job = this.all_have (Begun before s.name m p) h.jobs_begun in
      let number_is = this.number_is in
      let few_now : (kind : Kind) (root : ℕ) (words : List ℕ) (k : ℕ) → Recorded (start kind root words) (started s.name k) before
      → length (turns acts k (before ++ (e ∷ []))) ≤ 2 * messages kind p (root_for kind root)
      = λ kind root words k rec.
      elim (cases_eq k n) [
        | inl f ↦
            let same = b.only kind root words (subst (λ i. Recorded (start kind root words) (started s.name i) before) (f ∙ sym number_is) rec) in
            rw (f ∙ sym number_is, ap₂ root_for same.0 same.1 ∙ sym b.root_is, same.0) (at_most b)
        | inr f ↦ rw (turns_on acts k before e (elsewhere k f).1) (h.few kind root words k rec)
      ] in
      record {
        jobs_begun =
            subst (λ q. AllByRecursion (Begun (before ++ (e ∷ [])) s.name m q) (map (moved_job n r move) s.jobs)) (sym same_ranks)
            (update (Begun before s.name m p) (Begun (before ++ (e ∷ [])) s.name m p) (moved_job n r move) n s.jobs job good.sound.distinct at h.jobs_begun
            moves
            (λ k away begun.
            subst (Begun (before ++ (e ∷ [])) s.name m p) (sym (job_elsewhere n r move k away))
            (begun_on before e s.name m p k (elsewhere k.number away) (other k.number) begun)));
        later = λ k above.
            let away : k ≡ n → ⊥ = λ f. omega (arith, started_above s.started n (numbers s.jobs) good.sound.started_all this.among) in
            let was = h.later k above in
            (turns_on is_sent k before e (elsewhere k away).0 ∙ was.0, turns_on acts k before e (elsewhere k away).1 ∙ was.1);
        known = λ kind root words k rec.
            ⊎_elim (λ l. h.known kind root words k l) (λ new. absurd (other k kind root words new.0 new.1)) (recorded_split _ _ before e rec);
        few = λ kind root words k rec.
            subst (λ q. length (turns acts k (before ++ (e ∷ []))) ≤ 2 * messages kind q (root_for kind root)) (sym same_ranks)
            (⊎_elim (λ l. few_now kind root words k l) (λ new. absurd (other k kind root words new.0 new.1)) (recorded_split _ _ before e rec));
      }

  turn_on : (before : List Entry) (s : Plain E) → Good s → History before s → (name n r : ℕ) {move : Move E} → Turned s n r move → (a : Answer) → a ≡ answer_of move
      → History (before ++ (entry (turn name n r) a ∷ [])) (after_move s n r move)
  turn_on before s good h name n r (idle a quiet) given same =
      let this : Entry = entry (turn name n r) given in
      let fails : acts given ≡ false = ap acts same ∙ quiet in
      let on = silent_on before this s
      (record { no_turn = λ k. (turn_fails is_sent given name n r k (neither given fails), turn_fails acts given name n r k fails); no_start = turn_no_start name n r given s.name }) h in
      record {
        jobs_begun = subst (AllByRecursion (Begun (before ++ (this ∷ [])) s.name s.meaning s.now.ranks)) (sym (jobs_stay n r a s.jobs)) on.jobs_begun;
        later = on.later;
        known = on.known;
        few = on.few;
      }
  turn_on before s good h name n r (sending job at within to label here) given same =
      let this : Entry = entry (turn name n r) given in
      let m = s.meaning in
      let p = s.now.ranks in
      let x : Rank E = after_send (rank_of m job r) in
      let move : Move E = sends to (message_of m job.number label (posted (rank_of m job r))) x in
      let found_job = found n s.jobs job at in
      let number_is : n ≡ job.number = sym found_job.number_is in
      let sound : JobSound m p (waiting s.now) job = found_job.all_have (JobSound m p (waiting s.now)) good.sound.jobs_sound in
      let changed_here : moved_job n r move job ≡ advanced job r x (job.sent + 1) = rw (eq-eqb job.number n found_job.number_is) in
      let acted : one acts job.number this ≡ r ∷ [] = subst (λ k. one acts k this ≡ r ∷ []) number_is (turn_here acts given name n r (ap acts same)) in
      let counted : one is_sent job.number this ≡ r ∷ [] = subst (λ k. one is_sent k this ≡ r ∷ []) number_is (turn_here is_sent given name n r (ap is_sent same)) in
      acted_on before s good h this n r move job at
      (λ k other. (turn_elsewhere is_sent given name n r k other, turn_elsewhere acts given name n r k other))
      (turn_no_start name n r given s.name)
      (λ b.
      let was : List ℕ = turns is_sent job.number before in
      let pushed : turns is_sent job.number (before ++ (this ∷ [])) ≡ was ++ (r ∷ []) = turns_push is_sent job.number before this ∙ ap (λ l. was ++ l) counted in
      subst (Begun (before ++ (this ∷ [])) s.name m p) (sym changed_here)
      (advanced_on m p s.now job sound r within (Send to label) here before this s.name (job.sent + 1) x refl
      (turn_no_start name n r given s.name job.number) acted
      (omega (arith, b.counted, ap length pushed, length_push was r))
      (λ c t. told_send m p s.now job sound r within c t to label here (job.sent + 1)) b))
      (bounded m p s.now job sound r within (Send to label) here before this s.name acted)
      refl
  turn_on before s good h name n r (taking job at within from label merge words mail here words_are mail_is) given same =
      let this : Entry = entry (turn name n r) given in
      let m = s.meaning in
      let p = s.now.ranks in
      let found_job = found n s.jobs job at in
      let number_is : n ≡ job.number = sym found_job.number_is in
      let sound : JobSound m p (waiting s.now) job = found_job.all_have (JobSound m p (waiting s.now)) good.sound.jobs_sound in
      let narrow = width_fits s (good.sound.fits (some_pending n s.jobs found_job.among)) in
      let expected : Mail E = sound.plan.mail from r in
      let known : mail_of m (some words) ≡ some expected = mail_took m p s.now job sound r within good.lawful narrow from label merge words here words_are in
      let mail_same : mail ≡ expected = cc in
      let x : Rank E = after_take m.join merge expected (rank_of m job r) in
      let tag : ℕ = tag_of job.number label in
      let move : Move E = takes from tag x in
      let changed_here : moved_job n r move job ≡ advanced job r x job.sent = rw (eq-eqb job.number n found_job.number_is) in
      let acted : one acts job.number this ≡ r ∷ [] = subst (λ k. one acts k this ≡ r ∷ []) number_is (turn_here acts given name n r (ap acts same)) in
      let uncounted : one is_sent job.number this ≡ [] = turn_fails is_sent given name n r job.number (ap is_sent same) in
      let was_sent : 0 < sends_to r (acts_done m p job from)
      = omega (arith, (one_out m p s.now job sound r within good.lawful narrow from label merge words here words_are).one_less) in
      subst (λ t. History (before ++ (this ∷ [])) (after_move s n r (takes from tag (after_take m.join merge t (rank_of m job r))))) (sym mail_same)
      (acted_on before s good h this n r move job at
      (λ k other. (turn_elsewhere is_sent given name n r k other, turn_elsewhere acts given name n r k other))
      (turn_no_start name n r given s.name)
      (λ b.
      subst (Begun (before ++ (this ∷ [])) s.name m p) (sym changed_here)
      (advanced_on m p s.now job sound r within (Take from label merge) here before this s.name job.sent x refl
      (turn_no_start name n r given s.name job.number) acted
      (b.counted ∙ ap length (sym (turns_on is_sent job.number before this uncounted)))
      (λ c t. told_take m p s.now job sound r within c t from label merge here job.sent was_sent) b))
      (bounded m p s.now job sound r within (Take from label merge) here before this s.name acted)
      refl)

  -- carry, look, end and abandon --

  carry_on : (before : List Entry) (s : Plain E) → History before s → (from to : ℕ) (a : Answer) (o : Option Refusal) → History (before ++ (entry (carry from to) a ∷ [])) (after_carry s from to o).1
  carry_on before s h from to a o = go o
    where
      on : History (before ++ (entry (carry from to) a ∷ [])) s
      on =
          silent_on before (entry (carry from to) a) s
          (silent_call _ a s.name (λ n. refl) (λ k r w e. let z : ◌≡◌ {A = ℕ} 0 1 = cc in omega arith)) h

      go : (o : Option Refusal) → History (before ++ (entry (carry from to) a ∷ [])) (after_carry s from to o).1
      go none = record { jobs_begun = on.jobs_begun; later = on.later; known = on.known; few = on.few }
      go (some f) = on

  look_on : (before : List Entry) (s : Plain E) → History before s → (name n : ℕ) (a : Answer) (o : Option (Job E)) → History (before ++ (entry (look name n) a ∷ [])) (after_look s o).1
  look_on before s h name n a o = go o
    where
      on : History (before ++ (entry (look name n) a ∷ [])) s
      on =
          silent_on before (entry (look name n) a) s
          (silent_call _ a s.name (λ n. refl) (λ k r w e. let z : ◌≡◌ {A = ℕ} 0 1 = cc in omega arith)) h

      go : (o : Option (Job E)) → History (before ++ (entry (look name n) a ∷ [])) (after_look s o).1
      go none = on
      go (some job) = on

  -- a job taken out
  left_out : (l : List Entry) (s : Plain E) (n : ℕ) (net : Network) → net.ranks ≡ s.now.ranks → History l s → History l (without_job n s net)
  left_out l s n net same on =
      rw same
      (record {
        jobs_begun = all_kept_by (λ k. not (eqb k.number n)) (Begun l s.name s.meaning s.now.ranks) s.jobs on.jobs_begun;
        later = on.later;
        known = on.known;
        few = on.few;
      })

  end_on : (before : List Entry) (s : Plain E) → History before s → (name n : ℕ) (lent : List ℕ) (a : Answer) (o : Option (Job E)) → History (before ++ (entry (end name n lent) a ∷ [])) (end_shown s o lent).1
  end_on before s h name n lent a o = go o
    where
      on : History (before ++ (entry (end name n lent) a ∷ [])) s
      on =
          silent_on before (entry (end name n lent) a) s
          (silent_call _ a s.name (λ n. refl) (λ k r w e. let z : ◌≡◌ {A = ℕ} 0 1 = cc in omega arith)) h

      ways : (job : Job E) (o : Option Refusal) → History (before ++ (entry (end name n lent) a ∷ [])) (after_end s job lent o).1
      ways job (some f) = on
      ways job none = left_out _ s job.number s.now refl on

      go : (o : Option (Job E)) → History (before ++ (entry (end name n lent) a ∷ [])) (end_shown s o lent).1
      go none = on
      go (some job) = ways job (end_refusal s job lent)

  abandon_on : (before : List Entry) (s : Plain E) → History before s → (name n : ℕ) (a : Answer) (o : Option (Job E)) → History (before ++ (entry (abandon name n) a ∷ [])) (after_abandon s o).1
  abandon_on before s h name n a o = go o
    where
      on : History (before ++ (entry (abandon name n) a ∷ [])) s
      on =
          silent_on before (entry (abandon name n) a) s
          (silent_call _ a s.name (λ n. refl) (λ k r w e. let z : ◌≡◌ {A = ℕ} 0 1 = cc in omega arith)) h

      go : (o : Option (Job E)) → History (before ++ (entry (abandon name n) a ∷ [])) (after_abandon s o).1
      go none = on
      go (some job) = left_out _ s job.number (with_abandoned job.number s.now) refl on

  pub step_on : (before : List Entry) (s : Plain E) → Good s → History before s → (c : Call) (a : Answer) → a ≡ (step s c).0 → History (before ++ (entry c a ∷ [])) (step s c).1
  step_on before s good h (start kind root words) a e = start_on before s good h kind root words a (start_refusal s kind (root_for kind root) words) refl e
  step_on before s good h (turn name n r) a e = turn_on before s good h name n r (turned s n r name) a e
  step_on before s good h (carry from to) a e = carry_on before s h from to a (when (not (apart s.now.ranks from to)) bad_pair)
  step_on before s good h (look name n) a e = look_on before s h name n a (shown s name n)
  step_on before s good h (end name n lent) a e = end_on before s h name n lent a (shown s name n)
  step_on before s good h (abandon name n) a e = abandon_on before s h name n a (shown s name n)
