-- A sound machine's messages stay below the depth and the room, and those that arrive fit.
use Rattle.std.proofs.Common.{◌≡◌, ℕ, zero, suc, ◌+◌, ◌-◌, ◌/◌, ◌<◌, ◌≤◌, true, false, cond, eqb, ltb, leb, List, [], ◌∷◌, ◌++◌, length, take, drop, replicate, filter, sym, refl, ap, ◌∙◌, subst, ap₂, inl, inr, append-nil, arith}
use mathlib.Core.List.{append_cancel_left, head-eq_of_cons-eq, nil≢cons}
use mathlib.Core.Option.{some}
use lib.ListN.{get_elem?, length-replicate}
use Rattle.std.specs.List.{AllByRecursion}
use Rattle.std.proofs.lemmas.Bool.{ne_eqb, eq-eqb, eqb-false, lt-ltb, leb-true, cases_Bool, cases_lt, and_parts, and_from, not_from_false}
use Rattle.programme.specs.declared.Action.{Action}
use Rattle.programme.specs.declared.Action.TheVariants.{Send, Take}
use Rattle.programme.specs.declared.Merge.{Merge}
use Rattle.programme.specs.Formula.{messages}
use Rattle.programme.specs.Rank.{Mail, posted}
use Rattle.programme.specs.Solved.{Stands}
use Rattle.machine.specs.Operation.{Meaning, Ok}
use Rattle.machine.specs.Network.{Message, Network, apart, waiting, waiting_in_all, of_job, oldest}
use Rattle.ranks.specs.Ranks.{sum_below}
use Rattle.machine.specs.Job.{Job, rank_of, actions}
use Rattle.programme.specs.Formula.{sends as sends_in}
use Rattle.machine.specs.Plain.{Plain, numbered, messages_pending, message_of, tag_of, fit}
use Rattle.machine.specs.Sound.{Among, numbers, Proper, acts_done, sends_to, takes_from, JobSound, Good}
use Rattle.machine.proofs.Lists.{tag_job}
use Rattle.machine.proofs.Actions.{next, one_send, sends_to_append, sends_to_take}
use Rattle.machine.proofs.Between.{in_all}
use Rattle.machine.proofs.Turn.{sent_apart, none_sent, one_out, took_proper}
use Rattle.machine.proofs.Jobs.{found}
use Rattle.machine.proofs.Keep.{width_fits, some_pending}
use Rattle.ranks.proofs.Sums.{sum-le, sum_lt, sum_same, sum-add, sum_one, sum-nothing, sum_zeros}
use Rattle.machine.proofs.Tests.{eqb_swap}

module _ {E : Type 0} where
  -- the transport has no reason to refuse a message
  pub record Sendable (s : Plain E) (from to : ℕ) (message : Message) : Type 0 where
    pub ranks_apart : apart s.now.ranks from to ≡ true
    pub short : length message.words ≤ s.now.limit
    pub shallow : length (waiting s.now from to) < s.now.depth
    pub roomy : waiting_in_all s.now < s.now.room

  -- the words of a message found under the tag of a take are a stamp and the block of a proper element
  pub record Fitting (s : Plain E) (words : List ℕ) : Type 0 where
    pub mail : Mail E
    pub words_are : words ≡ mail.stamp ∷ s.meaning.pack mail.value
    pub value_proper : Proper s.meaning mail.value
    pub unpacks : s.meaning.unpack (s.meaning.pack mail.value) ≡ Ok mail.value
    pub length-is : length words ≡ s.meaning.width + 1
    pub short : length words ≤ s.now.limit

one_longer : (n : ℕ) (x : Message) (ws : List Message) → length (filter (of_job n) (x ∷ ws)) ≡ cond (eqb (x.tag / 16) n) 1 0 + length (filter (of_job n) ws)
one_longer n x ws = elim (eqb (x.tag / 16) n) as (λ b. length (cond b (x ∷ filter (of_job n) ws) (filter (of_job n) ws)) ≡ cond b 1 0 + length (filter (of_job n) ws)) [ true ↦ omega arith | false ↦ omega arith ]

one_at_most : (to p : ℕ) → sum_below (λ b. cond (eqb to b) 1 0) p ≤ 1
one_at_most to p =
    let turned : sum_below (λ b. cond (eqb to b) 1 0) p ≡ sum_below (λ b. cond (eqb b to) 1 0) p = sum_same _ _ p (λ b _. ap (λ t. cond t 1 0) (eqb_swap to b)) in
    elim (cases_lt to p) [
      | inl h ↦ omega (arith, sum_one to 1 p h)
      | inr h ↦ omega (arith, sum-nothing to 1 p h)
    ]

-- the sends to the ranks below p are among all sends
sends_below : (p : ℕ) (xs : List Action) → sum_below (λ b. sends_to b xs) p ≤ sends_in xs
sends_below p [] = omega (arith, sum_zeros (λ b. 0) p (λ _ _. refl))
sends_below p (Take from label m ∷ xs) = sends_below p xs
sends_below p (Send to label ∷ xs) =
    omega (arith, sum-add (λ b. cond (eqb to b) 1 0) (λ b. sends_to b xs) p, one_at_most to p, sends_below p xs)

apart_from : (p a b : ℕ) → a < p → b < p → (a ≡ b → ⊥) → apart p a b ≡ true
apart_from p a b ha hb differ = and_from (ltb a p) _ (lt-ltb a p ha) (and_from (ltb b p) _ (lt-ltb b p hb) (not_from_false (eqb a b) (ne_eqb a b differ)))

-- f summed over the jobs
abbrev over : {E : Type 0} → (Job E → ℕ) → List (Job E) → ℕ
over f [] = 0
over f (k ∷ jobs) = f k + over f jobs

module _ {E : Type 0} where
  over_le : (f g : Job E → ℕ) (P : Job E → Type 0) (jobs : List (Job E)) → AllByRecursion P jobs → ((k : Job E) → P k → f k ≤ g k) → over f jobs ≤ over g jobs
  over_le f g P [] h le = omega arith
  over_le f g P (k ∷ jobs) h le = omega (arith, le k h.0, over_le f g P jobs h.1 le)

  over_lt : (f g : Job E → ℕ) (P : Job E → Type 0) (n : ℕ) (jobs : List (Job E)) (job : Job E) → numbered n jobs ≡ some job → AllByRecursion P jobs → ((k : Job E) → P k → f k ≤ g k) → f job < g job → over f jobs < over g jobs
  over_lt f g P n [] job e h le lt = let z : ◌≡◌ {A = ℕ} 0 1 = cc in absurd (omega arith)
  over_lt f g P n (k ∷ jobs) job e h le lt =
      elim (cases_Bool (eqb k.number n)) [
        | inl q ↦
            let i : some k ≡ some job = rw q at e in
            let same : k ≡ job = cc in
            let here : f k < g k = subst (λ x. f x < g x) (sym same) lt in
            omega (arith, over_le f g P jobs h.1 le)
        | inr q ↦ omega (arith, le k h.0, over_lt f g P n jobs job (rw q at e) h.1 le lt)
      ]

  over_add : (f g : Job E → ℕ) (jobs : List (Job E)) → over (λ k. f k + g k) jobs ≡ over f jobs + over g jobs
  over_add f g [] = refl
  over_add f g (k ∷ jobs) = omega (arith, over_add f g jobs)

  over_same : (f g : Job E → ℕ) (jobs : List (Job E)) → ((k : Job E) → f k ≡ g k) → over f jobs ≡ over g jobs
  over_same f g [] h = refl
  over_same f g (k ∷ jobs) h = omega (arith, h k, over_same f g jobs h)

  over_ones : (jobs : List (Job E)) → over (λ k. 1) jobs ≡ length jobs
  over_ones [] = refl
  over_ones (k ∷ jobs) = omega (arith, over_ones jobs)

  over_messages : (p : ℕ) (jobs : List (Job E)) → over (λ k. messages k.kind p k.root) jobs ≡ messages_pending p jobs
  over_messages p [] = refl
  over_messages p (k ∷ jobs) = omega (arith, over_messages p jobs)

  -- the sums over jobs and over numbers change places
  over_swap : (f : ℕ → Job E → ℕ) (n : ℕ) (jobs : List (Job E)) → sum_below (λ i. over (f i) jobs) n ≡ over (λ k. sum_below (λ i. f i k) n) jobs
  over_swap f zero jobs = sym (zeros jobs)
    where
      zeros : (l : List (Job E)) → over (λ k. 0) l ≡ 0
      zeros [] = refl
      zeros (k ∷ l) = omega (arith, zeros l)
  over_swap f (suc n) jobs = omega (arith, over_swap f n jobs, over_add (λ k. sum_below (λ i. f i k) n) (f n) jobs)

  -- every message is of one of the jobs
  mine : (n : ℕ) (jobs : List (Job E)) → Among n (numbers jobs) → 1 ≤ over (λ k. cond (eqb n k.number) 1 0) jobs
  mine n (k ∷ jobs) (inl e) = rw (eq-eqb n k.number (sym e)) (omega arith)
  mine n (k ∷ jobs) (inr h) = omega (arith, mine n jobs h)
  mine n [] h = absurd h

  pub all_counted : (jobs : List (Job E)) (ws : List Message) → AllByRecursion (λ x. Among (x.tag / 16) (numbers jobs)) ws → length ws ≤ over (λ k. length (filter (of_job k.number) ws)) jobs
  all_counted jobs [] h = omega arith
  all_counted jobs (x ∷ ws) h =
      let split : over (λ k. length (filter (of_job k.number) (x ∷ ws))) jobs ≡ over (λ k. cond (eqb (x.tag / 16) k.number) 1 0) jobs + over (λ k. length (filter (of_job k.number) ws)) jobs
      = over_same _ _ jobs (λ k. one_longer k.number x ws) ∙ over_add (λ k. cond (eqb (x.tag / 16) k.number) 1 0) (λ k. length (filter (of_job k.number) ws)) jobs in
      omega (arith, split, mine (x.tag / 16) jobs h.0, all_counted jobs ws h.1)

  module _ (m : Meaning E) (p : ℕ) (w : ℕ → ℕ → List Message) (job : Job E) (h : JobSound m p w job) where
    abbrev flying : ℕ → ℕ → ℕ
    flying a b = length (filter (of_job job.number) (w a b))

    flying_is : (a b : ℕ) → flying a b ≡ sends_to b (acts_done m p job a) - takes_from a (acts_done m p job b)
    flying_is a b = ap length (h.flight a b).between ∙ length-replicate _ _

    flying_one : (a b : ℕ) → a < p → flying a b ≤ 1
    flying_one a b below = omega (arith, flying_is a b, one_send h.plan.solved a b (rank_of m job a).done below)

    flying_sends : (a b : ℕ) → flying a b ≤ sends_to b (actions p job a)
    flying_sends a b = omega (arith, flying_is a b, sends_to_take b (rank_of m job a).done (actions p job a))

    row : (a : ℕ) → sum_below (λ b. flying a b) p ≤ sends_in (actions p job a)
    row a = omega (arith, sum-le (λ b. flying a b) (λ b. sends_to b (actions p job a)) p (λ b _. flying_sends a b), sends_below p (actions p job a))

    -- no more of a job's messages wait than the formula says
    flying_all : sum_below (λ a. sum_below (λ b. flying a b) p) p ≤ messages job.kind p job.root
    flying_all = omega (arith, sum-le (λ a. sum_below (λ b. flying a b) p) (λ a. sends_in (actions p job a)) p (λ a _. row a), h.plan.messages_are)

    module _ (r : ℕ) (below : r < p) (to label : ℕ) (within : to < p)
        (here : get_elem? (actions p job r) (rank_of m job r).done ≡ some (Send to label))
        (fresh_pair : sends_to to (acts_done m p job r) ≡ 0) where
      none_flying : flying r to ≡ 0
      none_flying = omega (arith, flying_is r to)

      to_come : 1 ≤ sends_to to (actions p job r)
      to_come =
          let d = (rank_of m job r).done in
          let rest : List Action = drop (suc d) (actions p job r) in
          let parts : sends_to to (actions p job r) ≡ sends_to to (take d (actions p job r)) + (1 + sends_to to rest)
          = ap (sends_to to) (next (actions p job r) d (Send to label) here).split
          ∙ sends_to_append to (take d (actions p job r)) (Send to label ∷ rest)
          ∙ ap (λ t. sends_to to (take d (actions p job r)) + (cond t 1 0 + sends_to to rest)) (eq-eqb to to refl) in
          omega arith

      fewer : sum_below (λ a. sum_below (λ b. flying a b) p) p < messages job.kind p job.root
      fewer =
          let this : sum_below (λ b. flying r b) p < sends_in (actions p job r)
          = omega (arith, sum_lt (λ b. flying r b) (λ b. sends_to b (actions p job r)) p (λ b _. flying_sends r b) to within (omega (arith, none_flying, to_come)), sends_below p (actions p job r)) in
          omega (arith, sum_lt (λ a. sum_below (λ b. flying a b) p) (λ a. sends_in (actions p job a)) p (λ a _. row a) r below this, h.plan.messages_are)

  limit_fits : (s : Plain E) → fit s ≡ true → s.meaning.width + 1 ≤ s.origin.limit
  limit_fits s e =
      let one = and_parts (ltb 0 s.origin.ranks) _ e in
      let two = and_parts (leb s.meaning.width 6) _ one.1 in
      let three = and_parts (leb (s.meaning.width + 1) s.origin.limit) _ two.1 in
      leb-true (s.meaning.width + 1) s.origin.limit three.0

  -- a turn that sends: the transport has no reason to refuse
  pub sendable : (s : Plain E) → Good s → (n r : ℕ) (job : Job E) → numbered n s.jobs ≡ some job → r < s.now.ranks → (to label : ℕ)
      → get_elem? (actions s.now.ranks job r) (rank_of s.meaning job r).done ≡ some (Send to label)
      → Sendable s r to (message_of s.meaning job.number label (posted (rank_of s.meaning job r)))
  sendable s good n r job at below to label here =
      let m = s.meaning in
      let p = s.now.ranks in
      let w = waiting s.now in
      let this = found n s.jobs job at in
      let All-sound = good.sound.jobs_sound in
      let sound : JobSound m p w job = this.all_have (JobSound m p w) All-sound in
      let fits : fit s ≡ true = good.sound.fits (some_pending n s.jobs this.among) in
      let there = sent_apart m p s.now job sound r below to label here in
      let new_pair = none_sent m p s.now job sound r below to label here in
      let block : length (m.pack (rank_of m job r).value) ≡ m.width = (good.lawful.packing (width_fits s fits)).pack_length (rank_of m job r).value (sound.rank_sound r below).value_proper in
      let count : ℕ → ℕ → Job E → ℕ = λ a b k. length (filter (of_job k.number) (w a b)) in
      let pair_less : over (count r to) s.jobs < over (λ k. 1) s.jobs
      = over_lt (count r to) (λ k. 1) (JobSound m p w) n s.jobs job at All-sound (λ k hk. flying_one m p w k hk r to below)
      (omega (arith, none_flying m p w job sound r below to label there.0 here new_pair)) in
      let of_one : Job E → ℕ = λ k. sum_below (λ a. sum_below (λ b. count a b k) p) p in
      let all_less : over of_one s.jobs < over (λ k. messages k.kind p k.root) s.jobs
      = over_lt of_one (λ k. messages k.kind p k.root) (JobSound m p w) n s.jobs job at All-sound (λ k hk. flying_all m p w k hk)
      (fewer m p w job sound r below to label there.0 here new_pair) in
      let each : (a b : ℕ) → length (w a b) ≤ over (count a b) s.jobs = λ a b. all_counted s.jobs (w a b) (good.sound.waiting_known fits a b) in
      let rows : (a : ℕ) → sum_below (λ b. length (w a b)) p ≤ over (λ k. sum_below (λ b. count a b k) p) s.jobs
      = λ a. omega (arith, sum-le (λ b. length (w a b)) (λ b. over (count a b) s.jobs) p (λ b _. each a b), over_swap (count a) p s.jobs) in
      let whole : waiting_in_all s.now ≤ over of_one s.jobs
      = omega (arith, in_all s.now, sum-le (λ a. sum_below (λ b. length (w a b)) p) (λ a. over (λ k. sum_below (λ b. count a b k) p) s.jobs) p (λ a _. rows a), over_swap (λ a k. sum_below (λ b. count a b k) p) p s.jobs) in
      record {
        ranks_apart = apart_from p r to below there.0 there.1;
        short = omega (arith, block, limit_fits s fits, good.sound.same_limit);
        shallow = omega (arith, each r to, pair_less, over_ones s.jobs, good.sound.pending_depth);
        roomy = omega (arith, whole, all_less, over_messages p s.jobs, good.sound.pending_room);
      }

  -- a turn that takes: from another rank, and what is found under the tag fits
  pub fitting : (s : Plain E) → Good s → (n r : ℕ) (job : Job E) → numbered n s.jobs ≡ some job → r < s.now.ranks → (from label : ℕ) (merge : Merge)
      → get_elem? (actions s.now.ranks job r) (rank_of s.meaning job r).done ≡ some (Take from label merge)
      → (words : List ℕ) → oldest (tag_of job.number label) (s.now.arrived from r) ≡ some words
      → Fitting s words
  fitting s good n r job at below from label merge here words words_are =
      let m = s.meaning in
      let p = s.now.ranks in
      let w = waiting s.now in
      let this = found n s.jobs job at in
      let sound : JobSound m p w job = this.all_have (JobSound m p w) good.sound.jobs_sound in
      let fits : fit s ≡ true = good.sound.fits (some_pending n s.jobs this.among) in
      let narrow = width_fits s fits in
      let mail : Mail E = sound.plan.mail from r in
      let out = one_out m p s.now job sound r below good.lawful narrow from label merge words here words_are in
      let proper = took_proper m p s.now job sound r below good.lawful narrow from label merge words here words_are in
      let long : length words ≡ m.width + 1 = omega (arith, ap length out.words_are, (good.lawful.packing narrow).pack_length mail.value proper) in
      record {
        mail = mail;
        words_are = out.words_are;
        value_proper = proper;
        unpacks = (good.lawful.packing narrow).unpack_pack mail.value proper;
        length-is = long;
        short = omega (arith, limit_fits s fits, good.sound.same_limit);
      }

  pub take_apart : (s : Plain E) → Good s → (n r : ℕ) (job : Job E) → numbered n s.jobs ≡ some job → r < s.now.ranks → (from label : ℕ) (merge : Merge)
      → get_elem? (actions s.now.ranks job r) (rank_of s.meaning job r).done ≡ some (Take from label merge)
      → apart s.now.ranks from r ≡ true
  take_apart s good n r job at below from label merge here =
      let m = s.meaning in
      let p = s.now.ranks in
      let sound : JobSound m p (waiting s.now) job = (found n s.jobs job at).all_have (JobSound m p (waiting s.now)) good.sound.jobs_sound in
      let there = sound.plan.solved.take_rank from r label merge below (record {
        before = acts_done m p job r;
        behind = drop (suc (rank_of m job r).done) (actions p job r);
        split = (next (actions p job r) (rank_of m job r).done (Take from label merge) here).split;
      }) in
      apart_from p from r there.0 below there.1

-- a message of the job, found under its tag
held : (n : ℕ) (msg : Message) (ws more : List Message) → msg.tag / 16 ≡ n → filter (of_job n) ws ≡ msg ∷ more → (words : List ℕ) × (oldest msg.tag ws ≡ some words)
held n msg [] more mine e = absurd (nil≢cons e)
held n msg (y ∷ ws) more mine e =
    elim (cases_Bool (eqb y.tag msg.tag)) [
      | inl f ↦ (y.words, rw f)
      | inr f ↦
          let other : of_job n y ≡ false
          = elim (cases_Bool (of_job n y)) [
            | inl g ↦
                let same = head-eq_of_cons-eq (rw g at e) in
                absurd (eqb-false y.tag msg.tag f (ap (λ x. x.tag) same))
            | inr g ↦ g
          ] in
          let later = held n msg ws more mine (rw other at e) in
          (later.0, rw f later.1)
    ]

module _ {E : Type 0} (m : Meaning E) (p : ℕ) (net : Network) (job : Job E) (h : JobSound m p (waiting net) job) (r : ℕ) (below : r < p) (from label : ℕ) (merge : Merge)
    (here : get_elem? (actions p job r) (rank_of m job r).done ≡ some (Take from label merge))
    (sent : takes_from from (acts_done m p job r) < sends_to r (acts_done m p job from)) where
  abbrev taking : Stands (actions p job r) (Take from label merge)
  taking = record {
    before = acts_done m p job r;
    behind = drop (suc (rank_of m job r).done) (actions p job r);
    split = (next (actions p job r) (rank_of m job r).done (Take from label merge) here).split;
  }

  -- it waits under the label that is asked for
  label_same : (h.flight from r).label ≡ label
  label_same =
      let solved = h.plan.solved in
      let there = solved.take_rank from r label merge below taking in
      let one = (h.flight from r).label_right (omega arith) in
      let two = solved.take_met from r label merge below taking in
      let same : one.before ≡ two.before = solved.send_once from r (h.flight from r).label label there.0 one two in
      let lists : one.before ++ (Send r (h.flight from r).label ∷ one.behind) ≡ one.before ++ (Send r label ∷ two.behind)
      = sym one.split ∙ two.split ∙ ap (λ l. l ++ (Send r label ∷ two.behind)) (sym same) in
      let heads : Send r (h.flight from r).label ≡ Send r label = head-eq_of_cons-eq (append_cancel_left one.before _ _ lists) in
      cc

  -- a message that was sent and not taken is found, once it has arrived
  pub findable : net.under from r ≡ [] → (words : List ℕ) × (oldest (tag_of job.number label) (net.arrived from r) ≡ some words)
  findable arrived =
      let msg : Message = message_of m job.number label (h.plan.mail from r) in
      let left : ℕ = sends_to r (acts_done m p job from) - takes_from from (acts_done m p job r) - 1 in
      let count : sends_to r (acts_done m p job from) - takes_from from (acts_done m p job r) ≡ suc left = omega arith in
      let ws : waiting net from r ≡ net.arrived from r = ap (λ l. net.arrived from r ++ l) arrived ∙ append-nil (net.arrived from r) in
      let kept : filter (of_job job.number) (net.arrived from r) ≡ msg ∷ replicate left msg
      = ap (filter (of_job job.number)) (sym ws)
      ∙ (h.flight from r).between
      ∙ ap₂ (λ n l. replicate n (message_of m job.number l (h.plan.mail from r))) count label_same in
      held job.number msg (net.arrived from r) (replicate left msg)
      (tag_job job.number label (h.plan.labels_fit r below (Take from label merge) taking)) kept
