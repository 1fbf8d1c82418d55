-- A new machine is sound, and a started job leaves it so.
use Rattle.std.proofs.Common.{◌≡◌, ℕ, zero, suc, ◌+◌, ◌*◌, ◌/◌, ◌<◌, ◌≤◌, Bool, true, false, ltb, leb, List, [], ◌∷◌, ◌++◌, map, length, get_or, take, drop, filter, sym, refl, ap, ◌∙◌, subst, inl, inr, arith, length-append}
use mathlib.Core.Option.{Option, none, some}
use lib.ListN.{length-map, get_or-map}
use Rattle.std.specs.List.{AllByRecursion}
use Rattle.std.proofs.lemmas.Bool.{eqb-true, ltb-true, ltb-false, leb-false, cases_Bool, and_parts, or_parts, not-false}
use Rattle.std.proofs.ByRecursion.{All-weaker, All-append, All-get_or}
use Rattle.std.proofs.lemmas.List.{map-append}
use Rattle.programme.specs.declared.Kind.{Kind}
use Rattle.programme.specs.Formula.{messages}
use Rattle.programme.specs.Rank.{fresh}
use Rattle.machine.specs.Operation.{Meaning, Lawful, Result, Ok, Err, BlockFault}
use Rattle.machine.specs.Network.{Message, Network, waiting, waiting_in_all, of_job, apart, WellMade}
use Rattle.machine.specs.Job.{Job, rank_of, actions, blocks, elements}
use Rattle.machine.specs.Plain.{Plain, Refusal, made, fit, when, first_refusal, block_refusal, blocks_read, start_refusal, after_start, new_job, crowds, messages_pending, unfit, bad_root, bad_length, four_pending, crowded, numbers_spent}
use Rattle.machine.specs.Sound.{Among, numbers, Plan, Planned, Proper, acts_done, sends_to, takes_from, JobSound, Sound}
use Rattle.machine.proofs.Lists.{kept_none, distinct_push, push_among}
use Rattle.machine.proofs.Between.{in_all}
use Rattle.machine.proofs.Advance.{flight_same}
use Rattle.programme.specs.Formula.{sends as sends_in}
use Rattle.ranks.specs.Ranks.{most_ranks}
use Rattle.ranks.proofs.Sums.{sum-zero, sum_zeros}
use Rattle.machine.proofs.Keep.{width_fits}

-- no refusal applies
pub refusals_none : (o : Option Refusal) (more : List (Option Refusal)) → first_refusal (o ∷ more) ≡ none → (o ≡ none) × (first_refusal more ≡ none)
refusals_none none more e = (refl, e)
refusals_none (some f) more e = let z : ◌≡◌ {A = ℕ} 0 1 = cc in absurd (omega arith)

pub when_none : (b : Bool) (f : Refusal) → when b f ≡ none → b ≡ false
when_none true f e = let z : ◌≡◌ {A = ℕ} 0 1 = cc in absurd (omega arith)
when_none false f e = refl

length-blocks : (w n : ℕ) (words : List ℕ) → length (blocks w n words) ≡ n
length-blocks w zero words = refl
length-blocks w (suc n) words = ap suc (length-blocks w n (drop w words))

empty_list : (l : List Message) → length l ≡ 0 → l ≡ []
empty_list [] e = refl
empty_list (x ∷ l) e = absurd (omega arith)

pub started_above : (k n : ℕ) (ks : List ℕ) → AllByRecursion (λ i. i ≤ k) ks → Among n ks → n ≤ k
started_above k n (i ∷ ks) h (inl e) = omega (arith, h.0)
started_above k n (i ∷ ks) h (inr t) = started_above k n ks h.1 t
started_above k n [] h t = absurd t

module _ {E : Type 0} where
  all_read : (m : Meaning E) → Lawful m → m.width ≤ 6 → (r : ℕ) (bs : List (List ℕ)) → block_refusal r (map m.unpack bs) ≡ none
      → AllByRecursion (Proper m) (elements (map m.unpack bs)) × (length (elements (map m.unpack bs)) ≡ length bs)
  all_read m lawful narrow r [] e = (tt, refl)
  all_read m lawful narrow r (b ∷ bs) e = go (λ f. all_read m lawful narrow (suc r) bs f) (m.unpack b) refl e
    where
      go : (block_refusal (suc r) (map m.unpack bs) ≡ none → AllByRecursion (Proper m) (elements (map m.unpack bs)) × (length (elements (map m.unpack bs)) ≡ length bs))
          → (u : Result E BlockFault) → m.unpack b ≡ u → block_refusal r (u ∷ map m.unpack bs) ≡ none
          → AllByRecursion (Proper m) (elements (u ∷ map m.unpack bs)) × (length (elements (u ∷ map m.unpack bs)) ≡ suc (length bs))
      go rest (Ok x) g f = (((lawful.packing narrow).unpack_proper b x g, (rest f).0), ap suc (rest f).1)
      go rest (Err q) g f = let z : ◌≡◌ {A = ℕ} 0 1 = cc in absurd (omega arith)

  -- what a start that is not refused has found
  pub record Starts (s : Plain E) (kind : Kind) (root : ℕ) (words : List ℕ) : Type 0 where
    pub fitting : fit s ≡ true
    pub root_below : root < s.now.ranks
    pub words_all : length words ≡ s.now.ranks * s.meaning.width
    pub blocks_right : block_refusal 0 (blocks_read s words) ≡ none
    pub three_pending : length s.jobs < 4
    pub deep_enough : length s.jobs + 1 ≤ s.now.depth
    pub room_enough : messages_pending s.now.ranks s.jobs + messages kind s.now.ranks root ≤ s.now.room
    pub number_left : s.started < 65535

  pub starts : (s : Plain E) (kind : Kind) (root : ℕ) (words : List ℕ) → start_refusal s kind root words ≡ none → Starts s kind root words
  starts s kind root words e =
      let a = refusals_none _ _ e in
      let b = refusals_none _ _ a.1 in
      let c = refusals_none _ _ b.1 in
      let d = refusals_none _ _ c.1 in
      let f = refusals_none _ _ d.1 in
      let g = refusals_none _ _ f.1 in
      let h = refusals_none _ _ g.1 in
      let crowd = or_parts (ltb s.now.depth (length s.jobs + 1)) _ (when_none (crowds s kind root) crowded g.0) in
      record {
        fitting = not-false (fit s) (when_none _ unfit a.0);
        root_below = ltb-true root s.now.ranks (not-false _ (when_none _ bad_root b.0));
        words_all = eqb-true (length words) (s.now.ranks * s.meaning.width) (not-false _ (when_none _ bad_length c.0));
        blocks_right = d.0;
        three_pending = leb-false 4 (length s.jobs) (when_none _ four_pending f.0);
        deep_enough = ltb-false s.now.depth (length s.jobs + 1) crowd.0;
        room_enough = ltb-false s.now.room _ crowd.1;
        number_left = leb-false 65535 s.started (when_none _ numbers_spent h.0);
      }

  -- the inputs of a job that is started
  pub inputs_read : (s : Plain E) → Lawful s.meaning → (kind : Kind) (root : ℕ) (words : List ℕ) → Starts s kind root words
      → AllByRecursion (Proper s.meaning) (elements (blocks_read s words)) × (length (elements (blocks_read s words)) ≡ s.now.ranks)
  inputs_read s lawful kind root words h =
      let bs : List (List ℕ) = blocks s.meaning.width s.now.ranks words in
      let read = all_read s.meaning lawful (width_fits s h.fitting) 0 bs h.blocks_right in
      (read.0, read.1 ∙ length-blocks s.meaning.width s.now.ranks words)

  pub new_rank : (m : Meaning E) (inputs : List E) (job : Job E) → job.ranks ≡ map (fresh m.unit) inputs → (r : ℕ) → rank_of m job r ≡ fresh m.unit (get_or inputs r m.unit)
  new_rank m inputs job e r = ap (λ l. get_or l r (fresh m.unit m.unit)) e ∙ get_or-map (fresh m.unit) inputs r m.unit

  job_sound : (m : Meaning E) → Lawful m → (p number : ℕ) (w : ℕ → ℕ → List Message) (kind : Kind) (root : ℕ) (inputs : List E) → root < p → length inputs ≡ p → AllByRecursion (Proper m) inputs
      → Plan m kind p root inputs
      → ((a b : ℕ) → filter (of_job number) (w a b) ≡ [])
      → JobSound m p w (record { number = number; kind = kind; root = root; inputs = inputs; ranks = map (fresh m.unit) inputs; sent = 0 })
  job_sound m lawful p number w kind root inputs within count proper plan none_yet =
      let job : Job E = record { number = number; kind = kind; root = root; inputs = inputs; ranks = map (fresh m.unit) inputs; sent = 0 } in
      let acts : (r : ℕ) → acts_done m p job r ≡ [] = λ r. ap (λ x. take x.done (actions p job r)) (new_rank m inputs job refl r) in
      record {
        root_within = within;
        inputs_all = count;
        ranks_all = length-map inputs (fresh m.unit) ∙ count;
        sent_counted = sym (sum_zeros _ p (λ r _. ap sends_in (acts r)));
        plan = plan;
        rank_sound = λ r below.
            rw (new_rank m inputs job refl r) (record {
              done_within = omega arith;
              known = refl;
              value_proper = All-get_or (Proper m) inputs r m.unit (omega arith) proper;
              prefix_proper = lawful.monoid.unit_proper;
              kept_proper = tt;
            });
        flight = λ a b.
            flight_same 0 0 _ _ (w a b) (w a b) (ap (sends_to b) (acts a)) (ap (takes_from a) (acts b)) refl
            (record { taken_sent = omega arith; label = 0; label_small = omega arith; label_right = λ h. absurd (omega arith); between = none_yet a b; proper = λ h. absurd (omega arith) });
      }

  messages_push : (p : ℕ) (jobs : List (Job E)) (job : Job E) → messages_pending p (jobs ++ (job ∷ [])) ≡ messages_pending p jobs + messages job.kind p job.root
  messages_push p [] job = omega arith
  messages_push p (k ∷ jobs) job = omega (arith, messages_push p jobs job)

  pub start_sound : (s : Plain E) → Lawful s.meaning → Planned s.meaning → WellMade s.origin → Sound s → (kind : Kind) (root : ℕ) (words : List ℕ) (o : Option Refusal)
      → start_refusal s kind root words ≡ o
      → Sound (after_start s kind root words o).1
  start_sound s lawful planned well h kind root words (some f) e = h
  start_sound s lawful planned well h kind root words none e =
      let c = starts s kind root words e in
      let inputs : List E = elements (blocks_read s words) in
      let read = inputs_read s lawful kind root words c in
      let p = s.now.ranks in
      let job : Job E = new_job s kind root inputs in
      let few : p ≤ most_ranks = omega (arith, h.same_ranks, well.few_ranks) in
      let absent : Among (s.started + 1) (numbers s.jobs) → ⊥ = λ t. omega (arith, started_above s.started (s.started + 1) (numbers s.jobs) h.started_all t) in
      let pushed : numbers (s.jobs ++ (job ∷ [])) ≡ numbers s.jobs ++ ((s.started + 1) ∷ []) = map-append (λ k. k.number) s.jobs (job ∷ []) in
      record {
        same_ranks = h.same_ranks;
        same_depth = h.same_depth;
        same_room = h.same_room;
        same_limit = h.same_limit;
        started_few = omega (arith, c.number_left);
        fits = λ _. c.fitting;
        distinct = rw pushed (distinct_push (s.started + 1) (numbers s.jobs) h.distinct absent);
        started_all = rw pushed (All-append (λ i. i ≤ s.started + 1) (numbers s.jobs) ((s.started + 1) ∷ [])
            (All-weaker (λ i. i ≤ s.started) (λ i. i ≤ s.started + 1) (λ i g. omega arith) (numbers s.jobs) h.started_all) (omega arith, tt));
        pending_few = omega (arith, length-append s.jobs (job ∷ []), c.three_pending);
        pending_depth = omega (arith, length-append s.jobs (job ∷ []), c.deep_enough);
        pending_room = omega (arith, messages_push p s.jobs job, c.room_enough);
        jobs_sound = All-append (JobSound s.meaning p (waiting s.now)) s.jobs (job ∷ []) h.jobs_sound (
          job_sound s.meaning lawful p (s.started + 1) (waiting s.now) kind root inputs c.root_below read.1 read.0
              (planned kind p root inputs few c.root_below read.1 read.0)
              (λ a b. kept_none (s.started + 1) (numbers s.jobs) (waiting s.now a b) absent (h.waiting_known c.fitting a b)),
          tt,
        );
        waiting_known = λ f a b.
            subst (λ ks. AllByRecursion (λ x. Among (x.tag / 16) ks) (waiting s.now a b)) (sym pushed)
            (All-weaker (λ x. Among (x.tag / 16) (numbers s.jobs)) (λ x. Among (x.tag / 16) (numbers s.jobs ++ ((s.started + 1) ∷ [])))
            (λ x t. push_among (s.started + 1) (x.tag / 16) (numbers s.jobs) t) (waiting s.now a b) (h.waiting_known f a b));
      }

  nothing_waits : (name : ℕ) (m : Meaning E) (net : Network) → WellMade net → fit (made name m net) ≡ true → (a b : ℕ) → waiting net a b ≡ []
  nothing_waits name m net well e a b =
      let one = and_parts (ltb 0 net.ranks) _ e in
      let two = and_parts (leb m.width 6) _ one.1 in
      let three = and_parts (leb (m.width + 1) net.limit) _ two.1 in
      let all : waiting_in_all net ≡ 0 = eqb-true (waiting_in_all net) 0 three.1 in
      elim (cases_Bool (apart net.ranks a b)) [
        | inl f ↦
            let left = and_parts (ltb a net.ranks) _ f in
            let right = and_parts (ltb b net.ranks) _ left.1 in
            empty_list (waiting net a b)
            (sum-zero (λ d. length (waiting net a d)) net.ranks
            (sum-zero _ net.ranks (sym (in_all net) ∙ all) a (ltb-true a net.ranks left.0))
            b (ltb-true b net.ranks right.0))
        | inr f ↦ well.within a b f
      ]

  pub made_sound : (name : ℕ) (m : Meaning E) (net : Network) → WellMade net → Sound (made name m net)
  made_sound name m net well = record {
    same_ranks = refl;
    same_depth = refl;
    same_room = refl;
    same_limit = refl;
    started_few = omega arith;
    fits = λ h. absurd (omega arith);
    distinct = tt;
    started_all = tt;
    pending_few = omega arith;
    pending_depth = omega arith;
    pending_room = omega arith;
    jobs_sound = tt;
    waiting_known = λ f a b. rw (nothing_waits name m net well f a b) tt;
  }
