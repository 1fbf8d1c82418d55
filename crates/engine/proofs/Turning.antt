-- A turn of one rank of a job at a place: what the plain machine knows of it, and what it comes to.
use Rattle.std.proofs.Common.{◌≡◌, ℕ, zero, suc, ◌+◌, ◌^◌, ◌<◌, ◌≤◌, max, Bool, true, false, cond, eqb, List, [], ◌∷◌, ◌++◌, map, length, get_or, take, drop, set, Some, None, Ok, Err, Option as Found, Result, sym, refl, ap, ◌∙◌, subst, ap₂, zero-add, arith, length-take-le, get_or-take}
use mathlib.Core.Option.{some, none}
use lib.ListN.{get_elem?, get_or-map}
use lib.Seq.{take-set-lt}
use Rattle.std.specs.List.{slice_get}
use Rattle.std.proofs.lemmas.Bool.{eq-eqb, lt-ltb}
use Rattle.programme.specs.declared.Action.{Action}
use Rattle.programme.specs.declared.Action.TheVariants.{Send, Take}
use Rattle.programme.specs.declared.Merge.{Merge}
use Rattle.programme.specs.declared.Merge.TheVariants.{Replace, Keep, Before, After, Prefix}
use Rattle.programme.specs.Rank.{Rank, Mail, fresh, posted, after_send, after_take, merged_value, merged_prefix, merged_kept}
use Rattle.schedule.specs.Collective.{actions_of}
use Rattle.operation.specs.declared.Operation.{Ghosts as Operation}
use Rattle.transport.specs.declared.Transport.{Ghosts as Transport}
use Rattle.machine.specs.Operation.{Meaning}
use Rattle.machine.specs.Network.{Message, Network, waiting, with_taken}
use Rattle.machine.specs.Job as machine
use Rattle.machine.specs.Job.{rank_of, actions}
use Rattle.machine.specs.Plain.{Plain, Answer, Move, sends, takes, sent, took, turn, step, numbered, shown, moved_job, moved_ranks, moved_count, after_move, message_of, tag_of}
use Rattle.machine.specs.Sound.{JobSound, Good}
use Rattle.machine.proofs.Jobs.{found}
use Rattle.machine.proofs.Places.{moved_at}
use Rattle.machine.proofs.Steps.{turn_sends, turn_takes, turn_waits}
use Rattle.machine.proofs.Crowd.{sendable, fitting, take_apart}
use Rattle.machine.proofs.Clocks.{arrival_small, departure_small, rounds_few}
use Rattle.machine.proofs.Turn.{sent_apart}
use Rattle.machine.proofs.Wires.{send_answers, send_leaves}
use Rattle.machine.proofs.Crowd.{Sendable, Fitting}
use Rattle.transport.specs.Network.{message, send_reply, done}
use Rattle.transport.specs.Network as transport
use Rattle.jobs.specs.declared.job.Job.{Job}
use Rattle.jobs.specs.declared.job.RankState.{RankState}
use Rattle.jobs.specs.Tables.{pending_jobs, job_of, states, rank_in, keeps, numbered_from, with_sent as sent_job, with_received}
use Rattle.jobs.specs.Updates.{update}
use Rattle.jobs.proofs.Numbering.{length-numbered, read_numbered, set-numbered}
use Rattle.jobs.proofs.Keeping.{is_keep, keeping, keeps_alone, keep_few}
use Rattle.machine.proofs.Actions.{next}
use Rattle.machine.specs.Plain.{waits, mail_of, stamped as machine_stamped}
use Rattle.machine.specs.Sound.{acts_done}
use Rattle.machine.specs.Network.{apart, oldest, words_of}
use Rattle.machine.specs.Operation.{BlockFault}
use Rattle.engine_parts.specs.declared.mail.Mail.{Mail as Letter}
use Rattle.engine_parts.specs.Mail as parts
use Rattle.engine_parts.specs.Mail.{mail_in, read_words, words_of as words_of_mail}
use Rattle.engine.specs.declared.state.Engine.{Engine}
use Rattle.engine.specs.declared.token.Token.{Token}
use Rattle.engine.specs.Fields.{with_jobs}
use Rattle.engine.specs.Abs.{plain, Stands, place_of, state_taken}
use Rattle.engine.proofs.Shown.{Placed, seen, ranks_at}
use Rattle.engine.proofs.Counting.{sent_small}

pub nth_some : {A : Type 0} (xs : List A) (i : ℕ) (a : A) → slice_get xs i ≡ Some a → get_elem? xs i ≡ some a
nth_some [] i a e = let z : ◌≡◌ {A = ℕ} 0 1 = cc in absurd (omega arith)
nth_some (x ∷ xs) zero a e = let s : x ≡ a = cc in ap some s
nth_some (x ∷ xs) (suc i) a e = nth_some xs i a e

pub nth_none : {A : Type 0} (xs : List A) (i : ℕ) → slice_get xs i ≡ None → get_elem? xs i ≡ none
nth_none [] i e = refl
nth_none (x ∷ xs) zero e = let z : ◌≡◌ {A = ℕ} 0 1 = cc in absurd (omega arith)
nth_none (x ∷ xs) (suc i) e = nth_none xs i e

map-update : {A B : Type 0} (f : A → B) (g : A → A) (xs : List A) (i : ℕ) (d : A) → map f (update i g xs) ≡ set (map f xs) i (f (g (get_or xs i d)))
map-update f g [] i d = refl
map-update f g (x ∷ xs) zero d = refl
map-update f g (x ∷ xs) (suc i) d = ap (λ l. f x ∷ l) (map-update f g xs i d)

-- a rank that keeps nothing
unkept : {A : Type 0} (t : Bool) (a b : List A) → t ≡ false → cond t a [] ≡ cond t b []
unkept t a b e = rw e

module _ {E : Type 0} where
  -- a message that a rank has sent, read
  pub record Letters (m : Meaning E) (w : Message) : Type 0 where
    pub mail : Letter E
    pub read : read_words m w.words ≡ Some mail
    pub sent : (m.proper mail.value ≡ true) × (w.words ≡ words_of_mail m mail)

  -- a send's effect on its rank
  abbrev pub departed : RankState E → RankState E
  departed s = record { done = s.done + 1; value = s.value; prefix = s.prefix; arrival = s.arrival; departure = max s.departure s.arrival + 1 }

  -- the job with one rank changed, and what ranks keep
  put_job : (j : Job E) (kept : List E) (r : ℕ) (s : RankState E) → r < j.schedule.ranks
      → ((q : ℕ) (x : RankState E) → (q ≡ r → ⊥) → rank_in j.schedule.collective kept q x ≡ rank_in j.schedule.collective j.kept q x)
      → numbered_from (rank_in j.schedule.collective kept) 0 (take j.schedule.ranks (set (states j) r s))
      ≡ set (job_of j).ranks r (rank_in j.schedule.collective kept r s)
  put_job j kept r s below same =
      let f = rank_in j.schedule.collective j.kept in
      let g = rank_in j.schedule.collective kept in
      let p = j.schedule.ranks in
      ap (numbered_from g 0) (take-set-lt p (states j) r s below)
      ∙ set-numbered f g 0 (take p (states j)) r s (λ q x h. same q x (λ e. h (e ∙ sym (zero-add r))))
      ∙ ap (λ n. set (job_of j).ranks r (g n s)) (zero-add r)

  -- the job of the machine that has these ranks, of which so many turns were answered sent
  abbrev with_ranks : Job E → List (Rank E) → ℕ → machine.Job E
  with_ranks j ranks n = record { number = j.number; kind = (job_of j).kind; root = (job_of j).root; inputs = (job_of j).inputs; ranks = ranks; sent = n }

-- of the job at a token's place, in an engine that stands
module _ {O T E : Type 0} {op : Operation O E} {t : Transport T} (e : Engine O T E op t) (token : Token) (k : ℕ) (shown_at : place_of e token ≡ Some k)
    (j : Job E) (j_is : (d : Job E) → j ≡ get_or (pending_jobs e.jobs) k d) (origin : Network) (h : Stands origin e) where
  abbrev m : Meaning E
  m = op.meaning e.operation

  abbrev net : Network
  net = t.meaning e.transport

  abbrev js : List (Job E)
  js = pending_jobs e.jobs

  abbrev n : ℕ
  n = token.number

  abbrev s : Plain E
  s = plain origin e

  abbrev good : Good s
  good = h.good

  at : Placed n k js
  at = (seen e token k shown_at).at

  job_is : numbered n (map job_of js) ≡ some (job_of j)
  job_is = at.numbered_is j ∙ ap (λ i. some (job_of i)) (sym (j_is j))

  pub shown_is : shown s token.name n ≡ some (job_of j)
  shown_is = (seen e token k shown_at).shown_is origin j ∙ ap (λ i. some (job_of i)) (sym (j_is j))

  pub number_is : j.number ≡ n
  number_is = ap (λ i. i.number) (j_is j) ∙ at.number_is j

  pub schedule_ranks : j.schedule.ranks ≡ net.ranks
  schedule_ranks = ap (λ i. i.schedule.ranks) (j_is j) ∙ ranks_at origin.ranks js k j h.same_ranks at.within ∙ sym good.sound.same_ranks

  pub job_sound : JobSound m net.ranks (waiting net) (job_of j)
  job_sound = (found n (map job_of js) (job_of j) job_is).all_have (JobSound m net.ranks (waiting net)) good.sound.jobs_sound

  pub states_long : net.ranks ≤ length (states j)
  states_long = go (length (states j)) refl
    where
      all : length (take j.schedule.ranks (states j)) ≡ net.ranks
      all = sym (length-numbered (rank_in j.schedule.collective j.kept) 0 (take j.schedule.ranks (states j))) ∙ job_sound.ranks_all

      go : (l : ℕ) → length (states j) ≡ l → net.ranks ≤ length (states j)
      go l e = omega (arith, all, length-take_most j.schedule.ranks (states j))
        where
          length-take_most : (i : ℕ) (xs : List (RankState E)) → length (take i xs) ≤ length xs
          length-take_most zero [] = omega arith
          length-take_most zero (x ∷ xs) = omega arith
          length-take_most (suc i) [] = omega arith
          length-take_most (suc i) (x ∷ xs) = omega (arith, length-take_most i xs)

  module _ (r : ℕ) (below : r < net.ranks) (st : RankState E) (st_is : (d : RankState E) → st ≡ get_or (states j) r d) where
    abbrev x : Rank E
    x = rank_in j.schedule.collective j.kept r st

    pub rank_is : rank_of m (job_of j) r ≡ x
    rank_is =
        let p = j.schedule.ranks in
        let f = rank_in j.schedule.collective j.kept in
        let low : r < p = omega (arith, schedule_ranks) in
        let long = length-take-le p (states j) (omega (arith, states_long, schedule_ranks)) in
        read_numbered f 0 (take p (states j)) r (fresh m.unit m.unit) st (omega arith)
        ∙ ap₂ f (zero-add r) (get_or-take p (states j) r st low ∙ sym (st_is st))

    -- the place in the rank's programme, as the machine has it
    pub next_is : (o : Found Action) → slice_get (actions_of j.schedule.collective j.schedule.ranks r) st.done ≡ o
        → slice_get (actions net.ranks (job_of j) r) (rank_of m (job_of j) r).done ≡ o
    next_is o e =
        ap₂ (λ p d. slice_get (actions_of j.schedule.collective p r) d) (sym schedule_ranks) (ap (λ y. y.done) rank_is) ∙ e

    -- the jobs after a change of the rank, as the machine moves them
    pub jobs_moved : (move : Move E) (y : Rank E) → ((l : List (Rank E)) → moved_ranks r move l ≡ set l r y)
        → (kept : List E) (s : RankState E) → rank_in j.schedule.collective kept r s ≡ y
        → ((q : ℕ) (z : RankState E) → (q ≡ r → ⊥) → rank_in j.schedule.collective kept q z ≡ rank_in j.schedule.collective j.kept q z)
        → (f : Job E → Job E)
        → job_of (f j) ≡ with_ranks j (numbered_from (rank_in j.schedule.collective kept) 0 (take j.schedule.ranks (set (states j) r s))) (moved_count move j.sent)
        → map job_of (update k f js) ≡ map (moved_job n r move) (map job_of js)
    jobs_moved move y sets kept s is same-else f f-is =
        let jobs = map job_of js in
        let below' : r < j.schedule.ranks = omega (arith, schedule_ranks) in
        let mine = eq-eqb j.number n number_is in
        let ranks_are = put_job j kept r s below' same-else ∙ ap (set (job_of j).ranks r) is ∙ sym (sets (job_of j).ranks) ∙ sym (ap (λ t. cond t (moved_ranks r move (job_of j).ranks) (job_of j).ranks) mine) in
        let count_is : moved_count move j.sent ≡ cond (eqb j.number n) (moved_count move j.sent) j.sent = sym (ap (λ t. cond t (moved_count move j.sent) j.sent) mine) in
        let new : job_of (f j) ≡ moved_job n r move (job_of j) = f-is ∙ ap₂ (with_ranks j) ranks_are count_is in
        let here : get_or jobs k (job_of j) ≡ job_of j = get_or-map job_of js k j ∙ ap job_of (sym (j_is j)) in
        let long : k < length jobs = omega (arith, at.within, map-length js) in
        map-update job_of f js k j
        ∙ ap (λ i. set jobs k (job_of (f i))) (sym (j_is j))
        ∙ ap (set jobs k) new
        ∙ ap₂ (λ i l. set jobs k (moved_job i r move l)) (sym (ap (λ l. l.number) here ∙ number_is)) (sym here)
        ∙ sym (moved_at jobs k (job_of j) r move good.sound.distinct long)
        ∙ ap (λ i. map (moved_job i r move) jobs) (ap (λ l. l.number) here ∙ number_is)
      where
        map-length : (l : List (Job E)) → length (map job_of l) ≡ length l
        map-length [] = refl
        map-length (i ∷ l) = ap suc (map-length l)

    -- a rank that sends keeps nothing
    pub sends_kept : (to label : ℕ) → slice_get (actions_of j.schedule.collective j.schedule.ranks r) st.done ≡ Some (Send to label)
        → rank_in j.schedule.collective j.kept r (departed st) ≡ after_send x
    sends_kept to label e =
        let no = keeping j.schedule.collective j.schedule.ranks r st.done (Send to label) (nth_some (actions_of j.schedule.collective j.schedule.ranks r) st.done (Send to label) e) in
        ap (λ l. record { done = st.done + 1; value = st.value; prefix = st.prefix; kept = l; arrival = st.arrival; departure = max st.departure st.arrival + 1 })
        (unkept (keeps j.schedule.collective r) (take (st.done + 1) j.kept) (take st.done j.kept) no)

    -- what a rank counts is small
    pub clocks_small : (st.arrival ≤ 66) × (st.departure ≤ 66)
    clocks_small =
        let most = rounds_few (job_of j).kind net.ranks (job_of j).root in
        let few : net.ranks ≤ 64 = omega (arith, good.sound.same_ranks, good.well.few_ranks) in (
          omega (arith, ap (λ y. y.arrival) rank_is, arrival_small m net.ranks (waiting net) (job_of j) job_sound r below),
          omega (arith, ap (λ y. y.departure) rank_is, departure_small m net.ranks (waiting net) (job_of j) job_sound r below),
        )

    pub value_proper : m.proper st.value ≡ true
    value_proper = subst (λ y. m.proper y.value ≡ true) rank_is (job_sound.rank_sound r below).value_proper

    pub sent_few : j.sent + 1 < 2 ^ 64
    sent_few = sent_small m net.ranks (waiting net) (job_of j) job_sound (omega (arith, good.sound.same_ranks, good.well.few_ranks))

    module _ (to label : ℕ) (next : slice_get (actions_of j.schedule.collective j.schedule.ranks r) st.done ≡ Some (Send to label)) where
      here : get_elem? (actions net.ranks (job_of j) r) (rank_of m (job_of j) r).done ≡ some (Send to label)
      here = nth_some (actions net.ranks (job_of j) r) (rank_of m (job_of j) r).done (Send to label) (next_is (Some (Send to label)) next)

      pub label_low : label < 16
      label_low = (sent_apart m net.ranks net (job_of j) job_sound r below to label here).2

      abbrev pub letter : Message
      letter = message (tag_of n label) ((max st.departure st.arrival + 1) ∷ m.pack st.value)

      letter_is : message_of m j.number label (posted (rank_of m (job_of j) r)) ≡ letter
      letter_is = ap₂ (λ i y. message_of m i label (posted y)) number_is rank_is

      may_send : Sendable s r to letter
      may_send = subst (Sendable s r to) letter_is (sendable s good n r (job_of j) job_is below to label here)

      -- the transport does not refuse it
      pub goes : send_reply net r to letter.words ≡ done
      goes = send_answers s r to letter may_send

      pub sent_step : (net' : Network) → net' ≡ transport.after_send net r to letter → (js' : List (Job E)) → js' ≡ update k (sent_job r (departed st)) js
          → ◌≡◌ {A = Answer × Plain E} (sent, with_jobs e.name m origin net' e.started js') (step s (turn token.name n r))
      sent_step net' net-is js' js-is =
          let move : Move E = sends to letter (after_send x) in
          let network = net-is ∙ send_leaves s r to letter may_send in
          let jobs = ap (map job_of) js-is ∙ jobs_moved move (after_send x) (λ l. refl) j.kept (departed st) (sends_kept to label next) (λ q z h. refl) (sent_job r (departed st)) refl in
          (λ i. (sent, record { name = e.name; meaning = m; origin = origin; now = network i; started = e.started; jobs = jobs i }))
          ∙ ap₂ {C = Answer × Plain E} (λ msg y. (sent, after_move s n r (sends to msg (after_send y)))) (sym letter_is) (sym rank_is)
          ∙ sym (turn_sends s token.name n r (job_of j) shown_is (lt-ltb r net.ranks below) to label here)

    module _ (from label : ℕ) (merge : Merge) (next_take : slice_get (actions_of j.schedule.collective j.schedule.ranks r) st.done ≡ Some (Take from label merge)) where
      here_take : get_elem? (actions net.ranks (job_of j) r) (rank_of m (job_of j) r).done ≡ some (Take from label merge)
      here_take = nth_some (actions net.ranks (job_of j) r) (rank_of m (job_of j) r).done (Take from label merge) (next_is (Some (Take from label merge)) next_take)

      pub take_label : label < 16
      take_label =
          job_sound.plan.labels_fit r below (Take from label merge) (record {
            before = acts_done m net.ranks (job_of j) r;
            behind = drop (suc (rank_of m (job_of j) r).done) (actions net.ranks (job_of j) r);
            split = (next (actions net.ranks (job_of j) r) (rank_of m (job_of j) r).done (Take from label merge) here_take).split;
          })

      pub pair : apart net.ranks from r ≡ true
      pair = take_apart s good n r (job_of j) job_is below from label merge here_take

      fits : (words : List ℕ) → oldest (tag_of n label) (net.arrived from r) ≡ some words → Fitting s words
      fits words e =
          fitting s good n r (job_of j) job_is below from label merge here_take words
          (ap (λ i. oldest (tag_of i label) (net.arrived from r)) number_is ∙ e)

      -- what has arrived says what a rank has sent
      pub reads : (w : Message) → transport.oldest (tag_of n label) (net.arrived from r) ≡ Some w → Letters m w
      reads w e =
          let f = fits w.words (ap words_of e) in
          record {
            mail = record { stamp = f.mail.stamp; value = f.mail.value };
            read = ap (read_words m) f.words_are ∙ ap (parts.stamped f.mail.stamp) f.unpacks;
            sent = (f.value_proper, f.words_are);
          }

      pub waits_step : mail_in m (transport.oldest (tag_of n label) (net.arrived from r)) ≡ None → ◌≡◌ {A = Answer × Plain E} (waits, s) (step s (turn token.name n r))
      waits_step e = go (transport.oldest (tag_of n label) (net.arrived from r)) refl e
        where
          go : (o : Found Message) → transport.oldest (tag_of n label) (net.arrived from r) ≡ o → mail_in m o ≡ None
              → ◌≡◌ {A = Answer × Plain E} (waits, s) (step s (turn token.name n r))
          go None f g =
              sym (turn_waits s token.name n r (job_of j) shown_is (lt-ltb r net.ranks below) from label merge here_take
              (ap (λ i. oldest (tag_of i label) (net.arrived from r)) number_is ∙ ap words_of f))
          go (Some w) f g =
              let q = fits w.words (ap words_of f) in
              let some_mail : read_words m w.words ≡ Some (record { stamp = q.mail.stamp; value = q.mail.value })
              = ap (read_words m) q.words_are ∙ ap (parts.stamped q.mail.stamp) q.unpacks in
              let z : ◌≡◌ {A = ℕ} 0 1 = cc in
              absurd (omega arith)

      module _ (mail : Letter E) where
        abbrev mailed : Mail E
        mailed = record { stamp = mail.stamp; value = mail.value }

        pub room_kept : merge ≡ Keep → st.done < 64
        room_kept e =
            let c = j.schedule.collective in
            let i = keep_few c j.schedule.ranks r st.done from label (omega (arith, schedule_ranks)) (nth_some (actions_of c j.schedule.ranks r) st.done (Take from label Keep) (next_take ∙ ap (λ g. Some (Take from label g)) e)) in
            omega (arith, schedule_ranks, good.sound.same_ranks, good.well.few_ranks)

        -- the rank after a take that keeps nothing
        plainly : (g : Merge) → keeps j.schedule.collective r ≡ false → ((l : List E) → merged_kept g l mail.value ≡ l)
            → rank_in j.schedule.collective j.kept r (state_taken m.join g mail st) ≡ after_take m.join g mailed x
        plainly g none_kept same =
            ap (λ l. record {
              done = st.done + 1;
              value = merged_value m.join g st.value mail.value;
              prefix = merged_prefix m.join g st.prefix mail.value;
              kept = l;
              arrival = max (st.arrival + 1) mail.stamp;
              departure = st.departure;
            }) (unkept (keeps j.schedule.collective r) (take (st.done + 1) j.kept) (take st.done j.kept) none_kept ∙ sym (same x.kept))

        -- the jobs after a take, by what the rank then holds and what is then kept
        jobs_by : (g : Merge) (kept : List E) → rank_in j.schedule.collective kept r (state_taken m.join g mail st) ≡ after_take m.join g mailed x
            → ((q : ℕ) (z : RankState E) → (q ≡ r → ⊥) → rank_in j.schedule.collective kept q z ≡ rank_in j.schedule.collective j.kept q z)
            → job_of (with_received r (state_taken m.join g mail st) g st.done mail.value j)
            ≡ with_ranks j (numbered_from (rank_in j.schedule.collective kept) 0 (take j.schedule.ranks (set (states j) r (state_taken m.join g mail st)))) j.sent
            → map job_of (update k (with_received r (state_taken m.join g mail st) g st.done mail.value) js)
            ≡ map (moved_job n r (takes from (tag_of n label) (after_take m.join g mailed x))) (map job_of js)
        jobs_by g kept is same-else =
            jobs_moved (takes from (tag_of n label) (after_take m.join g mailed x)) (after_take m.join g mailed x) (λ l. refl) kept (state_taken m.join g mail st) is same-else
            (with_received r (state_taken m.join g mail st) g st.done mail.value)

        jobs_taken : (g : Merge) → keeps j.schedule.collective r ≡ is_keep (Take from label g)
            → (g ≡ Keep → take (st.done + 1) (set j.kept st.done mail.value) ≡ take st.done j.kept ++ (mail.value ∷ []))
            → map job_of (update k (with_received r (state_taken m.join g mail st) g st.done mail.value) js)
            ≡ map (moved_job n r (takes from (tag_of n label) (after_take m.join g mailed x))) (map job_of js)
        jobs_taken Replace none_kept front = jobs_by Replace j.kept (plainly Replace none_kept (λ l. refl)) (λ q z h. refl) refl
        jobs_taken Before none_kept front = jobs_by Before j.kept (plainly Before none_kept (λ l. refl)) (λ q z h. refl) refl
        jobs_taken After none_kept front = jobs_by After j.kept (plainly After none_kept (λ l. refl)) (λ q z h. refl) refl
        jobs_taken Prefix none_kept front = jobs_by Prefix j.kept (plainly Prefix none_kept (λ l. refl)) (λ q z h. refl) refl
        jobs_taken Keep it-keeps front =
            let c = j.schedule.collective in
            let kept = set j.kept st.done mail.value in
            let is : rank_in c kept r (state_taken m.join Keep mail st) ≡ after_take m.join Keep mailed x
            = ap (λ l. record {
              done = st.done + 1;
              value = st.value;
              prefix = st.prefix;
              kept = l;
              arrival = max (st.arrival + 1) mail.stamp;
              departure = st.departure;
            }) (both (keeps c r) it-keeps) in
            jobs_by Keep kept is
            (λ q z h. ap (λ l. record { done = z.done; value = z.value; prefix = z.prefix; kept = l; arrival = z.arrival; departure = z.departure })
            (unkept (keeps c q) (take z.done kept) (take z.done j.kept) (keeps_alone c r q it-keeps h)))
            refl
          where
            both : (t : Bool) → t ≡ true → cond t (take (st.done + 1) (set j.kept st.done mail.value)) [] ≡ cond t (take st.done j.kept) [] ++ (mail.value ∷ [])
            both t e = rw e (front refl)

        read_is : (o : Found Message) → Some mail ≡ mail_in m o → mail_of m (words_of o) ≡ some mailed
        read_is None e = let z : ◌≡◌ {A = ℕ} 0 1 = cc in absurd (omega arith)
        read_is (Some w) e = by_words w.words e
          where
            by_block : (i : ℕ) (o : Result E BlockFault) → Some mail ≡ parts.stamped i o → machine_stamped i o ≡ some mailed
            by_block i (Ok v) f =
                let g : mail ≡ record { stamp = i; value = v } = cc in
                ap (λ (l : Letter E). some (record { stamp = l.stamp; value = l.value })) (sym g)
            by_block i (Err b) f = let z : ◌≡◌ {A = ℕ} 0 1 = cc in absurd (omega arith)

            by_words : (l : List ℕ) → Some mail ≡ read_words m l → mail_of m (some l) ≡ some mailed
            by_words [] f = let z : ◌≡◌ {A = ℕ} 0 1 = cc in absurd (omega arith)
            by_words (i ∷ l) f = by_block i (m.unpack l) f

        pub took_step : Some mail ≡ mail_in m (transport.oldest (tag_of n label) (net.arrived from r))
            → (net' : Network) → net' ≡ with_taken from r (tag_of n label) net
            → (js' : List (Job E)) → js' ≡ update k (with_received r (state_taken m.join merge mail st) merge st.done mail.value) js
            → (merge ≡ Keep → take (st.done + 1) (set j.kept st.done mail.value) ≡ take st.done j.kept ++ (mail.value ∷ []))
            → ◌≡◌ {A = Answer × Plain E} (took, with_jobs e.name m origin net' e.started js') (step s (turn token.name n r))
        took_step found-is net' net-is js' js-is front =
            by_message (transport.oldest (tag_of n label) (net.arrived from r)) refl found-is
          where
            by_message : (o : Found Message) → transport.oldest (tag_of n label) (net.arrived from r) ≡ o → Some mail ≡ mail_in m o
                → ◌≡◌ {A = Answer × Plain E} (took, with_jobs e.name m origin net' e.started js') (step s (turn token.name n r))
            by_message None f g = let z : ◌≡◌ {A = ℕ} 0 1 = cc in absurd (omega arith)
            by_message (Some w) f g =
                let keep = keeping j.schedule.collective j.schedule.ranks r st.done (Take from label merge) (nth_some (actions_of j.schedule.collective j.schedule.ranks r) st.done (Take from label merge) next_take) in
                let jobs = ap (map job_of) js-is ∙ jobs_taken merge keep front in
                (λ i. (took, record { name = e.name; meaning = m; origin = origin; now = net-is i; started = e.started; jobs = jobs i }))
                ∙ ap₂ {C = Answer × Plain E} (λ i y. (took, after_move s n r (takes from (tag_of i label) (after_take m.join merge mailed y)))) (sym number_is) (sym rank_is)
                ∙ sym (turn_takes s token.name n r (job_of j) shown_is (lt-ltb r net.ranks below) from label merge w.words mailed here_take
                (ap (λ i. oldest (tag_of i label) (net.arrived from r)) number_is ∙ ap words_of f) (read_is (Some w) g))
