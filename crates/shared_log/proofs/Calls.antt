-- What a log stands for after each call.
use Rattle.std.proofs.Common.{◌≡◌, ℕ, suc, ◌+◌, ◌-◌, ◌<◌, ◌≤◌, min, Bool, true, false, not, ◌⊎◌, List, [], ◌∷◌, ◌++◌, length, get_or, take, drop, set, Some, None, filter, sym, refl, ap, ◌∙◌, subst, ap₂, inl, inr, arith}
use mathlib.Core.Path.{fun_ext}
use Rattle.std.specs.List.{position, remove, AllByRecursion}
use Rattle.std.proofs.lemmas.List.{length-set, length-take, length-take-le, take_more_set, take-append-drop, take_all, set_split, take_at, set-append_left, get_or-take}
use Rattle.std.proofs.ByRecursion.{All-push, All-get_or}
use Rattle.std.proofs.lemmas.List.Sums.{length-filter, count_by-le-length}
use Rattle.std.proofs.lemmas.Bool.{and_parts, eqb-true, cases_lt, lt-leb, le-leb}
use Rattle.ranks.specs.Ranks.{pair_ok}
use Rattle.transport.specs.Network.{Network, message, quiet, put, waiting, between, with_lists, sent, send_reply, after_send, carry_reply, after_carry, done, value, refused, oldest, without, fault_number}
use Rattle.transport.specs.Stored.{Found}
use Rattle.transport.proofs.Replies.{send_full, send_crowded, send_done, after_done, carry_some, after_carry_some}
use Rattle.transport.proofs.Passes.{split_at}
use Rattle.transport.proofs.Stored as stored
use Rattle.shared_log.specs.declared.Record.{Record}
use Rattle.shared_log.specs.declared.Log.{Log}
use Rattle.shared_log.specs.Meaning.{live as live_of}
use Rattle.shared_log.specs.Records.{of_pair, is_under, is_arrived, is_tagged, message_of, log_under, log_arrived, log_network, most_records, full_fault, Good, Ordered, SoundLog}
use Rattle.shared_log.proofs.Places.{found_by}
use Rattle.shared_log.proofs.Rows.{marked, listed_count, waiting_is, under_sent, arrived_sent, under_first, under_carried, arrived_carried, x_way, ordered_sent, ordered_carried, ordered_after, ordered_taken, good_carried, good_taken, arrived_taken, under_taken}

-- the front of a list after a write in it
pub take-set_in : {X : Type 0} (n : ℕ) (xs : List X) (i : ℕ) (v : X) → n ≤ length xs → i < n → take n (set xs i v) ≡ take i (take n xs) ++ (v ∷ drop (i + 1) (take n xs))
take-set_in n xs i v h l =
    let inside : i < length (take n xs) = simp length-take (omega arith) in
    ap (λ m. take n (set m i v)) (sym (take-append-drop n xs))
    ∙ ap (take n) (set-append_left (take n xs) (drop n xs) i v inside)
    ∙ take_at (set (take n xs) i v) (drop n xs) n (length-set (take n xs) i v ∙ length-take-le n xs h)
    ∙ set_split (take n xs) i v inside
    ∙ ap (λ k. take i (take n xs) ++ (v ∷ drop k (take n xs))) (one_more i)
  where
    one_more : (k : ℕ) → suc k ≡ k + 1
    one_more k = omega arith

-- no more pass a test than there are
kept_few : {X : Type 0} (test : X → Bool) (xs : List X) → length (filter test xs) ≤ length xs
kept_few test xs = omega (arith, length-filter test xs, count_by-le-length test xs)

-- where no place is found, there is no such message
pub none_under : (a b : ℕ) (rs : List Record) → None ≡ position (is_under a b) rs → log_under rs a b ≡ []
none_under a b rs e = stored.listed_none message_of (is_under a b) rs (found_by (is_under a b) rs None e)

pub none_arrived : (a b t : ℕ) (rs : List Record) → None ≡ position (is_tagged a b t) rs → oldest t (log_arrived rs a b) ≡ None
none_arrived a b t rs e = stored.oldest_none message_of (is_arrived a b) t rs (found_by (is_tagged a b t) rs None e)

-- the record that a send writes
abbrev pub record_of : ℕ → ℕ → ℕ → List ℕ → List ℕ → Record
record_of a b t ws block = record { from = a; to = b; tag = t; length = length ws; words = block; arrived = false }

-- what a read past the end would give
abbrev pub blank : Record
blank = record { from = 0; to = 0; tag = 0; length = 0; words = []; arrived = false }

removed_is : {X : Type 0} (xs : List X) (i : ℕ) → remove xs i ≡ take i xs ++ drop (i + 1) xs
removed_is xs i = let e : suc i ≡ i + 1 = omega arith in ap (λ k. take i xs ++ drop k xs) e

module _ (log : Log) where
  abbrev p : ℕ
  p = log.ranks

  abbrev used : ℕ
  used = log.used

  abbrev rs : List Record
  rs = log.records.now

  abbrev room : ℕ
  room = log.room

  s : SoundLog p room used rs
  s = log.sound

  abbrev live : List Record
  live = live_of log

  abbrev net : Network
  net = log_network p room live

  pub live_length : length live ≡ used
  live_length = length-take-le used rs (omega (arith, s.fits, s.within))

  pub net_waiting : waiting net ≡ used
  net_waiting = waiting_is p room live s.good ∙ live_length

  module _ (a b t : ℕ) (ws : List ℕ) (pair : pair_ok p a b ≡ true) where
    -- a full log
    pub log_full : length ws ≤ 4 → room ≤ used → send_reply net a b ws ≡ refused (fault_number (full_fault room (length (filter (of_pair a b) live))))
    log_full h l = by (cases_lt (length (filter (of_pair a b) live)) room)
      where
        counts : between net a b ≡ length (filter (of_pair a b) live)
        counts = listed_count a b live

        by : (length (filter (of_pair a b) live) < room) ⊎ (room ≤ length (filter (of_pair a b) live)) → send_reply net a b ws ≡ refused (fault_number (full_fault room (length (filter (of_pair a b) live))))
        by (inl k) = rw (lt-leb room (length (filter (of_pair a b) live)) k) (send_crowded net a b ws pair h (omega (arith, counts)) (omega (arith, net_waiting)))
        by (inr k) = rw (le-leb room (length (filter (of_pair a b) live)) k) (send_full net a b ws pair h (omega (arith, counts)))

    module _ (block : List ℕ) (h : length ws ≤ 4) (l : used < room)
        (four : length block ≡ 4) (front : take (length ws) block ≡ ws)
      where
        pub log_done : done ≡ send_reply net a b ws
        log_done = sym (send_done net a b ws pair h (omega (arith, listed_count a b live, kept_few (of_pair a b) live, live_length)) (omega (arith, net_waiting)))

        grown : take (used + 1) (set rs used (record_of a b t ws block)) ≡ live ++ (record_of a b t ws block ∷ [])
        grown = take_more_set rs used (record_of a b t ws block) (omega (arith, s.within))

        sent_is : message_of (record_of a b t ws block) ≡ message t ws
        sent_is = ap (message t) front

        pub log_sent : log_network p room (take (used + 1) (set rs used (record_of a b t ws block))) ≡ after_send net a b (message t ws)
        unfolding sent
        log_sent =
            ap (log_network p room) grown
            ∙ ap₂ (with_lists net)
            (under_sent live (record_of a b t ws block) refl ∙ ap (λ m. put (log_under live) a b (log_under live a b ++ (m ∷ []))) sent_is)
            (arrived_sent live (record_of a b t ws block) refl)
            ∙ sym (after_done net a b (message t ws) (sym log_done))

        pub log_sent_sound : SoundLog p room (used + 1) (set rs used (record_of a b t ws block))
        log_sent_sound = record {
          few = s.few;
          no_room = s.no_room;
          most = s.most;
          within = simp length-set s.within;
          fits = omega arith;
          good = subst (AllByRecursion (Good p)) (sym grown) (All-push (Good p) live (record_of a b t ws block) s.good (record { pair = pair; brief = h; four = four }));
          ordered = subst Ordered (sym grown) (ordered_sent live (record_of a b t ws block) refl s.ordered);
        }

  -- a carry, with the oldest under way at the place i
  module _ (a b i : ℕ) (pair : pair_ok p a b ≡ true) (first_place : Some i ≡ position (is_under a b) live) where
    place : Found (is_under a b) live (Some i)
    place = found_by (is_under a b) live (Some i) first_place

    inside : i < length live
    inside = place.0

    before : AllByRecursion (λ r. is_under a b r ≡ false) (take i live)
    before = place.1

    here : is_under a b (get_or live i blank) ≡ true
    here = place.2 blank

    abbrev x : Record
    x = get_or live i blank

    abbrev front : List Record
    front = take i live

    abbrev back : List Record
    back = drop (i + 1) live

    whole : front ++ (x ∷ back) ≡ live
    whole = split_at live i blank inside

    first : log_under live a b ≡ message_of x ∷ log_under back a b
    first = ap (λ l. log_under l a b) (sym whole) ∙ under_first front x back a b before here

    pub log_moved : value 1 ≡ carry_reply net a b
    log_moved = sym (carry_some net a b (message_of x) (log_under back a b) pair first)

    i_used : i < used
    i_used = omega (arith, inside, live_length)

    same_x : get_or rs i blank ≡ x
    same_x = sym (get_or-take used rs i blank i_used)

    marks : take used (set rs i (marked (get_or rs i blank))) ≡ front ++ (marked x ∷ back)
    marks = take-set_in used rs i (marked (get_or rs i blank)) (omega (arith, s.fits, s.within)) i_used ∙ ap (λ r. front ++ (marked r ∷ back)) same_x

    none_behind : AllByRecursion (λ r. is_arrived a b r ≡ false) back
    none_behind =
        let way = x_way front x back a b before here in
        let q = (and_parts (of_pair a b x) (not x.arrived) here).0 in
        let e = and_parts _ _ q in
        subst (λ (k : ℕ). AllByRecursion (λ r. is_arrived a k r ≡ false) back) (eqb-true x.to b e.1)
        (subst (λ (k : ℕ). AllByRecursion (λ r. is_arrived k x.to r ≡ false) back) (eqb-true x.from a e.0)
        (ordered_after front x back (subst Ordered (sym whole) s.ordered) way))

    pub log_carried : log_network p room (take used (set rs i (marked (get_or rs i blank)))) ≡ after_carry net a b
    log_carried =
        ap (log_network p room) marks
        ∙ ap₂ (with_lists net)
        (under_carried front x back a b before here ∙ ap (λ l. put (log_under l) a b (log_under back a b)) whole)
        (arrived_carried front x back a b before here none_behind ∙ ap (λ l. put (log_arrived l) a b (log_arrived l a b ++ (message_of x ∷ []))) whole)
        ∙ sym (after_carry_some net a b (message_of x) (log_under back a b) pair first)

    pub log_carried_sound : SoundLog p room used (set rs i (marked (get_or rs i blank)))
    log_carried_sound = record {
      few = s.few;
      no_room = s.no_room;
      most = s.most;
      within = simp length-set s.within;
      fits = s.fits;
      good = subst (AllByRecursion (Good p)) (sym marks) (good_carried p front x back (subst (AllByRecursion (Good p)) (sym whole) s.good));
      ordered = subst Ordered (sym marks)
          (ordered_carried a b front x back before (and_parts (of_pair a b x) (not x.arrived) here).0 (subst Ordered (sym whole) s.ordered));
    }

  -- a take, with the oldest that arrived with the tag at the place i
  module _ (a b t i : ℕ) (first_place : Some i ≡ position (is_tagged a b t) live) where
    found_y : Found (is_tagged a b t) live (Some i)
    found_y = found_by (is_tagged a b t) live (Some i) first_place

    inside_y : i < length live
    inside_y = found_y.0

    before_y : AllByRecursion (λ r. is_tagged a b t r ≡ false) (take i live)
    before_y = found_y.1

    here_y : is_tagged a b t (get_or live i blank) ≡ true
    here_y = found_y.2 blank

    abbrev y : Record
    y = get_or live i blank

    halves : take i live ++ (y ∷ drop (i + 1) live) ≡ live
    halves = split_at live i blank inside_y

    pub log_oldest : oldest t (log_arrived live a b) ≡ Some (message_of y)
    log_oldest = ap (λ l. oldest t (log_arrived l a b)) (sym halves) ∙ stored.oldest_tagged message_of (is_arrived a b) t y (drop (i + 1) live) here_y (take i live) before_y

    pub log_taken : log_network p room (remove live i) ≡ with_lists net (log_under live) (put (log_arrived live) a b (without t (log_arrived live a b)))
    log_taken =
        ap (log_network p room) (removed_is live i)
        ∙ ap₂ (with_lists net)
        (under_taken y (drop (i + 1) live) a b t here_y (take i live) ∙ ap log_under halves)
        (arrived_taken y (drop (i + 1) live) a b t here_y (take i live) before_y ∙ ap (λ l. put (log_arrived l) a b (without t (log_arrived l a b))) halves)

    i_live : i < used
    i_live = omega (arith, inside_y, live_length)

    same_y : get_or rs i blank ≡ y
    same_y = sym (get_or-take used rs i blank i_live)

    pub log_oldest_in : oldest t (log_arrived live a b) ≡ Some (message_of (get_or rs i blank))
    log_oldest_in = log_oldest ∙ ap (λ r. Some (message_of r)) (sym same_y)

    pub log_good_in : Good p (get_or rs i blank)
    log_good_in = subst (Good p) (sym same_y) (All-get_or (Good p) live i blank inside_y s.good)

    -- the gap is closed, and so many records are left in use
    module _ (left : ℕ) (last : List Record) (fewer : left ≡ used - 1) (long : length last ≡ length rs) (closed : take left last ≡ remove live i) where
      without_y : take left last ≡ take i live ++ drop (i + 1) live
      without_y = closed ∙ removed_is live i

      pub log_after_take : log_network p room (take left last) ≡ with_lists net (log_under live) (put (log_arrived live) a b (without t (log_arrived live a b)))
      log_after_take = ap (log_network p room) closed ∙ log_taken

      pub log_take_sound : SoundLog p room left last
      log_take_sound = record {
        few = s.few;
        no_room = s.no_room;
        most = s.most;
        within = omega (arith, long, s.within);
        fits = omega (arith, fewer, s.fits);
        good = subst (AllByRecursion (Good p)) (sym without_y) (good_taken p (take i live) y (drop (i + 1) live) (subst (AllByRecursion (Good p)) (sym halves) s.good));
        ordered = subst Ordered (sym without_y) (ordered_taken (take i live) y (drop (i + 1) live) (subst Ordered (sym halves) s.ordered));
      }

-- a new log
pub new_is : (p room : ℕ) → log_network p room [] ≡ quiet p room room 4
new_is p room =
    ap₂ (with_lists (log_network p room []))
    (fun_ext (λ a. fun_ext (λ b. stored.listed_nil message_of (is_under a b))))
    (fun_ext (λ a. fun_ext (λ b. stored.listed_nil message_of (is_arrived a b))))

-- the records in use, by their number or by the most that are used
pub take_least : (rs : List Record) → take (min (length rs) most_records) rs ≡ take most_records rs
take_least rs = by (cases_lt (length rs) most_records)
  where
    by : (length rs < most_records) ⊎ (most_records ≤ length rs) → take (min (length rs) most_records) rs ≡ take most_records rs
    by (inl h) = take_all (min (length rs) most_records) rs (omega arith) ∙ sym (take_all most_records rs (omega arith))
    by (inr h) = let k : min (length rs) most_records ≡ most_records = omega arith in ap (λ j. take j rs) k
