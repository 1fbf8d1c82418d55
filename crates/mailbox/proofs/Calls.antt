-- What the matrix stands for after each call.
use Rattle.std.proofs.Common.{◌≡◌, ℕ, zero, suc, ◌+◌, ◌-◌, ◌*◌, ◌<◌, ◌≤◌, Bool, true, false, cond, ◌&&◌, eqb, leb, ◌⊎◌, List, [], ◌∷◌, ◌++◌, length, get_or, take, drop, set, replicate, Some, None, Option, sym, refl, ap, ◌∙◌, subst, ap₂, inl, inr, mul-le-mul, arith}
use mathlib.Core.Path.{fun_ext}
use borrow.Rule.Slice.PartMut.{put_mid}
use Rattle.std.specs.List.{HoldsAt, AllByRecursion}
use Rattle.std.proofs.lemmas.List.{length-drop, length-append, length-take-le, length-replicate, take_at, drop_at, set_split}
use Rattle.std.proofs.lemmas.Bool.{cases_Bool, and_parts, eqb-true, leb-true, true≢false}
use Rattle.std.proofs.ByRecursion.{All-weaker, All-take, All-drop}
use Rattle.ranks.specs.Ranks.{most_ranks, pair_ok}
use Rattle.transport.specs.Network.{Network, quiet, nobody, between, waiting, put, with_lists, sent, value, carry_reply, after_carry, oldest, without}
use Rattle.std.specs.Option.{unwrap_or}
use Rattle.transport.specs.Stored.{listed, Found}
use Rattle.transport.proofs.Pairs.{no_pair_of_none}
use Rattle.transport.proofs.Tables.{put_is, put_same, sum-nowhere}
use Rattle.transport.proofs.Replies.{carry_some, after_carry_some}
use Rattle.transport.proofs.Many.{sent_waiting, carried_waiting, taken_waiting, nothing_waits}
use Rattle.transport.proofs.Passes.{split_at}
use Rattle.transport.proofs.Stored as stored
use Rattle.mailbox.specs.declared.Slot.{Slot}
use Rattle.mailbox.specs.declared.Slot.TheVariants.{Free, UnderWay, Arrived}
use Rattle.mailbox.specs.declared.Mailbox.{Mailbox}
use Rattle.mailbox.specs.Slots.{slots_of, message_of, count_of, is_free, is_under, is_arrived, is_tagged, arrived, taken_out, base, box, Filed}
use Rattle.mailbox.specs.Matrix.{most_depth, usable, filed_lists, mailbox_network, SoundBox}
use Rattle.mailbox.specs.Shape.{mailbox_shaped}
use Rattle.mailbox.proofs.Rows.{free_count, posted_under, posted_arrived, posted_filed, full_count, carried_first, carried_under, carried_arrived, carried_filed, filed_count, taken_under, taken_filed, free_under, free_arrived, arrived_is, arrived_message, arrived_count}
use Rattle.mailbox.proofs.Boxes.{apart, block_other, slot_inside}
use Rattle.mailbox.proofs.Words.{slots-take, slots-drop, slots-append, length-slots, slots_enough}

-- what a read past the end would give
abbrev pub blank : Slot
blank = Free

-- a list with one element changed
set_is : (xs : List Slot) (k : ℕ) (y : Slot) → k < length xs → set xs k y ≡ take k xs ++ (y ∷ drop (k + 1) xs)
set_is xs k y h = set_split xs k y h ∙ ap (λ n. take k xs ++ (y ∷ drop n xs)) (on k)
  where
    on : (k : ℕ) → suc k ≡ k + 1
    on k = omega arith

module _ (m : Mailbox) (a b : ℕ) (pair : pair_ok m.ranks a b ≡ true) where
  abbrev s : SoundBox m.ranks m.depth m.used m.words.now
  s = m.sound

  abbrev p : ℕ
  p = m.ranks

  abbrev d : ℕ
  d = m.depth

  abbrev used : ℕ
  used = m.used

  abbrev ws : List ℕ
  ws = m.words.now

  -- the place of the pair's first slot
  abbrev first : ℕ
  first = base p d a b

  abbrev slots : List Slot
  slots = box p d ws a b

  abbrev net : Network
  net = mailbox_network p d ws

  pub under_here : net.under a b ≡ listed message_of is_under slots
  under_here = rw pair

  pub arrived_here : net.arrived a b ≡ listed message_of is_arrived slots
  arrived_here = rw pair

  pub within : 4 * (base p d a b + d) ≤ length ws
  within = omega (arith, s.long, slot_inside p d a b pair)

  pub small_place : base p d a b + d ≤ 262144
  small_place = omega (arith, slot_inside p d a b pair, mul-le-mul (mul-le-mul s.few s.few) s.shallow)

  enough : base p d a b + d ≤ length (slots_of ws)
  enough = slots_enough (base p d a b + d) ws within

  pub slots_length : length slots ≡ d
  slots_length = length-take-le d (drop (base p d a b) (slots_of ws)) (omega (arith, length-drop (base p d a b) (slots_of ws), enough))

  -- the row of words that stands for the pair's slots
  abbrev pub row_words : List ℕ
  row_words = take (4 * d) (drop (4 * base p d a b) ws)

  pub row_slots : slots_of row_words ≡ slots
  row_slots = slots-take d (drop (4 * base p d a b) ws) ∙ ap (take d) (slots-drop (base p d a b) ws)

  pub row_long : length row_words ≡ 4 * d
  row_long = length-take-le (4 * d) (drop (4 * base p d a b) ws) (omega (arith, length-drop (4 * base p d a b) ws, within))

  width : (start end : ℕ) → start ≡ 4 * base p d a b → end ≡ 4 * (base p d a b + d) → end - start ≡ 4 * d
  width start end hs he = omega arith

  -- the words that are read and written from the row's start to its end
  pub at_row : (start end : ℕ) → start ≡ 4 * base p d a b → end ≡ 4 * (base p d a b + d) → take (end - start) (drop start ws) ≡ row_words
  at_row start end hs he = ap₂ (λ n i. take n (drop i ws)) (width start end hs he) hs

  pub put_row : (row : List ℕ) (start end : ℕ) → start ≡ 4 * base p d a b → end ≡ 4 * (base p d a b + d) → put_mid start (end - start) ws row ≡ put_mid (4 * base p d a b) (4 * d) ws row
  put_row row start end hs he = ap₂ (λ i n. put_mid i n ws row) hs (width start end hs he)

  pub row_is : (start end : ℕ) → start ≡ 4 * base p d a b → end ≡ 4 * (base p d a b + d) → slots_of (take (end - start) (drop start ws)) ≡ slots
  row_is start end hs he = ap slots_of (at_row start end hs he) ∙ row_slots

  pub row_length : (start end : ℕ) → start ≡ 4 * base p d a b → end ≡ 4 * (base p d a b + d) → length (take (end - start) (drop start ws)) ≡ 4 * d
  row_length start end hs he = ap length (at_row start end hs he) ∙ row_long

  pub row_place : (start end : ℕ) → start ≡ 4 * base p d a b → end ≡ 4 * (base p d a b + d) → (k : ℕ) → k < length slots → 4 * k + 4 ≤ length (take (end - start) (drop start ws))
  row_place start end hs he k h = omega (arith, row_length start end hs he, slots_length)

  pub row_whole : (start end : ℕ) → start ≡ 4 * base p d a b → end ≡ 4 * (base p d a b + d) → 4 * length (slots_of (take (end - start) (drop start ws))) ≡ length (take (end - start) (drop start ws))
  row_whole start end hs he = omega (arith, ap length (row_is start end hs he), row_length start end hs he, slots_length)

  -- what is read from the row is the pair's slot
  pub row_read : (start end : ℕ) → start ≡ 4 * base p d a b → end ≡ 4 * (base p d a b + d) → (k : ℕ) (x : Slot) → ((other : Slot) → get_or (slots_of (take (end - start) (drop start ws))) k other ≡ x) → get_or slots k blank ≡ x
  row_read start end hs he k x h = ap (λ l. get_or l k blank) (sym (row_is start end hs he)) ∙ h blank

  between_here : between net a b ≡ length (listed message_of is_under slots) + length (listed message_of is_arrived slots)
  between_here = ap₂ (λ u v. length u + length v) under_here arrived_here

  pub full_between : AllByRecursion (λ r. is_free r ≡ false) slots → between net a b ≡ d
  full_between h = between_here ∙ full_count slots h ∙ slots_length

  -- other words stand in the pair's row: vs are all the words after
  module _ (row vs : List ℕ) (long : length row ≡ 4 * d) (is : vs ≡ put_mid (4 * base p d a b) (4 * d) ws row) where
    slots_now : slots_of vs ≡ put_mid (base p d a b) d (slots_of ws) (slots_of row)
    slots_now =
        ap slots_of is
        ∙ slots-append first (take (4 * first) ws) _ (length-take-le (4 * first) ws (omega (arith, within)))
        ∙ ap₂ ◌++◌ (slots-take first ws)
        (slots-append d row _ long ∙ ap (λ l. slots_of row ++ l) (slots-drop d (drop (4 * first) ws) ∙ ap (drop d) (slots-drop first ws)))

    box_here : box p d vs a b ≡ slots_of row
    box_here =
        ap (λ l. take d (drop first l)) slots_now
        ∙ ap (take d) (drop_at (take first (slots_of ws)) _ first (length-take-le first (slots_of ws) (omega (arith, enough))))
        ∙ take_at (slots_of row) _ d (length-slots d row long)

    box_other : (x y : ℕ) → pair_ok p x y ≡ true → (eqb a x && eqb b y) ≡ false → box p d vs x y ≡ box p d ws x y
    box_other x y q ne =
        ap (λ l. take d (drop (base p d x y) l)) slots_now
        ∙ block_other d (base p d x y) first (slots_of ws) (slots_of row) (apart p d a b x y pair q ne) (omega (arith, enough)) (length-slots d row long)

    length_now : length vs ≡ length ws
    length_now =
        ap length is ∙ length-append (take (4 * first) ws) _
        ∙ omega (arith, within, length-take-le (4 * first) ws (omega (arith, within)), length-append row (drop (4 * d) (drop (4 * first) ws)), length-drop (4 * d) (drop (4 * first) ws), length-drop (4 * first) ws, long)

    lists_put : (test : Slot → Bool) → filed_lists p d vs test ≡ put (filed_lists p d ws test) a b (listed message_of test (slots_of row))
    lists_put test =
        put_is (filed_lists p d ws test) (filed_lists p d vs test) a b (listed message_of test (slots_of row))
        (rw pair (ap (listed message_of test) box_here))
        (λ x y ne. by x y ne (cases_Bool (pair_ok p x y)))
      where
        by : (x y : ℕ) → (eqb a x && eqb b y) ≡ false → (pair_ok p x y ≡ true) ⊎ (pair_ok p x y ≡ false) → filed_lists p d vs test x y ≡ filed_lists p d ws test x y
        by x y ne (inl q) = rw q (ap (listed message_of test) (box_other x y q ne))
        by x y ne (inr q) = rw q refl

    network_now : mailbox_network p d vs ≡ with_lists net (put net.under a b (listed message_of is_under (slots_of row))) (put net.arrived a b (listed message_of is_arrived (slots_of row)))
    network_now = ap₂ (with_lists net) (lists_put is_under) (lists_put is_arrived)

    sound_now : (left : ℕ) → Filed (slots_of row) → left ≡ waiting (mailbox_network p d vs) → SoundBox p d left vs
    sound_now left filed counted = record {
      few = s.few;
      shallow = s.shallow;
      closed = s.closed;
      long = omega (arith, s.long, length_now);
      filed = λ x y q. by x y q (cases_Bool (eqb a x && eqb b y));
      counted = counted;
    }
      where
        by : (x y : ℕ) → pair_ok p x y ≡ true → ((eqb a x && eqb b y) ≡ true) ⊎ ((eqb a x && eqb b y) ≡ false) → Filed (box p d vs x y)
        by x y q (inl e) =
            let h = and_parts (eqb a x) (eqb b y) e in
            subst (λ (i : ℕ). Filed (box p d vs i y)) (eqb-true a x h.0)
            (subst (λ (j : ℕ). Filed (box p d vs a j)) (eqb-true b y h.1)
            (subst Filed (sym box_here) filed))
        by x y q (inr e) = subst Filed (sym (box_other x y q e)) (s.filed x y q)

  -- the first free slot is at k
  module _ (k : ℕ) (inside : k < length slots) (before : AllByRecursion (λ r. is_free r ≡ false) (take k slots)) (here : HoldsAt (λ r. is_free r ≡ true) slots k) where
    whole : take k slots ++ (get_or slots k blank ∷ drop (k + 1) slots) ≡ slots
    whole = split_at slots k blank inside

    filed : Filed (take k slots ++ (get_or slots k blank ∷ drop (k + 1) slots))
    filed = subst Filed (sym whole) (s.filed a b pair)

    pub free_between : between net a b ≡ k
    free_between =
        between_here
        ∙ ap (λ l. length (listed message_of is_under l) + length (listed message_of is_arrived l)) (sym whole)
        ∙ free_count (take k slots) (get_or slots k blank) (drop (k + 1) slots) filed before (here blank)
        ∙ length-take-le k slots (omega arith)

    -- a message y goes there
    module _ (y : Slot) (new : is_under y ≡ true) (small : count_of y ≤ 2) (start end : ℕ) (hs : start ≡ 4 * base p d a b) (he : end ≡ 4 * (base p d a b + d)) (row : List ℕ) (kept : length row ≡ length (take (end - start) (drop start ws)))
        (now : slots_of row ≡ set (slots_of (take (end - start) (drop start ws))) k y)
      where
        row_now : slots_of row ≡ take k slots ++ (y ∷ drop (k + 1) slots)
        row_now = now ∙ ap (λ l. set l k y) (row_is start end hs he) ∙ set_is slots k y inside

        under_now : listed message_of is_under (slots_of row) ≡ net.under a b ++ (message_of y ∷ [])
        under_now =
            ap (listed message_of is_under) row_now
            ∙ posted_under (take k slots) (get_or slots k blank) y (drop (k + 1) slots) filed before (here blank) new small
            ∙ ap (λ l. listed message_of is_under l ++ (message_of y ∷ [])) whole
            ∙ ap (λ l. l ++ (message_of y ∷ [])) (sym under_here)

        arrived_now : listed message_of is_arrived (slots_of row) ≡ net.arrived a b
        arrived_now =
            ap (listed message_of is_arrived) row_now
            ∙ posted_arrived (take k slots) (get_or slots k blank) y (drop (k + 1) slots) filed before (here blank) new small
            ∙ ap (listed message_of is_arrived) whole ∙ sym arrived_here

        pub matrix_sent : mailbox_network p d (put_mid start (end - start) ws row) ≡ sent net a b (message_of y)
        unfolding sent
        matrix_sent = network_now row (put_mid start (end - start) ws row) (kept ∙ row_length start end hs he) (put_row row start end hs he) ∙ ap₂ (with_lists net) (ap (put net.under a b) under_now) (ap (put net.arrived a b) arrived_now ∙ put_same net.arrived a b)

        pub matrix_sent_sound : SoundBox p d (used + 1) (put_mid start (end - start) ws row)
        unfolding sent
        matrix_sent_sound =
            sound_now row (put_mid start (end - start) ws row) (kept ∙ row_length start end hs he) (put_row row start end hs he) (used + 1)
            (subst Filed (sym row_now) (posted_filed (take k slots) (get_or slots k blank) y (drop (k + 1) slots) filed before (here blank) new small))
            (omega (arith, s.counted, ap waiting matrix_sent, sent_waiting net a b (message_of y ∷ []) pair))

  -- how many wait: the place of the first free slot, or all
  pub waiting_here : (r : Option ℕ) → Found is_free slots r → between net a b ≡ unwrap_or r d
  waiting_here None h = full_between h
  waiting_here (Some k) h = free_between k h.0 h.1 h.2

  -- the first under way is at k
  module _ (k : ℕ) (inside : k < length slots) (before : AllByRecursion (λ r. is_under r ≡ false) (take k slots)) (here : HoldsAt (λ r. is_under r ≡ true) slots k) where
    abbrev front : List Slot
    front = take k slots

    abbrev back : List Slot
    back = drop (k + 1) slots

    abbrev old : Slot
    old = get_or slots k blank

    all_of : take k slots ++ (get_or slots k blank ∷ drop (k + 1) slots) ≡ slots
    all_of = split_at slots k blank inside

    in_order : Filed (take k slots ++ (get_or slots k blank ∷ drop (k + 1) slots))
    in_order = subst Filed (sym all_of) (s.filed a b pair)

    pub old_small : count_of (arrived (get_or slots k blank)) ≤ 2
    old_small = subst (λ n. n ≤ 2) (sym (arrived_count (get_or slots k blank))) (filed_count (take k slots) (get_or slots k blank) (drop (k + 1) slots) in_order)

    -- it arrives
    module _ (start end : ℕ) (hs : start ≡ 4 * base p d a b) (he : end ≡ 4 * (base p d a b + d)) (row : List ℕ) (kept : length row ≡ length (take (end - start) (drop start ws)))
        (now : slots_of row ≡ set (slots_of (take (end - start) (drop start ws))) k (arrived (get_or slots k blank)))
      where
        abbrev y : Slot
        y = arrived (get_or slots k blank)

        row_carried : slots_of row ≡ take k slots ++ (arrived (get_or slots k blank) ∷ drop (k + 1) slots)
        row_carried = now ∙ ap (λ l. set l k (arrived (get_or slots k blank))) (row_is start end hs he) ∙ set_is slots k y inside

        is_now : is_arrived (arrived (get_or slots k blank)) ≡ true
        is_now = arrived_is old (here blank)

        first_under : net.under a b ≡ message_of (get_or slots k blank) ∷ listed message_of is_under (drop (k + 1) slots)
        first_under = under_here ∙ ap (listed message_of is_under) (sym all_of) ∙ carried_first front old y back in_order before (here blank) is_now (arrived_message old) old_small

        matrix_carried : mailbox_network p d (put_mid start (end - start) ws row) ≡ with_lists net (put net.under a b (listed message_of is_under (drop (k + 1) slots))) (put net.arrived a b (net.arrived a b ++ (message_of (get_or slots k blank) ∷ [])))
        matrix_carried =
            network_now row (put_mid start (end - start) ws row) (kept ∙ row_length start end hs he) (put_row row start end hs he)
            ∙ ap₂ (with_lists net)
            (ap (put net.under a b) (ap (listed message_of is_under) row_carried ∙ carried_under front old y back in_order before (here blank) is_now (arrived_message old) old_small))
            (ap (put net.arrived a b)
            (ap (listed message_of is_arrived) row_carried ∙ carried_arrived front old y back in_order before (here blank) is_now (arrived_message old) old_small
            ∙ ap (λ l. listed message_of is_arrived l ++ (message_of old ∷ [])) all_of ∙ ap (λ l. l ++ (message_of old ∷ [])) (sym arrived_here)))

        pub carried_answer : carry_reply net a b ≡ value 1
        carried_answer = carry_some net a b (message_of old) (listed message_of is_under back) pair first_under

        pub carried_network : mailbox_network p d (put_mid start (end - start) ws row) ≡ after_carry net a b
        carried_network = matrix_carried ∙ sym (after_carry_some net a b (message_of old) (listed message_of is_under back) pair first_under)

        pub matrix_carried_sound : SoundBox p d used (put_mid start (end - start) ws row)
        matrix_carried_sound =
            sound_now row (put_mid start (end - start) ws row) (kept ∙ row_length start end hs he) (put_row row start end hs he) used
            (subst Filed (sym row_carried) (carried_filed front old y back in_order before (here blank) is_now (arrived_message old) old_small))
            (s.counted ∙ sym (ap waiting matrix_carried ∙ carried_waiting net a b (message_of old) (listed message_of is_under back) pair first_under))

  -- the oldest that arrived with the tag t is at k
  module _ (t k : ℕ) (inside : k < length slots) (before : AllByRecursion (λ r. is_tagged t r ≡ false) (take k slots)) (here : HoldsAt (λ r. is_tagged t r ≡ true) slots k) where
    parts : take k slots ++ (get_or slots k blank ∷ drop (k + 1) slots) ≡ slots
    parts = split_at slots k blank inside

    parted : Filed (take k slots ++ (get_or slots k blank ∷ drop (k + 1) slots))
    parted = subst Filed (sym parts) (s.filed a b pair)

    pub tagged_small : count_of (get_or slots k blank) ≤ 2
    tagged_small = filed_count (take k slots) (get_or slots k blank) (drop (k + 1) slots) parted

    pub tagged_oldest : oldest t (net.arrived a b) ≡ Some (message_of (get_or slots k blank))
    tagged_oldest = ap (oldest t) (arrived_here ∙ ap (listed message_of is_arrived) (sym parts)) ∙ stored.oldest_tagged message_of is_arrived t (get_or slots k blank) (drop (k + 1) slots) (here blank) (take k slots) before

    -- it is taken out
    module _ (start end : ℕ) (hs : start ≡ 4 * base p d a b) (he : end ≡ 4 * (base p d a b + d)) (row : List ℕ) (kept : length row ≡ length (take (end - start) (drop start ws)))
        (now : slots_of row ≡ taken_out (slots_of (take (end - start) (drop start ws))) k)
      where
        row_taken : slots_of row ≡ (take k slots ++ drop (k + 1) slots) ++ (Free ∷ [])
        row_taken = now ∙ ap (λ l. taken_out l k) (row_is start end hs he) ∙ ap (λ n. (take k slots ++ drop n slots) ++ (Free ∷ [])) (on k)
          where
            on : (k : ℕ) → suc k ≡ k + 1
            on k = omega arith

        under_taken : listed message_of is_under (slots_of row) ≡ net.under a b
        under_taken =
            ap (listed message_of is_under) row_taken
            ∙ stored.listed_last message_of is_under (take k slots ++ drop (k + 1) slots) Free refl
            ∙ sym (taken_under t (get_or slots k blank) (drop (k + 1) slots) (here blank) (take k slots))
            ∙ ap (listed message_of is_under) parts ∙ sym under_here

        arrived_taken : listed message_of is_arrived (slots_of row) ≡ without t (net.arrived a b)
        arrived_taken =
            ap (listed message_of is_arrived) row_taken
            ∙ stored.listed_last message_of is_arrived (take k slots ++ drop (k + 1) slots) Free refl
            ∙ sym (stored.without_tagged message_of is_arrived t (get_or slots k blank) (drop (k + 1) slots) (here blank) (take k slots) before)
            ∙ ap (without t) (ap (listed message_of is_arrived) parts ∙ sym arrived_here)

        pub matrix_taken : mailbox_network p d (put_mid start (end - start) ws row) ≡ with_lists net net.under (put net.arrived a b (without t (net.arrived a b)))
        matrix_taken = network_now row (put_mid start (end - start) ws row) (kept ∙ row_length start end hs he) (put_row row start end hs he) ∙ ap₂ (with_lists net) (ap (put net.under a b) under_taken ∙ put_same net.under a b) (ap (put net.arrived a b) arrived_taken)

        counted_taken : used ≡ waiting (mailbox_network p d (put_mid start (end - start) ws row)) + 1
        counted_taken = s.counted ∙ taken_waiting net a b t (message_of (get_or slots k blank)) pair tagged_oldest ∙ ap (λ m. waiting m + 1) (sym matrix_taken)

        pub matrix_taken_sound : (left : ℕ) → left ≡ used - 1 → SoundBox p d left (put_mid start (end - start) ws row)
        matrix_taken_sound left is =
            sound_now row (put_mid start (end - start) ws row) (kept ∙ row_length start end hs he) (put_row row start end hs he) left
            (subst Filed (sym row_taken) (taken_filed (take k slots) (get_or slots k blank) (drop (k + 1) slots) parted))
            (omega (arith, counted_taken, is))

-- where nothing waits in all, nothing waits between two ranks
pub idle : (m : Mailbox) → m.used ≡ 0 → (a b : ℕ) → ((mailbox_network m.ranks m.depth m.words.now).under a b ≡ []) × ((mailbox_network m.ranks m.depth m.words.now).arrived a b ≡ [])
idle m z = nothing_waits 2 (mailbox_network m.ranks m.depth m.words.now) (mailbox_shaped m.ranks m.depth m.used m.words.now m.sound) (sym m.sound.counted ∙ z)

pub usable_parts : (p d lent : ℕ) → usable p d lent ≡ true → (1 ≤ p) × (p ≤ most_ranks) × (d ≤ most_depth) × (4 * (p * p * d) ≤ lent)
usable_parts p d lent e =
    let h = and_parts (leb 1 p) _ e in
    let k = and_parts (leb p most_ranks) _ h.1 in
    let l = and_parts (leb 1 d) _ k.1 in
    let n = and_parts (leb d most_depth) (leb (4 * (p * p * d)) lent) l.1 in
    (leb-true 1 p h.0, leb-true p most_ranks k.0, leb-true d most_depth n.0, leb-true (4 * (p * p * d)) lent n.1)

-- a matrix without ranks
pub closed_is : (ws : List ℕ) → mailbox_network 0 0 ws ≡ nobody 2
closed_is ws = ap₂ (with_lists (nobody 2)) (none_of is_under) (none_of is_arrived)
  where
    none_of : (test : Slot → Bool) → filed_lists 0 0 ws test ≡ (λ _ _. [])
    none_of test = fun_ext (λ a. fun_ext (λ b. ap (λ t. cond t (listed message_of test (box 0 0 ws a b)) []) (no_pair_of_none a b)))

pub closed_sound : (ws : List ℕ) → SoundBox 0 0 0 ws
unfolding waiting
closed_sound ws = record {
  few = omega arith;
  shallow = omega arith;
  closed = λ _. refl;
  long = omega arith;
  filed = λ a b e. absurd (true≢false (sym e ∙ no_pair_of_none a b));
  counted = refl;
}

-- a matrix of free slots
free_filed : (ss : List Slot) → AllByRecursion (λ s. is_free s ≡ true) ss → Filed ss
free_filed [] h = tt
free_filed (s ∷ ss) h = (none s h.0, (λ _. h.1), (λ _. All-weaker (λ r. is_free r ≡ true) (λ r. is_arrived r ≡ false) free_arrived ss h.1), free_filed ss h.1)
  where
    none : (s : Slot) → is_free s ≡ true → count_of s ≤ 2
    none Free e = omega arith
    none (UnderWay l) e = absurd (true≢false (sym e))
    none (Arrived l) e = absurd (true≢false (sym e))

-- zeros stand for free slots
zeros_all : (n : ℕ) → AllByRecursion (λ w. ◌≡◌ {A = ℕ} w 0) (replicate n 0)
zeros_all zero = tt
zeros_all (suc n) = (refl, zeros_all n)

slots_free : (ws : List ℕ) → AllByRecursion (λ w. ◌≡◌ {A = ℕ} w 0) ws → AllByRecursion (λ s. is_free s ≡ true) (slots_of ws)
slots_free (m ∷ t ∷ x ∷ y ∷ ws) h = (rw h.0 refl, slots_free ws h.1.1.1.1)
slots_free (m ∷ t ∷ x ∷ []) h = tt
slots_free (m ∷ t ∷ []) h = tt
slots_free (m ∷ []) h = tt
slots_free [] h = tt

-- a matrix of zeros
module _ (p d : ℕ) where
  abbrev zeros : List ℕ
  zeros = replicate (4 * (p * p * d)) 0

  box_free : (a b : ℕ) → AllByRecursion (λ s. is_free s ≡ true) (box p d zeros a b)
  box_free a b =
      All-take (λ s. is_free s ≡ true) d (drop (base p d a b) (slots_of zeros))
      (All-drop (λ s. is_free s ≡ true) (base p d a b) (slots_of zeros) (slots_free zeros (zeros_all (4 * (p * p * d)))))

  empty : (test : Slot → Bool) → ((s : Slot) → is_free s ≡ true → test s ≡ false) → filed_lists p d zeros test ≡ (λ _ _. [])
  empty test no_test = fun_ext (λ a. fun_ext (λ b. by a b (pair_ok p a b)))
    where
      by : (a b : ℕ) (t : Bool) → cond t (listed message_of test (box p d zeros a b)) [] ≡ []
      by a b true = stored.listed_none message_of test (box p d zeros a b) (All-weaker (λ s. is_free s ≡ true) (λ s. test s ≡ false) no_test (box p d zeros a b) (box_free a b))
      by a b false = refl

  pub fresh_is : mailbox_network p d zeros ≡ quiet p d (p * p * d) 2
  fresh_is = ap₂ (with_lists (quiet p d (p * p * d) 2)) (empty is_under free_under) (empty is_arrived free_arrived)

  pub fresh_sound : 1 ≤ p → p ≤ most_ranks → d ≤ most_depth → SoundBox p d 0 zeros
  unfolding waiting
  fresh_sound some few shallow = record {
    few = few;
    shallow = shallow;
    closed = λ z. absurd (apart z);
    long = omega (arith, length-replicate {A = ℕ} (4 * (p * p * d)) 0);
    filed = λ a b e. free_filed (box p d zeros a b) (box_free a b);
    counted = sym (ap waiting fresh_is ∙ sum-nowhere (λ _ _. 0 + 0) p (λ _ _. refl));
  }
    where
      apart : p ≡ 0 → ⊥
      apart z = omega arith
