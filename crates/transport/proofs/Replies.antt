-- What each call answers and leaves, case by case.
use Rattle.std.proofs.Common.{◌≡◌, ℕ, ◌<◌, ◌≤◌, Bool, true, false, cond, eqb, List, [], ◌∷◌, ◌++◌, length, Some, None, refl, ap, ◌∙◌, arith}
use Rattle.std.proofs.lemmas.Bool.{lt-ltb, le-ltb, le-leb, lt-leb}
use Rattle.ranks.specs.Ranks.{pair_ok}
use Rattle.transport.proofs.Tables.{put_same}
use Rattle.transport.specs.Network.{Network, Message, refused, done, none, value, between, waiting, put, between_reply, send_reply, sent, after_send, carry_reply, after_carry, take_reply, after_take, taken_words, oldest, without, word_count, written, with_lists}

module _ (n : Network) (a b : ℕ) where
  pub send_bad : (ws : List ℕ) → pair_ok n.ranks a b ≡ false → send_reply n a b ws ≡ refused 10
  unfolding send_reply
  send_bad ws e = rw e

  pub send_long : (ws : List ℕ) → pair_ok n.ranks a b ≡ true → n.limit < length ws → send_reply n a b ws ≡ refused 11
  unfolding send_reply
  send_long ws e h = rw (e, lt-ltb n.limit (length ws) h)

  pub send_full : (ws : List ℕ) → pair_ok n.ranks a b ≡ true → length ws ≤ n.limit → n.depth ≤ between n a b → send_reply n a b ws ≡ refused 12
  unfolding send_reply
  send_full ws e h k = rw (e, le-ltb n.limit (length ws) h, le-leb n.depth (between n a b) k)

  pub send_crowded : (ws : List ℕ) → pair_ok n.ranks a b ≡ true → length ws ≤ n.limit → between n a b < n.depth → n.room ≤ waiting n → send_reply n a b ws ≡ refused 13
  unfolding send_reply
  send_crowded ws e h k l = rw (e, le-ltb n.limit (length ws) h, lt-leb n.depth (between n a b) k, le-leb n.room (waiting n) l)

  pub send_done : (ws : List ℕ) → pair_ok n.ranks a b ≡ true → length ws ≤ n.limit → between n a b < n.depth → waiting n < n.room → send_reply n a b ws ≡ done
  unfolding send_reply
  send_done ws e h k l = rw (e, le-ltb n.limit (length ws) h, lt-leb n.depth (between n a b) k, lt-leb n.room (waiting n) l)

  pub after_refused : (m : Message) (f : ℕ) → send_reply n a b m.words ≡ refused f → after_send n a b m ≡ n
  unfolding after_send
  after_refused m f e = rw e

  pub after_done : (m : Message) → send_reply n a b m.words ≡ done → after_send n a b m ≡ sent n a b m
  unfolding after_send
  after_done m e = rw e

-- without a message of that tag nothing is taken out
pub without_absent : (t : ℕ) (ms : List Message) → oldest t ms ≡ None → without t ms ≡ ms
without_absent t [] e = refl
without_absent t (m ∷ ms) e = by (eqb m.tag t) (without_absent t ms) e
  where
    by : (u : Bool) → (oldest t ms ≡ None → without t ms ≡ ms) → cond u (Some m) (oldest t ms) ≡ None → cond u ms (m ∷ without t ms) ≡ m ∷ ms
    by true rest k = let z : ◌≡◌ {A = ℕ} 0 1 = cc in absurd (omega arith)
    by false rest k = ap (λ l. m ∷ l) (rest k)

module _ (n : Network) (a b : ℕ) where
  pub between_bad : pair_ok n.ranks a b ≡ false → between_reply n a b ≡ refused 10
  unfolding between_reply
  between_bad e = rw e

  pub between_good : pair_ok n.ranks a b ≡ true → between_reply n a b ≡ value (between n a b)
  unfolding between_reply
  between_good e = rw e

  pub carry_bad : pair_ok n.ranks a b ≡ false → carry_reply n a b ≡ refused 10
  unfolding carry_reply
  carry_bad e = rw e

  pub after_carry_bad : pair_ok n.ranks a b ≡ false → after_carry n a b ≡ n
  unfolding after_carry
  after_carry_bad e = rw e

  pub carry_none : pair_ok n.ranks a b ≡ true → n.under a b ≡ [] → carry_reply n a b ≡ value 0
  unfolding carry_reply
  carry_none e u = rw (e, u)

  pub after_carry_none : pair_ok n.ranks a b ≡ true → n.under a b ≡ [] → after_carry n a b ≡ n
  unfolding after_carry
  after_carry_none e u = rw (e, u)

  pub carry_some : (m : Message) (ms : List Message) → pair_ok n.ranks a b ≡ true → n.under a b ≡ m ∷ ms → carry_reply n a b ≡ value 1
  unfolding carry_reply
  carry_some m ms e u = rw (e, u)

  pub after_carry_some : (m : Message) (ms : List Message) → pair_ok n.ranks a b ≡ true → n.under a b ≡ m ∷ ms → after_carry n a b ≡ with_lists n (put n.under a b ms) (put n.arrived a b (n.arrived a b ++ (m ∷ [])))
  unfolding after_carry
  after_carry_some m ms e u = rw (e, u)

  module _ (t : ℕ) (buffer : List ℕ) where
    pub take_bad : pair_ok n.ranks a b ≡ false → take_reply n a b t (length buffer) ≡ refused 10
    unfolding take_reply
    take_bad e = rw e

    pub after_take_bad : pair_ok n.ranks a b ≡ false → after_take n a b t (length buffer) ≡ n
    unfolding after_take
    after_take_bad e = rw e

    pub taken_bad : pair_ok n.ranks a b ≡ false → taken_words n a b t buffer ≡ buffer
    unfolding taken_words
    taken_bad e = rw e

    pub take_short : pair_ok n.ranks a b ≡ true → length buffer < n.limit → take_reply n a b t (length buffer) ≡ refused 14
    unfolding take_reply
    take_short e h = rw (e, lt-ltb (length buffer) n.limit h)

    pub after_take_short : pair_ok n.ranks a b ≡ true → length buffer < n.limit → after_take n a b t (length buffer) ≡ n
    unfolding after_take
    after_take_short e h = rw (e, lt-leb n.limit (length buffer) h)

    pub taken_short : pair_ok n.ranks a b ≡ true → length buffer < n.limit → taken_words n a b t buffer ≡ buffer
    unfolding taken_words
    taken_short e h = rw (e, lt-leb n.limit (length buffer) h)

    module _ (e : pair_ok n.ranks a b ≡ true) (h : n.limit ≤ length buffer) where
      pub take_found : take_reply n a b t (length buffer) ≡ word_count (oldest t (n.arrived a b))
      unfolding take_reply
      take_found = rw (e, le-ltb (length buffer) n.limit h)

      pub after_take_found : after_take n a b t (length buffer) ≡ with_lists n n.under (put n.arrived a b (without t (n.arrived a b)))
      unfolding after_take
      after_take_found = rw (e, le-leb n.limit (length buffer) h)

      pub taken_found : taken_words n a b t buffer ≡ written (oldest t (n.arrived a b)) buffer
      unfolding taken_words
      taken_found = rw (e, le-leb n.limit (length buffer) h)

      pub take_none : oldest t (n.arrived a b) ≡ None → take_reply n a b t (length buffer) ≡ none
      take_none o = take_found ∙ ap word_count o

      pub after_take_none : oldest t (n.arrived a b) ≡ None → after_take n a b t (length buffer) ≡ n
      after_take_none o =
          after_take_found
          ∙ ap (with_lists n n.under) (ap (put n.arrived a b) (without_absent t (n.arrived a b) o) ∙ put_same n.arrived a b)

      pub taken_none : oldest t (n.arrived a b) ≡ None → taken_words n a b t buffer ≡ buffer
      taken_none o = taken_found ∙ ap (λ m. written m buffer) o
