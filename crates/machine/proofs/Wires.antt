-- What the transport's functions answer and leave, in the machine's words.
use Rattle.std.proofs.Common.{◌≡◌, ℕ, ◌<◌, ◌≤◌, Bool, true, false, cond, ◌&&◌, eqb, leb, List, [], ◌∷◌, ◌++◌, length, drop, Some, None, Option as Found, sym, refl, ap, ◌∙◌, ap₂, inl, inr, arith, length-append}
use mathlib.Core.Path.{fun_ext}
use mathlib.Core.Option.{none, some}
use Rattle.std.proofs.lemmas.Bool.{le-ltb, lt-leb, le-leb, and_from, cases_Bool}
use Rattle.transport.specs.Network as transport
use Rattle.transport.specs.Network.{Reply, refused, done, value, Shaped, between, send_reply, after_send, carry_reply, after_carry, take_reply, after_take, taken_words}
use Rattle.machine.specs.Network.{Message, Network, put, with_lists, apart, waiting_in_all, with_sent, with_carried, with_taken, some_carried, oldest, without, WellMade}
use Rattle.machine.specs.Plain.{Plain}
use Rattle.machine.proofs.Crowd.{Sendable}
use Rattle.machine.proofs.Between.{put_at, carried_is}

-- a sound transport is well made
pub well_made : (most : ℕ) (net : Network) → Shaped most net → WellMade net
well_made most net h = record {
  few_ranks = h.few;
  within = λ a b e. ap₂ ◌++◌ (h.no_arrived a b e) (h.no_under a b e);
}

module _ {E : Type 0} (s : Plain E) (from to : ℕ) (msg : Message) (h : Sendable s from to msg) where
  pub send_answers : send_reply s.now from to msg.words ≡ done
  unfolding send_reply
  send_answers =
      let few : between s.now from to < s.now.depth = omega (arith, h.shallow, length-append (s.now.arrived from to) (s.now.under from to)) in
      rw (h.ranks_apart, le-ltb s.now.limit (length msg.words) h.short, lt-leb s.now.depth (between s.now from to) few, lt-leb s.now.room (waiting_in_all s.now) h.roomy)

  pub send_leaves : after_send s.now from to msg ≡ with_sent from to msg s.now
  unfolding after_send transport.sent
  send_leaves = rw send_answers

module _ (net : Network) (from to : ℕ) where
  pub carry_answers : apart net.ranks from to ≡ true → carry_reply net from to ≡ value (some_carried (net.under from to))
  unfolding carry_reply
  carry_answers e = rw e (go (net.under from to))
    where
      go : (l : List Message) → transport.some_moved l ≡ value (some_carried l)
      go [] = refl
      go (x ∷ l) = refl

  pub carry_leaves : apart net.ranks from to ≡ true → after_carry net from to ≡ with_carried from to net
  unfolding after_carry
  carry_leaves e = rw e (sym (carried_is from to net))

  pub carry_refuses : apart net.ranks from to ≡ false → (carry_reply net from to ≡ refused 10) × (after_carry net from to ≡ net)
  unfolding carry_reply after_carry
  carry_refuses e = (rw e, rw e)

  module _ (tag : ℕ) (buffer : List ℕ) (pair : apart net.ranks from to ≡ true) (long : net.limit ≤ length buffer) where
    may : transport.may_take net from to (length buffer) ≡ true
    may = and_from (apart net.ranks from to) (leb net.limit (length buffer)) pair (le-leb net.limit (length buffer) long)

    pub take_leaves : after_take net from to tag (length buffer) ≡ with_taken from to tag net
    unfolding after_take
    take_leaves = rw may

    pub take_finds : (words : List ℕ) → oldest tag (net.arrived from to) ≡ some words
        → (take_reply net from to tag (length buffer) ≡ value (length words)) × (taken_words net from to tag buffer ≡ words ++ drop (length words) buffer)
    unfolding take_reply taken_words
    take_finds words e = go (transport.oldest tag (net.arrived from to)) refl e
      where
        go : (o : Found Message) → transport.oldest tag (net.arrived from to) ≡ o → Rattle.machine.specs.Network.words_of o ≡ some words
            → (take_reply net from to tag (length buffer) ≡ value (length words)) × (taken_words net from to tag buffer ≡ words ++ drop (length words) buffer)
        go None f g = let z : ◌≡◌ {A = ℕ} 0 1 = cc in absurd (omega arith)
        go (Some x) f g =
            let same : x.words ≡ words = cc in
            (rw (pair, le-ltb (length buffer) net.limit long, f) (ap (λ l. value (length l)) same), rw (may, f) (ap (λ l. l ++ drop (length l) buffer) same))

    pub take_misses : oldest tag (net.arrived from to) ≡ none → (take_reply net from to tag (length buffer) ≡ Reply.none) × (taken_words net from to tag buffer ≡ buffer)
    unfolding take_reply taken_words
    take_misses e = go (transport.oldest tag (net.arrived from to)) refl e
      where
        go : (o : Found Message) → transport.oldest tag (net.arrived from to) ≡ o → Rattle.machine.specs.Network.words_of o ≡ none
            → (take_reply net from to tag (length buffer) ≡ Reply.none) × (taken_words net from to tag buffer ≡ buffer)
        go None f g = (rw (pair, le-ltb (length buffer) net.limit long, f), rw (may, f))
        go (Some x) f g = let z : ◌≡◌ {A = ℕ} 0 1 = cc in absurd (omega arith)

  without_none : (tag : ℕ) (l : List Message) → oldest tag l ≡ none → without tag l ≡ l
  without_none tag [] e = refl
  without_none tag (x ∷ l) e =
      elim (cases_Bool (eqb x.tag tag)) [
        | inl f ↦
            let g : some x.words ≡ none = rw f at e in
            let z : ◌≡◌ {A = ℕ} 0 1 = cc in
            absurd (omega arith)
        | inr f ↦ rw f (ap (λ r. x ∷ r) (without_none tag l (rw f at e)))
      ]

  -- a take that finds nothing alters nothing
  pub taken_nothing : (tag : ℕ) → oldest tag (net.arrived from to) ≡ none → with_taken from to tag net ≡ net
  taken_nothing tag e = λ i. with_lists net net.under (same i)
    where
      both : (t : Bool) (l : List Message) → cond t l l ≡ l
      both true l = refl
      both false l = refl

      same : put net.arrived from to (without tag (net.arrived from to)) ≡ net.arrived
      same =
          ap (put net.arrived from to) (without_none tag (net.arrived from to) e)
          ∙ fun_ext λ a. fun_ext λ b. put_at from to (λ l. l) net.arrived a b ∙ both (eqb a from && eqb b to) (net.arrived a b)
