-- A message that is sent, carried and taken where nothing else waits.
use Rattle.std.proofs.Common.{◌≡◌, ℕ, ◌≤◌, true, false, ◌⊎◌, List, [], ◌∷◌, ◌++◌, length, drop, Some, sym, refl, ap, ◌∙◌, ap₂, inl, inr, arith}
use Rattle.std.proofs.lemmas.Bool.{cases_Bool, eq-eqb}
use Rattle.ranks.specs.Ranks.{pair_ok}
use Rattle.transport.specs.Network.{Network, Message, message, Shaped, waiting, put, with_lists, sent, send_reply, after_send, after_carry, take_reply, after_take, taken_words, word_count, written, oldest, without, refused, done, value}
use Rattle.transport.proofs.Tables.{put_here, put_put, put_same}
use Rattle.transport.proofs.Replies.{send_bad, after_done, after_carry_some, take_found, after_take_found, taken_found}
use Rattle.transport.proofs.Many.{nothing_waits}

refused_not_done : {A : Type 0} (f : ℕ) → refused f ≡ done → A
refused_not_done f e = let z : ◌≡◌ {A = ℕ} 0 1 = cc in absurd (omega arith)

module _ (most : ℕ) (n : Network) (shape : Shaped most n) (a b t : ℕ) (ws buffer : List ℕ) (idle : waiting n ≡ 0) (ok : send_reply n a b ws ≡ done) (wide : most ≤ length buffer) where
  abbrev m : Message
  m = message t ws

  pair : pair_ok n.ranks a b ≡ true
  pair = by (cases_Bool (pair_ok n.ranks a b))
    where
      by : (pair_ok n.ranks a b ≡ true) ⊎ (pair_ok n.ranks a b ≡ false) → pair_ok n.ranks a b ≡ true
      by (inl e) = e
      by (inr e) = refused_not_done 10 (sym (send_bad n a b ws e) ∙ ok)

  no_under : n.under a b ≡ []
  no_under = (nothing_waits most n shape idle a b).0

  no_arrived : n.arrived a b ≡ []
  no_arrived = (nothing_waits most n shape idle a b).1

  abbrev gone : Network
  gone = with_lists n (put n.under a b (m ∷ [])) n.arrived

  abbrev there : Network
  there = with_lists n n.under (put n.arrived a b (m ∷ []))

  sent_is : after_send n a b m ≡ gone
  unfolding sent
  sent_is = after_done n a b m ok ∙ ap (λ l. with_lists n (put n.under a b (l ++ (m ∷ []))) n.arrived) no_under

  carried_is : after_carry gone a b ≡ there
  carried_is =
      after_carry_some gone a b m [] pair (put_here n.under a b (m ∷ []))
      ∙ ap₂ (with_lists n)
      (put_put n.under a b (m ∷ []) [] ∙ ap (put n.under a b) (sym no_under) ∙ put_same n.under a b)
      (ap (λ l. put n.arrived a b (l ++ (m ∷ []))) no_arrived)

  arrives : after_carry (after_send n a b m) a b ≡ there
  arrives = ap (λ x. after_carry x a b) sent_is ∙ carried_is

  found : oldest t (there.arrived a b) ≡ Some m
  found = ap (oldest t) (put_here n.arrived a b (m ∷ [])) ∙ rw (eq-eqb t t refl)

  left : without t (there.arrived a b) ≡ n.arrived a b
  left = ap (without t) (put_here n.arrived a b (m ∷ [])) ∙ rw (eq-eqb t t refl) (sym no_arrived)

  fits : n.limit ≤ length buffer
  fits = omega (arith, shape.limited)

  pub back_answer : take_reply (after_carry (after_send n a b m) a b) a b t (length buffer) ≡ value (length ws)
  back_answer = ap (λ x. take_reply x a b t (length buffer)) arrives ∙ take_found there a b t buffer pair fits ∙ ap word_count found

  pub back_words : taken_words (after_carry (after_send n a b m) a b) a b t buffer ≡ ws ++ drop (length ws) buffer
  back_words = ap (λ x. taken_words x a b t buffer) arrives ∙ taken_found there a b t buffer pair fits ∙ ap (λ o. written o buffer) found

  pub back_after : after_take (after_carry (after_send n a b m) a b) a b t (length buffer) ≡ n
  back_after =
      ap (λ x. after_take x a b t (length buffer)) arrives
      ∙ after_take_found there a b t buffer pair fits
      ∙ ap (with_lists n n.under) (ap (put (put n.arrived a b (m ∷ [])) a b) left ∙ put_put n.arrived a b (m ∷ []) (n.arrived a b) ∙ put_same n.arrived a b)
