-- What the group answers, and what it stands for after each call, by what the transport below answered to the ranks there.
use Rattle.std.proofs.Common.{◌≡◌, ℕ, ◌<◌, true, false, List, length, get_or, Err, Result, sym, refl, ap, ◌∙◌, subst, ap₂}
use Rattle.transport.specs.declared.Fault.{Fault}
use Rattle.transport.specs.declared.Fault.TheVariants.{BadPair}
use Rattle.transport.specs.Network.{Network, Message, refused, between_reply, send_reply, after_send, carry_reply, after_carry, take_reply, after_take, taken_words, Shaped}
use Rattle.ranks.specs.Ranks.{pair_ok}
use Rattle.transport.proofs.Replies.{between_bad, send_bad, after_refused, carry_bad, after_carry_bad, take_bad, taken_bad, after_take_bad}
use Rattle.transport.proofs.Pairs.{pair_positive}
use Rattle.transport.proofs.Shapes.{layer_pair}
use Rattle.group.specs.Members.{open_group, grouped, Grouping}
use Rattle.group.proofs.Layer.{open_is, between_reply_same, send_same, after_send_group, after_send_grouping, carry_same, after_carry_group, after_carry_grouping, take_same, taken_same, after_take_group, after_take_grouping}

-- the fault that a refused pair has
pub bad_pair : {A : Type 0} (r : Result A Fault) (f g : Fault) → r ≡ Err f → f ≡ g → g ≡ BadPair → r ≡ Err BadPair
bad_pair r f g e h k = e ∙ ap Err (h ∙ k)

-- the network of a group
module _ (lim c : ℕ) (list : List ℕ) (n : Network) where
  abbrev net : Network
  net = grouped lim c list n

  -- two ranks that are no pair of the group
  module _ (a b : ℕ) (pair : pair_ok c a b ≡ false) where
    no_pair : pair_ok net.ranks a b ≡ false
    no_pair = layer_pair lim c (open_group c list n) refl a b false pair

    pub refused_between : refused 10 ≡ between_reply net a b
    refused_between = sym (between_bad net a b no_pair)

    pub refused_send : (ws : List ℕ) → refused 10 ≡ send_reply net a b ws
    refused_send ws = sym (send_bad net a b ws no_pair)

    pub unsent : (m : Message) → net ≡ after_send net a b m
    unsent m = sym (after_refused net a b m 10 (send_bad net a b m.words no_pair))

    pub refused_carry : refused 10 ≡ carry_reply net a b
    refused_carry = sym (carry_bad net a b no_pair)

    pub uncarried : net ≡ after_carry net a b
    uncarried = sym (after_carry_bad net a b no_pair)

    module _ (t : ℕ) (buffer : List ℕ) where
      pub refused_take : refused 10 ≡ take_reply net a b t (length buffer)
      refused_take = sym (take_bad net a b t buffer no_pair)

      pub unwritten : buffer ≡ taken_words net a b t buffer
      unwritten = sym (taken_bad net a b t buffer no_pair)

      pub untaken : net ≡ after_take net a b t (length buffer)
      untaken = sym (after_take_bad net a b t buffer no_pair)

  -- a pair of the group, which is x and y below
  module _ (shape : Shaped lim n) (s : Grouping c list n) (a b : ℕ) (pair : pair_ok c a b ≡ true) (x y : ℕ) (there : (x ≡ get_or list a 0) × (y ≡ get_or list b 0)) where
    h : 0 < c
    h = pair_positive c a b pair

    opened : open_group c list n ≡ net
    opened = sym (open_is lim c list n h)

    -- what is so at the ranks below is so at x and y
    at : {A : Type 0} (f : ℕ → ℕ → A) → f x y ≡ f (get_or list a 0) (get_or list b 0)
    at f = ap₂ f there.0 there.1

    pub found_between : between_reply n x y ≡ between_reply net a b
    found_between = at (between_reply n) ∙ between_reply_same lim c list n shape s h a b pair ∙ ap (λ m. between_reply m a b) opened

    pub found_send : (ws : List ℕ) → send_reply n x y ws ≡ send_reply net a b ws
    found_send ws = at (λ x y. send_reply n x y ws) ∙ send_same lim c list n shape s h a b pair ws ∙ ap (λ m. send_reply m a b ws) opened

    pub found_carry : carry_reply n x y ≡ carry_reply net a b
    found_carry = at (carry_reply n) ∙ carry_same lim c list n shape s h a b pair ∙ ap (λ m. carry_reply m a b) opened

    pub found_take : (t size : ℕ) → take_reply n x y t size ≡ take_reply net a b t size
    found_take t size = at (λ x y. take_reply n x y t size) ∙ take_same lim c list n shape s h a b pair t size ∙ ap (λ m. take_reply m a b t size) opened

    pub found_words : (t : ℕ) (buffer : List ℕ) → taken_words n x y t buffer ≡ taken_words net a b t buffer
    found_words t buffer = at (λ x y. taken_words n x y t buffer) ∙ taken_same lim c list n shape s h a b pair t buffer ∙ ap (λ m. taken_words m a b t buffer) opened

    -- what is left below is a group, and stands for what is left of it
    abbrev pub Left : Network → Network → Type 0
    Left after above = (grouped lim c list after ≡ above) × Grouping c list after

    left : (after below above : Network) → after ≡ below → open_group c list below ≡ above → Grouping c list below → Left after above
    left after below above e q k = (ap (grouped lim c list) e ∙ open_is lim c list below h ∙ q, subst (Grouping c list) (sym e) k)

    pub left_send : (m : Message) (after : Network) → after ≡ after_send n x y m → Left after (after_send net a b m)
    left_send m after e =
        left after (after_send n (get_or list a 0) (get_or list b 0) m) (after_send net a b m) (e ∙ at (λ x y. after_send n x y m))
        (after_send_group lim c list n shape s h a b pair m ∙ ap (λ k. after_send k a b m) opened)
        (after_send_grouping lim c list n shape s h a b pair m)

    pub left_carry : (after : Network) → after ≡ after_carry n x y → Left after (after_carry net a b)
    left_carry after e =
        left after (after_carry n (get_or list a 0) (get_or list b 0)) (after_carry net a b) (e ∙ at (after_carry n))
        (after_carry_group lim c list n shape s h a b pair ∙ ap (λ k. after_carry k a b) opened)
        (after_carry_grouping lim c list n shape s h a b pair)

    pub left_take : (t size : ℕ) (after : Network) → after ≡ after_take n x y t size → Left after (after_take net a b t size)
    left_take t size after e =
        left after (after_take n (get_or list a 0) (get_or list b 0) t size) (after_take net a b t size) (e ∙ at (λ x y. after_take n x y t size))
        (after_take_group lim c list n shape s h a b pair t size ∙ ap (λ k. after_take k a b t size) opened)
        (after_take_grouping lim c list n shape s h a b pair t size)
