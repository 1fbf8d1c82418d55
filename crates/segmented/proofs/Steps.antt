-- One segment after the other.
use Rattle.std.proofs.Common.{◌≡◌, ℕ, ◌+◌, ◌-◌, ◌*◌, ◌<◌, ◌≤◌, min, true, List, [], ◌∷◌, ◌++◌, length, take, drop, refl, sym, ap, ap₂, ◌∙◌, add-mul, one-mul, arith}
use Rattle.ranks.specs.Ranks.{pair_ok}
use Rattle.transport.specs.Network.{Network, Message, message, refused, done, value, between, waiting, send_reply, after_send, some_moved, put, with_lists}
use Rattle.transport.specs.Many.{sent_all, carried_all}
use Rattle.transport.proofs.Replies.{send_done, after_done}
use Rattle.transport.proofs.Many.{sent_one, sent_between, sent_waiting}
use Rattle.std.proofs.lemmas.List.{length-drop, drop-drop, take_all, drop_all}
use Rattle.segmented.specs.Segments.{pieces, cut}
use Rattle.segmented.proofs.Arith.{count_more, count_all, front_is}
use Rattle.segmented.proofs.Coding.{cut_more, length_cut}

pub refused_done : {A : Type 0} (f : ℕ) → refused f ≡ done → A
refused_done f e = let z : ◌≡◌ {A = ℕ} 0 1 = cc in absurd (omega arith)

pub refused_value : {A : Type 0} (f k : ℕ) → refused f ≡ value k → A
refused_value f k e = let z : ◌≡◌ {A = ℕ} 0 1 = cc in absurd (omega arith)

pub refused_moved : {A : Type 0} (f : ℕ) (ms : List Message) → refused f ≡ some_moved ms → A
refused_moved f [] e = refused_value f 0 e
refused_moved f (m ∷ ms) e = refused_value f 1 e

-- a carry that moved nothing found nothing
pub moved_none : (ms : List Message) → value 0 ≡ some_moved ms → ms ≡ []
moved_none [] e = refl
moved_none (m ∷ ms) e = let z : ◌≡◌ {A = ℕ} 0 1 = cc in absurd (omega arith)

-- where k carries leave nothing under way, more of them change nothing
module _ (n : Network) (a b k : ℕ) (none : drop k (n.under a b) ≡ []) (more : ℕ) (further : k < more) where
  few : length (n.under a b) ≤ k
  few = omega (arith, length-drop k (n.under a b), ap length none)

  pub carried_out : carried_all n a b (k + 1) ≡ carried_all n a b more
  carried_out =
      let one : length (n.under a b) ≤ k + 1 = omega (arith, few) in
      let all : length (n.under a b) ≤ more = omega (arith, few) in
      ap₂ (with_lists n)
      (ap (put n.under a b) (drop_all (k + 1) (n.under a b) one ∙ sym (drop_all more (n.under a b) all)))
      (ap (λ l. put n.arrived a b (n.arrived a b ++ l)) (take_all (k + 1) (n.under a b) one ∙ sym (take_all more (n.under a b) all)))

  pub none_moved : value 0 ≡ some_moved (drop (more - 1) (n.under a b))
  none_moved = ap some_moved (sym (drop_all (more - 1) (n.under a b) (omega (arith, few))))

-- what the loop over the segments of a block keeps: the first k are sent, and the rest of the block is left to cut
abbrev pub Sends : (n : Network) (a b lim t : ℕ) (ws : List ℕ) → ℕ → Network → List ℕ → ℕ → Type 0
Sends n a b lim t ws k now rest size =
    (now ≡ sent_all n a b (cut k lim t ws)) × (rest ≡ drop (k * lim) ws) × (size ≡ lim) × (k * lim < 8 + lim)

module _ (n : Network) (a b lim t : ℕ) (ws : List ℕ) (pair : pair_ok n.ranks a b ≡ true) (limited : n.limit ≡ lim) (some : 0 < lim) (full : length ws ≡ 8)
    (depth : between n a b + pieces lim ≤ n.depth) (room : waiting n + pieces lim ≤ n.room)
    (k : ℕ) (now : Network) (rest : List ℕ) (size : ℕ) (keeps : Sends n a b lim t ws k now rest size)
  where
    left : length rest ≡ 8 - k * lim
    left = ap length keeps.1 ∙ length-drop (k * lim) ws ∙ ap (λ l. l - k * lim) full

    module _ (piece more : List ℕ) (is : rest ≡ piece ++ more) (long : length piece ≡ min size (length rest)) (any : 0 < length rest) where
      front : (piece ≡ take lim rest) × (more ≡ drop lim rest)
      front = front_is lim rest piece more is (long ∙ ap (λ l. min l (length rest)) keeps.2)

      here : piece ≡ take lim (drop (k * lim) ws)
      here = front.0 ∙ ap (take lim) keeps.1

      ready : send_reply (sent_all n a b (cut k lim t ws)) a b piece ≡ done
      ready =
          let less = count_more lim k some (omega (arith, left)) in
          let short : length piece ≤ lim = omega (arith, long, keeps.2) in
          send_done (sent_all n a b (cut k lim t ws)) a b piece pair (omega arith)
          (omega (arith, sent_between n a b (cut k lim t ws), length_cut lim t k ws))
          (omega (arith, sent_waiting n a b (cut k lim t ws) pair, length_cut lim t k ws))

      pub sends_ready : send_reply now a b piece ≡ done
      sends_ready = ap (λ m. send_reply m a b piece) keeps.0 ∙ ready

      pub sends_more : (after : Network) (size' : ℕ) → after ≡ after_send now a b (message t piece) → size' ≡ size → Sends n a b lim t ws (k + 1) after more size'
      sends_more after size' e same = (
        e
            ∙ ap (λ m. after_send m a b (message t piece)) keeps.0
            ∙ after_done (sent_all n a b (cut k lim t ws)) a b (message t piece) ready
            ∙ sent_one n a b (cut k lim t ws) (message t piece)
            ∙ ap (sent_all n a b) (ap (λ p. cut k lim t ws ++ (message t p ∷ [])) here ∙ sym (cut_more lim t k ws)),
        front.1 ∙ ap (drop lim) keeps.1 ∙ drop-drop lim (k * lim) ws ∙ ap (λ j. drop j ws) (turn (add-mul k 1 lim) (one-mul lim)),
        same ∙ keeps.2,
        omega (arith, left, add-mul k 1 lim, one-mul lim),
      )
        where
          turn : (k + 1) * lim ≡ k * lim + 1 * lim → 1 * lim ≡ lim → k * lim + lim ≡ (k + 1) * lim
          turn e f = omega arith

    pub sends_all : length rest ≡ 0 → now ≡ sent_all n a b (cut (pieces lim) lim t ws)
    sends_all none = keeps.0 ∙ ap (λ j. sent_all n a b (cut j lim t ws)) (count_all lim k some (omega (arith, left)) keeps.3)
