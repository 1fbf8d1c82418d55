-- What a take tells of the oldest message.
use Rattle.std.proofs.Common.{◌≡◌, ℕ, ◌+◌, ◌-◌, ◌≤◌, Bool, true, false, cond, eqb, List, [], ◌∷◌, ◌++◌, length, get_or, take, drop, is_some, Some, None, Ok, Err, Option, Result, sym, refl, ap, ◌∙◌, ap₂, arith, take_all}
use Rattle.std.specs.List.{AllByRecursion}
use lib.Seq.{take-append-le}
use Rattle.operation.specs.Meaning.{Meaning, Packing}
use Rattle.std.specs.Result.{IsOk}
use Rattle.transport.specs.declared.Fault.{Fault}
use Rattle.transport.specs.Network.{Network, Message, value, none, refused, fault_number, taking, word_count, oldest, take_reply, taken_words, written, Shaped}
use Rattle.ranks.specs.Ranks.{pair_ok}
use Rattle.transport.proofs.Replies.{take_found, taken_found}
use Rattle.engine_parts.specs.Mail.{Sent, Legible, stamped, read_words}
use Rattle.engine_parts.proofs.Packed.{length-block}

-- a message's words at the front of a buffer
pub front_written : (ws buffer : List ℕ) → take (length ws) (ws ++ drop (length ws) buffer) ≡ ws
front_written ws buffer = take-append-le (length ws) ws _ (omega arith) ∙ take_all (length ws) ws (omega arith)

-- the message that a take has found
pub record Found {E : Type 0} (m : Meaning E) (o : Option Message) (size : ℕ) (buffer : List ℕ) : Type 0 where
  pub at : Message
  pub is : o ≡ Some at
  pub sent : Sent m at.words
  pub count : size ≡ length at.words
  pub read : take size buffer ≡ at.words

pub counted_refuses_not : (f : ℕ) (o : Option Message) → refused f ≡ word_count o → ⊥
counted_refuses_not f None k = let z : ◌≡◌ {A = ℕ} 0 1 = cc in omega arith
counted_refuses_not f (Some x) k = let z : ◌≡◌ {A = ℕ} 0 1 = cc in omega arith

-- a take that the meaning does not refuse is not refused
pub take_goes : (r : Result (Option ℕ) Fault) (o : Option Message) → taking r ≡ word_count o → IsOk r
take_goes (Ok taken) o e = refl
take_goes (Err f) o e = absurd (counted_refuses_not (fault_number f) o e)

pub counted_some : (r : Option ℕ) (o : Option Message) → taking (Ok r) ≡ word_count o → is_some r ≡ is_some o
counted_some None None k = refl
counted_some None (Some x) k = let z : ◌≡◌ {A = ℕ} 0 1 = cc in absurd (omega arith)
counted_some (Some i) None k = let z : ◌≡◌ {A = ℕ} 0 1 = cc in absurd (omega arith)
counted_some (Some i) (Some x) k = refl

module _ {E : Type 0} (m : Meaning E) (n : Network) (a b t : ℕ) (buffer : List ℕ) (pair : pair_ok n.ranks a b ≡ true) (enough : n.limit ≤ length buffer) where
  pub take_finds_none : none ≡ take_reply n a b t (length buffer) → oldest t (n.arrived a b) ≡ None
  take_finds_none e = by (oldest t (n.arrived a b)) (e ∙ take_found n a b t buffer pair enough)
    where
      by : (o : Option Message) → none ≡ word_count o → o ≡ None
      by None k = refl
      by (Some x) k = let z : ◌≡◌ {A = ℕ} 0 1 = cc in absurd (omega arith)

  pub take_finds : (size : ℕ) (out : List ℕ) → Legible m (oldest t (n.arrived a b)) → value size ≡ take_reply n a b t (length buffer)
      → out ≡ taken_words n a b t buffer → Found m (oldest t (n.arrived a b)) size out
  take_finds size out legible e w =
      by (oldest t (n.arrived a b)) legible (e ∙ take_found n a b t buffer pair enough) (w ∙ taken_found n a b t buffer pair enough)
    where
      by : (o : Option Message) → Legible m o → value size ≡ word_count o → out ≡ written o buffer → Found m o size out
      by None l k f = let z : ◌≡◌ {A = ℕ} 0 1 = cc in absurd (omega arith)
      by (Some x) l k f =
          let same : size ≡ length x.words = cc in
          record { at = x; is = refl; sent = l; count = same; read = ap (λ i. take i out) same ∙ ap (take (length x.words)) f ∙ front_written x.words buffer }

pub length-sent : {E : Type 0} (m : Meaning E) → Packing m → (ws : List ℕ) → Sent m ws → length ws ≡ 1 + m.width
length-sent m packing ws s =
    let l = length-block m packing s.mail.value s.proper in
    ap length s.words ∙ omega arith

-- a block of six words or fewer and a stamp are seven words or fewer
pub short_found : {E : Type 0} (m : Meaning E) → Packing m → m.width ≤ 6 → (o : Option Message) (size : ℕ) (out : List ℕ) → Found m o size out → size ≤ 7
short_found m packing narrow o size out f = omega (arith, narrow, f.count, length-sent m packing f.at.words f.sent)

-- what a sent message says
module _ {E : Type 0} (m : Meaning E) (packing : Packing m) (ws : List ℕ) (s : Sent m ws) where
  pub unpack_sent : m.unpack (take (length ws - 1) (drop 1 ws)) ≡ Ok s.mail.value
  unpack_sent =
      ap m.unpack
      (ap (λ l. take (length l - 1) (drop 1 l)) s.words ∙ take_all _ (m.pack s.mail.value) (omega arith))
      ∙ packing.unpack_pack s.mail.value s.proper

  pub read_sent : (stamp : ℕ) (v : E) → stamp ≡ get_or ws 0 0 → Ok v ≡ m.unpack (take (length ws - 1) (drop 1 ws))
      → read_words m ws ≡ Some (record { stamp = stamp; value = v })
  read_sent stamp v e k =
      let q = k ∙ unpack_sent in
      let same : s.mail.value ≡ v = cc in
      ap (read_words m) s.words
      ∙ ap (stamped s.mail.stamp) (packing.unpack_pack s.mail.value s.proper)
      ∙ ap₂ (λ i x. Some (record { stamp = i; value = x })) (sym (e ∙ ap (λ l. get_or l 0 0) s.words)) same

-- eight words hold every message
pub enough : (most : ℕ) (n : Network) → Shaped most n → n.limit ≤ 8
enough most n s = omega (arith, s.limited, s.low)

-- where every message with a tag was sent by a rank, so was the oldest
pub legible_all : {E : Type 0} (m : Meaning E) (t : ℕ) (ms : List Message) → AllByRecursion (λ x. eqb x.tag t ≡ true → Sent m x.words) ms → Legible m (oldest t ms)
legible_all m t [] h = tt
legible_all m t (x ∷ ms) h = by (eqb x.tag t) refl h.0 (legible_all m t ms h.1)
  where
    by : (u : Bool) → eqb x.tag t ≡ u → (eqb x.tag t ≡ true → Sent m x.words) → Legible m (oldest t ms) → Legible m (cond u (Some x) (oldest t ms))
    by true e here rest = here e
    by false e here rest = rest
