-- A sound matrix has the shape of a network.
use Rattle.std.specs.Prelude.{ℕ, ◌*◌, ◌≤◌, ◌≡◌, Bool, true, false, ◌⊎◌, List, [], ◌∷◌, length, refl}
use Rattle.std.proofs.Common.{ap, ◌∙◌, arith, mul-zero, inl, inr}
use Rattle.std.proofs.lemmas.Bool.{cases_Bool}
use Rattle.std.specs.List.{AllByRecursion}
use Rattle.std.proofs.lemmas.List.{length-take}
use Rattle.ranks.specs.Ranks.{pair_ok}
use Rattle.transport.specs.Network.{Shaped, Short}
use Rattle.transport.proofs.Stored.{short_listed}
use Rattle.mailbox.specs.declared.Slot.{Slot}
use Rattle.mailbox.specs.declared.Slot.TheVariants.{Free, UnderWay, Arrived}
use Rattle.mailbox.specs.Slots.{message_of, words_of, count_of, box, is_under, is_arrived, Filed}
use Rattle.mailbox.specs.Matrix.{filed_lists, mailbox_network, SoundBox}

all_brief : (ss : List Slot) → Filed ss → AllByRecursion (λ s. length (words_of s) ≤ 2) ss
all_brief [] f = tt
all_brief (s ∷ ss) f = (brief s f.0, all_brief ss f.3)
  where
    brief : (s : Slot) → count_of s ≤ 2 → length (words_of s) ≤ 2
    brief Free h = omega arith
    brief (UnderWay l) h = simp length-take (omega arith)
    brief (Arrived l) h = simp length-take (omega arith)

short_filed : (p d used : ℕ) (ws : List ℕ) → SoundBox p d used ws → (test : Slot → Bool) (a b : ℕ) → Short 2 (filed_lists p d ws test a b)
short_filed p d used ws s test a b = by (cases_Bool (pair_ok p a b))
  where
    by : (pair_ok p a b ≡ true) ⊎ (pair_ok p a b ≡ false) → Short 2 (filed_lists p d ws test a b)
    by (inl e) = rw e (short_listed message_of test 2 (box p d ws a b) (all_brief (box p d ws a b) (s.filed a b e)))
    by (inr e) = rw e tt

pub mailbox_shaped : (p d used : ℕ) (ws : List ℕ) → SoundBox p d used ws → Shaped 2 (mailbox_network p d ws)
mailbox_shaped p d used ws s = record {
  limited = refl;
  low = omega arith;
  few = s.few;
  no_depth = s.closed;
  no_room = λ z. ap (λ d. p * p * d) (s.closed z) ∙ mul-zero (p * p);
  no_under = λ a b e. rw e refl;
  no_arrived = λ a b e. rw e refl;
  short_under = short_filed p d used ws s is_under;
  short_arrived = short_filed p d used ws s is_arrived;
}
