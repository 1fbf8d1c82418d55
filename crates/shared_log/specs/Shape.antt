-- A sound log has the shape of a network.
use Rattle.std.specs.Prelude.{◌≡◌, ℕ, ◌≤◌, Bool, true, false, not, ◌&&◌, ◌⊎◌, List, [], length, take, ◌==◌, refl}
use Rattle.std.proofs.Common.{sym, subst, ◌∙◌, inl, inr, arith}
use Rattle.std.proofs.lemmas.List.{length-take}
use Rattle.std.proofs.ByRecursion.{All-weaker}
use Rattle.std.proofs.lemmas.Bool.{cases_Bool, and_parts, and_left, eqb-true, true≢false}
use Rattle.ranks.specs.Ranks.{pair_ok}
use Rattle.transport.specs.Network.{Shaped, Short}
use Rattle.transport.specs.Stored.{listed}
use Rattle.transport.proofs.Stored.{listed_none, short_listed}
use Rattle.shared_log.specs.declared.Record.{Record}
use Rattle.shared_log.specs.declared.Log.{Log}
use Rattle.shared_log.specs.Records.{of_pair, is_under, is_arrived, message_of, most_words, log_network, Good, SoundLog}
use Rattle.shared_log.specs.Meaning.{log_meaning}

module _ (p room used : ℕ) (rs : List Record) (s : SoundLog p room used rs) where
  -- no message outside the pairs
  none_outside : (u : Record → Bool) (a b : ℕ) → pair_ok p a b ≡ false → listed message_of (λ r. of_pair a b r && u r) (take used rs) ≡ []
  none_outside u a b e = listed_none message_of (λ r. of_pair a b r && u r) (take used rs) (All-weaker (Good p) (λ r. (of_pair a b r && u r) ≡ false) away (take used rs) s.good)
    where
      away : (r : Record) → Good p r → (of_pair a b r && u r) ≡ false
      away r g = by (cases_Bool (of_pair a b r))
        where
          by : (of_pair a b r ≡ true) ⊎ (of_pair a b r ≡ false) → (of_pair a b r && u r) ≡ false
          by (inl y) =
              let k = and_parts (r.from == a) (r.to == b) y in
              let g' : pair_ok p a b ≡ true = subst (λ (z : ℕ). pair_ok p a z ≡ true) (eqb-true r.to b k.1) (subst (λ (z : ℕ). pair_ok p z r.to ≡ true) (eqb-true r.from a k.0) g.pair) in
              absurd (true≢false (sym g' ∙ e))
          by (inr y) = and_left (of_pair a b r) (u r) y

  short : (test : Record → Bool) → Short most_words (listed message_of test (take used rs))
  short test = short_listed message_of test most_words (take used rs) (All-weaker (Good p) (λ r. length (message_of r).words ≤ most_words) brief (take used rs) s.good)
    where
      brief : (r : Record) → Good p r → length (take r.length r.words) ≤ most_words
      brief r g = let b = g.brief in simp length-take (omega arith)

  records_shaped : Shaped most_words (log_network p room (take used rs))
  records_shaped = record {
    limited = refl;
    low = omega arith;
    few = s.few;
    no_depth = s.no_room;
    no_room = s.no_room;
    no_under = none_outside (λ r. not r.arrived);
    no_arrived = none_outside (λ r. r.arrived);
    short_under = λ a b. short (is_under a b);
    short_arrived = λ a b. short (is_arrived a b);
  }

pub log_shaped : (l : Log) → Shaped most_words (log_meaning l)
log_shaped l = records_shaped l.ranks l.room l.used l.records.now l.sound
