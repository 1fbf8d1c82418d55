-- The group's network has the shape of a network.
use Rattle.std.specs.Prelude.{ℕ, ◌<◌, Bool, true, false, cond, List, [], ◌≢◌, slice_index, refl}
use Rattle.std.proofs.Common.{arith}
use Rattle.ranks.specs.Ranks.{pair_ok}
use Rattle.transport.specs.Network.{Network, Message, Shaped, Short}
use Rattle.transport.proofs.Shapes.{layer_shaped}
use Rattle.group.specs.Members.{seen, open_group, grouped, Grouping}

short_seen : (lim c : ℕ) (table : List ℕ) (f : ℕ → ℕ → List Message) → ((a b : ℕ) → Short lim (f a b)) → (i j : ℕ) → Short lim (seen c table f i j)
short_seen lim c table f all i j = by (pair_ok c i j)
  where
    by : (t : Bool) → Short lim (cond t (f (slice_index table i) (slice_index table j)) [])
    by true = all (slice_index table i) (slice_index table j)
    by false = tt

module _ (lim c : ℕ) (table : List ℕ) (n : Network) (below : Shaped lim n) (s : Grouping c table n) where
  open_shaped : 0 < c → Shaped lim (open_group c table n)
  open_shaped h = record {
    limited = below.limited;
    low = below.low;
    few = s.few;
    no_depth = λ z. absurd (apart h z);
    no_room = λ z. absurd (apart h z);
    no_under = λ a b e. rw e refl;
    no_arrived = λ a b e. rw e refl;
    short_under = short_seen lim c table n.under below.short_under;
    short_arrived = short_seen lim c table n.arrived below.short_arrived;
  }
    where
      apart : 0 < c → c ≢ 0
      apart h z = omega arith

  pub grouped_shaped : Shaped lim (grouped lim c table n)
  grouped_shaped = layer_shaped lim c (open_group c table n) below.low open_shaped
