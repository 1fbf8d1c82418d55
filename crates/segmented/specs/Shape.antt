-- The layer's network has the shape of a network.
use Rattle.std.specs.Prelude.{◌≡◌, ℕ, ◌<◌, false, [], ◌≢◌, refl}
use Rattle.std.proofs.Common.{ap, subst, ◌∙◌, arith}
use Rattle.std.proofs.Math.Nat.{zero-div}
use Rattle.ranks.specs.Ranks.{pair_ok}
use Rattle.transport.specs.Network.{Network, Shaped}
use Rattle.transport.proofs.Shapes.{layer_shaped}
use Rattle.segmented.specs.Segments.{pieces, decode, groups, open_network, segmented, Whole}

decode_nil : (k : ℕ) → decode k [] ≡ []
unfolding decode
decode_nil k = ap (λ c. groups k c []) (zero-div k)

module _ (lim : ℕ) (p : ℕ) (n : Network) (below : Shaped lim n) (w : Whole lim p n) where
  open_shaped : 0 < p → Shaped 7 (open_network (pieces lim) p n)
  open_shaped h = record {
    limited = refl;
    low = omega arith;
    few = omega (arith, w.same h, below.few);
    no_depth = λ z. absurd (apart h z);
    no_room = λ z. absurd (apart h z);
    no_under = λ a b e. ap (decode (pieces lim)) (below.no_under a b (subst (λ (q : ℕ). pair_ok q a b ≡ false) (w.same h) e)) ∙ decode_nil (pieces lim);
    no_arrived = λ a b e. ap (decode (pieces lim)) (below.no_arrived a b (subst (λ (q : ℕ). pair_ok q a b ≡ false) (w.same h) e)) ∙ decode_nil (pieces lim);
    short_under = λ a b. (w.under h a b).short;
    short_arrived = λ a b. (w.arrived h a b).short;
  }
    where
      apart : 0 < p → p ≢ 0
      apart h z = omega arith

  pub segmented_shaped : Shaped 7 (segmented lim p n)
  segmented_shaped = layer_shaped 7 p (open_network (pieces lim) p n) (omega arith) open_shaped
