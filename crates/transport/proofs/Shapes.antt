-- A layer of p ranks: its network is n, or has no ranks where p is 0.
use Rattle.std.proofs.Common.{◌≡◌, ℕ, ◌<◌, ◌≤◌, Bool, true, false, eqb, ◌⊎◌, sym, refl, ap, ◌∙◌, inl, inr, arith}
use Rattle.std.proofs.lemmas.Bool.{cases_Bool, eqb-true, eqb-false, eq-eqb, ne_eqb}
use Rattle.ranks.specs.Ranks.{pair_ok}
use Rattle.transport.specs.Network.{Network, nobody, when_ranks, Shaped}

pub nobody_shaped : (most : ℕ) → most ≤ 8 → Shaped most (nobody most)
nobody_shaped most h = record {
  limited = refl;
  low = h;
  few = omega arith;
  no_depth = λ _. refl;
  no_room = λ _. refl;
  no_under = λ a b _. refl;
  no_arrived = λ a b _. refl;
  short_under = λ a b. tt;
  short_arrived = λ a b. tt;
}

module _ (most p : ℕ) (n : Network) where
  pub layer_closed : p ≡ 0 → when_ranks p most n ≡ nobody most
  layer_closed e = rw (eq-eqb p 0 e)

  pub layer_open : 0 < p → when_ranks p most n ≡ n
  layer_open h = rw (ne_eqb p 0 (λ z. omega arith))

  layer_ranks : n.ranks ≡ p → (when_ranks p most n).ranks ≡ p
  layer_ranks same = by (cases_Bool (eqb p 0))
    where
      by : (eqb p 0 ≡ true) ⊎ (eqb p 0 ≡ false) → (when_ranks p most n).ranks ≡ p
      by (inl e) = rw e (sym (eqb-true p 0 e))
      by (inr e) = rw e same

  pub layer_pair : n.ranks ≡ p → (a b : ℕ) (t : Bool) → pair_ok p a b ≡ t → pair_ok (when_ranks p most n).ranks a b ≡ t
  layer_pair same a b t e = ap (λ q. pair_ok q a b) (layer_ranks same) ∙ e

  pub layer_shaped : most ≤ 8 → (0 < p → Shaped most n) → Shaped most (when_ranks p most n)
  layer_shaped low open_shaped = by (cases_Bool (eqb p 0))
    where
      positive : (p ≡ 0 → ⊥) → 0 < p
      positive ne = omega arith

      by : (eqb p 0 ≡ true) ⊎ (eqb p 0 ≡ false) → Shaped most (when_ranks p most n)
      by (inl e) = rw e (nobody_shaped most low)
      by (inr e) = rw e (open_shaped (positive (eqb-false p 0 e)))
