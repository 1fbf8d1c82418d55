-- A new group over a new segmenting layer.
use Rattle.std.proofs.Common.{◌≡◌, ℕ, ◌/◌, Bool, true, false, cond, List, length, refl, subst}
use Rattle.ranks.specs.Ranks.{sum_below}
use Rattle.ranks.proofs.Sums.{sum_zeros}
use Rattle.transport.specs.Network.{Network, quiet, nobody, between, waiting}
use Rattle.segmented.specs.Segments.{new_segmented, usable, pieces}
use Rattle.group.specs.Members.{GoodList, new_group}
use Rattle.bridge.specs.Given.{Over}

quiet_waits : (p d r l : ℕ) → waiting (quiet p d r l) ≡ 0
unfolding waiting
quiet_waits p d r l = sum_zeros (λ a. sum_below (λ b. between (quiet p d r l) a b) p) p (λ a _. sum_zeros (λ b. between (quiet p d r l) a b) p (λ b _. refl))

cond_waits : (fits : Bool) (p d r l : ℕ) → waiting (cond fits (quiet p d r l) (nobody l)) ≡ 0
cond_waits true p d r l = quiet_waits p d r l
cond_waits false p d r l = quiet_waits 0 0 0 l

segmented_waits : (lim : ℕ) (n : Network) → waiting (new_segmented lim n) ≡ 0
segmented_waits lim n = cond_waits (usable lim n) n.ranks (n.depth / pieces lim) (n.room / pieces lim) 7

-- what is known of a group's network, once the one below is known
pub over_segmented : (lim : ℕ) (n below : Network) (members : List ℕ) (net : Network)
    → below ≡ new_segmented lim n
    → (GoodList below.ranks members → waiting below ≡ 0 → net ≡ new_group (length members) below)
    → ((GoodList below.ranks members → ⊥) → net ≡ nobody 7)
    → (holds : Network → Type 0) → holds net
    → Over (new_segmented lim n) members holds
over_segmented lim n below members net e good bad holds h = record {
  net = net;
  good = λ x. subst (λ (b : Network). GoodList b.ranks members → waiting b ≡ 0 → net ≡ new_group (length members) b) e good x (segmented_waits lim n);
  bad = subst (λ (b : Network). (GoodList b.ranks members → ⊥) → net ≡ nobody 7) e bad;
  is = h;
}
