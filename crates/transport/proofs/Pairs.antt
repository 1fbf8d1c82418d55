-- Ordered pairs of different ranks.
use Rattle.std.proofs.Common.{◌≡◌, ℕ, ◌<◌, true, false, not, ◌&&◌, eqb, ltb, arith}
use Rattle.std.proofs.lemmas.Bool.{and_parts, and_left, ltb-true, le-ltb, not-true}
use Rattle.ranks.specs.Ranks.{pair_ok}

pub pair_parts : (p a b : ℕ) → pair_ok p a b ≡ true → (a < p) × (b < p) × (eqb a b ≡ false)
pair_parts p a b e =
    let h = and_parts (ltb a p) (ltb b p && not (eqb a b)) e in
    let k = and_parts (ltb b p) (not (eqb a b)) h.1 in
    (ltb-true a p h.0, ltb-true b p k.0, not-true (eqb a b) k.1)

pub pair_positive : (p a b : ℕ) → pair_ok p a b ≡ true → 0 < p
pair_positive p a b e = let h = pair_parts p a b e in omega arith

pub no_pair_of_none : (a b : ℕ) → pair_ok 0 a b ≡ false
no_pair_of_none a b = and_left (ltb a 0) (ltb b 0 && not (eqb a b)) (le-ltb a 0 (omega arith))
