-- Parts of programmes that functions of their own give.
use Rattle.std.specs.Prelude.{ℕ, ◌+◌, ◌-◌, ◌^◌, cond, not, ◌&&◌, List, [], ◌∷◌, ◌++◌, Some, None, Option, ◌==◌, nat_lt}
use Rattle.programme.specs.declared.Action.{Action}
use Rattle.programme.specs.declared.Action.TheVariants.{Send, Take}
use Rattle.programme.specs.declared.Merge.{Merge}
use Rattle.programme.specs.declared.Merge.TheVariants.{Before, Replace}
use Rattle.programme.specs.Label.{hand_in, hand_back, deliver}
use Rattle.programme.specs.Levels.{levels, floor_log}
use Rattle.programme.specs.Programme.{when, steps, rank_at, fold_step, exchange}

-- step k of a broadcast at the rank that has number u, counted from the root
unfoldable pub spread_step : (p root u k : ℕ) → List Action
spread_step p root u k = when (nat_lt u (2 ^ k) && nat_lt (u + 2 ^ k) p) (Send (rank_at p root (u + 2 ^ k)) k)

-- what it takes, unless it is the root
abbrev pub taken : (p root u : ℕ) → Action
taken p root u = Take (rank_at p root (u - 2 ^ floor_log u)) (floor_log u) Replace

-- and its whole programme
unfoldable pub spread : (p root u : ℕ) → List Action
spread p root u = when (nat_lt 0 u) (taken p root u) ++ steps (spread_step p root u) (levels p)

-- step k of a scan: the send, if there is a rank 2 ^ k above
abbrev pub scan_send : (p r k : ℕ) → Option Action
scan_send p r k = cond (nat_lt k (levels (p - r))) (Some (Send (r + 2 ^ k) k)) None

-- and the take, if there is a rank 2 ^ k below
abbrev pub scan_take : Merge → (r k : ℕ) → Option Action
scan_take m r k = cond (nat_lt k (levels (r + 1))) (Some (Take (r - 2 ^ k) k m)) None

-- the tree of a reduce towards rank 0
abbrev pub tree : (p r : ℕ) → List Action
tree p r = steps (fold_step p r) (levels p)

-- the actions after it, at most one
abbrev pub delivered : (root r : ℕ) → List Action
delivered root r = when (not (root == 0) && r == 0) (Send root deliver) ++ when (not (root == 0) && r == root) (Take 0 deliver Replace)

-- the one action, or none
abbrev pub one_of : Option Action → List Action
one_of None = []
one_of (Some a) = a ∷ []

-- allreduce: a rank that hands its value in to another, and is handed the result back
abbrev pub handed_in : (other : ℕ) → List Action
handed_in other = Send other hand_in ∷ Take other hand_back Replace ∷ []

-- and a rank that exchanges as number n, for that other too
abbrev pub for_two : (other p n : ℕ) → List Action
for_two other p n = Take other hand_in Before ∷ exchange p n ++ (Send other hand_back ∷ [])
