-- The schedules once more, message by message and not rank by rank: who sends to whom at each step. Written apart from the programmes.
use Rattle.std.specs.Prelude.{◌≡◌, ℕ, zero, suc, ◌+◌, ◌-◌, ◌*◌, ◌%◌, ◌^◌, Bool, cond, not, ◌&&◌, ◌||◌, List, [], ◌∷◌, ◌++◌, map, ◌==◌, nat_le, nat_lt, slice_index}
use Rattle.programme.specs.declared.Action.{Action}
use Rattle.programme.specs.declared.Action.TheVariants.{Send, Take}
use Rattle.programme.specs.declared.Kind.{Kind}
use Rattle.programme.specs.declared.Kind.TheVariants.{Broadcast, Gather, Reduce, Scan, Exscan, Allreduce}
use Rattle.programme.specs.declared.Merge.{Merge}
use Rattle.programme.specs.declared.Merge.TheVariants.{Replace, Keep, Before, After, Prefix}
use Rattle.programme.specs.Programme.{programme}

-- a message: from whom, to whom, its label, and what becomes of it
pub record Hop : Type 0 where
  pub from : ℕ
  pub to : ℕ
  pub label : ℕ
  pub merge : Merge

module _ {A : Type 0} where
  -- f 0, .., f (n - 1), one after the other
  abbrev pub each : ℕ → (ℕ → List A) → List A
  each zero f = []
  each (suc n) f = each n f ++ f n

  -- these, if the test holds
  abbrev pub if : Bool → List A → List A
  if test xs = cond test xs []

-- one message
abbrev pub hop : (from to label : ℕ) → Merge → List Hop
hop from to label merge = record { from = from; to = to; label = label; merge = merge } ∷ []

-- enough steps for 16 ranks; past the last step of fewer ranks there is no message
abbrev pub most_steps : ℕ
most_steps = 4

-- the greatest power of two up to p, from q on
abbrev pub power_in : (fuel q p : ℕ) → ℕ
power_in zero q p = q
power_in (suc fuel) q p = cond (nat_le (2 * q) p) (power_in fuel (2 * q) p) q

-- numbers are counted from the root: at step k the first 2 ^ k numbers, which have the value, send it 2 ^ k numbers on
abbrev pub broadcast_step : (p root k : ℕ) → List Hop
broadcast_step p root k = each p (λ u. if (nat_lt u (2 ^ k) && nat_lt (u + 2 ^ k) p) (hop ((root + u) % p) ((root + u + 2 ^ k) % p) k Replace))

-- at step k neighbouring blocks of 2 ^ k ranks become one, at the first rank of the lower block
abbrev pub reduce_step : (p k : ℕ) → List Hop
reduce_step p k = each p (λ i. if (nat_lt (2 * 2 ^ k * i + 2 ^ k) p) (hop (2 * 2 ^ k * i + 2 ^ k) (2 * 2 ^ k * i) k After))

-- at step k every rank sends to the one 2 ^ k above
abbrev pub scan_step : Merge → (p k : ℕ) → List Hop
scan_step m p k = each p (λ a. if (nat_lt (a + 2 ^ k) p) (hop a (a + 2 ^ k) k m))

-- the ranks that exchange, where s hand in
abbrev pub members : (p s : ℕ) → List ℕ
members p s = each p (λ r. if (nat_le (2 * s) r || r % 2 == 1) (r ∷ []))

-- at step k the members of neighbouring blocks of 2 ^ k swap their values
abbrev pub swap_step : List ℕ → (q k : ℕ) → List Hop
swap_step who q k =
    each q (λ block. each (2 ^ k) (λ i.
    let low : ℕ = 2 * 2 ^ k * block + i in
    let high : ℕ = low + 2 ^ k in
    if (nat_lt high q) (hop (slice_index who low) (slice_index who high) k Before ++ hop (slice_index who high) (slice_index who low) k After)))

-- p - q ranks hand in, q exchange, and the result is handed back
abbrev pub allreduce_steps : (p q : ℕ) → List (List Hop)
allreduce_steps p q =
    (each (p - q) (λ j. hop (2 * j) (2 * j + 1) 6 Before) ∷ [])
    ++ each most_steps (λ k. swap_step (members p (p - q)) q k ∷ [])
    ++ (each (p - q) (λ j. hop (2 * j + 1) (2 * j) 7 Replace) ∷ [])

-- the messages of a job, step by step
abbrev pub job : Kind → (p root : ℕ) → List (List Hop)
job Broadcast p root = each most_steps (λ k. broadcast_step p root k ∷ [])
job Gather p root = each p (λ a. if (not (a == root)) (hop a root 9 Keep)) ∷ []
job Reduce p root = each most_steps (λ k. reduce_step p k ∷ []) ++ (if (not (root == 0)) (hop 0 root 8 Replace) ∷ [])
job Scan p root = each most_steps (λ k. scan_step Before p k ∷ [])
job Exscan p root = each most_steps (λ k. scan_step Prefix p k ∷ [])
job Allreduce p root = allreduce_steps p (power_in p 1 p)

-- the sends of rank r among messages
abbrev pub sends_in : ℕ → List Hop → List Action
sends_in r [] = []
sends_in r (h ∷ hops) = if (h.from == r) (Send h.to h.label ∷ []) ++ sends_in r hops

-- and its takes
abbrev pub takes_in : ℕ → List Hop → List Action
takes_in r [] = []
takes_in r (h ∷ hops) = if (h.to == r) (Take h.from h.label h.merge ∷ []) ++ takes_in r hops

-- its part in all steps: in each its sends, and then its takes
abbrev pub part : ℕ → List (List Hop) → List Action
part r [] = []
part r (step ∷ more) = sends_in r step ++ takes_in r step ++ part r more

-- what f says of every kind, root and rank among p ranks
abbrev pub all : (Kind → (p root r : ℕ) → List Action) → ℕ → List (List Action)
all f p =
    let of : Kind → List (List Action) = λ kind. each p (λ root. each p (λ r. f kind p root r ∷ [])) in
    of Broadcast ++ of Gather ++ of Reduce ++ of Scan ++ of Exscan ++ of Allreduce

-- the numbers of ranks that are looked at
abbrev pub looked_at : List ℕ
looked_at = 1 ∷ 2 ∷ 3 ∷ 4 ∷ 5 ∷ 6 ∷ 7 ∷ 8 ∷ 13 ∷ []

-- there every programme is the rank's part in the messages
abbrev pub Agrees : Type 0
Agrees = map (all programme) looked_at ≡ map (all (λ kind p root r. part r (job kind p root))) looked_at
