-- A pending job, what its ranks have come to, and its answer.
use Rattle.std.specs.Prelude.{ℕ, zero, suc, ◌+◌, Bool, true, false, cond, List, [], ◌∷◌, ◌++◌, map, length, get_or, take, drop, ◌==◌, nat_le, slice_index_or}
use Rattle.std.specs.List.{flat_map}
use Rattle.ranks.specs.Ranks.{sum_below, greatest_below}
use Rattle.programme.specs.declared.Kind.{Kind}
use Rattle.programme.specs.declared.Kind.TheVariants.{Broadcast, Gather, Reduce, Scan, Exscan, Allreduce}
use Rattle.programme.specs.declared.Action.{Action}
use Rattle.programme.specs.Rank.{Rank, fresh}
use Rattle.programme.specs.Programme.{programme}
use Rattle.machine.specs.Operation.{Meaning, Result, Ok, Err, BlockFault}

-- a pending job
pub record Job (E : Type 0) : Type 0 where
  pub number : ℕ
  pub kind : Kind
  -- 0 for a kind that has no root
  pub root : ℕ
  -- in rank order
  pub inputs : List E
  pub ranks : List (Rank E)
  -- its turns answered sent so far
  pub sent : ℕ

-- n blocks of w words
abbrev pub blocks : (w n : ℕ) → List ℕ → List (List ℕ)
blocks w zero words = []
blocks w (suc n) words = take w words ∷ blocks w n (drop w words)

-- f 0, f 1, .., f (n - 1)
abbrev pub listed : {A : Type 0} → (ℕ → A) → ℕ → List A
listed f zero = []
listed f (suc n) = listed f n ++ (f n ∷ [])

module _ {E : Type 0} where
  -- the elements of the blocks that unpack
  abbrev pub elements : List (Result E BlockFault) → List E
  elements [] = []
  elements (Ok x ∷ more) = x ∷ elements more
  elements (Err f ∷ more) = elements more

  -- what rank r holds
  abbrev pub rank_of : Meaning E → Job E → ℕ → Rank E
  rank_of m job r = slice_index_or job.ranks r (fresh m.unit m.unit)

  -- the actions of rank r, of p
  abbrev pub actions : ℕ → Job E → ℕ → List Action
  actions p job r = programme job.kind p job.root r

  -- how many ranks have no action left
  abbrev pub idle_ranks : Meaning E → ℕ → Job E → ℕ
  idle_ranks m p job = sum_below (λ r. cond (nat_le (length (actions p job r)) (rank_of m job r).done) 1 0) p

  -- whether no rank has an action left
  abbrev pub finished : Meaning E → ℕ → Job E → Bool
  finished m p job = idle_ranks m p job == p

  -- the greatest arrival among its ranks
  abbrev pub rounds_of : Meaning E → ℕ → Job E → ℕ
  rounds_of m p job = greatest_below (λ r. (rank_of m job r).arrival) p

  -- what the ranks of a finished job give, in rank order
  abbrev pub outcome : Meaning E → Kind → ℕ → List (Rank E) → List E
  outcome m Broadcast root ranks = map (λ x. x.value) ranks
  outcome m Gather root ranks =
      let x : Rank E = get_or ranks root (fresh m.unit m.unit) in
      take root x.kept ++ (x.value ∷ drop root x.kept)
  outcome m Reduce root ranks = (get_or ranks root (fresh m.unit m.unit)).value ∷ []
  outcome m Scan root ranks = map (λ x. x.value) ranks
  outcome m Exscan root ranks = map (λ x. x.prefix) ranks
  outcome m Allreduce root ranks = map (λ x. x.value) ranks

  -- the join of a list, in its order
  abbrev pub total : Meaning E → List E → E
  total m [] = m.unit
  total m (x ∷ xs) = m.join x (total m xs)

  -- what a job of that kind has to give: the elements whose blocks are the job's answer blocks
  abbrev pub answer : Meaning E → Kind → ℕ → List E → List E
  answer m Broadcast root inputs = map (λ x. get_or inputs root m.unit) inputs
  answer m Gather root inputs = inputs
  answer m Reduce root inputs = total m inputs ∷ []
  answer m Scan root inputs = listed (λ r. total m (take (r + 1) inputs)) (length inputs)
  answer m Exscan root inputs = listed (λ r. total m (take r inputs)) (length inputs)
  answer m Allreduce root inputs = map (λ x. total m inputs) inputs

  -- their blocks, one after the other
  abbrev pub packed : Meaning E → List E → List ℕ
  packed m xs = flat_map m.pack xs

-- whether a kind of job has a root
abbrev pub rooted : Kind → Bool
rooted Broadcast = true
rooted Gather = true
rooted Reduce = true
rooted Scan = false
rooted Exscan = false
rooted Allreduce = false
