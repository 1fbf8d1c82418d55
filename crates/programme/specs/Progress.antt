-- Ranks part-way through their programmes, and the order of messages: what needs no values.
use Rattle.std.specs.Prelude.{◌≡◌, ℕ, ◌*◌, ◌^◌, ◌<◌, ◌≤◌, ◌⊎◌, List, [], ◌∷◌, ◌++◌, length, ◌≢◌}
use Rattle.ranks.specs.Ranks.{sum_below}
use Rattle.programme.specs.declared.Kind.{Kind}
use Rattle.programme.specs.declared.Action.{Action}
use Rattle.programme.specs.declared.Action.TheVariants.{Send, Take}
use Rattle.programme.specs.declared.Merge.{Merge}
use Rattle.programme.specs.Formula.{rounds, messages}
use Rattle.programme.specs.Label.{label_count, label_of}
use Rattle.programme.specs.Message.{stamp}
use Rattle.programme.specs.Programme.{programme}
use Rattle.programme.specs.Solved.{Stands}

-- the next action of a rank is a send
pub record SendsNext (left : List Action) : Type 0 where
  pub to : ℕ
  pub label : ℕ
  pub rest : List Action
  pub is : left ≡ Send to label ∷ rest

-- the next action of rank r is a take of what another has sent
pub record TakesNext (done left : ℕ → List Action) (r : ℕ) : Type 0 where
  pub from : ℕ
  pub label : ℕ
  pub merge : Merge
  pub rest : List Action
  pub is : left r ≡ Take from label merge ∷ rest
  pub sent : Stands (done from) (Send r label)

-- rank r need not wait
abbrev pub GoesOn : (done left : ℕ → List Action) → ℕ → Type 0
GoesOn done left r = SendsNext (left r) ⊎ TakesNext done left r

-- wherever p ranks stand in their programmes, while one has actions left, some rank can go on
abbrev pub NeverStuck : ℕ → (ℕ → List Action) → Type 0
NeverStuck p actions =
    (done left : ℕ → List Action) → ((r : ℕ) → r < p → actions r ≡ done r ++ left r) →
    (r : ℕ) → r < p → (left r ≢ []) → (g : ℕ) × (g < p) × GoesOn done left g

-- a rank takes from a, and later sends to c
pub record Relays (actions : List Action) (a c : ℕ) : Type 0 where
  pub label : ℕ
  pub sends : Stands actions (Send c label)
  pub taken_label : ℕ
  pub merge : Merge
  pub takes : Stands sends.before (Take a taken_label merge)

-- a rank sends to b, and later to c
pub record SendsBoth (actions : List Action) (b c : ℕ) : Type 0 where
  pub label : ℕ
  pub sends : Stands actions (Send c label)
  pub first_label : ℕ
  pub first : Stands sends.before (Send b first_label)

-- a chain of messages, the first from a to b, that goes on along the ranks of `way`: each takes and then sends on
abbrev pub Chain : ℕ → (ℕ → List Action) → (a b : ℕ) → (way : List ℕ) → Type 0
Chain p actions a b [] = Unit {0}
Chain p actions a b (c ∷ way) = (b < p) × Relays (actions b) a c × Chain p actions b c way

-- the stamps of such a chain grow from message to message
abbrev pub Growing : (ℕ → ℕ → ℕ) → (a b : ℕ) → (way : List ℕ) → Type 0
Growing stamps a b [] = Unit {0}
Growing stamps a b (c ∷ way) = (stamps a b < stamps b c) × Growing stamps b c way

-- how the messages of a job flow, whatever they carry
pub record Flow (kind : Kind) (p root : ℕ) : Type 0 where
  pub never_stuck : NeverStuck p (programme kind p root)
  -- each message is sent once and taken once
  pub turns : sum_below (λ r. length (programme kind p root r)) p ≡ 2 * messages kind p root
  -- stamps lie between 1 and the rounds; they grow along every chain of messages, and from send to send of a rank
  pub stamps_within : (a b label : ℕ) → a < p → Stands (programme kind p root a) (Send b label) → (0 < stamp kind p root a b) × (stamp kind p root a b ≤ rounds kind p root)
  pub chains_grow : (a b : ℕ) (way : List ℕ) → Chain p (programme kind p root) a b way → Growing (stamp kind p root) a b way
  pub sends_grow : (a b c : ℕ) → a < p → SendsBoth (programme kind p root a) b c → stamp kind p root a b < stamp kind p root a c
  -- a step has a label of its own, so labels fit only up to so many ranks; nothing else needs that bound
  pub labels_fit : p ≤ 2 ^ label_count → (r : ℕ) → r < p → (action : Action) → Stands (programme kind p root r) action → label_of action < label_count

-- for every number of ranks and every root
abbrev pub Flows : Kind → Type 0
Flows kind = (p root : ℕ) → root < p → Flow kind p root
