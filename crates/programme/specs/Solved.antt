-- Programmes are solved where it is known ahead what each rank sends to each other rank.
use Rattle.std.specs.Prelude.{◌≡◌, ℕ, ◌<◌, List, ◌∷◌, ◌++◌, ◌≢◌}
use Rattle.programme.specs.Rank.{Rank, Mail, acts, posted}
use Rattle.programme.specs.declared.Action.{Action}
use Rattle.programme.specs.declared.Action.TheVariants.{Send, Take}
use Rattle.programme.specs.declared.Merge.{Merge}

-- an action among others, with what stands before and behind it
pub record Stands (actions : List Action) (here : Action) : Type 0 where
  pub before : List Action
  pub behind : List Action
  pub split : actions ≡ before ++ (here ∷ behind)

-- p ranks; of rank r: its actions, `programme r`, and what it holds at first, `start r`;
-- `mail a b` is the one message that a sends to b, if it sends one
module _ {E : Type 0} (join : E → E → E) (p : ℕ) (programme : ℕ → List Action) (start : ℕ → Rank E) (mail : ℕ → ℕ → Mail E) where
  -- rank r after some of its actions
  abbrev pub state : ℕ → List Action → Rank E
  state r actions = acts join (λ a. mail a r) actions (start r)

  -- sends and takes meet one to one, and every message is what `mail` says
  pub record Solved : Type 0 where
    -- a send goes to another rank, carries what `mail` says, and is met by a take under the same label
    pub send_rank : (a b label : ℕ) → a < p → Stands (programme a) (Send b label) → (b < p) × (a ≢ b)
    pub send_mail : (a b label : ℕ) → a < p → (s : Stands (programme a) (Send b label)) → mail a b ≡ posted (state a s.before)
    pub send_met : (a b label : ℕ) → a < p → Stands (programme a) (Send b label) → (m : Merge) × Stands (programme b) (Take a label m)
    -- a take is from another rank, which sends under the same label
    pub take_rank : (a b label : ℕ) (m : Merge) → b < p → Stands (programme b) (Take a label m) → (a < p) × (a ≢ b)
    pub take_met : (a b label : ℕ) (m : Merge) → b < p → Stands (programme b) (Take a label m) → Stands (programme a) (Send b label)
    -- no pair of ranks has two messages: two sends of a to b, or takes of b from a, are one
    pub send_once : (a b label other : ℕ) → a < p → (s : Stands (programme a) (Send b label)) (t : Stands (programme a) (Send b other)) → s.before ≡ t.before
    pub take_once : (a b label other : ℕ) (m n : Merge) → b < p → (s : Stands (programme b) (Take a label m)) (t : Stands (programme b) (Take a other n)) → s.before ≡ t.before
