-- Records of calls: what an entry holds, when a record is a machine's own, and what its entries tell of a job.
use Rattle.std.specs.Prelude.{◌≡◌, ℕ, Bool, true, false, cond, ◌||◌, ◌⊎◌, List, [], ◌∷◌, ◌++◌, map, ◌==◌}
use Rattle.machine.specs.Plain.{Plain, Call, Answer, start, turn, carry, look, end, abandon, started, sent, took, waits, through, carried, looked, ended, abandoned, refused, step}

-- a call and what it was answered
pub record Entry : Type 0 where
  pub call : Call
  pub answer : Answer

-- the answer to a turn that sends
abbrev pub is_sent : Answer → Bool
is_sent (started name number) = false
is_sent sent = true
is_sent took = false
is_sent waits = false
is_sent through = false
is_sent (carried n) = false
is_sent (looked n) = false
is_sent (ended lent r k) = false
is_sent abandoned = false
is_sent (refused f) = false

-- the answer to a turn that takes
abbrev pub is_took : Answer → Bool
is_took (started name number) = false
is_took sent = false
is_took took = true
is_took waits = false
is_took through = false
is_took (carried n) = false
is_took (looked n) = false
is_took (ended lent r k) = false
is_took abandoned = false
is_took (refused f) = false

-- the answers to a turn that does its rank's next action
abbrev pub acts : Answer → Bool
acts answer = is_sent answer || is_took answer

-- the rank of a call that is a turn for the job of number n
abbrev pub turning : ℕ → Call → List ℕ
turning n (start kind root words) = []
turning n (turn name number rank) = cond (number == n) (rank ∷ []) []
turning n (carry from to) = []
turning n (look name number) = []
turning n (end name number lent) = []
turning n (abandon name number) = []

-- the ranks of the turns for job n whose answers pass a test, in order
abbrev pub turns : (Answer → Bool) → ℕ → List Entry → List ℕ
turns passes n [] = []
turns passes n (e ∷ more) = cond (passes e.answer) (turning n e.call) [] ++ turns passes n more

-- a call with its answer stands in the record
abbrev pub Recorded : Call → Answer → List Entry → Type 0
Recorded call answer [] = ⊥
Recorded call answer (e ∷ more) = ((e.call ≡ call) × (e.answer ≡ answer)) ⊎ Recorded call answer more

-- the call is a turn of that rank
abbrev pub TurnOf : ℕ → Call → Type 0
TurnOf rank call = (name : ℕ) × (number : ℕ) × (call ≡ turn name number rank)

-- the calls of a record
abbrev pub calls : List Entry → List Call
calls entries = map (λ e. e.call) entries

module _ {E : Type 0} where
  -- each answer of the record is the one that the machine gives
  abbrev pub Follows : Plain E → List Entry → Type 0
  Follows s [] = Unit {0}
  Follows s (e ∷ more) = (e.answer ≡ (step s e.call).0) × Follows (step s e.call).1 more

  -- the machine after a list of calls
  abbrev pub after : Plain E → List Call → Plain E
  after s [] = s
  after s (c ∷ more) = after (step s c).1 more
