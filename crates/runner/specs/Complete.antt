-- What a job gives that is run from its start to its end.
use Rattle.std.specs.Prelude.{◌≡◌, ℕ, ◌<◌, ◌≤◌, List, [], ◌∷◌, ◌++◌, map, Ok, Err, Result}
use Rattle.programme.specs.Formula.{rounds, messages}
use Rattle.schedule.specs.declared.Collective.{Collective}
use Rattle.schedule.specs.Collective.{kind_of, root_of}
use Rattle.operation.specs.declared.Operation.{Ghosts as Operation}
use Rattle.transport.specs.declared.Transport.{Ghosts as Transport}
use Rattle.machine.specs.Operation.{Meaning}
use Rattle.machine.specs.Network.{Network}
use Rattle.machine.specs.Job.{blocks, answer, packed}
use Rattle.machine.specs.Call.{Call, Answer, start, look, end, abandon, started, looked, ended, refused}
use Rattle.machine.specs.Plain.{step, made, written}
use Rattle.machine.specs.Record.{after}
use Rattle.engine.specs.declared.answer.EndFault.{EndFault}
use Rattle.engine.specs.declared.answer.Tally.{Tally}
use Rattle.engine.specs.declared.state.Engine.{Engine}
use Rattle.engine.specs.Abs.{plain, Stands, Steps}
use Rattle.engine.specs.Answers.{start_refusal, end_refusal}
use Rattle.runner.specs.declared.Incomplete.{Incomplete}
use Rattle.runner.specs.declared.Incomplete.TheVariants.{Start, End}
use Rattle.runner.specs.Sweeps.{sweeps, Runs}

-- a job among p ranks: the blocks of the words unpack to inputs, rank by rank; the blocks of the collective's answer to these
-- stand over the front of the lent words, the rest as it was; rounds and messages are those of the formulas
pub record Completed {E : Type 0} (m : Meaning E) (p : ℕ) (job : Collective) (words lent out : List ℕ) (tally : Tally) : Type 0 where
  pub inputs : List E
  pub read : map m.unpack (blocks m.width p words) ≡ map Ok inputs
  pub answered : out ≡ written (packed m (answer m (kind_of job) (root_of job) inputs)) lent
  pub rounds_are : tally.rounds ≡ rounds (kind_of job) p (root_of job)
  pub messages_are : tally.messages ≡ messages (kind_of job) p (root_of job)

-- a refused call leaves the lent words as they were
abbrev pub Unwritten : {F : Type 0} → Result Tally F → (lent out : List ℕ) → Type 0
Unwritten (Ok tally) lent out = Unit {0}
Unwritten (Err f) lent out = out ≡ lent

-- a job's start, and n sweeps for it among p ranks
abbrev pub opening : Collective → List ℕ → (name number p n : ℕ) → List Call
opening job words name number p n = start (kind_of job) (root_of job) words ∷ sweeps name number p n

module _ {O T E : Type 0} {op : Operation O E} {net : Transport T} where
  -- on a new engine, of whatever name, operation and network: if counts are answered, the job is completed
  abbrev pub Completes : Engine O T E op net → Collective → (words lent out : List ℕ) → Result Tally Incomplete → Type 0
  Completes engine job words lent out (Ok tally) =
      (origin : Network) (name : ℕ) (m : Meaning E)
      → Stands origin engine
      → plain origin engine ≡ made name m origin
      → Completed m origin.ranks job words lent out tally
  Completes engine job words lent out (Err f) = Unit {0}

  -- after these calls the machine gives the call that answer, whatever network the engine was made with
  abbrev pub Told : Engine O T E op net → List Call → Call → Answer → Type 0
  Told engine calls call answer = (origin : Network) → Stands origin engine → (step (after (plain origin engine) calls) call).0 ≡ answer

  -- a job is started and swept for, its end is given that answer, and then come the calls `behind`
  pub record DrivenTo (one other : Engine O T E op net) (job : Collective) (words lent : List ℕ) (budget : ℕ) (answer : Answer) (behind : (name number : ℕ) → List Call) : Type 0 where
    pub name : ℕ
    pub number : ℕ
    pub count : ℕ
    pub within : count ≤ budget
    pub begun : Told one [] (start (kind_of job) (root_of job) words) (started name number)
    -- fewer sweeps than allowed only where the job was finished
    pub stopped : count < budget → Told one (opening job words name number (net.meaning one.transport).ranks count) (look name number) (looked (net.meaning one.transport).ranks)
    pub answered : Told one (opening job words name number (net.meaning one.transport).ranks count) (end name number lent) answer
    pub runs : Runs one other (opening job words name number (net.meaning one.transport).ranks count ++ (end name number lent ∷ behind name number))

  -- the calls made, by what is answered; `out` is what the lent words hold then
  abbrev pub Does : (one other : Engine O T E op net) → Collective → (words lent out : List ℕ) → (budget : ℕ) → Result Tally Incomplete → Type 0
  Does one other job words lent out budget (Ok tally) = DrivenTo one other job words lent budget (ended out tally.rounds tally.messages) (λ name number. [])
  Does one other job words lent out budget (Err (Start f)) = Steps one other (start (kind_of job) (root_of job) words) (refused (start_refusal f))
  Does one other job words lent out budget (Err (End f)) = DrivenTo one other job words lent budget (refused (end_refusal f)) (λ name number. abandon name number ∷ [])

  -- an end with that answer, and then the calls `behind`
  pub record Ending (one other : Engine O T E op net) (name number : ℕ) (lent : List ℕ) (answer : Answer) (behind : List Call) : Type 0 where
    pub told : Told one [] (end name number lent) answer
    pub runs : Runs one other (end name number lent ∷ behind)

  -- an end, and where it is refused an abandon
  abbrev pub Finishes : (one other : Engine O T E op net) → (name number : ℕ) → (lent out : List ℕ) → Result Tally EndFault → Type 0
  Finishes one other name number lent out (Ok tally) = Ending one other name number lent (ended out tally.rounds tally.messages) []
  Finishes one other name number lent out (Err f) = Ending one other name number lent (refused (end_refusal f)) (abandon name number ∷ [])
