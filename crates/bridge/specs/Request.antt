-- How the numbers of a job are read, and what a request comes to.
use Rattle.std.specs.Prelude.{◌≡◌, ℕ, ◌≤◌, List, Some, None, Ok, Err, Option, Result}
use Rattle.operation.specs.Affine.{affine, accepted_modulus}
use Rattle.operation.specs.Text.{text}
use Rattle.operation.specs.Least.{least}
use Rattle.schedule.specs.declared.Collective.{Collective}
use Rattle.machine.specs.Operation.{Meaning}
use Rattle.machine.specs.Network.{Network}
use Rattle.engine.specs.declared.answer.Tally.{Tally}
use Rattle.runner.specs.declared.Incomplete.{Incomplete}
use Rattle.bridge.specs.declared.job.Job.{Job}
use Rattle.bridge.specs.declared.outcome.Refusal.{Refusal}
use Rattle.bridge.specs.declared.outcome.Refusal.TheVariants.{NoCollective, NoOperation, Modulus, Incomplete as NotCompleted}
use Rattle.bridge.specs.declared.request.Reduction.{Reduction}
use Rattle.bridge.specs.declared.request.Reduction.TheVariants.{Maps, Texts, Leasts}
use Rattle.bridge.specs.declared.request.Request.{Request}
use Rattle.bridge.specs.Given.{collective_at}
use Rattle.bridge.specs.Outcome.{RunsTo}

-- the operation of a job's number
abbrev pub Reduces : Job → Reduction → Type 0
Reduces given (Maps maps) = (given.operation ≡ 0) × (accepted_modulus given.modulus ≡ Ok maps.modulus)
Reduces given Texts = given.operation ≡ 1
Reduces given Leasts = given.operation ≡ 2

-- why there is none
abbrev pub NotReduced : Job → Refusal → Type 0
NotReduced given NoCollective = ⊥
NotReduced given NoOperation = 3 ≤ given.operation
NotReduced given (Modulus f) = (given.operation ≡ 0) × (accepted_modulus given.modulus ≡ Err f)
NotReduced given (NotCompleted i) = ⊥

-- the request of a job's numbers
pub record Reads (given : Job) (words : List ℕ) (request : Request) : Type 0 where
  pub collective_is : collective_at given.collective given.root ≡ Some request.collective
  pub reduction_is : Reduces given request.reduction
  pub sweeps_are : request.sweeps ≡ given.sweeps
  pub inputs_are : request.inputs.now ≡ words

-- why there is none: the collective is looked for first
abbrev pub NotReadAt : Job → Option Collective → Refusal → Type 0
NotReadAt given None refusal = refusal ≡ NoCollective
NotReadAt given (Some job) refusal = NotReduced given refusal

abbrev pub NotRead : Job → Refusal → Type 0
NotRead given refusal = NotReadAt given (collective_at given.collective given.root) refusal

-- what a request comes to over some members of a network, by an operation of that meaning
module _ (request : Request) (below : Network) (members lent out : List ℕ) (result : Result Tally Incomplete) where
  abbrev pub RunsWith : {E : Type 0} → Meaning E → Type 0
  RunsWith m = RunsTo below request.sweeps members request.inputs.now lent out m request.collective result

  -- by an operation that was chosen
  abbrev pub RunsBy : Reduction → Type 0
  RunsBy (Maps maps) = RunsWith (affine maps.modulus)
  RunsBy Texts = RunsWith text
  RunsBy Leasts = RunsWith least

  -- by its own
  abbrev pub Runs : Type 0
  Runs = RunsBy request.reduction
