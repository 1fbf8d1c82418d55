-- What a job came to that is run alone, and how C is told.
use Rattle.std.specs.Prelude.{◌≡◌, ℕ, zero, suc, ◌<◌, ◌≤◌, cond, List, length, Some, None, Ok, Err, Option, Result, nat_le}
use Rattle.operation.specs.declared.fault.BlockFault.{BlockFault}
use Rattle.operation.specs.declared.fault.BlockFault.TheVariants.{WrongLength, WrongWord}
use Rattle.operation.specs.declared.fault.ModulusFault.{ModulusFault}
use Rattle.operation.specs.Meaning.{block_number, modulus_number, written}
use Rattle.operation.specs.Affine.{affine, accepted_modulus}
use Rattle.operation.specs.Text.{text, measured}
use Rattle.operation.specs.Least.{least}
use Rattle.schedule.specs.declared.Collective.{Collective}
use Rattle.schedule.specs.Collective.{kind_of, root_of}
use Rattle.machine.specs.Operation.{Meaning}
use Rattle.machine.specs.Network.{Network}
use Rattle.machine.specs.Call.{Answer, start, look, end, started, looked, ended, refused, number_of, too_few_words}
use Rattle.machine.specs.Plain.{step, made}
use Rattle.machine.specs.Record.{after}
use Rattle.engine.specs.declared.answer.StartFault.{StartFault}
use Rattle.engine.specs.declared.answer.StartFault.TheVariants as start_fault
use Rattle.engine.specs.declared.answer.EndFault.{EndFault}
use Rattle.engine.specs.declared.answer.EndFault.TheVariants as end_fault
use Rattle.engine.specs.declared.answer.Tally.{Tally}
use Rattle.engine.specs.Answers.{start_refusal, end_refusal}
use Rattle.runner.specs.declared.Incomplete.{Incomplete}
use Rattle.runner.specs.declared.Incomplete.TheVariants.{Start, End}
use Rattle.runner.specs.Complete.{Completed, opening}
use Rattle.bridge.specs.declared.job.Job.{Job}
use Rattle.bridge.specs.declared.job.Report.{Report}
use Rattle.bridge.specs.declared.outcome.Refusal.{Refusal}
use Rattle.bridge.specs.declared.outcome.Refusal.TheVariants.{NoCollective, NoOperation, Modulus, Incomplete as NotCompleted}
use Rattle.bridge.specs.Given.{collective_at, Over}

-- the name of the engine that runs the job
abbrev pub engine_name : ℕ
engine_name = 1

-- the refusals of numbers that name no collective, and no operation; and of a job not finished within the sweeps allowed
abbrev pub no_collective : ℕ
no_collective = 60

abbrev pub no_operation : ℕ
no_operation = 61

abbrev pub out_of_sweeps : ℕ
out_of_sweeps = 42

-- a report of counts, and of a refused block
abbrev pub counts : (rounds messages : ℕ) → Report
counts rounds messages = record { rounds = rounds; messages = messages; rank = 0; fault = 0; word = 0 }

abbrev pub block_refused : (rank fault word : ℕ) → Report
block_refused rank fault word = record { rounds = 0; messages = 0; rank = rank; fault = fault; word = word }

abbrev pub blank : Report
blank = counts 0 0

-- the place of a block's wrong word, and 0 where its length is wrong
abbrev pub word_of : BlockFault → ℕ
word_of WrongLength = 0
word_of (WrongWord place) = place

-- the status of a job whose end was refused
abbrev pub end_status : EndFault → ℕ
end_status end_fault.UnknownJob = number_of (end_refusal end_fault.UnknownJob)
end_status end_fault.Unfinished = out_of_sweeps
end_status end_fault.TooFewWords = number_of (end_refusal end_fault.TooFewWords)

abbrev pub refusal_number : Refusal → ℕ
refusal_number NoCollective = no_collective
refusal_number NoOperation = no_operation
refusal_number (Modulus f) = modulus_number f
refusal_number (NotCompleted (Start f)) = number_of (start_refusal f)
refusal_number (NotCompleted (End f)) = end_status f

-- the status: 0, or the refusal's number
abbrev pub status_of : Result Tally Refusal → ℕ
status_of (Ok tally) = 0
status_of (Err r) = refusal_number r

-- the report: the counts of a job that ended; rank, the operation's own number and word of a block that was refused; else zeros
abbrev pub start_report : StartFault → Report
start_report start_fault.Unfit = blank
start_report start_fault.BadRoot = blank
start_report start_fault.BadLength = blank
start_report (start_fault.BadBlock rank fault) = block_refused rank (block_number fault) (word_of fault)
start_report start_fault.FourPending = blank
start_report start_fault.Crowded = blank
start_report start_fault.NumbersSpent = blank

abbrev pub refusal_report : Refusal → Report
refusal_report NoCollective = blank
refusal_report NoOperation = blank
refusal_report (Modulus f) = blank
refusal_report (NotCompleted (Start f)) = start_report f
refusal_report (NotCompleted (End f)) = blank

abbrev pub report_of : Result Tally Refusal → Report
report_of (Ok tally) = counts tally.rounds tally.messages
report_of (Err r) = refusal_report r

-- how a job came out that was run, among all that a call may come to
abbrev pub outcome : Result Tally Incomplete → Result Tally Refusal
outcome (Ok tally) = Ok tally
outcome (Err i) = Err (NotCompleted i)

module _ {E : Type 0} (m : Meaning E) (net : Network) (job : Collective) (words : List ℕ) (sweeps : ℕ) (lent : List ℕ) where
  -- a new machine starts the job, sweeps for it no more often than allowed, fewer times only where it is finished, and
  -- gives its end that answer
  pub record Driven (answer : Answer) : Type 0 where
    pub name : ℕ
    pub number : ℕ
    pub count : ℕ
    pub within : count ≤ sweeps
    pub begun : (step (made engine_name m net) (start (kind_of job) (root_of job) words)).0 ≡ started name number
    pub stopped : count < sweeps → (step (after (made engine_name m net) (opening job words name number net.ranks count)) (look name number)).0 ≡ looked net.ranks
    pub answered : (step (after (made engine_name m net) (opening job words name number net.ranks count)) (end name number lent)).0 ≡ answer

  -- what the job comes to on a new machine, `out` being the lent words afterwards. Counts are answered only where the
  -- words are the collective's answer to the inputs; a refusal is the machine's, and leaves the lent words as they were
  abbrev pub ComesTo : (out : List ℕ) → Result Tally Incomplete → Type 0
  ComesTo out (Ok tally) = Completed m net.ranks job words lent out tally × Driven (ended out tally.rounds tally.messages)
  ComesTo out (Err (Start f)) = (out ≡ lent) × ((step (made engine_name m net) (start (kind_of job) (root_of job) words)).0 ≡ refused (start_refusal f))
  ComesTo out (Err (End f)) = (out ≡ lent) × Driven (refused (end_refusal f))

-- a call refused before a job is made of its numbers
pub record TurnedAway (number : ℕ) (lent out : List ℕ) (status : ℕ) (report : Report) : Type 0 where
  pub status_is : status ≡ number
  pub report_is : report ≡ blank
  pub unwritten : out ≡ lent

module _ (below : Network) (sweeps : ℕ) (members words lent out : List ℕ) where
  -- over some members of a network the job comes to that result
  abbrev pub RunsTo : {E : Type 0} → Meaning E → Collective → Result Tally Incomplete → Type 0
  RunsTo m job result = Over below members (λ net. ComesTo m net job words sweeps lent out result)

  -- and what C is told of it
  pub record Ran {E : Type 0} (m : Meaning E) (job : Collective) (status : ℕ) (report : Report) : Type 0 where
    pub result : Result Tally Incomplete
    pub comes : RunsTo m job result
    pub status_is : status ≡ status_of (outcome result)
    pub report_is : report ≡ report_of (outcome result)

-- what a call tells and leaves
module _ (below : Network) (given : Job) (members words lent out : List ℕ) (status : ℕ) (report : Report) where
  abbrev pub RanBy : {E : Type 0} → Meaning E → Collective → Type 0
  RanBy m job = Ran below given.sweeps members words lent out m job status report

  -- by maps, if the modulus is taken
  abbrev pub ByMaps : Collective → Result ℕ ModulusFault → Type 0
  ByMaps job (Ok modulus) = RanBy (affine modulus) job
  ByMaps job (Err f) = TurnedAway (modulus_number f) lent out status report

  -- by the operation of a number: maps, texts, least values, and no other
  abbrev pub ByOperation : Collective → ℕ → Type 0
  ByOperation job zero = ByMaps job (accepted_modulus given.modulus)
  ByOperation job (suc zero) = RanBy text job
  ByOperation job (suc (suc zero)) = RanBy least job
  ByOperation job (suc (suc (suc n))) = TurnedAway no_operation lent out status report

  -- the collective, if the number names one
  abbrev pub OfCollective : Option Collective → Type 0
  OfCollective (Some job) = ByOperation job given.operation
  OfCollective None = TurnedAway no_collective lent out status report

  abbrev pub Told : Type 0
  Told = OfCollective (collective_at given.collective given.root)

-- what a call for the block of a text tells and leaves: the block stands at the front of the lent words, if they are enough
pub record Measured (bytes lent out : List ℕ) (status : ℕ) : Type 0 where
  pub status_is : status ≡ cond (nat_le text.width (length lent)) 0 (number_of too_few_words)
  pub block_is : out ≡ written (text.pack (measured bytes)) lent
