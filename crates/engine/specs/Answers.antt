-- Each answer of a call as the plain machine gives it; the machine's `number_of` gives each refusal its number.
use Rattle.std.specs.Prelude.{◌≡◌, ℕ, Bool, cond, List, Ok, Err, Result}
use Rattle.transport.specs.declared.Fault.{Fault}
use Rattle.machine.specs.Plain.{Answer, Refusal, started, sent, took, waits, through, carried, looked, ended, abandoned, refused, bad_pair, unfit, bad_root, bad_length, bad_block, four_pending, crowded, numbers_spent, no_job, bad_rank, unfinished, too_few_words}
use Rattle.engine.specs.declared.answer.Turn.{Turn}
use Rattle.engine.specs.declared.answer.Turn.TheVariants as turn
use Rattle.engine.specs.declared.answer.TurnFault.{TurnFault}
use Rattle.engine.specs.declared.answer.TurnFault.TheVariants as turn_fault
use Rattle.engine.specs.declared.answer.StartFault.{StartFault}
use Rattle.engine.specs.declared.answer.StartFault.TheVariants as start_fault
use Rattle.engine.specs.declared.answer.EndFault.{EndFault}
use Rattle.engine.specs.declared.answer.EndFault.TheVariants as end_fault
use Rattle.engine.specs.declared.answer.UnknownJob.{UnknownJob}
use Rattle.engine.specs.declared.answer.Tally.{Tally}
use Rattle.engine.specs.declared.token.Token.{Token}

abbrev pub turn_refusal : TurnFault → Refusal
turn_refusal turn_fault.UnknownJob = no_job
turn_refusal turn_fault.BadRank = bad_rank

abbrev pub turn_answer : Result Turn TurnFault → Answer
turn_answer (Ok turn.Sent) = sent
turn_answer (Ok turn.Took) = took
turn_answer (Ok turn.Waiting) = waits
turn_answer (Ok turn.Through) = through
turn_answer (Err f) = refused (turn_refusal f)

-- a transport refuses a carry only for its pair
abbrev pub carry_answer : Result Bool Fault → Answer
carry_answer (Ok moved) = carried (cond moved 1 0)
carry_answer (Err f) = refused bad_pair

abbrev pub look_answer : Result ℕ UnknownJob → Answer
look_answer (Ok idle) = looked idle
look_answer (Err _) = refused no_job

abbrev pub start_refusal : StartFault → Refusal
start_refusal start_fault.Unfit = unfit
start_refusal start_fault.BadRoot = bad_root
start_refusal start_fault.BadLength = bad_length
start_refusal (start_fault.BadBlock rank fault) = bad_block rank fault
start_refusal start_fault.FourPending = four_pending
start_refusal start_fault.Crowded = crowded
start_refusal start_fault.NumbersSpent = numbers_spent

abbrev pub start_answer : Result Token StartFault → Answer
start_answer (Ok token) = started token.name token.number
start_answer (Err f) = refused (start_refusal f)

abbrev pub end_refusal : EndFault → Refusal
end_refusal end_fault.UnknownJob = no_job
end_refusal end_fault.Unfinished = unfinished
end_refusal end_fault.TooFewWords = too_few_words

-- with the lent words afterwards
abbrev pub end_answer : Result Tally (EndFault × Token) → List ℕ → Answer
end_answer (Ok tally) lent = ended lent tally.rounds tally.messages
end_answer (Err (f, token)) lent = refused (end_refusal f)

-- a refused end hands the token back, and the lent words are as they were
abbrev pub HandedBack : Result Tally (EndFault × Token) → Token → (before after : List ℕ) → Type 0
HandedBack (Ok tally) token before after = Unit {0}
HandedBack (Err (f, back)) token before after = (back ≡ token) × (after ≡ before)

abbrev pub abandon_answer : Result (Unit {0}) UnknownJob → Answer
abandon_answer (Ok _) = abandoned
abandon_answer (Err _) = refused no_job
