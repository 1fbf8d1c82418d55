-- What a job comes to on a new engine, in the words of the plain machine.
use Rattle.std.proofs.Common.{◌≡◌, ℕ, List, Ok, Err, Result, subst}
use Rattle.schedule.specs.declared.Collective.{Collective}
use Rattle.schedule.specs.Collective.{kind_of, root_of}
use Rattle.operation.specs.declared.Operation.{Ghosts as Operation}
use Rattle.transport.specs.declared.Transport.{Ghosts as Transport}
use Rattle.machine.specs.Operation.{Meaning}
use Rattle.machine.specs.Network.{Network}
use Rattle.machine.specs.Call.{Call, Answer, start, look, end, started, looked, refused}
use Rattle.machine.specs.Plain.{step, made}
use Rattle.machine.specs.Record.{after}
use Rattle.engine.specs.declared.answer.Tally.{Tally}
use Rattle.engine.specs.declared.state.Engine.{Engine}
use Rattle.engine.specs.Abs.{plain, Stands}
use Rattle.engine.specs.Answers.{start_refusal}
use Rattle.runner.specs.declared.Incomplete.{Incomplete}
use Rattle.runner.specs.declared.Incomplete.TheVariants.{Start, End}
use Rattle.runner.specs.Complete.{Completes, Unwritten, Does, DrivenTo, opening}
use Rattle.runner.proofs.Completing.{told_step}
use Rattle.bridge.specs.Outcome.{engine_name, Driven, ComesTo}

module _ {O T E : Type 0} {op : Operation O E} {net : Transport T} (one other : Engine O T E op net) (job : Collective) (words lent : List ℕ) (budget : ℕ)
    (origin : Network) (m : Meaning E) (stands : Stands origin one) (new : plain origin one ≡ made engine_name m origin) where
  -- what the machine answers after the opening calls
  opened : (name number count : ℕ) (call : Call) (answer : ℕ → Answer)
      → (step (after (plain origin one) (opening job words name number (net.meaning one.transport).ranks count)) call).0 ≡ answer (net.meaning one.transport).ranks
      → (step (after (made engine_name m origin) (opening job words name number origin.ranks count)) call).0 ≡ answer origin.ranks
  opened name number count call answer h =
      let same : (net.meaning one.transport).ranks ≡ origin.ranks = stands.good.sound.same_ranks in
      subst (λ s. (step (after s (opening job words name number origin.ranks count)) call).0 ≡ answer origin.ranks) new
      (subst (λ p. (step (after (plain origin one) (opening job words name number p count)) call).0 ≡ answer p) same h)

  driven_alone : (answer : Answer) (behind : (name number : ℕ) → List Call)
      → DrivenTo one other job words lent budget answer behind
      → Driven m origin job words budget lent answer
  driven_alone answer behind d = record {
    name = d.name;
    number = d.number;
    count = d.count;
    within = d.within;
    begun = subst (λ s. (step s (start (kind_of job) (root_of job) words)).0 ≡ started d.name d.number) new (d.begun origin stands);
    stopped = λ fewer. opened d.name d.number d.count (look d.name d.number) looked (d.stopped fewer origin stands);
    answered = opened d.name d.number d.count (end d.name d.number lent) (λ _. answer) (d.answered origin stands);
  }

  pub comes_to : (out : List ℕ) (result : Result Tally Incomplete)
      → Completes one job words lent out result
      → Unwritten result lent out
      → Does one other job words lent out budget result
      → ComesTo m origin job words budget lent out result
  comes_to out (Ok tally) completes _ does = (completes origin engine_name m stands new, driven_alone _ _ does)
  comes_to out (Err (Start f)) _ unwritten does =
      let first : Call = start (kind_of job) (root_of job) words in
      (unwritten, subst (λ s. (step s first).0 ≡ refused (start_refusal f)) new (told_step one other first (refused (start_refusal f)) does origin stands))
  comes_to out (Err (End f)) _ unwritten does = (unwritten, driven_alone _ _ does)
