-- One job from its start to its end.
use Rattle.std.proofs.Common.{◌≡◌, ℕ, ◌<◌, ◌≤◌, Bool, true, List, [], ◌∷◌, ◌++◌, map, Ok, sym, refl, ap, ◌∙◌, subst, ap₂, inl, arith}
use mathlib.Core.Option.{Option, none, some}
use Rattle.std.proofs.lemmas.Bool.{eqb-true}
use denote.Struct.Props.{props}
use Rattle.programme.specs.declared.Kind.{Kind}
use Rattle.programme.specs.Formula.{rounds, messages}
use Rattle.schedule.specs.declared.Collective.{Collective}
use Rattle.schedule.specs.declared.Collective.TheVariants.{Broadcast, Gather, Reduce, Scan, Exscan, Allreduce}
use Rattle.schedule.specs.Collective.{kind_of, root_of}
use Rattle.operation.specs.declared.Operation.{Ghosts as Operation}
use Rattle.transport.specs.declared.Transport.{Ghosts as Transport}
use Rattle.machine.specs.Operation.{Meaning, Lawful}
use Rattle.machine.specs.Network.{Network, WellMade}
use Rattle.machine.specs.Job.{Job, blocks, answer, packed, idle_ranks}
use Rattle.machine.specs.Call.{Call, Answer, Refusal, start, look, end, started, looked, ended}
use Rattle.machine.specs.Plain.{Plain, step, made, root_for, written, start_refusal, after_start, after_look, shown}
use Rattle.machine.specs.Sound.{Good}
use Rattle.machine.specs.Record.{Entry, Follows, after}
use Rattle.machine.specs.Laws.{RightEnd}
use Rattle.machine.proofs.History.{entry}
use Rattle.machine.proofs.Records.{record_laws}
use Rattle.engine.specs.declared.answer.Tally.{Tally}
use Rattle.engine.specs.declared.state.Engine.{Engine}
use Rattle.engine.specs.Abs.{plain, Stands, Steps}
use Rattle.engine.proofs.Onward.{known}
use Rattle.runner.specs.Sweeps.{sweeps, tells_finished, Runs}
use Rattle.runner.specs.Complete.{Completed, Completes, Told, DrivenTo, Ending, opening}
use Rattle.runner.proofs.Running.{runs_none, runs_then, runs_call}

-- a collective without a root has the root 0
root_given : (job : Collective) → root_for (kind_of job) (root_of job) ≡ root_of job
root_given (Broadcast root) = refl
root_given (Gather root) = refl
root_given (Reduce root) = refl
root_given Scan = refl
root_given Exscan = refl
root_given Allreduce = refl

module _ {E : Type 0} where
  -- calls with the machine's own answers
  abbrev recorded : Plain E → List Call → List Entry
  recorded s [] = []
  recorded s (c ∷ cs) = entry c (step s c).0 ∷ recorded (step s c).1 cs

  recorded_follows : (s : Plain E) (cs : List Call) (e : Entry) → e.answer ≡ (step (after s cs) e.call).0 → Follows s (recorded s cs ++ (e ∷ []))
  recorded_follows s [] e h = (h, tt)
  recorded_follows s (c ∷ cs) e h = (refl, recorded_follows (step s c).1 cs e h)

  -- a token has its machine's name
  token_name : (s : Plain E) (kind : Kind) (root : ℕ) (words : List ℕ) (o : Option Refusal) (name number : ℕ)
      → (after_start s kind root words o).0 ≡ started name number
      → name ≡ s.name
  token_name s kind root words none name number h = cc
  token_name s kind root words (some f) name number h = let z : ◌≡◌ {A = ℕ} 0 1 = cc in absurd (omega arith)

  -- a look that tells of a finished job
  look_finished : (p : ℕ) (s : Plain E) (o : Option (Job E)) → tells_finished p (after_look s o).0 ≡ true → (after_look s o).0 ≡ looked p
  look_finished p s none h = let z : ◌≡◌ {A = ℕ} 0 1 = cc in absurd (omega arith)
  look_finished p s (some job) h = ap looked (eqb-true (idle_ranks s.meaning s.now.ranks job) p h)

  -- what a right end says of the start that its number was handed to
  right_completed : (name : ℕ) (m : Meaning E) (p : ℕ) (before : List Entry) (number : ℕ) (job : Collective) (words lent out : List ℕ) (tally : Tally)
      → (right : RightEnd name m p before number lent out tally.rounds tally.messages)
      → (kind_of job ≡ right.kind) × (root_of job ≡ right.root) × (words ≡ right.words)
      → Completed m p job words lent out tally
  right_completed name m p before number job words lent out tally right same =
      let root_is : root_for right.kind right.root ≡ root_of job = sym (ap₂ root_for same.0 same.1) ∙ root_given job in
      let kind_is = sym same.0 in
      record {
        inputs = right.inputs;
        read = ap (λ ws. map m.unpack (blocks m.width p ws)) same.2 ∙ right.read;
        answered = right.answered ∙ ap₂ (λ kind root. written (packed m (answer m kind root right.inputs)) lent) kind_is root_is;
        rounds_are = right.rounds_are ∙ ap₂ (λ kind root. rounds kind p root) kind_is root_is;
        messages_are = right.messages_are ∙ ap₂ (λ kind root. messages kind p root) kind_is root_is;
      }

  -- a start, any calls, and the end of the job started
  completed : (name : ℕ) (m : Meaning E) (net : Network) → Lawful m → WellMade net
      → (job : Collective) (words lent out : List ℕ) (token number : ℕ) (tally : Tally) (cs : List Call)
      → let first : Call = start (kind_of job) (root_of job) words in
      (step (made name m net) first).0 ≡ started token number
      → (step (after (made name m net) (first ∷ cs)) (end token number lent)).0 ≡ ended out tally.rounds tally.messages
      → Completed m net.ranks job words lent out tally
  completed name m net lawful well job words lent out token number tally cs begun finished =
      let s : Plain E = made name m net in
      let root : ℕ = root_for (kind_of job) (root_of job) in
      let all : List Call = start (kind_of job) (root_of job) words ∷ cs in
      let e : Entry = entry (end token number lent) (ended out tally.rounds tally.messages) in
      let right =
      (record_laws name m net lawful well).ends (recorded s all) [] e token number lent out tally.rounds tally.messages refl refl
      (recorded_follows s all e (sym finished)) in
      let named : token ≡ name = token_name s (kind_of job) root words (start_refusal s (kind_of job) root words) token number begun in
      right_completed name m net.ranks (recorded s all) number job words lent out tally right
      (right.only (kind_of job) (root_of job) words (inl (refl, begun ∙ ap (λ n. started n number) named)))

module _ {O T E : Type 0} {op : Operation O E} {net : Transport T} where
  -- a job that is driven to its end is completed, if the engine was new
  pub driven_completes : (one other : Engine O T E op net) (job : Collective) (words lent out : List ℕ) (budget : ℕ) (tally : Tally) (behind : (name number : ℕ) → List Call)
      → DrivenTo one other job words lent budget (ended out tally.rounds tally.messages) behind
      → Completes one job words lent out (Ok tally)
  driven_completes one other job words lent out budget tally behind d origin name m stands new =
      let good = subst Good new stands.good in
      let first : Call = start (kind_of job) (root_of job) words in
      let swept : List Call = sweeps d.name d.number (net.meaning one.transport).ranks d.count in
      completed name m origin good.lawful good.well job words lent out d.name d.number tally swept
      (subst (λ s. (step s first).0 ≡ started d.name d.number) new (d.begun origin stands))
      (subst (λ s. (step (after s (first ∷ swept)) (end d.name d.number lent)).0 ≡ ended out tally.rounds tally.messages) new (d.answered origin stands))

  -- the answer of one call
  pub told_step : (one other : Engine O T E op net) (call : Call) (answer : Answer) → Steps one other call answer → Told one [] call answer
  told_step one other call answer steps origin h = ap (λ (x : Answer × Plain E). x.0) (sym (steps origin h).1)

  -- of the engine after some calls
  told_after : (one other : Engine O T E op net) (calls : List Call) (call : Call) (answer : Answer)
      → Runs one other calls
      → Told other [] call answer
      → Told one calls call answer
  told_after one other calls call answer runs told origin h =
      let then = runs origin h in
      ap (λ s. (step s call).0) (sym then.1) ∙ told origin then.0

  pub runs_one : (one other : Engine O T E op net) (call : Call) (answer : Answer) → Steps one other call answer → Runs one other (call ∷ [])
  runs_one one other call answer steps = runs_call one one other [] call answer (runs_none one) steps

  -- calls leave the number of ranks
  ranks_stay : (one other : Engine O T E op net) (calls : List Call) → Runs one other calls → (net.meaning other.transport).ranks ≡ (net.meaning one.transport).ranks
  ranks_stay one other calls runs = known one (hlevel props) (λ origin h. (runs origin h).0.good.sound.same_ranks ∙ sym h.good.sound.same_ranks)

  -- start, sweeps and end, put together
  pub driven : (one two three four : Engine O T E op net) (job : Collective) (words lent : List ℕ) (budget name number count : ℕ) (finished : Bool) (answer : Answer) (behind : (name number : ℕ) → List Call)
      → Steps one two (start (kind_of job) (root_of job) words) (started name number)
      → Runs two three (sweeps name number (net.meaning two.transport).ranks count)
      → count ≤ budget
      → (count < budget → finished ≡ true)
      → ((origin : Network) → Stands origin three → finished ≡ tells_finished (net.meaning two.transport).ranks (step (plain origin three) (look name number)).0)
      → Ending three four name number lent answer (behind name number)
      → DrivenTo one four job words lent budget answer behind
  driven one two three four job words lent budget name number count finished answer behind begins swept within stopped told ending =
      let first : Call = start (kind_of job) (root_of job) words in
      let begun = runs_one one two first (started name number) begins in
      let p : ℕ = (net.meaning one.transport).ranks in
      let same = ranks_stay one two (first ∷ []) begun in
      let opened : Runs one three (opening job words name number p count)
      = runs_then one two three (first ∷ []) (sweeps name number p count) begun (subst (λ q. Runs two three (sweeps name number q count)) same swept) in
      record {
        name = name;
        number = number;
        count = count;
        within = within;
        begun = told_step one two first (started name number) begins;
        stopped = λ fewer.
            told_after one three (opening job words name number p count) (look name number) (looked p) opened
            (λ origin there.
            let s : Plain E = plain origin three in
            let telling : finished ≡ tells_finished p (step s (look name number)).0 = told origin there ∙ ap (λ q. tells_finished q (step s (look name number)).0) same in
            look_finished p s (shown s name number) (sym telling ∙ stopped fewer));
        answered = told_after one three (opening job words name number p count) (end name number lent) answer opened ending.told;
        runs = runs_then one three four (opening job words name number p count) (end name number lent ∷ behind name number) opened ending.runs;
      }
