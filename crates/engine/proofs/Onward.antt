-- A call that goes as the plain machine's step keeps an engine's invariant.
use Rattle.std.proofs.Common.{◌≡◌, ℕ, Bool, eqb, List, [], sym, ap, subst}
use Rattle.std.proofs.Math.Logic.{∥∥₁_map, ∥∥₁_elim}
use Rattle.operation.specs.declared.Operation.{Ghosts as Operation}
use Rattle.transport.specs.declared.Transport.{Ghosts as Transport}
use Rattle.machine.specs.Operation.{Meaning, Lawful}
use Rattle.machine.specs.Network.{Network, WellMade, waiting_in_all}
use Rattle.machine.specs.Plain.{Plain, Call, Answer, step}
use Rattle.machine.specs.Sound.{Good}
use Rattle.machine.proofs.Reachable.{step_good, made_good}
use Rattle.jobs.specs.declared.job.Job.{Job}
use Rattle.engine.specs.declared.state.Engine.{Engine}
use Rattle.engine.specs.Fields.{with_jobs, AmongRanks, FieldsStand, Sound}
use Rattle.engine.specs.Abs.{plain, Stands}

module _ {O T E : Type 0} {op : Operation O E} {t : Transport T} (e : Engine O T E op t) where
  -- a fact with at most one proof holds of every engine, if it does whatever network the engine was made with
  pub known : {P : Type 0} → IsProp P → ((origin : Network) → Stands origin e → P) → P
  known one f = ∥∥₁_elim e.sound one (λ s. f s.origin s.stands)

  -- a call with that answer leads to this network, so many jobs started and these pending
  abbrev pub Leads : Call → Answer → Network → ℕ → List (Job E) → Type 0
  Leads call answer net started js =
      (origin : Network) → Stands origin e
      → FieldsStand e.name (op.meaning e.operation) net started e.clean js origin
      × ((answer, with_jobs e.name (op.meaning e.operation) origin net started js) ≡ step (plain origin e) call)

  pub leads : (call : Call) (answer : Answer) (net : Network) (started : ℕ) (js : List (Job E))
      → ((origin : Network) → Stands origin e → AmongRanks origin.ranks js)
      → ((origin : Network) → Stands origin e → (answer, with_jobs e.name (op.meaning e.operation) origin net started js) ≡ step (plain origin e) call)
      → Leads call answer net started js
  leads call answer net started js ranks steps origin h =
      let is = steps origin h in (
        record {
          good = subst Good (sym (ap (λ (x : Answer × Plain E). x.1) is)) (step_good (plain origin e) h.good call);
          clean_told = h.clean_told;
          same_ranks = ranks origin h;
        },
        is,
      )

  pub stays_sound : {net : Network} {started : ℕ} {js : List (Job E)}
      → ((origin : Network) → Stands origin e → FieldsStand e.name (op.meaning e.operation) net started e.clean js origin)
      → ∥ Sound e.name (op.meaning e.operation) net started e.clean js ∥₁
  stays_sound stands = ∥∥₁_map e.sound (λ s. record { origin = s.origin; stands = stands s.origin s.stands })

-- a new engine stands
pub new_stands : {E : Type 0} {m : Meaning E} {net : Network} {clean : Bool} {js : List (Job E)} (name : ℕ)
    → Lawful m → WellMade net → clean ≡ eqb (waiting_in_all net) 0 → js ≡ [] → FieldsStand name m net 0 clean js net
new_stands {m = m} {net = net} name lawful well told none = record {
  good = subst Good (sym (ap (λ js. with_jobs name m net net 0 js) none)) (made_good name m net lawful well);
  clean_told = told;
  same_ranks = subst (AmongRanks net.ranks) (sym none) tt;
}
