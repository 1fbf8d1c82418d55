-- The plain machine that an engine stands for, and what calls make of it.
use Rattle.std.specs.Prelude.{◌≡◌, ℕ, ◌+◌, ◌^◌, ◌<◌, max, cond, Some, None, Option, ◌==◌, slice_index_or}
use Rattle.std.specs.List.{slice_get}
use Rattle.programme.specs.declared.Action.{Action}
use Rattle.programme.specs.declared.Merge.{Merge}
use Rattle.programme.specs.Rank.{merged_value, merged_prefix}
use Rattle.engine_parts.specs.declared.mail.Mail.{Mail}
use Rattle.schedule.specs.Collective.{actions_of}
use Rattle.operation.specs.declared.Operation.{Ghosts as Operation}
use Rattle.transport.specs.declared.Transport.{Ghosts as Transport}
use Rattle.machine.specs.Network.{Network}
use Rattle.machine.specs.Plain.{Plain, Call, Answer, step}
use Rattle.jobs.specs.declared.job.Job.{Job}
use Rattle.jobs.specs.declared.job.RankState.{RankState}
use Rattle.jobs.specs.Tables.{states, pending_jobs, place}
use Rattle.engine.specs.declared.state.Engine.{Engine}
use Rattle.engine.specs.declared.token.Token.{Token}
use Rattle.engine.specs.Fields.{with_jobs, FieldsStand}

-- the state of a rank after a take
abbrev pub state_taken : {E : Type 0} → (E → E → E) → Merge → Mail E → RankState E → RankState E
state_taken join merge mail s = record {
  done = s.done + 1;
  value = merged_value join merge s.value mail.value;
  prefix = merged_prefix join merge s.prefix mail.value;
  arrival = max (s.arrival + 1) mail.stamp;
  departure = s.departure;
}

-- an engine over an operation of type O, whose elements are of type E, and a transport of type T
module _ {O T E : Type 0} {op : Operation O E} {net : Transport T} where
  -- the plain machine that an engine stands for; `origin` is the transport's network when the engine was made
  abbrev pub plain : Network → Engine O T E op net → Plain E
  plain origin e = with_jobs e.name (op.meaning e.operation) origin (net.meaning e.transport) e.started (pending_jobs e.jobs)

  -- the engine may have been made with that network
  abbrev pub Stands : Network → Engine O T E op net → Type 0
  Stands origin e = FieldsStand e.name (op.meaning e.operation) (net.meaning e.transport) e.started e.clean (pending_jobs e.jobs) origin

  -- a call with that answer leads from one engine to the next as the plain machine's step says, whatever network the engine was made with
  abbrev pub Steps : (before after : Engine O T E op net) → Call → Answer → Type 0
  Steps before after call answer =
      (origin : Network) → Stands origin before
      → Stands origin after × ((answer, plain origin after) ≡ step (plain origin before) call)

  -- the place of the pending job that a token shows
  abbrev pub place_of : Engine O T E op net → Token → Option ℕ
  place_of e token = cond (token.name == e.name) (place token.number (pending_jobs e.jobs)) None

  -- that action is the next one of a rank of the token's job
  pub record Due (e : Engine O T E op net) (token : Token) (at rank : ℕ) (action : Action) : Type 0 where
    pub shown_at : place_of e token ≡ Some at
    pub below : rank < (net.meaning e.transport).ranks
    pub next : (d : Job E) (s : RankState E) → let j : Job E = slice_index_or (pending_jobs e.jobs) at d in
        slice_get (actions_of j.schedule.collective j.schedule.ranks rank) (slice_index_or (states j) rank s).done ≡ Some action
    pub few : (d : Job E) (s : RankState E) → (slice_index_or (states (slice_index_or (pending_jobs e.jobs) at d)) rank s).done + 1 < 2 ^ 64
