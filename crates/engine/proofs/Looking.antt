-- A look counts the ranks that the plain machine counts.
use Rattle.std.proofs.Common.{◌≡◌, ℕ, ◌<◌, cond, leb, length, get_or, Some, None, sym, ap, ◌∙◌, ap₂, arith}
use Rattle.std.proofs.lemmas.List.{get_or_default}
use Rattle.operation.specs.declared.Operation.{Ghosts as Operation}
use Rattle.transport.specs.declared.Transport.{Ghosts as Transport}
use Rattle.schedule.specs.Collective.{actions_of}
use Rattle.machine.specs.Operation.{Meaning}
use Rattle.machine.specs.Network.{Network}
use Rattle.machine.specs.Job.{idle_ranks, actions, rank_of}
use Rattle.machine.specs.Plain.{Plain, Answer, look, looked, refused, no_job, step}
use Rattle.machine.proofs.Steps.{look_no_job, look_done}
use Rattle.ranks.proofs.Sums.{sum_same}
use Rattle.jobs.specs.declared.job.Job.{Job}
use Rattle.jobs.specs.declared.job.RankState.{RankState}
use Rattle.jobs.specs.Tables.{job_of, states, pending_jobs, idle_at, idle_below}
use Rattle.engine.specs.declared.state.Engine.{Engine}
use Rattle.engine.specs.declared.token.Token.{Token}
use Rattle.engine.specs.Abs.{plain, Stands, place_of}
use Rattle.engine.proofs.Shown.{not_shown}
use Rattle.engine.proofs.Turning as turning

-- some state, to read past the ranks
abbrev pub some_state : {E : Type 0} → Meaning E → RankState E
some_state m = record { done = 0; value = m.unit; prefix = m.unit; arrival = 0; departure = 0 }

module _ {O T E : Type 0} {op : Operation O E} {t : Transport T} (e : Engine O T E op t) (token : Token) where
  pub no_job_looked : place_of e token ≡ None → (origin : Network) → ◌≡◌ {A = Answer × Plain E} (refused no_job, plain origin e) (step (plain origin e) (look token.name token.number))
  no_job_looked absent origin = sym (look_no_job (plain origin e) token.name token.number (not_shown e token absent origin))

  module _ (k : ℕ) (at : place_of e token ≡ Some k) (j : Job E) (j_is : (d : Job E) → j ≡ get_or (pending_jobs e.jobs) k d)
      (idle : ℕ) (idle_is : (d : RankState E) → idle ≡ idle_below j d j.schedule.ranks) (origin : Network) (h : Stands origin e) where
    abbrev m : Meaning E
    m = op.meaning e.operation

    abbrev p : ℕ
    p = (t.meaning e.transport).ranks

    idle_same : (d : RankState E) (r : ℕ) → r < p
        → ◌≡◌ {A = ℕ} (cond (idle_at j d r) 1 0) (cond (leb (length (actions p (job_of j) r)) (rank_of m (job_of j) r).done) 1 0)
    idle_same d r below =
        let within : r < length (states j) = omega (arith, turning.states_long e token k at j j_is origin h) in
        let is = turning.rank_is e token k at j j_is origin h r below (get_or (states j) r d) (λ c. get_or_default (states j) r d c within) in
        ap₂ {C = ℕ} (λ q n. cond (leb (length (actions_of j.schedule.collective q r)) n) 1 0) (turning.schedule_ranks e token k at j j_is origin h) (sym (ap (λ x. x.done) is))

    pub idle_counted : idle ≡ idle_ranks m p (job_of j)
    idle_counted =
        let d = some_state m in
        idle_is d ∙ ap (idle_below j d) (turning.schedule_ranks e token k at j j_is origin h)
        ∙ sum_same (λ r. cond (idle_at j d r) 1 0) (λ r. cond (leb (length (actions p (job_of j) r)) (rank_of m (job_of j) r).done) 1 0) p (idle_same d)

    pub look_step : ◌≡◌ {A = Answer × Plain E} (looked idle, plain origin e) (step (plain origin e) (look token.name token.number))
    look_step =
        ap {B = Answer × Plain E} (λ n. (looked n, plain origin e)) idle_counted
        ∙ sym (look_done (plain origin e) token.name token.number (job_of j) (turning.shown_is e token k at j j_is origin h))
