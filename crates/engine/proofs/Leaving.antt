-- A job leaves its place.
use Rattle.std.proofs.Common.{◌≡◌, ℕ, zero, suc, ◌<◌, not, eqb, List, [], ◌∷◌, ◌++◌, map, length, get_or, take, drop, Some, None, filter, sym, refl, ap, ◌∙◌, subst, arith}
use lib.ListN.{get_or-map}
use Rattle.std.specs.List.{remove}
use Rattle.operation.specs.declared.Operation.{Ghosts as Operation}
use Rattle.transport.specs.declared.Transport.{Ghosts as Transport}
use Rattle.machine.specs.Network.{Network, with_abandoned}
use Rattle.machine.specs.Plain.{Plain, Answer, abandon, abandoned, refused, no_job, step, without_job}
use Rattle.machine.proofs.Places.{without_at}
use Rattle.machine.proofs.Steps.{abandon_no_job, abandon_done}
use Rattle.jobs.specs.declared.job.Job.{Job}
use Rattle.jobs.specs.Tables.{job_of, pending_jobs}
use Rattle.engine.specs.declared.state.Engine.{Engine}
use Rattle.engine.specs.declared.token.Token.{Token}
use Rattle.engine.specs.Fields.{with_jobs, AmongRanks}
use Rattle.engine.specs.Abs.{plain, Stands, place_of}
use Rattle.engine.proofs.Onward.{Leads, leads}
use Rattle.engine.proofs.Shown.{Seen, seen, not_shown, pick}

pub ranks_removed : {E : Type 0} (p : ℕ) (js : List (Job E)) (k : ℕ) → AmongRanks p js → AmongRanks p (remove js k)
ranks_removed p [] zero h = tt
ranks_removed p [] (suc k) h = tt
ranks_removed p (j ∷ js) zero h = h.1
ranks_removed p (j ∷ js) (suc k) h = (h.0, ranks_removed p js k h.1)

map-removed : {A B : Type 0} (f : A → B) (xs : List A) (k : ℕ) → map f (remove xs k) ≡ take k (map f xs) ++ drop (suc k) (map f xs)
map-removed f [] zero = refl
map-removed f [] (suc k) = refl
map-removed f (x ∷ xs) zero = refl
map-removed f (x ∷ xs) (suc k) = ap (λ l. f x ∷ l) (map-removed f xs k)

map-length : {A B : Type 0} (f : A → B) (l : List A) → length (map f l) ≡ length l
map-length f [] = refl
map-length f (i ∷ l) = ap suc (map-length f l)

module _ {O T E : Type 0} {op : Operation O E} {t : Transport T} (e : Engine O T E op t) (token : Token) where
  pub no_job_left : place_of e token ≡ None → (origin : Network) → ◌≡◌ {A = Answer × Plain E} (refused no_job, plain origin e) (step (plain origin e) (abandon token.name token.number))
  no_job_left absent origin =
      sym (abandon_no_job (plain origin e) token.name token.number (not_shown e token absent origin))

  module _ (k : ℕ) (at : place_of e token ≡ Some k) (origin : Network) (h : Stands origin e) where
    abbrev js : List (Job E)
    js = pending_jobs e.jobs

    abbrev s : Plain E
    s = plain origin e

    here : Seen e token k
    here = seen e token k at

    d : Job E
    d = pick js k here.at.within

    -- the jobs that stay are those of the plain machine
    pub jobs_left : map job_of (remove js k) ≡ filter (λ job. not (eqb job.number token.number)) (map job_of js)
    jobs_left =
        let jobs = map job_of js in
        let number : (get_or jobs k (job_of d)).number ≡ token.number = ap (λ i. i.number) (get_or-map job_of js k d) ∙ here.at.number_is d in
        let low : k < length jobs = omega (arith, map-length job_of js, here.at.within) in
        map-removed job_of js k
        ∙ sym (without_at jobs k (job_of d) h.good.sound.distinct low)
        ∙ ap (λ n. filter (λ job. not (eqb job.number n)) jobs) number

    abandon_step : (net' : Network) → net' ≡ with_abandoned token.number (t.meaning e.transport) → (js' : List (Job E)) → js' ≡ remove js k
        → ◌≡◌ {A = Answer × Plain E} (abandoned, with_jobs e.name (op.meaning e.operation) origin net' e.started js') (step s (abandon token.name token.number))
    abandon_step net' net-is js' js-is =
        let jobs = ap (map job_of) js-is ∙ jobs_left in
        (λ i. (abandoned, record { name = e.name; meaning = op.meaning e.operation; origin = origin; now = net-is i; started = e.started; jobs = jobs i }))
        ∙ ap {B = Answer × Plain E} (λ n. (abandoned, without_job n s (with_abandoned n s.now))) (sym (here.at.number_is d))
        ∙ sym (abandon_done s token.name token.number (job_of (get_or js k d)) (here.shown_is origin d))

  pub abandons : (k : ℕ) → place_of e token ≡ Some k → (net : Network) → net ≡ with_abandoned token.number (t.meaning e.transport) → (js : List (Job E)) → js ≡ remove (pending_jobs e.jobs) k
      → Leads e (abandon token.name token.number) abandoned net e.started js
  abandons k at net net-is js js-is =
      leads e (abandon token.name token.number) abandoned net e.started js
      (λ o h. subst (AmongRanks o.ranks) (sym js-is) (ranks_removed o.ranks (pending_jobs e.jobs) k h.same_ranks))
      (λ o h. abandon_step k at o h net net-is js js-is)
