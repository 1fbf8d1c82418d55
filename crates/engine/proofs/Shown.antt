-- The place of a token's job, and the job that the plain machine shows.
use Rattle.std.proofs.Common.{◌≡◌, ℕ, zero, suc, ◌+◌, ◌-◌, ◌<◌, ◌≤◌, eqb, List, [], ◌∷◌, map, length, get_or, Some, None, Option, refl, inl, inr, arith}
use mathlib.Core.Option.{some, none}
use Rattle.std.proofs.lemmas.Bool.{cases_Bool, eqb-true}
use Rattle.operation.specs.declared.Operation.{Ghosts as Operation}
use Rattle.transport.specs.declared.Transport.{Ghosts as Transport}
use Rattle.machine.specs.Network.{Network}
use Rattle.machine.specs.Plain.{numbered, shown}
use Rattle.machine.proofs.Jobs.{found}
use Rattle.machine.proofs.Keep.{width_fits, some_pending}
use Rattle.machine.proofs.Places.{number_small}
use Rattle.jobs.specs.declared.job.Job.{Job}
use Rattle.jobs.specs.Tables.{job_of, pending_jobs, place_from, place}
use Rattle.engine.specs.declared.state.Engine.{Engine}
use Rattle.engine.specs.declared.token.Token.{Token}
use Rattle.engine.specs.Fields.{AmongRanks}
use Rattle.engine.specs.Abs.{plain, Stands, place_of}

-- some element of a list that is not empty
pub pick : {A : Type 0} (xs : List A) (k : ℕ) → k < length xs → A
pick [] k h = absurd (omega arith)
pick (x ∷ xs) k h = x

module _ {E : Type 0} where
  pub record Placed (n k : ℕ) (js : List (Job E)) : Type 0 where
    pub within : k < length js
    pub numbered_is : (d : Job E) → numbered n (map job_of js) ≡ some (job_of (get_or js k d))
    pub number_is : (d : Job E) → (get_or js k d).number ≡ n

  placed_from : (i n k : ℕ) (js : List (Job E)) → place_from i n js ≡ Some k → (i ≤ k) × Placed n (k - i) js
  placed_from i n k [] e = let z : ◌≡◌ {A = ℕ} 0 1 = cc in absurd (omega arith)
  placed_from i n k (j ∷ js) e =
      elim (cases_Bool (eqb j.number n)) [
        | inl t ↦
            let f : Some i ≡ Some k = rw t at e in
            let same : i ≡ k = cc in
            let none : k - i ≡ 0 = omega arith in
            (omega arith, rw none (record { within = omega arith; numbered_is = λ d. rw t; number_is = λ d. eqb-true j.number n t }))
        | inr t ↦
            let more = placed_from (i + 1) n k js (rw t at e) in
            let one : k - i ≡ suc (k - (i + 1)) = omega (arith, more.0) in (
              omega (arith, more.0),
              rw one (record { within = omega (arith, more.1.within); numbered_is = λ d. rw t (more.1.numbered_is d); number_is = λ d. more.1.number_is d }),
            )
      ]

  pub placed : (n k : ℕ) (js : List (Job E)) → place n js ≡ Some k → Placed n k js
  placed n k js e = let same : k - 0 ≡ k = omega arith in rw same at (placed_from 0 n k js e).1

  none_from : (i n : ℕ) (js : List (Job E)) → place_from i n js ≡ None → numbered n (map job_of js) ≡ none
  none_from i n [] e = refl
  none_from i n (j ∷ js) e =
      elim (cases_Bool (eqb j.number n)) [
        | inl t ↦
            let f : ◌≡◌ {A = Option ℕ} (Some i) None = rw t at e in
            let z : ◌≡◌ {A = ℕ} 0 1 = cc in
            absurd (omega arith)
        | inr t ↦ rw t (none_from (i + 1) n js (rw t at e))
      ]

  pub ranks_at : (p : ℕ) (js : List (Job E)) (k : ℕ) (d : Job E) → AmongRanks p js → k < length js → (get_or js k d).schedule.ranks ≡ p
  ranks_at p [] k d h lt = absurd (omega arith)
  ranks_at p (j ∷ js) zero d h lt = h.0
  ranks_at p (j ∷ js) (suc k) d h lt = ranks_at p js k d h.1 (omega arith)

module _ {O T E : Type 0} {op : Operation O E} {t : Transport T} (e : Engine O T E op t) (token : Token) where
  -- no place: nothing is shown
  pub not_shown : place_of e token ≡ None → (origin : Network) → shown (plain origin e) token.name token.number ≡ none
  not_shown absent origin =
      elim (cases_Bool (eqb token.name e.name)) [
        | inl f ↦ rw f (none_from 0 token.number (pending_jobs e.jobs) (rw f at absent))
        | inr f ↦ rw f
      ]

  pub record Seen (k : ℕ) : Type 0 where
    pub at : Placed token.number k (pending_jobs e.jobs)
    pub shown_is : (origin : Network) (d : Job E) → shown (plain origin e) token.name token.number ≡ some (job_of (get_or (pending_jobs e.jobs) k d))

  pub seen : (k : ℕ) → place_of e token ≡ Some k → Seen k
  seen k shown =
      elim (cases_Bool (eqb token.name e.name)) [
        | inl f ↦
            let h = placed token.number k (pending_jobs e.jobs) (rw f at shown) in
            record { at = h; shown_is = λ origin d. rw f (h.numbered_is d) }
        | inr f ↦
            let g : ◌≡◌ {A = Option ℕ} None (Some k) = rw f at shown in
            let z : ◌≡◌ {A = ℕ} 0 1 = cc in
            absurd (omega arith)
      ]

  -- a token shows a place of a job
  pub place_within : (k : ℕ) → place_of e token ≡ Some k → k < length (pending_jobs e.jobs)
  place_within k at = (seen k at).at.within

  module _ (k : ℕ) (at : place_of e token ≡ Some k) (origin : Network) (h : Stands origin e) where
    numbered_is : numbered token.number (map job_of (pending_jobs e.jobs)) ≡ some (job_of (get_or (pending_jobs e.jobs) k (pick (pending_jobs e.jobs) k (place_within k at))))
    numbered_is = (seen k at).at.numbered_is _

    pub number_low : token.number ≤ 65535
    number_low = number_small (plain origin e) h.good.sound token.number _ numbered_is

    pub narrow : (op.meaning e.operation).width ≤ 6
    narrow = width_fits (plain origin e) (h.good.sound.fits (some_pending token.number (map job_of (pending_jobs e.jobs)) (found token.number (map job_of (pending_jobs e.jobs)) _ numbered_is).among))
