-- What the fields of an engine come to, whatever calls led to them.
use Rattle.std.specs.Prelude.{◌≡◌, ℕ, Bool, List, map, ◌==◌}
use Rattle.std.specs.List.{AllByRecursion}
use Rattle.machine.specs.Operation.{Meaning}
use Rattle.machine.specs.Network.{Network, waiting_in_all}
use Rattle.machine.specs.Plain.{Plain}
use Rattle.machine.specs.Sound.{Good}
use Rattle.jobs.specs.declared.job.Job.{Job}
use Rattle.jobs.specs.Tables.{job_of}

-- the plain machine with these pending jobs
abbrev pub with_jobs : {E : Type 0} → ℕ → Meaning E → (origin now : Network) → ℕ → List (Job E) → Plain E
with_jobs name m origin net started jobs = record { name = name; meaning = m; origin = origin; now = net; started = started; jobs = map job_of jobs }

-- every schedule is for that many ranks
abbrev pub AmongRanks : {E : Type 0} → ℕ → List (Job E) → Type 0
AmongRanks p jobs = AllByRecursion (λ j. j.schedule.ranks ≡ p) jobs

module _ {E : Type 0} (name : ℕ) (m : Meaning E) (net : Network) (started : ℕ) (clean : Bool) (jobs : List (Job E)) where
  -- the engine may have been made with that network
  pub record FieldsStand (origin : Network) : Type 0 where
    pub good : Good (with_jobs name m origin net started jobs)
    pub clean_told : clean ≡ (waiting_in_all origin == 0)
    pub same_ranks : AmongRanks origin.ranks jobs

  -- with some network
  pub record Sound : Type 0 where
    pub origin : Network
    pub stands : FieldsStand origin
