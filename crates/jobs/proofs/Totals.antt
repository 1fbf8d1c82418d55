-- The messages of jobs, as a sum over a list. Assumes nothing.
use Rattle.std.proofs.Common.{◌≡◌, List, [], ◌∷◌, ◌+◌, sym, refl, ap, ◌∙◌}
use Rattle.std.specs.List.{sum_by}
use Rattle.std.proofs.lemmas.List.Sums.{sum_by-cons}
use Rattle.schedule.specs.Collective.{messages_of}
use Rattle.jobs.specs.declared.job.Job.{Job}
use Rattle.jobs.specs.Tables.{messages_in}

module _ {E : Type 0} where
  pub summed : (js : List (Job E)) → messages_in js ≡ sum_by (λ j. messages_of j.schedule.collective j.schedule.ranks) js
  summed [] = refl
  summed (j ∷ js) = ap (λ n. messages_of j.schedule.collective j.schedule.ranks + n) (summed js) ∙ sym (sum_by-cons (λ i. messages_of i.schedule.collective i.schedule.ranks) j js)
