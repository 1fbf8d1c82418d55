use Rattle.std.proofs.Common.{◌^◌, ◌<◌, sym, ◌∙◌, subst, rules}
use Rattle.std.proofs.lemmas.Iterator.{YieldsList-from_slice, YieldsList-from_map}
use Rattle.std.proofs.lemmas.Iterator.Consumers.{YieldsList-at, sum_by_from_yields_List, fits_by_from_yields_list}
use Rattle.schedule.specs.Collective.{messages_of}
use Rattle.jobs.specs.Tables.{pending_jobs}
use Rattle.jobs.proofs.Totals.{summed}
use Rattle.jobs.proofs.table.Table.messages.Goals as goal

pub sum-requires-clause-fits : goal.sum-requires-clause-fits
sum-requires-clause-fits g c =
    let js = pending_jobs c.args.self.now in
    fits_by_from_yields_list (λ j. messages_of j.schedule.collective j.schedule.ranks) js c.map.result (2 ^ 64)
    (YieldsList-from_map _ (λ j. messages_of j.schedule.collective j.schedule.ranks) (YieldsList-at c.map.ensures.source (YieldsList-from_slice js (cc))) c.map.ensures.closure (λ x r q k. search rules))
    (subst (λ n. n < 2 ^ 64) (summed js) c.requires)

pub returns : goal.returns
returns g c =
    let js = pending_jobs c.args.self.now in
    sum_by_from_yields_List (λ j. messages_of j.schedule.collective j.schedule.ranks) js c.map.result c.sum.result c.sum.ensures.ran
    (YieldsList-from_map _ (λ j. messages_of j.schedule.collective j.schedule.ranks) (YieldsList-at c.map.ensures.source (YieldsList-from_slice js (cc))) c.map.ensures.closure (λ x r q k. search rules))
    ∙ sym (summed js)
