use Rattle.std.proofs.Common.{◌≡◌, max, sym, ap, ◌∙◌, ap₂, add-one, arith, rules}
use Rattle.ranks.specs.Ranks.{greatest_below}
use Rattle.jobs.specs.Tables.{arrival_at}
use Rattle.jobs.proofs.job.Job.rounds.Goals as goal

pub loop-rank-preserved : goal.loop-rank-preserved
loop-rank-preserved g c = λ d.
    let greater : c.max-rounds.result ≡ max c.loop-rank.rounds c.state.result.arrival = search rules in
    greater
    ∙ ap₂ max (c.loop-rank.invariant d) (ap (λ s. s.arrival) (c.state.ensures d))
    ∙ sym (ap (greatest_below (arrival_at c.args.self.now d)) (add-one c.loop-rank.rank))

pub returns : goal.returns
returns g c d =
    let j = c.args.self.now in
    let last : c.loop-rank.rank ≡ j.schedule.ranks = omega (arith, c.ranks-rank-end.ensures, c.loop-rank.auto.rank-end, c.loop-rank-test.false) in
    c.loop-rank.invariant d ∙ ap (greatest_below (arrival_at j d)) last
