use Rattle.std.proofs.Common.{◌≡◌, ℕ, cond, sym, ap, ◌∙◌, add-one, arith}
use Rattle.jobs.specs.Tables.{idle_below, idle_at}
use Rattle.jobs.proofs.job.Job.idle_ranks.Goals as goal
use Rattle.jobs.proofs.job.Job.idle_ranks.Goals.{then-is_idle, else-is_idle}

pub loop-rank-preserved : goal.loop-rank-preserved
loop-rank-preserved g c =
    let j = c.args.self.now in
    let r = c.loop-rank.rank in (
      (λ d.
          let more = ap (idle_below j d) (add-one r) in
          elim c.if-is_idle.branch [
            | then-is_idle w ↦
                let one : ◌≡◌ {A = ℕ} (cond (idle_at j d r) 1 0) 1 = ap (λ t. cond t 1 0) (sym (c.is_idle.ensures d) ∙ w.if-is_idle.true) in
                omega (arith, w.idle-is, c.loop-rank.invariant.0 d, more)
            | else-is_idle w ↦
                let none : ◌≡◌ {A = ℕ} (cond (idle_at j d r) 1 0) 0 = ap (λ t. cond t 1 0) (sym (c.is_idle.ensures d) ∙ w.if-is_idle.false) in
                omega (arith, w.idle-is, c.loop-rank.invariant.0 d, more)
          ]),
      elim c.if-is_idle.branch [
        | then-is_idle w ↦ omega (arith, w.idle-is, c.loop-rank.invariant.1)
        | else-is_idle w ↦ omega (arith, w.idle-is, c.loop-rank.invariant.1)
      ],
    )

pub returns : goal.returns
returns g c d =
    let j = c.args.self.now in
    let last : c.loop-rank.rank ≡ j.schedule.ranks = omega (arith, c.ranks-ranks.ensures, c.loop-rank.auto.rank-end, c.loop-rank-test.false) in
    c.loop-rank.invariant.0 d ∙ ap (idle_below j d) last
