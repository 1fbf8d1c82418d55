use Rattle.std.proofs.Common.{◌≡◌, ◌+◌, sym, ap, ◌∙◌, ap₂, arith}
use Rattle.engine_parts.specs.Clearing.{cleared, row_below, rows_below}
use Rattle.engine_parts.proofs.Clears.{cleared_none, cleared_join, cleared_all, rows_none, rows_next, rows_apart}
use Rattle.engine_parts.proofs.clearing.clear_job.Goals as goal

pub loop-from-init : goal.loop-from-init
loop-from-init g c =
    sym (cleared_none c.args.number (g.T.Transport.meaning c.args.transport.now) (rows_below 0 c.ranks-ranks.result) (rows_none c.ranks-ranks.result))

pub loop-from-preserved : goal.loop-from-preserved
loop-from-preserved g c =
    let from = c.loop-from.from in
    let ranks = c.ranks-ranks.result in
    c.clear_row.ensures
    ∙ ap (cleared c.args.number (row_below from ranks)) c.loop-from.invariant
    ∙ cleared_join c.args.number (g.T.Transport.meaning c.args.transport.now) (rows_below from ranks) (row_below from ranks) (rows_below (from + 1) ranks) (rows_next from ranks) (rows_apart from ranks)

pub returns : goal.returns
returns g c =
    let n = g.T.Transport.meaning c.args.transport.now in
    let shape = g.met.T.Transport.shaped c.args.transport.now in
    let all : c.loop-from.from ≡ c.ranks-ranks.result = omega (arith, c.loop-from.auto.from-end, c.loop-from-test.false) in
    c.loop-from.invariant
    ∙ ap₂ (λ p q. cleared c.args.number (rows_below p q) n) (all ∙ c.ranks-ranks.ensures) c.ranks-ranks.ensures
    ∙ cleared_all c.args.number n _ shape
