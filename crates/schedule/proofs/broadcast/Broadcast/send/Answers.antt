use Rattle.std.proofs.Common.{ℕ, ◌+◌, ◌%◌, ap, ◌∙◌, arith}
use Rattle.schedule.proofs.broadcast.Broadcast.send.Goals as goal
use Rattle.schedule.proofs.Spreads.{spread_at, spread_past}

pub returns-then-index-sends : goal.returns-then-index-sends
returns-then-index-sends c =
    spread_at _ _ _ c.args.self.number.within _ _ _ (omega arith) (omega arith)
    (c.rank_at.ensures ∙ ap (λ (x : ℕ). (x + c.args.self.root) % c.args.self.number.ranks) c.above.ensures.is)

pub returns-else-index-sends : goal.returns-else-index-sends
returns-else-index-sends c = spread_past _ _ _ c.args.self.number.within _ (omega arith)
