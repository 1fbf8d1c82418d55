use Rattle.std.proofs.Common.{sym, arith}
use Rattle.schedule.proofs.exchange.ExchangePart.action.Goals as goal
use Rattle.schedule.proofs.Exchanges.{exchange_past, exchange_send, exchange_take}

pub returns-then-k-floor_log2 : goal.returns-then-k-floor_log2
returns-then-k-floor_log2 c = exchange_past _ _ _ (omega arith)

pub returns-then-index-eq0 : goal.returns-then-index-eq0
returns-then-index-eq0 c = exchange_send _ _ _ _ (omega arith) (omega arith) c.partner.ensures

pub returns-else-index-eq0 : goal.returns-else-index-eq0
returns-else-index-eq0 c = exchange_take _ _ _ _ _ (omega arith) (omega arith) c.partner-else-index-eq0.ensures (sym c.side.ensures)
