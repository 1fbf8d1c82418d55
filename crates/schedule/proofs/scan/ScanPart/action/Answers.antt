use Rattle.std.proofs.Common.{◌∙◌, ap₂, arith}
use Rattle.std.specs.Option.{option_or}
use Rattle.schedule.proofs.scan.ScanPart.action.Goals as goal
use Rattle.schedule.proofs.Scans.{early_send, early_take, late}

pub returns-then-index-both : goal.returns-then-index-both
returns-then-index-both c =
    c.or.ensures ∙ ap₂ option_or c.send.ensures c.take.ensures ∙ late _ _ _ c.args.self.member.within _ c.min-both.result (omega arith) (omega arith)

pub returns-then-index-eq0 : goal.returns-then-index-eq0
returns-then-index-eq0 c =
    c.send-then-index-eq0.ensures ∙ early_send _ _ _ c.args.self.member.within _ c.min-both.result (omega arith) (omega arith) (omega arith)

pub returns-else-index-eq0 : goal.returns-else-index-eq0
returns-else-index-eq0 c =
    c.take-else-index-eq0.ensures ∙ early_take _ _ _ c.args.self.member.within _ c.min-both.result (omega arith) (omega arith) (λ e. omega arith)
