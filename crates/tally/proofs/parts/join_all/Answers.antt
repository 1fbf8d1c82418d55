use Rattle.std.proofs.Common.{rules, fold, ap, ◌∙◌}
use Rattle.std.proofs.lemmas.Iterator.{YieldsList-from_slice}
use Rattle.std.proofs.lemmas.Iterator.Consumers.{fold_from_yields_List}
use Rattle.operation.specs.Text.{text_join}
use Rattle.tally.proofs.parts.join_all.Goals as goal

pub returns : goal.returns
returns c =
    fold_from_yields_List _ text_join _ _ c.fold.ensures.ran (YieldsList-from_slice c.args.parts.now (cc)) (λ a x b q k. search rules)
    ∙ ap (λ e. fold text_join e c.args.parts.now) c.unit.ensures
