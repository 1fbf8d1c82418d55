use Rattle.std.proofs.Common.{[], ◌∷◌, None, Some, fold, sym, ap, ◌∙◌, arith}
use Rattle.std.proofs.lemmas.Iterator.{YieldsList-from_slice}
use Rattle.std.proofs.lemmas.Iterator.Consumers.{fold_from_yields_List}
use Rattle.operation.specs.Text.{counts_join, text_join, measured}
use Rattle.operation.proofs.Measured.{byte_counts, joined_counts}
use Rattle.operation.proofs.text.join_bytes.Goals as goal

pub returns : goal.returns
returns c =
    let rest = c.in_ok-first.rest.now in
    ap Some (fold_from_yields_List _ (λ sum b. counts_join sum (byte_counts b)) _ _ c.fold.ensures.ran (YieldsList-from_slice rest (cc)) (λ a x b q k. grind arith))
    ∙ sym (joined_counts c.counts_of.result rest)
    ∙ ap (λ start. fold (λ sum b. text_join sum (measured (b ∷ []))) start rest) c.counts_of.ensures
    ∙ ap (λ bytes. fold (λ sum b. text_join sum (measured (b ∷ []))) None bytes) (sym c.in_ok-first.ensures.cases.0)
