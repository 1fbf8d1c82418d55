use Rattle.std.proofs.Common.{◌≡◌, ℕ, ◌-◌, length, take, drop, replicate, ap, ◌∙◌, arith}
use Rattle.std.proofs.lemmas.List.{length-take, length-drop}
use Rattle.mailbox.specs.Slots.{slots_of}
use Rattle.mailbox.proofs.Words.{row_closed, slots_taken}
use Rattle.mailbox.proofs.remove.Goals as goal

pub returns-clause-row : goal.returns-clause-row
returns-clause-row c =
    let k = c.args.place in
    let ws = c.args.row.now in
    let xs = c.close_gap.new.row in
    let last : length (take (length c.close_gap.new.row - (length c.close_gap.new.row - 4)) (drop (length c.close_gap.new.row - 4) c.close_gap.new.row)) ≡ 4 =
    omega (arith, length-take (length xs - (length xs - 4)) (drop (length xs - 4) xs), length-drop (length xs - 4) xs, c.close_gap.auto.row, c.requires.place.0) in
    let zeros : c.fill.new.self ≡ replicate 4 0 = c.fill.ensures.after (λ y e. e) ∙ ap (λ (n : ℕ). replicate n 0) last in
    ap slots_of (row_closed k ws xs c.fill.new.self c.close_gap.ensures c.close_gap.auto.row zeros)
    ∙ slots_taken k ws c.requires.place.0 (length (slots_of ws)) c.requires.place.1
