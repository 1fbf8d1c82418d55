use Rattle.std.proofs.Common.{◌≡◌, ℕ, ◌+◌, ◌-◌, ◌*◌, List, length, drop, set, ap, ◌∙◌, arith}
use Rattle.std.proofs.lemmas.List.{length-take, length-drop}
use Rattle.mailbox.specs.Slots.{slot_of, slots_of}
use Rattle.mailbox.proofs.Words.{slots_written}
use Rattle.mailbox.proofs.write_slot.Goals as goal

pub returns : goal.returns
returns c =
    let k = c.args.place in
    let ws = c.args.row.now in
    let four : length c.copy_from_slice.new.self ≡ 4 = omega (arith, c.copy_from_slice.ensures.len, length-take (4 * (k + 1) - 4 * k) (drop (4 * k) ws), length-drop (4 * k) ws, c.requires.0) in
    slots_written k ws c.copy_from_slice.new.self c.requires.0 four
    ∙ ap (λ (l : List ℕ). set (slots_of c.args.row.now) c.args.place (slot_of l)) c.copy_from_slice.ensures.after
    ∙ ap (set (slots_of ws) k) c.words.ensures
