use Rattle.std.proofs.Common.{◌≡◌, ◌/◌, ◌-◌, length, map, take, drop, ap, ◌∙◌, arith}
use Rattle.std.specs.Simd.{first_chunks}
use Rattle.mailbox.specs.Slots.{slot_of}
use Rattle.mailbox.proofs.Words.{slots_cut}
use Rattle.mailbox.proofs.Calls.{row_is, row_length}
use Rattle.mailbox.proofs.Mailbox.row.Goals as goal

pub returns : goal.returns
returns c =
    let m = c.args.self.now in
    let b = c.bounds.result in
    let ws = take (c.bounds.result.end - c.bounds.result.start) (drop c.bounds.result.start c.args.self.now.words.now) in
    let long = row_length m c.args.pair.from c.args.pair.to c.requires b.start b.end c.bounds.ensures.start c.bounds.ensures.end in
    let count : length ws / 4 ≡ m.depth = omega (arith, long) in
    ap (map slot_of) (c.as_chunks.ensures.front ∙ ap (λ k. first_chunks 4 k ws) count)
    ∙ slots_cut m.depth ws long
    ∙ row_is m c.args.pair.from c.args.pair.to c.requires b.start b.end c.bounds.ensures.start c.bounds.ensures.end
