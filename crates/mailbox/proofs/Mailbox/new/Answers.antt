use Rattle.std.proofs.Common.{◌≡◌, ℕ, ◌-◌, ◌*◌, List, length, take, replicate, sym, refl, ap, ◌∙◌, subst, arith}
use Rattle.std.proofs.lemmas.List.{length-take}
use Rattle.mailbox.specs.Matrix.{mailbox_network, SoundBox}
use Rattle.mailbox.proofs.Calls.{usable_parts, closed_is, closed_sound, fresh_is, fresh_sound}
use Rattle.mailbox.proofs.Mailbox.new.Goals as goal

pub returns-then-not-is_usable : goal.returns-then-not-is_usable
returns-then-not-is_usable c =
    let ws = c.args.words.now in
    let bad = sym c.if-not-is_usable.ensures in
    record { meaning = closed_is ws ∙ rw bad refl; written = rw bad refl }

pub returns : goal.returns
returns c =
    let p = c.args.ranks in
    let d = c.args.depth in
    let ws = c.args.words.now in
    let good = sym c.if-not-is_usable.ensures in
    let parts = usable_parts p d (length ws) good in
    let size : length (take (4 * c.slot_count-needed.result - 0) c.args.words.now) ≡ 4 * (c.args.ranks * c.args.ranks * c.args.depth) =
    omega (arith, length-take (4 * c.slot_count-needed.result - 0) ws, c.slot_count-needed.ensures, parts.3) in
    let zeros : c.fill.new.self ≡ replicate (4 * (c.args.ranks * c.args.ranks * c.args.depth)) 0 =
    c.fill.ensures.after (λ y e. e) ∙ ap (λ (k : ℕ). replicate k 0) size in
    record {
      meaning = ap (mailbox_network p d) zeros ∙ fresh_is p d ∙ rw good refl;
      written = zeros ∙ rw good refl;
    }

pub invariant_of-result : goal.invariant_of-result
invariant_of-result c = record { sound = closed_sound c.args.words.now }

pub invariant_of-result-2 : goal.invariant_of-result-2
invariant_of-result-2 c =
    let p = c.args.ranks in
    let d = c.args.depth in
    let ws = c.args.words.now in
    let good = sym c.if-not-is_usable.ensures in
    let parts = usable_parts p d (length ws) good in
    let size : length (take (4 * c.slot_count-needed.result - 0) c.args.words.now) ≡ 4 * (c.args.ranks * c.args.ranks * c.args.depth) =
    omega (arith, length-take (4 * c.slot_count-needed.result - 0) ws, c.slot_count-needed.ensures, parts.3) in
    let zeros : c.fill.new.self ≡ replicate (4 * (c.args.ranks * c.args.ranks * c.args.depth)) 0 =
    c.fill.ensures.after (λ y e. e) ∙ ap (λ (k : ℕ). replicate k 0) size in
    record { sound = subst (λ (l : List ℕ). SoundBox c.args.ranks c.args.depth 0 l) (sym zeros) (fresh_sound p d parts.0 parts.1 parts.2) }
