use Rattle.std.proofs.Common.{◌≡◌, ◌+◌, ◌-◌, ◌<◌, drop, Ok, sym, ap, ◌∙◌, arith}
use Rattle.transport.specs.Network.{carrying, carry_reply, after_carry, some_moved}
use Rattle.transport.specs.Many.{carried_all}
use Rattle.transport.proofs.Many.{carried_reply, carried_one}
use Rattle.segmented.specs.Segments.{pieces}
use Rattle.segmented.proofs.Coding.{pieces_some}
use Rattle.segmented.proofs.Steps.{refused_moved, moved_none, carried_out, none_moved}
use Rattle.segmented.proofs.carry_segments.Goals as goal

pub returns-in_err-carry : goal.returns-in_err-carry
returns-in_err-carry g c =
    let t = g.T.Transport in
    let n = t.meaning c.args.below.now in
    refused_moved _ _
    (c.in_err-carry.ensures.answer
    ∙ ap (λ m. carry_reply m c.args.pair.from c.args.pair.to) c.loop.invariant.0
    ∙ carried_reply n c.args.pair.from c.args.pair.to c.loop.counter c.requires.pair)

pub returns-then-not-branch : goal.returns-then-not-branch
returns-then-not-branch g c =
    let t = g.T.Transport in
    let n = t.meaning c.args.below.now in
    let all : c.pieces_over-end.result ≡ pieces t.most = c.pieces_over-end.ensures.value ∙ ap pieces c.limit.ensures in
    let more : c.loop.counter < pieces t.most = omega (arith, c.loop-test.true, all) in
    let none = moved_none _
    (ap (λ moved. carrying (Ok moved)) (sym c.if-not-branch.true)
    ∙ c.in_ok-carry.ensures.answer
    ∙ ap (λ m. carry_reply m c.args.pair.from c.args.pair.to) c.loop.invariant.0
    ∙ carried_reply n c.args.pair.from c.args.pair.to c.loop.counter c.requires.pair) in
    record {
      answer = none_moved n c.args.pair.from c.args.pair.to c.loop.counter none (pieces t.most) more;
      after =
          c.carry.ensures.after
          ∙ ap (λ m. after_carry m c.args.pair.from c.args.pair.to) c.loop.invariant.0
          ∙ carried_one n c.args.pair.from c.args.pair.to c.loop.counter c.requires.pair
          ∙ carried_out n c.args.pair.from c.args.pair.to c.loop.counter none (pieces t.most) more;
    }

pub loop-preserved : goal.loop-preserved
loop-preserved g c =
    let t = g.T.Transport in
    let n = t.meaning c.args.below.now in
    let k : (c.loop.counter + 1) - 1 ≡ c.loop.counter = omega arith in (
      c.carry.ensures.after
          ∙ ap (λ m. after_carry m c.args.pair.from c.args.pair.to) c.loop.invariant.0
          ∙ carried_one n c.args.pair.from c.args.pair.to c.loop.counter c.requires.pair,
      (λ _.
          ap (λ moved. carrying (Ok moved)) (sym c.if-not-branch.false)
          ∙ c.in_ok-carry.ensures.answer
          ∙ ap (λ m. carry_reply m c.args.pair.from c.args.pair.to) c.loop.invariant.0
          ∙ carried_reply n c.args.pair.from c.args.pair.to c.loop.counter c.requires.pair
          ∙ ap (λ j. some_moved (drop j (n.under c.args.pair.from c.args.pair.to))) (sym k)),
    )

pub returns : goal.returns
returns g c =
    let t = g.T.Transport in
    let n = t.meaning c.args.below.now in
    let first : c.loop.counter ≡ pieces c.limit.result = omega (arith, c.loop-test.false, c.loop.auto.counter-end, c.pieces_over-end.ensures.value) in
    let all : c.loop.counter ≡ pieces t.most = first ∙ ap pieces c.limit.ensures in
    let some : 0 < c.loop.counter = omega (arith, pieces_some t.most c.requires.some, all) in
    record {
      answer = c.loop.invariant.1 some ∙ ap (λ k. some_moved (drop (k - 1) (n.under c.args.pair.from c.args.pair.to))) all;
      after = c.loop.invariant.0 ∙ ap (carried_all n c.args.pair.from c.args.pair.to) all;
    }
