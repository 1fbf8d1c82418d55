use Rattle.std.proofs.Common.{length, ap, ◌∙◌}
use Rattle.transport.specs.Network.{take_reply, taken_words, after_take, after_carry}
use Rattle.transport_tests.proofs.Round.{back_answer, back_words, back_after}
use Rattle.transport_tests.proofs.there_and_back.Goals as goal

pub returns : goal.returns
returns g c =
    let t = g.T.Transport in
    let n = t.meaning c.args.transport.now in
    let shape = g.met.T.Transport.shaped c.args.transport.now in
    let a = c.args.pair.from in
    let b = c.args.pair.to in
    let tag = c.args.tag in
    let ws = c.args.words.now in
    let buffer = c.args.buffer.now in
    let before = c.carry.ensures.after ∙ ap (λ x. after_carry x c.args.pair.from c.args.pair.to) c.send.ensures.after in
    let k = c.take.ensures in
    record {
      answer = λ idle ok wide. k.answer ∙ ap (λ x. take_reply x c.args.pair.from c.args.pair.to c.args.tag (length c.args.buffer.now)) before ∙ back_answer t.most n shape a b tag ws buffer idle ok wide;
      words = λ idle ok wide. k.words ∙ ap (λ x. taken_words x c.args.pair.from c.args.pair.to c.args.tag c.args.buffer.now) before ∙ back_words t.most n shape a b tag ws buffer idle ok wide;
      after = λ idle ok wide. k.after ∙ ap (λ x. after_take x c.args.pair.from c.args.pair.to c.args.tag (length c.args.buffer.now)) before ∙ back_after t.most n shape a b tag ws buffer idle ok wide;
    }
