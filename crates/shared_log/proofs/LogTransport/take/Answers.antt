use Rattle.std.proofs.Common.{rules}
use Rattle.std.proofs.Common.{sym, ap, ◌∙◌}
use Rattle.transport.proofs.Replies.{after_take_none, take_found, after_take_found, taken_found}
use Rattle.transport.specs.Network.{value, word_count, written}
use Rattle.shared_log.proofs.Calls.{none_arrived, log_good_in, log_oldest_in, log_after_take, log_take_sound}
use Rattle.shared_log.specs.Meaning.{live, log_meaning}
use Rattle.shared_log.proofs.LogTransport.take.Goals as goal

pub read-length-requires : goal.read-length-requires
read-length-requires c =
    let l = c.args.self.now in
    let g = log_good_in l c.args.pair.from c.args.pair.to c.args.tag c.in-Some.at c.in-Some.ensures in
    record { brief = g.brief; space = c.if-buffer-lt-MESSAGE_LIMIT.false }

pub returns-in-Some : goal.returns-in-Some
returns-in-Some c =
    let l = c.args.self.now in
    let n = log_meaning l in
    let e = sym c.if-not-is_among.ensures in
    let h = c.if-buffer-lt-MESSAGE_LIMIT.false in
    let o = log_oldest_in l c.args.pair.from c.args.pair.to c.args.tag c.in-Some.at c.in-Some.ensures in
    let k = c.remove-self.ensures in
    record {
      answer = ap value c.read-length.ensures.count ∙ sym (take_found n c.args.pair.from c.args.pair.to c.args.tag c.args.buffer.now e h ∙ ap word_count o);
      words = c.read-length.ensures.words ∙ sym (taken_found n c.args.pair.from c.args.pair.to c.args.tag c.args.buffer.now e h ∙ ap (λ m. written m c.args.buffer.now) o);
      after =
          log_after_take l c.args.pair.from c.args.pair.to c.args.tag c.in-Some.at c.in-Some.ensures c.remove-self.result c.remove-self.new.records k.left c.remove-self.auto.records k.row
          ∙ sym (after_take_found n c.args.pair.from c.args.pair.to c.args.tag c.args.buffer.now e h);
    }

pub invariant_of-self : goal.invariant_of-self
invariant_of-self c = search (rules, log_take_sound)

pub returns-in-None-clause-after : goal.returns-in-None-clause-after
returns-in-None-clause-after c =
    let l = c.args.self.now in
    let o = none_arrived c.args.pair.from c.args.pair.to c.args.tag (live l) c.in-None.ensures in
    sym (after_take_none (log_meaning l) c.args.pair.from c.args.pair.to c.args.tag c.args.buffer.now (sym c.if-not-is_among.ensures) c.if-buffer-lt-MESSAGE_LIMIT.false o)
