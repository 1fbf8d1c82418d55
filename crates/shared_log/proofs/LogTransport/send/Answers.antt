use Rattle.std.proofs.Common.{rules}
use Rattle.std.proofs.Common.{sym, ap, ◌∙◌}
use Rattle.transport.specs.Network.{message, refused, fault_number}
use Rattle.transport.proofs.Replies.{after_refused}
use Rattle.shared_log.specs.Meaning.{log_meaning}
use Rattle.shared_log.proofs.Calls.{log_full, log_done, log_sent, log_sent_sound}
use Rattle.shared_log.proofs.LogTransport.send.Goals as goal

pub returns-then-self : goal.returns-then-self
returns-then-self c =
    let l = c.args.self.now in
    let pair = sym c.if-not-is_among.ensures in
    let e = log_full l c.args.pair.from c.args.pair.to c.args.tag c.args.words.now pair c.if-words-gt-MESSAGE_LIMIT.false c.if-self.true in
    record {
      answer = ap (λ f. refused (fault_number f)) c.full.ensures ∙ sym e;
      after = sym (after_refused (log_meaning l) c.args.pair.from c.args.pair.to (message c.args.tag c.args.words.now) _ e);
    }

pub returns : goal.returns
returns c = record { answer = search (rules, log_done); after = search (rules, log_sent) }

pub invariant_of-self : goal.invariant_of-self
invariant_of-self c = search (rules, log_sent_sound)
