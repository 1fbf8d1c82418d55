use Rattle.std.proofs.Common.{length, ap, ◌∙◌}
use Rattle.std.proofs.lemmas.Result.{err_from_is_err_and}
use Rattle.transport.specs.Network.{message, sending}
use Rattle.group.proofs.Calls.{bad_pair, refused_send, unsent, found_send, left_send}
use Rattle.group.proofs.GroupTransport.send.Goals as goal

pub returns-in_err-below : goal.returns-in_err-below
returns-in_err-below g c =
    let t = g.T.Transport in
    let l = c.args.self.now in
    let list = l.members.items in
    let n = t.meaning l.below in
    let k = c.in_err-below.ensures in
    let p = err_from_is_err_and c.from_residual.result c.from_residual.ensures.1 in
    let r = bad_pair c.from_residual.result p.0 c.in_err-below.field-0.0 p.1 p.2 k.fault in
    record {
      answer = ap sending r ∙ refused_send t.most (length list) list n c.args.pair.from c.args.pair.to k.bad c.args.words.now;
      after = unsent t.most (length list) list n c.args.pair.from c.args.pair.to k.bad (message c.args.tag c.args.words.now);
    }

pub returns : goal.returns
returns g c =
    let t = g.T.Transport in
    let l = c.args.self.now in
    let list = l.members.items in
    let n = t.meaning l.below in
    let k = c.in_ok-below.ensures in
    record {
      answer = c.send.ensures.answer ∙ found_send t.most (length list) list n (g.met.T.Transport.shaped l.below) l.grouping c.args.pair.from c.args.pair.to k.good c.in_ok-below.below.from c.in_ok-below.below.to k.ok c.args.words.now;
      after = (left_send t.most (length list) list n (g.met.T.Transport.shaped l.below) l.grouping c.args.pair.from c.args.pair.to k.good c.in_ok-below.below.from c.in_ok-below.below.to k.ok (message c.args.tag c.args.words.now) (t.meaning c.send.new.self) c.send.ensures.after).0;
    }

pub invariant_of-self : goal.invariant_of-self
invariant_of-self g c =
    let t = g.T.Transport in
    let l = c.args.self.now in
    let list = l.members.items in
    let n = t.meaning l.below in
    let k = c.in_ok-below.ensures in
    record { grouping = (left_send t.most (length list) list n (g.met.T.Transport.shaped l.below) l.grouping c.args.pair.from c.args.pair.to k.good c.in_ok-below.below.from c.in_ok-below.below.to k.ok (message c.args.tag c.args.words.now) (t.meaning c.send.new.self) c.send.ensures.after).1 }
