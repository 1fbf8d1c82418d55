use Rattle.std.proofs.Common.{length, ap, ◌∙◌}
use Rattle.std.proofs.lemmas.Result.{err_from_is_err_and}
use Rattle.transport.specs.Network.{taking}
use Rattle.group.proofs.Calls.{bad_pair, refused_take, unwritten, untaken, found_take, found_words, left_take}
use Rattle.group.proofs.GroupTransport.take.Goals as goal

pub returns-in_err-below : goal.returns-in_err-below
returns-in_err-below g c =
    let t = g.T.Transport in
    let l = c.args.self.now in
    let list = l.members.items in
    let n = t.meaning l.below in
    let k = c.in_err-below.ensures in
    let p = err_from_is_err_and c.from_residual.result c.from_residual.ensures.1 in
    let r = bad_pair c.from_residual.result p.0 c.in_err-below.field-0.0 p.1 p.2 k.fault in
    record {
      answer = ap taking r ∙ refused_take t.most (length list) list n c.args.pair.from c.args.pair.to k.bad c.args.tag c.args.buffer.now;
      words = unwritten t.most (length list) list n c.args.pair.from c.args.pair.to k.bad c.args.tag c.args.buffer.now;
      after = untaken t.most (length list) list n c.args.pair.from c.args.pair.to k.bad c.args.tag c.args.buffer.now;
    }

pub returns : goal.returns
returns g c =
    let t = g.T.Transport in
    let l = c.args.self.now in
    let list = l.members.items in
    let n = t.meaning l.below in
    let k = c.in_ok-below.ensures in
    record {
      answer = c.take.ensures.answer ∙ found_take t.most (length list) list n (g.met.T.Transport.shaped l.below) l.grouping c.args.pair.from c.args.pair.to k.good c.in_ok-below.below.from c.in_ok-below.below.to k.ok c.args.tag (length c.args.buffer.now);
      words = c.take.ensures.words ∙ found_words t.most (length list) list n (g.met.T.Transport.shaped l.below) l.grouping c.args.pair.from c.args.pair.to k.good c.in_ok-below.below.from c.in_ok-below.below.to k.ok c.args.tag c.args.buffer.now;
      after = (left_take t.most (length list) list n (g.met.T.Transport.shaped l.below) l.grouping c.args.pair.from c.args.pair.to k.good c.in_ok-below.below.from c.in_ok-below.below.to k.ok c.args.tag (length c.args.buffer.now) (t.meaning c.take.new.self) c.take.ensures.after).0;
    }

pub invariant_of-self : goal.invariant_of-self
invariant_of-self g c =
    let t = g.T.Transport in
    let l = c.args.self.now in
    let list = l.members.items in
    let n = t.meaning l.below in
    let k = c.in_ok-below.ensures in
    record { grouping = (left_take t.most (length list) list n (g.met.T.Transport.shaped l.below) l.grouping c.args.pair.from c.args.pair.to k.good c.in_ok-below.below.from c.in_ok-below.below.to k.ok c.args.tag (length c.args.buffer.now) (t.meaning c.take.new.self) c.take.ensures.after).1 }
