use Rattle.std.proofs.Common.{length, ap, ◌∙◌}
use Rattle.std.proofs.lemmas.Result.{err_from_is_err_and}
use Rattle.transport.specs.Network.{counting}
use Rattle.group.proofs.Calls.{bad_pair, refused_between, found_between}
use Rattle.group.proofs.GroupTransport.waiting_between.Goals as goal

pub returns-in_err-pair_below : goal.returns-in_err-pair_below
returns-in_err-pair_below g c =
    let t = g.T.Transport in
    let l = c.args.self.now in
    let list = l.members.items in
    let n = t.meaning l.below in
    let k = c.in_err-pair_below.ensures in
    let p = err_from_is_err_and c.from_residual.result c.from_residual.ensures.1 in
    let r = bad_pair c.from_residual.result p.0 c.in_err-pair_below.field-0.0 p.1 p.2 k.fault in
    ap counting r ∙ refused_between t.most (length list) list n c.args.pair.from c.args.pair.to k.bad

pub returns : goal.returns
returns g c =
    let t = g.T.Transport in
    let l = c.args.self.now in
    let list = l.members.items in
    let n = t.meaning l.below in
    let k = c.in_ok-pair_below.ensures in
    c.waiting_between.ensures ∙ found_between t.most (length list) list n (g.met.T.Transport.shaped l.below) l.grouping c.args.pair.from c.args.pair.to k.good c.in_ok-pair_below.field-0.from c.in_ok-pair_below.field-0.to k.ok
