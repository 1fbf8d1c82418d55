use Rattle.std.proofs.Common.{refl}
use Rattle.group.proofs.Layer.{members_grouping, members_all, members_none}
use Rattle.group.proofs.Group.new.Goals as goal

pub invariant_of-result : goal.invariant_of-result
invariant_of-result g c =
    let t = g.T.Transport in
    let b = c.args.below in
    record { grouping = members_grouping t.most c.args.ranks.now (t.meaning b) (g.met.T.Transport.shaped b) c.new_members-members.result.items c.new_members-members.ensures.some }

pub returns : goal.returns
returns g c =
    let t = g.T.Transport in
    let n = t.meaning c.args.below in
    let shape = g.met.T.Transport.shaped c.args.below in
    let list = c.args.ranks.now in
    let items = c.new_members-members.result.items in
    let k = c.new_members-members.ensures in
    record {
      held = refl;
      good = λ good idle. members_all t.most list n shape items k.some good idle (k.all good idle);
      bad = λ no. members_none t.most list n shape items k.some (λ l. no l.0);
      busy = λ no. members_none t.most list n shape items k.some (λ l. no l.1);
    }
