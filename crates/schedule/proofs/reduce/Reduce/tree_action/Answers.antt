use Rattle.std.proofs.Common.{arith}
use Rattle.schedule.proofs.reduce.Reduce.tree_action.Goals as goal
use Rattle.schedule.proofs.Trees.{tree_take, tree_send, past_tree}

pub returns-then-index-takes : goal.returns-then-index-takes
returns-then-index-takes c =
    let m = c.args.self.member in
    tree_take m.ranks m.rank m.within _ _ (omega arith) c.above.ensures.is

pub returns-then-self-gt0 : goal.returns-then-self-gt0
returns-then-self-gt0 c =
    let m = c.args.self.member in
    let b = c.lowest_bit-k.ensures in
    tree_send m.ranks m.rank m.within _ _ _ (omega arith) b.below (b.here (omega arith)) c.below.ensures.is

pub returns-else-index-takes-2 : goal.returns-else-index-takes-2
returns-else-index-takes-2 c =
    let m = c.args.self.member in
    past_tree m.ranks m.rank m.within _ (omega arith) (λ q. omega arith)
