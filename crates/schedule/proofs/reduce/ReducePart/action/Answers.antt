use Rattle.std.proofs.Common.{◌≡◌, ◌<◌, Less, Equal, Greater, sym, ◌∙◌, arith}
use Rattle.std.proofs.lemmas.Cmp.{ranked}
use Rattle.schedule.proofs.reduce.ReducePart.action.Goals as goal
use Rattle.schedule.proofs.Trees.{in_tree, after_tree, past, delivery_known}

pub returns-in-Less : goal.returns-in-Less
returns-in-Less c =
    let l : c.args.index < c.tree_length-end.result = ranked _ _ Less (sym c.in-Less.is ∙ c.cmp.ensures) in
    c.tree_action.ensures ∙ in_tree _ c.args.self.root _ _ (omega arith)

pub returns-in-Equal : goal.returns-in-Equal
returns-in-Equal c =
    let m = c.args.self.member in
    let e : c.args.index ≡ c.tree_length-end.result = ranked _ _ Equal (sym c.in-Equal.is ∙ c.cmp.ensures) in
    after_tree m.ranks c.args.self.root m.rank _ c.delivery.ensures _ (omega arith)

pub returns-in-Greater : goal.returns-in-Greater
returns-in-Greater c =
    let m = c.args.self.member in
    let d = delivery_known c.args.self.root m.rank in
    let g : c.tree_length-end.result < c.args.index = ranked _ _ Greater (sym c.in-Greater.is ∙ c.cmp.ensures) in
    past m.ranks c.args.self.root m.rank d.0 d.1 _ (omega arith)
