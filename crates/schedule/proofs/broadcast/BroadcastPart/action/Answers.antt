use Rattle.std.proofs.Common.{List, Some, sym, ap, ◌∙◌, arith}
use Rattle.std.specs.List.{slice_get}
use Rattle.programme.specs.declared.Action.{Action}
use Rattle.schedule.proofs.broadcast.BroadcastPart.action.Goals as goal
use Rattle.schedule.proofs.Spreads.{at_root, takes_first, then_sends}

pub returns-then-self-eq0 : goal.returns-then-self-eq0
returns-then-self-eq0 c =
    let n = c.args.self.number in
    c.send.ensures ∙ ap (λ (x : List Action). slice_get x c.args.index) (sym (at_root n.ranks c.args.self.root n.rank n.within c.if-self-eq0.true))

pub returns-then-index-eq0 : goal.returns-then-index-eq0
returns-then-index-eq0 c =
    let n = c.args.self.number in
    ap (λ (a : Action). Some a) c.take.ensures ∙ takes_first n.ranks c.args.self.root n.rank n.within c.args.index (omega arith) (omega arith)

pub returns-else-index-eq0 : goal.returns-else-index-eq0
returns-else-index-eq0 c =
    let n = c.args.self.number in
    c.send-else-index-eq0.ensures ∙ then_sends n.ranks c.args.self.root n.rank n.within c.args.index (omega arith) (omega arith)
