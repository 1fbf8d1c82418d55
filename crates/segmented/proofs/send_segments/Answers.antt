use Rattle.std.proofs.Common.{ℕ, length, sym, subst, ◌∙◌}
use Rattle.std.proofs.lemmas.List.{length_push}
use Rattle.segmented.proofs.Steps.{Sends, sends_ready, sends_more, sends_all, refused_done}
use Rattle.segmented.proofs.send_segments.Goals as goal

pub loop-segment-preserved : goal.loop-segment-preserved
loop-segment-preserved g c =
    let t = g.T.Transport in
    let n = t.meaning c.args.below.now in
    let r = c.requires in
    let l = c.loop-segment in
    let s = c.in-Some.ensures.steps in
    let k = length l.yielded in
    subst (λ (k : ℕ). Sends n c.args.pair.from c.args.pair.to t.most c.args.tag c.args.block.now k (t.meaning c.send.new.self) c.next.new.self.rest.now c.next.new.self.size) (sym (length_push l.yielded c.in-Some.segment))
    (sends_more n c.args.pair.from c.args.pair.to t.most c.args.tag c.args.block.now r.pair (g.met.T.Transport.shaped c.args.below.now).limited r.some r.full r.depth r.room
    k (t.meaning l.below) l.segment-iterator.rest.now l.segment-iterator.size l.invariant c.in-Some.segment.now c.next.new.self.rest.now s.1.0 s.1.1 s.1.2
    (t.meaning c.send.new.self) c.next.new.self.size c.send.ensures.after s.0)

pub returns-in_err-send : goal.returns-in_err-send
returns-in_err-send g c =
    let t = g.T.Transport in
    let n = t.meaning c.args.below.now in
    let r = c.requires in
    let l = c.loop-segment in
    let s = c.in-Some.ensures.steps in
    refused_done _
    (c.in_err-send.ensures.answer
    ∙ sends_ready n c.args.pair.from c.args.pair.to t.most c.args.tag c.args.block.now r.pair (g.met.T.Transport.shaped c.args.below.now).limited r.some r.full r.depth r.room
    (length l.yielded) (t.meaning l.below) l.segment-iterator.rest.now l.segment-iterator.size l.invariant c.in-Some.segment.now c.next.new.self.rest.now s.1.0 s.1.1 s.1.2)

pub returns-clause-after : goal.returns-clause-after
returns-clause-after g c =
    let t = g.T.Transport in
    let n = t.meaning c.args.below.now in
    let r = c.requires in
    let l = c.loop-segment in
    sends_all n c.args.pair.from c.args.pair.to t.most c.args.tag c.args.block.now r.pair (g.met.T.Transport.shaped c.args.below.now).limited r.some r.full r.depth r.room
    (length l.yielded) (t.meaning l.below) l.segment-iterator.rest.now l.segment-iterator.size l.invariant c.in-None.ensures.steps.1.0
