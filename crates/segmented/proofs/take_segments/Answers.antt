use Rattle.std.proofs.Common.{◌++◌, ◌≡◌, ◌+◌, ◌-◌, not, ◌≤◌, length, Some, None, Ok, Option, take, drop, sym, refl, ap, replicate, ◌∙◌, subst, arith}
use Rattle.std.proofs.lemmas.List.{length-append, length-take, length-drop}
use Rattle.transport.specs.Network.{Message, taking}
use borrow.Rule.Slice.PartMut as PartMut
use Rattle.segmented.specs.Segments.{BlockOf}
use Rattle.segmented.proofs.Takes.{takes_begin, none_of, some_of, takes_ready, takes_none, takes_more, takes_all, takes_rest}
use Rattle.segmented.proofs.take_segments.Goals as goal

pub returns-in_err-take : goal.returns-in_err-take
returns-in_err-take g c =
    let t = g.T.Transport in
    let n = t.meaning c.args.below.now in
    let r = c.requires in
    let l = c.loop-start in
    let shape = g.met.T.Transport.shaped c.args.below.now in
    takes_ready n c.args.pair.from c.args.pair.to c.args.tag t.most r.pair shape.limited shape.low r.some r.coded l.start (t.meaning l.below) l.block l.invariant.2 l.invariant.3 c.loop-start-test.true _ c.in_err-take.ensures.answer

pub returns-then-is_none : goal.returns-then-is_none
returns-then-is_none g c =
    let t = g.T.Transport in
    let n = t.meaning c.args.below.now in
    let r = c.requires in
    let l = c.loop-start in
    let shape = g.met.T.Transport.shaped c.args.below.now in
    let none = none_of c.in_ok-take.field-0 (c.is_none.ensures ∙ ap not c.if-is_none.true) in
    let k = takes_none n c.args.pair.from c.args.pair.to c.args.tag t.most r.pair shape.limited shape.low r.some r.coded l.start (t.meaning l.below) l.block l.invariant.2 l.invariant.3 c.loop-start-test.true (t.meaning c.take.new.self) c.take.ensures.after (ap (λ o. taking (Ok o)) (sym none) ∙ c.in_ok-take.ensures.answer) in
    record { found = subst (λ (o : Option Message). BlockOf o (Ok None)) (sym k.0) refl; after = k.1 }

pub loop-start-preserved : goal.loop-start-preserved
loop-start-preserved g c =
    let t = g.T.Transport in
    let n = t.meaning c.args.below.now in
    let r = c.requires in
    let l = c.loop-start in
    let shape = g.met.T.Transport.shaped c.args.below.now in
    let some = some_of c.in_ok-take.field-0 (c.is_none.ensures ∙ ap not c.if-is_none.false) in
    let part : length c.take.new.buffer ≡ length (take (16 - l.start) (drop l.start l.block)) = c.take.auto.buffer in (
      c.limit-start-step.ensures,
      l.invariant.1,
      simp (length-append, length-take, length-drop) (omega (arith, l.invariant.2, simp (length-take, length-drop) at part)),
      takes_more n c.args.pair.from c.args.pair.to c.args.tag t.most r.pair shape.limited shape.low r.some r.coded l.start (t.meaning l.below) l.block l.invariant.2 l.invariant.3 c.loop-start-test.true (t.meaning c.take.new.self) c.take.ensures.after some.0 c.take.new.buffer _ (l.start + c.limit-start-step.result)
          (ap (λ o. taking (Ok o)) (sym some.1) ∙ c.in_ok-take.ensures.answer) c.take.ensures.words (ap (λ x. l.start + x) c.limit-start-step.ensures),
    )

pub returns : goal.returns
returns g c =
    let t = g.T.Transport in
    let n = t.meaning c.args.below.now in
    let r = c.requires in
    let l = c.loop-start in
    let shape = g.met.T.Transport.shaped c.args.below.now in
    let m = takes_all n c.args.pair.from c.args.pair.to c.args.tag t.most r.pair shape.limited shape.low r.some r.coded l.start (t.meaning l.below) l.block l.invariant.2 l.invariant.3 c.loop-start-test.false in
    record {
      found = subst (λ (o : Option Message). BlockOf o (Ok (Some l.block))) (sym m.1) (l.block, refl, m.2);
      after = takes_rest n c.args.pair.from c.args.pair.to c.args.tag t.most r.pair shape.limited shape.low r.some r.coded l.start (t.meaning l.below) l.block l.invariant.2 l.invariant.3 c.loop-start-test.false;
    }

pub loop-start-init : goal.loop-start-init
loop-start-init g c =
    let t = g.T.Transport in
    let shape = g.met.T.Transport.shaped c.args.below.now in (
      c.limit-start-step.ensures,
      omega (arith, c.limit-start-step.ensures, shape.low),
      refl,
      takes_begin (t.meaning c.args.below.now) c.args.pair.from c.args.pair.to c.args.tag t.most (replicate 16 0),
    )

-- the last turn
pub returns-else-is_none : goal.returns-else-is_none
returns-else-is_none g c =
    let t = g.T.Transport in
    let n = t.meaning c.args.below.now in
    let r = c.requires in
    let l = c.loop-start in
    let shape = g.met.T.Transport.shaped c.args.below.now in
    let some = some_of c.in_ok-take.field-0 (c.is_none.ensures ∙ ap not c.if-is_none.false) in
    let part : length c.take.new.buffer ≡ length (take (16 - l.start) (drop l.start l.block)) = c.take.auto.buffer in
    let next = takes_more n c.args.pair.from c.args.pair.to c.args.tag t.most r.pair shape.limited shape.low r.some r.coded l.start (t.meaning l.below) l.block l.invariant.2 l.invariant.3 c.loop-start-test.true (t.meaning c.take.new.self) c.take.ensures.after some.0 c.take.new.buffer _ (l.start + c.limit-start-step.result) (ap (λ o. taking (Ok o)) (sym some.1) ∙ c.in_ok-take.ensures.answer) c.take.ensures.words (ap (λ x. l.start + x) c.limit-start-step.ensures) in
    let end = l.start + c.limit-start-step.result in
    let over : 8 ≤ l.start + c.limit-start-step.result = omega (arith, c.loop-start-test.true) in
    let block = take l.start l.block ++ (c.take.new.buffer ++ PartMut.post_of l.start (16 - l.start) l.block) in
    let long : length block ≡ 16 = simp (length-append, length-take, length-drop) (omega (arith, l.invariant.2, simp (length-take, length-drop) at part)) in
    let m = takes_all n c.args.pair.from c.args.pair.to c.args.tag t.most r.pair shape.limited shape.low r.some r.coded end (t.meaning c.take.new.self) block long next over in
    record {
      found = subst (λ (o : Option Message). BlockOf o (Ok (Some block))) (sym m.1) (block, refl, m.2);
      after = takes_rest n c.args.pair.from c.args.pair.to c.args.tag t.most r.pair shape.limited shape.low r.some r.coded end (t.meaning c.take.new.self) block long next over;
    }
