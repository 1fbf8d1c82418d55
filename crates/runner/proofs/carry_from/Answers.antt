use Rattle.std.proofs.Common.{◌≡◌, ◌+◌, cond, [], ◌∷◌, ◌++◌, sym, ap, ◌∙◌, subst, append-nil, add-one, arith}
use Rattle.std.proofs.lemmas.Bool.{eq-eqb, ne_eqb}
use Rattle.machine.specs.Call.{carry}
use Rattle.engine.specs.Answers.{carry_answer}
use Rattle.runner.specs.Sweeps.{carries_from, Runs}
use Rattle.runner.proofs.Running.{runs_none, runs_call}
use Rattle.runner.proofs.carry_from.Goals as goal
use Rattle.runner.proofs.carry_from.Goals.{then-to-from, else-to-from}

pub loop-to-init : goal.loop-to-init
loop-to-init g c = runs_none c.args.engine.now

pub loop-to-preserved : goal.loop-to-preserved
loop-to-preserved g c =
    let e = c.args.engine.now in
    let from = c.args.from in
    let to = c.loop-to.to in
    let was = c.loop-to.engine in
    elim c.if-to-from.branch [
      | then-to-from w ↦
          let after = w.carry.new.self in
          let more = runs_call e was after (carries_from from to) (carry from to) (carry_answer w.carry.result) c.loop-to.invariant w.carry.ensures in
          let same : carries_from from to ++ (carry from to ∷ []) ≡ carries_from from (to + 1)
          = ap (λ b. carries_from from to ++ cond b [] (carry from to ∷ [])) (sym (ne_eqb to from w.if-to-from.true)) ∙ ap (carries_from from) (sym (add-one to)) in
          subst (λ x. Runs e x (carries_from from (to + 1))) (sym w.engine-is) (subst (Runs e after) same more)
      | else-to-from w ↦
          let same : carries_from from to ≡ carries_from from (to + 1)
          = sym (append-nil (carries_from from to)) ∙ ap (λ b. carries_from from to ++ cond b [] (carry from to ∷ [])) (sym (eq-eqb to from w.if-to-from.false)) ∙ ap (carries_from from) (sym (add-one to)) in
          subst (λ x. Runs e x (carries_from from (to + 1))) (sym w.engine-is) (subst (Runs e was) same c.loop-to.invariant)
    ]

pub returns : goal.returns
returns g c =
    let last : c.loop-to.to ≡ c.args.ranks = omega (arith, c.loop-to-test.false, c.loop-to.auto.to-end) in
    subst (λ k. Runs c.args.engine.now c.loop-to.engine (carries_from c.args.from k)) last c.loop-to.invariant
