-- Calls one after the other.
use Rattle.std.proofs.Common.{◌≡◌, List, [], ◌∷◌, ◌++◌, sym, refl, ap, ◌∙◌}
use Rattle.operation.specs.declared.Operation.{Ghosts as Operation}
use Rattle.transport.specs.declared.Transport.{Ghosts as Transport}
use Rattle.machine.specs.Call.{Call, Answer}
use Rattle.machine.specs.Plain.{Plain, step}
use Rattle.machine.specs.Record.{after}
use Rattle.engine.specs.declared.state.Engine.{Engine}
use Rattle.engine.specs.Abs.{plain, Steps}
use Rattle.runner.specs.Sweeps.{Runs}

after_append : {E : Type 0} (s : Plain E) (xs ys : List Call) → after s (xs ++ ys) ≡ after (after s xs) ys
after_append s [] ys = refl
after_append s (x ∷ xs) ys = after_append (step s x).1 xs ys

module _ {O T E : Type 0} {op : Operation O E} {net : Transport T} where
  pub runs_none : (a : Engine O T E op net) → Runs a a []
  runs_none a origin h = (h, refl)

  pub runs_then : (a b c : Engine O T E op net) (xs ys : List Call) → Runs a b xs → Runs b c ys → Runs a c (xs ++ ys)
  runs_then a b c xs ys one two origin h =
      let first = one origin h in
      let second = two origin first.0 in
      (second.0, second.1 ∙ ap (λ s. after s ys) first.1 ∙ sym (after_append (plain origin a) xs ys))

  -- one call more
  pub runs_call : (a b c : Engine O T E op net) (xs : List Call) (call : Call) (answer : Answer) → Runs a b xs → Steps b c call answer → Runs a c (xs ++ (call ∷ []))
  runs_call a b c xs call answer one two =
      runs_then a b c xs (call ∷ []) one (λ origin h. let last = two origin h in (last.0, ap (λ (x : Answer × Plain E). x.1) last.1))
