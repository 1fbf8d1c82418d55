use Rattle.std.proofs.Common.{◌≡◌, ℕ, ◌+◌, List, [], ◌∷◌, Some, None, Ok, Err, Option, Result, nat_le, refl, ap, ◌∙◌, inl, inr}
use Rattle.std.proofs.lemmas.Iterator.Adapters.{position_from-zero}
use Rattle.std.proofs.lemmas.Bool.{cases_lt, lt-ltb, le-leb, lt-leb, le-ltb}
use Rattle.std.specs.List.{position, position_from}
use Rattle.operation.specs.Meaning.{where_below}
use Rattle.operation.specs.declared.fault.BlockFault.{BlockFault}
use Rattle.operation.specs.declared.fault.BlockFault.TheVariants.{WrongWord}
use Rattle.operation.proofs.block.check_below.Goals as goal

abbrev refused_at : Option ℕ → Result (Unit {0}) BlockFault
refused_at None = Ok tt
refused_at (Some place) = Err (WrongWord place)

first_refused : (bound place : ℕ) (ws : List ℕ) → refused_at (position_from (nat_le bound) place ws) ≡ where_below bound tt place ws
first_refused bound place [] = refl
first_refused bound place (w ∷ ws) =
    elim (cases_lt w bound) [
      | inl h ↦ let t = lt-ltb w bound h in let u = lt-leb bound w h in simp (t, u) (first_refused bound (place + 1) ws)
      | inr h ↦ let t = le-ltb w bound h in let u = le-leb bound w h in simp (t, u)
    ]

-- the refusal that the place of the first word that is not below the bound gives
refused : (bound : ℕ) (ws : List ℕ) (place : Option ℕ) → place ≡ position (nat_le bound) ws → refused_at place ≡ where_below bound tt 0 ws
refused bound ws place e = ap refused_at (e ∙ position_from-zero (nat_le bound) ws) ∙ first_refused bound 0 ws

pub returns-in-Some : goal.returns-in-Some
returns-in-Some c = refused c.args.bound c.args.block.now (Some c.in-Some.place) c.in-Some.ensures

pub returns-in-None : goal.returns-in-None
returns-in-None c = refused c.args.bound c.args.block.now None c.in-None.ensures
