-- The calls of sweeps, and an engine after calls.
use Rattle.std.specs.Prelude.{◌≡◌, ℕ, zero, suc, Bool, false, cond, List, [], ◌∷◌, ◌++◌, ◌==◌}
use Rattle.operation.specs.declared.Operation.{Ghosts as Operation}
use Rattle.transport.specs.declared.Transport.{Ghosts as Transport}
use Rattle.machine.specs.Network.{Network}
use Rattle.machine.specs.Job.{listed}
use Rattle.machine.specs.Call.{Call, Answer, turn, carry, started, sent, took, waits, through, carried, looked, ended, abandoned, refused}
use Rattle.machine.specs.Record.{after}
use Rattle.engine.specs.declared.state.Engine.{Engine}
use Rattle.engine.specs.Abs.{plain, Stands}

-- a turn of each of the first n ranks, upwards
abbrev pub turns : (name number n : ℕ) → List Call
turns name number n = listed (turn name number) n

-- a carry from one rank to each other of the first n
abbrev pub carries_from : (from n : ℕ) → List Call
carries_from from zero = []
carries_from from (suc n) = carries_from from n ++ cond (n == from) [] (carry from n ∷ [])

-- the carries from each of the first n ranks to all the p ranks
abbrev pub carries : (p n : ℕ) → List Call
carries p zero = []
carries p (suc n) = carries p n ++ carries_from n p

-- one sweep: a turn of each rank, then a carry for each ordered pair
abbrev pub sweep : (name number p : ℕ) → List Call
sweep name number p = turns name number p ++ carries p p

-- n sweeps
abbrev pub sweeps : (name number p n : ℕ) → List Call
sweeps name number p zero = []
sweeps name number p (suc n) = sweeps name number p n ++ sweep name number p

-- whether a look tells that all p ranks have no action left
abbrev pub tells_finished : (p : ℕ) → Answer → Bool
tells_finished p (started name number) = false
tells_finished p sent = false
tells_finished p took = false
tells_finished p waits = false
tells_finished p through = false
tells_finished p (carried n) = false
tells_finished p (looked idle) = idle == p
tells_finished p (ended lent rounds messages) = false
tells_finished p abandoned = false
tells_finished p (refused f) = false

-- the calls lead from one engine to the next as the plain machine says, whatever network the engine was made with
abbrev pub Runs : {O T E : Type 0} {op : Operation O E} {net : Transport T} → (before after : Engine O T E op net) → List Call → Type 0
Runs one other calls =
    (origin : Network) → Stands origin one
    → Stands origin other × (plain origin other ≡ after (plain origin one) calls)
