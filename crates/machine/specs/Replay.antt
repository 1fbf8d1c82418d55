-- The rounds of a job, counted from a record's entries alone: its turns answered sent or took are gone through in order.
use Rattle.std.specs.Prelude.{ℕ, ◌+◌, max, cond, List, [], ◌∷◌, ◌==◌}
use Rattle.std.proofs.Math.Option.{Option, none, some}
use Rattle.std.proofs.Math.ListN.{get_elem?}
use Rattle.ranks.specs.Ranks.{greatest_below}
use Rattle.programme.specs.declared.Kind.{Kind}
use Rattle.programme.specs.declared.Action.{Action}
use Rattle.programme.specs.declared.Action.TheVariants.{Send, Take}
use Rattle.programme.specs.Programme.{programme}
use Rattle.machine.specs.Network.{put}

-- what the turns of a job make of its ranks
pub record Clocks : Type 0 where
  -- of each rank, its actions done and the rounds of its latest arrival and of its latest departure
  pub done : ℕ → ℕ
  pub arrival : ℕ → ℕ
  pub departure : ℕ → ℕ
  -- of each ordered pair of ranks, the stamp of the message sent, which is one a job at most
  pub stamp : ℕ → ℕ → ℕ

-- before any turn
abbrev pub at_first : Clocks
at_first = record { done = λ r. 0; arrival = λ r. 0; departure = λ r. 0; stamp = λ a b. 0 }

-- a table of ranks with the entry of rank r changed
abbrev pub changed : (ℕ → ℕ) → (r n : ℕ) → ℕ → ℕ
changed f r n q = cond (q == r) n (f q)

-- rank r does an action: a send departs one round after both numbers, and that is its message's stamp;
-- a take arrives with the stamp of its message, a round after the arrival before at the earliest
abbrev pub ticked : (r : ℕ) → Option Action → Clocks → Clocks
ticked r none c = c
ticked r (some (Send to label)) c = record {
  done = changed c.done r (c.done r + 1);
  arrival = c.arrival;
  departure = changed c.departure r (max (c.departure r) (c.arrival r) + 1);
  stamp = put c.stamp r to (max (c.departure r) (c.arrival r) + 1);
}
ticked r (some (Take from label merge)) c = record {
  done = changed c.done r (c.done r + 1);
  arrival = changed c.arrival r (max (c.arrival r + 1) (c.stamp from r));
  departure = c.departure;
  stamp = c.stamp;
}

-- these ranks, one after the other, do their next actions; rank r has the actions `actions r`
abbrev pub replay : (ℕ → List Action) → List ℕ → Clocks → Clocks
replay actions [] c = c
replay actions (r ∷ more) c = replay actions more (ticked r (get_elem? (actions r) (c.done r)) c)

-- the greatest arrival of a job of that kind, number of ranks and root, after turns of these ranks
abbrev pub rounds_told : Kind → (p root : ℕ) → List ℕ → ℕ
rounds_told kind p root turns = greatest_below (replay (programme kind p root) turns at_first).arrival p
