-- What one rank holds in a job, and what an action makes of it.
use Rattle.std.specs.Prelude.{ℕ, ◌+◌, max, List, [], ◌∷◌, ◌++◌}
use Rattle.programme.specs.declared.Action.{Action}
use Rattle.programme.specs.declared.Action.TheVariants.{Send, Take}
use Rattle.programme.specs.declared.Merge.{Merge}
use Rattle.programme.specs.declared.Merge.TheVariants.{Replace, Keep, Before, After, Prefix}

-- a rank's part of a job
pub record Rank (E : Type 0) : Type 0 where
  -- actions done
  pub done : ℕ
  -- the value that it sends
  pub value : E
  -- the join of what an exscan has taken
  pub prefix : E
  -- the values that a gather has taken, in the order of the takes
  pub kept : List E
  -- the round of its latest arrival and of its latest departure, at first 0
  pub arrival : ℕ
  pub departure : ℕ

-- what a message carries: the round of its departure, called its stamp, and a value
pub record Mail (E : Type 0) : Type 0 where
  pub stamp : ℕ
  pub value : E

module _ {E : Type 0} where
  -- a rank before its first action, with its input
  abbrev pub fresh : E → E → Rank E
  fresh unit input = record { done = 0; value = input; prefix = unit; kept = []; arrival = 0; departure = 0 }

  -- what a rank would send now: it departs a round after all that the rank has taken and sent
  abbrev pub posted : Rank E → Mail E
  posted x = record { stamp = max x.departure x.arrival + 1; value = x.value }

  -- the rank once that is sent
  abbrev pub after_send : Rank E → Rank E
  after_send x = record {
    done = x.done + 1;
    value = x.value;
    prefix = x.prefix;
    kept = x.kept;
    arrival = x.arrival;
    departure = (posted x).stamp;
  }

  -- the value v of a rank that takes t: joined on the side where t's ranks stand
  abbrev pub merged_value : (E → E → E) → Merge → E → E → E
  merged_value join Replace v t = t
  merged_value join Keep v t = v
  merged_value join Before v t = join t v
  merged_value join After v t = join v t
  merged_value join Prefix v t = join t v

  -- its prefix e
  abbrev pub merged_prefix : (E → E → E) → Merge → E → E → E
  merged_prefix join Replace e t = e
  merged_prefix join Keep e t = e
  merged_prefix join Before e t = e
  merged_prefix join After e t = e
  merged_prefix join Prefix e t = join t e

  -- the values ks that it keeps
  abbrev pub merged_kept : Merge → List E → E → List E
  merged_kept Replace ks t = ks
  merged_kept Keep ks t = ks ++ (t ∷ [])
  merged_kept Before ks t = ks
  merged_kept After ks t = ks
  merged_kept Prefix ks t = ks

  -- the rank once it has taken t: it arrives in a round of its own, and not before it departed
  abbrev pub after_take : (E → E → E) → Merge → Mail E → Rank E → Rank E
  after_take join m t x = record {
    done = x.done + 1;
    value = merged_value join m x.value t.value;
    prefix = merged_prefix join m x.prefix t.value;
    kept = merged_kept m x.kept t.value;
    arrival = max (x.arrival + 1) t.stamp;
    departure = x.departure;
  }

  -- one action, where `mail a` is what rank a sends to this rank
  abbrev pub act : (E → E → E) → (ℕ → Mail E) → Action → Rank E → Rank E
  act join mail (Send to label) x = after_send x
  act join mail (Take from label m) x = after_take join m (mail from) x

  -- a run of actions, the first one first
  abbrev pub acts : (E → E → E) → (ℕ → Mail E) → List Action → Rank E → Rank E
  acts join mail [] x = x
  acts join mail (a ∷ more) x = acts join mail more (act join mail a x)
