-- Rounds and messages of a job, by kind, number of ranks p and root; and the sends and takes among actions.
use Rattle.std.specs.Prelude.{ℕ, suc, ◌+◌, ◌-◌, ◌*◌, ◌^◌, cond, List, [], ◌∷◌, ◌==◌}
use Rattle.programme.specs.Levels.{levels, floor_log, surplus}
use Rattle.programme.specs.declared.Action.{Action}
use Rattle.programme.specs.declared.Action.TheVariants.{Send, Take}
use Rattle.programme.specs.declared.Kind.{Kind}
use Rattle.programme.specs.declared.Kind.TheVariants.{Broadcast, Gather, Reduce, Scan, Exscan, Allreduce}

-- the round of the last arrival
abbrev pub rounds : Kind → (p root : ℕ) → ℕ
rounds Broadcast p root = levels p
rounds Gather p root = p - 1
rounds Reduce p root = cond (root == 0) (levels p) (levels p + 1)
rounds Scan p root = levels p
rounds Exscan p root = levels p
rounds Allreduce p root = cond (surplus p == 0) (floor_log p) (floor_log p + 2)

-- how many messages all ranks send
abbrev pub messages : Kind → (p root : ℕ) → ℕ
messages Broadcast p root = p - 1
messages Gather p root = p - 1
messages Reduce p root = cond (root == 0) (p - 1) p
messages Scan p root = levels p * p + 1 - 2 ^ levels p
messages Exscan p root = levels p * p + 1 - 2 ^ levels p
messages Allreduce p root = 2 ^ floor_log p * floor_log p + 2 * surplus p

-- how many of the actions are sends
abbrev pub sends : List Action → ℕ
sends [] = 0
sends (Send to label ∷ more) = suc (sends more)
sends (Take from label m ∷ more) = sends more

-- how many are takes
abbrev pub takes : List Action → ℕ
takes [] = 0
takes (Send to label ∷ more) = takes more
takes (Take from label m ∷ more) = suc (takes more)
