-- What the numbers of a job that C gives name, and the networks made of lent memory.
use Rattle.std.specs.Prelude.{◌≡◌, ℕ, cond, List, length, Some, None, Option, ◌==◌}
use Rattle.schedule.specs.declared.Collective.{Collective}
use Rattle.schedule.specs.declared.Collective.TheVariants.{Broadcast, Gather, Reduce, Scan, Exscan, Allreduce}
use Rattle.transport.specs.Network.{Network, nobody}
use Rattle.shared_log.specs.Records.{new_network as new_log}
use Rattle.mailbox.specs.Matrix.{new_network as new_mailbox}
use Rattle.segmented.specs.Segments.{new_segmented}
use Rattle.group.specs.Members.{GoodList, new_group}

-- the collective of a number
abbrev pub collective_at : (code root : ℕ) → Option Collective
collective_at code root =
    cond (code == 0) (Some (Broadcast root))
    (cond (code == 1) (Some (Gather root))
    (cond (code == 2) (Some (Reduce root))
    (cond (code == 3) (Some Scan)
    (cond (code == 4) (Some Exscan)
    (cond (code == 5) (Some Allreduce) None)))))

-- a network of the members listed, of which that holds; without members where the list is not good
pub record Over (below : Network) (members : List ℕ) (holds : Network → Type 0) : Type 0 where
  pub net : Network
  pub good : GoodList below.ranks members → net ≡ new_group (length members) below
  pub bad : (GoodList below.ranks members → ⊥) → net ≡ nobody 7
  pub is : holds net

-- messages of up to seven words over a log of so many ranks and lent records
abbrev pub log_below : (ranks records : ℕ) → Network
log_below ranks records = new_segmented 4 (new_log ranks records)

-- the same over a matrix of mailboxes of that depth over so many lent words
abbrev pub mailbox_below : (ranks depth words : ℕ) → Network
mailbox_below ranks depth words = new_segmented 2 (new_mailbox ranks depth words)
