-- The ways that a turn can go.
use Rattle.std.proofs.Common.{◌≡◌, ℕ, ◌<◌, Bool, true, false, cond, ltb, List, refl}
use mathlib.Core.Option.{Option, none, some}
use lib.ListN.{get_elem?}
use Rattle.std.proofs.lemmas.Bool.{ltb-true}
use Rattle.programme.specs.declared.Action.{Action}
use Rattle.programme.specs.declared.Action.TheVariants.{Send, Take}
use Rattle.programme.specs.declared.Merge.{Merge}
use Rattle.programme.specs.Rank.{Rank, Mail, posted, after_send, after_take}
use Rattle.machine.specs.Network.{oldest}
use Rattle.machine.specs.Job.{Job, rank_of, actions}
use Rattle.machine.specs.Plain.{Plain, Move, Answer, stays, sends, takes, move_of, job_move, action_move, take_move, mail_of, tag_of, message_of, numbered, shown, refused, bad_rank}
use Rattle.machine.specs.Record.{acts}
use Rattle.machine.proofs.Jobs.{shown_found}

module _ {E : Type 0} where
  pub data Turned (s : Plain E) (number r : ℕ) : Move E → Type 0 where
    idle : (a : Answer) → acts a ≡ false → Turned s number r (stays a)
    sending : (job : Job E) → numbered number s.jobs ≡ some job → r < s.now.ranks → (to label : ℕ)
        → get_elem? (actions s.now.ranks job r) (rank_of s.meaning job r).done ≡ some (Send to label)
        → Turned s number r (sends to (message_of s.meaning job.number label (posted (rank_of s.meaning job r))) (after_send (rank_of s.meaning job r)))
    taking : (job : Job E) → numbered number s.jobs ≡ some job → r < s.now.ranks → (from label : ℕ) (merge : Merge) (words : List ℕ) (mail : Mail E)
        → get_elem? (actions s.now.ranks job r) (rank_of s.meaning job r).done ≡ some (Take from label merge)
        → oldest (tag_of job.number label) (s.now.arrived from r) ≡ some words
        → mail_of s.meaning (some words) ≡ some mail
        → Turned s number r (takes from (tag_of job.number label) (after_take s.meaning.join merge mail (rank_of s.meaning job r)))

  module _ (s : Plain E) (number r : ℕ) where
    module _ (job : Job E) (here : numbered number s.jobs ≡ some job) (within : r < s.now.ranks) where
      abbrev x : Rank E
      x = rank_of s.meaning job r

      abbrev place : Option Action
      place = get_elem? (actions s.now.ranks job r) x.done

      by_mail : (from label : ℕ) (merge : Merge) (words : List ℕ) → place ≡ some (Take from label merge)
          → oldest (tag_of job.number label) (s.now.arrived from r) ≡ some words
          → (o : Option (Mail E)) → mail_of s.meaning (some words) ≡ o
          → Turned s number r (take_move s.meaning from (tag_of job.number label) merge x o)
      by_mail from label merge words a w none e = idle _ refl
      by_mail from label merge words a w (some mail) e = taking job here within from label merge words mail a w e

      by_words : (from label : ℕ) (merge : Merge) → place ≡ some (Take from label merge)
          → (o : Option (List ℕ)) → oldest (tag_of job.number label) (s.now.arrived from r) ≡ o
          → Turned s number r (take_move s.meaning from (tag_of job.number label) merge x (mail_of s.meaning o))
      by_words from label merge a none e = idle _ refl
      by_words from label merge a (some words) e = by_mail from label merge words a e (mail_of s.meaning (some words)) refl

      by_action : (o : Option Action) → place ≡ o → Turned s number r (action_move s.meaning s.now job.number r x o)
      by_action none e = idle _ refl
      by_action (some (Send to label)) e = sending job here within to label e
      by_action (some (Take from label merge)) e = by_words from label merge e (oldest (tag_of job.number label) (s.now.arrived from r)) refl

    by_rank : (job : Job E) → numbered number s.jobs ≡ some job → (b : Bool) → ltb r s.now.ranks ≡ b
        → Turned s number r (cond b (action_move s.meaning s.now job.number r (rank_of s.meaning job r) (get_elem? (actions s.now.ranks job r) (rank_of s.meaning job r).done)) (stays (refused bad_rank)))
    by_rank job here true e = by_action job here (ltb-true r s.now.ranks e) (get_elem? (actions s.now.ranks job r) (rank_of s.meaning job r).done) refl
    by_rank job here false e = idle _ refl

    by_job : (name : ℕ) (o : Option (Job E)) → shown s name number ≡ o → Turned s number r (job_move s.meaning s.now r o)
    by_job name none e = idle _ refl
    by_job name (some job) e = by_rank job (shown_found s name number job e) (ltb r s.now.ranks) refl

    pub turned : (name : ℕ) → Turned s number r (move_of s name number r)
    turned name = by_job name (shown s name number) refl
