-- Each call by the tests that a program makes, in their order.
use Rattle.std.proofs.Common.{◌≡◌, ℕ, ◌+◌, ◌*◌, true, false, eqb, ltb, leb, List, length, ap}
use mathlib.Core.Option.{Option, none, some}
use lib.ListN.{get_elem?}
use Rattle.programme.specs.declared.Kind.{Kind}
use Rattle.programme.specs.declared.Action.{Action}
use Rattle.programme.specs.declared.Action.TheVariants.{Send, Take}
use Rattle.programme.specs.declared.Merge.{Merge}
use Rattle.programme.specs.Rank.{Rank, Mail, posted, after_send, after_take}
use Rattle.machine.specs.Network.{apart, with_carried, with_abandoned, some_carried, oldest}
use Rattle.machine.specs.Job.{Job, rank_of, actions, elements, finished, idle_ranks, rounds_of}
use Rattle.machine.specs.Plain.{Plain, Call, Refusal, start, turn, carry, look, end, abandon, step, started, sent, took, waits, through, carried, looked, ended, abandoned, refused, bad_pair, unfit, bad_root, bad_length, four_pending, crowded, numbers_spent, no_job, bad_rank, unfinished, too_few_words, fit, root_for, crowds, blocks_read, block_refusal, new_job, with_started, shown, sends, takes, after_move, message_of, mail_of, tag_of, with_network, answer_words, written, without_job}
use Rattle.machine.proofs.Places.{stays_same}

module _ {E : Type 0} (s : Plain E) where
  abbrev p : ℕ
  p = s.now.ranks

  module _ (kind : Kind) (root : ℕ) (words : List ℕ) where
    abbrev call : Call
    call = start kind root words

    pub start_unfit : fit s ≡ false → step s call ≡ (refused unfit, s)
    start_unfit a = rw a

    module _ (a : fit s ≡ true) where
      pub start_root : ltb (root_for kind root) p ≡ false → step s call ≡ (refused bad_root, s)
      start_root b = rw (a, b)

      module _ (b : ltb (root_for kind root) p ≡ true) where
        pub start_length : eqb (length words) (p * s.meaning.width) ≡ false → step s call ≡ (refused bad_length, s)
        start_length c = rw (a, b, c)

        module _ (c : eqb (length words) (p * s.meaning.width) ≡ true) where
          pub start_block : (f : Refusal) → block_refusal 0 (blocks_read s words) ≡ some f → step s call ≡ (refused f, s)
          start_block f d = rw (a, b, c, d)

          module _ (d : block_refusal 0 (blocks_read s words) ≡ none) where
            pub start_four : leb 4 (length s.jobs) ≡ true → step s call ≡ (refused four_pending, s)
            start_four e = rw (a, b, c, d, e)

            module _ (e : leb 4 (length s.jobs) ≡ false) where
              pub start_crowded : crowds s kind (root_for kind root) ≡ true → step s call ≡ (refused crowded, s)
              start_crowded f = rw (a, b, c, d, e, f)

              module _ (f : crowds s kind (root_for kind root) ≡ false) where
                pub start_spent : leb 65535 s.started ≡ true → step s call ≡ (refused numbers_spent, s)
                start_spent g = rw (a, b, c, d, e, f, g)

                pub start_done : leb 65535 s.started ≡ false
                    → step s call ≡ (started s.name (s.started + 1), with_started s (new_job s kind (root_for kind root) (elements (blocks_read s words))))
                start_done g = rw (a, b, c, d, e, f, g)

  module _ (name number r : ℕ) where
    pub turn_no_job : shown s name number ≡ none → step s (turn name number r) ≡ (refused no_job, s)
    turn_no_job e = rw e (ap (λ t. (refused no_job, t)) (stays_same s number r (refused no_job)))

    module _ (job : Job E) (at : shown s name number ≡ some job) where
      pub turn_bad_rank : ltb r p ≡ false → step s (turn name number r) ≡ (refused bad_rank, s)
      turn_bad_rank f = rw (at, f) (ap (λ t. (refused bad_rank, t)) (stays_same s number r (refused bad_rank)))

      module _ (below : ltb r p ≡ true) where
        abbrev x : Rank E
        x = rank_of s.meaning job r

        abbrev place : Option Action
        place = get_elem? (actions p job r) x.done

        pub turn_through : place ≡ none → step s (turn name number r) ≡ (through, s)
        turn_through f = rw (at, below, f) (ap (λ t. (through, t)) (stays_same s number r through))

        pub turn_sends : (to label : ℕ) → place ≡ some (Send to label)
            → step s (turn name number r) ≡ (sent, after_move s number r (sends to (message_of s.meaning job.number label (posted x)) (after_send x)))
        turn_sends to label f = rw (at, below, f)

        pub turn_waits : (from label : ℕ) (merge : Merge) → place ≡ some (Take from label merge) → oldest (tag_of job.number label) (s.now.arrived from r) ≡ none
            → step s (turn name number r) ≡ (waits, s)
        turn_waits from label merge f g = rw (at, below, f, g) (ap (λ t. (waits, t)) (stays_same s number r waits))

        pub turn_takes : (from label : ℕ) (merge : Merge) (words : List ℕ) (mail : Mail E) → place ≡ some (Take from label merge) → oldest (tag_of job.number label) (s.now.arrived from r) ≡ some words → mail_of s.meaning (some words) ≡ some mail
            → step s (turn name number r) ≡ (took, after_move s number r (takes from (tag_of job.number label) (after_take s.meaning.join merge mail x)))
        turn_takes from label merge words mail f g h = rw (at, below, f, g, h)

  pub carry_refused : (from to : ℕ) → apart p from to ≡ false → step s (carry from to) ≡ (refused bad_pair, s)
  carry_refused from to e = rw e

  pub carry_done : (from to : ℕ) → apart p from to ≡ true → step s (carry from to) ≡ (carried (some_carried (s.now.under from to)), with_network s (with_carried from to s.now))
  carry_done from to e = rw e

  module _ (name number : ℕ) where
    pub look_no_job : shown s name number ≡ none → step s (look name number) ≡ (refused no_job, s)
    look_no_job e = rw e

    pub look_done : (job : Job E) → shown s name number ≡ some job → step s (look name number) ≡ (looked (idle_ranks s.meaning p job), s)
    look_done job e = rw e

    pub abandon_no_job : shown s name number ≡ none → step s (abandon name number) ≡ (refused no_job, s)
    abandon_no_job e = rw e

    pub abandon_done : (job : Job E) → shown s name number ≡ some job → step s (abandon name number) ≡ (abandoned, without_job job.number s (with_abandoned job.number s.now))
    abandon_done job e = rw e

    module _ (lent : List ℕ) where
      pub end_no_job : shown s name number ≡ none → step s (end name number lent) ≡ (refused no_job, s)
      end_no_job e = rw e

      module _ (job : Job E) (at : shown s name number ≡ some job) where
        pub end_unfinished : finished s.meaning p job ≡ false → step s (end name number lent) ≡ (refused unfinished, s)
        end_unfinished e = rw (at, e)

        module _ (idle : finished s.meaning p job ≡ true) where
          pub end_too_few : ltb (length lent) (length (answer_words s job)) ≡ true → step s (end name number lent) ≡ (refused too_few_words, s)
          end_too_few e = rw (at, idle, e)

          pub end_done : ltb (length lent) (length (answer_words s job)) ≡ false
              → step s (end name number lent) ≡ (ended (written (answer_words s job) lent) (rounds_of s.meaning p job) job.sent, without_job job.number s s.now)
          end_done e = rw (at, idle, e)
