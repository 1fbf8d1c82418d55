-- What holds of every machine that a new one becomes by calls.
use Rattle.std.specs.Prelude.{◌≡◌, ℕ, ◌+◌, ◌-◌, ◌/◌, ◌<◌, ◌≤◌, true, cond, ◌⊎◌, List, [], ◌∷◌, map, length, take, replicate, filter, ◌==◌, slice_index_or}
use Rattle.std.specs.List.{AllByRecursion}
use Rattle.ranks.specs.Ranks.{most_ranks, sum_below, greatest_below}
use Rattle.programme.specs.declared.Kind.{Kind}
use Rattle.programme.specs.declared.Action.{Action}
use Rattle.programme.specs.declared.Action.TheVariants.{Send, Take}
use Rattle.programme.specs.Rank.{Rank, Mail, fresh}
use Rattle.programme.specs.Programme.{programme}
use Rattle.programme.specs.Formula.{rounds, messages}
use Rattle.programme.specs.Solved.{Solved, Stands, state}
use Rattle.programme.specs.Formula.{sends as sends_in}
use Rattle.programme.specs.Message.{stamp}
use Rattle.programme.specs.Label.{label_count, label_of}
use Rattle.machine.specs.Operation.{Meaning, Lawful}
use Rattle.machine.specs.Network.{Message, waiting, of_job, WellMade}
use Rattle.machine.specs.Job.{Job, rank_of, actions, outcome, answer, listed}
use Rattle.machine.specs.Plain.{Plain, message_of, messages_pending, fit}

-- how many of the actions send to rank b, and how many take from rank a
abbrev pub sends_to : ℕ → List Action → ℕ
sends_to b [] = 0
sends_to b (Send to label ∷ more) = cond (to == b) 1 0 + sends_to b more
sends_to b (Take from label m ∷ more) = sends_to b more

abbrev pub takes_from : ℕ → List Action → ℕ
takes_from a [] = 0
takes_from a (Send to label ∷ more) = takes_from a more
takes_from a (Take from label m ∷ more) = cond (from == a) 1 0 + takes_from a more

-- a number stands in a list
abbrev pub Among : ℕ → List ℕ → Type 0
Among n [] = ⊥
Among n (k ∷ ks) = (k ≡ n) ⊎ Among n ks

-- no number stands twice
abbrev pub Distinct : List ℕ → Type 0
Distinct [] = Unit {0}
Distinct (k ∷ ks) = (Among k ks → ⊥) × Distinct ks

module _ {E : Type 0} (m : Meaning E) where
  -- an element of which the operation's laws speak
  abbrev pub Proper : E → Type 0
  Proper x = m.proper x ≡ true

  -- what rank r comes to, where `mail a b` is what rank a sends to rank b
  abbrev pub final : Kind → (p root : ℕ) → List E → (ℕ → ℕ → Mail E) → ℕ → Rank E
  final kind p root inputs mail r = state m.join p (programme kind p root) (λ q. fresh m.unit (slice_index_or inputs q m.unit)) mail r (programme kind p root r)

  -- what is known ahead of a job: what each rank sends to each other, and what the ranks come to
  pub record Plan (kind : Kind) (p root : ℕ) (inputs : List E) : Type 0 where
    pub mail : ℕ → ℕ → Mail E
    pub solved : Solved m.join p (programme kind p root) (λ r. fresh m.unit (slice_index_or inputs r m.unit)) mail
    pub answers : outcome m kind root (listed (final kind p root inputs mail) p) ≡ answer m kind root inputs
    pub rounds_are : greatest_below (λ r. (final kind p root inputs mail r).arrival) p ≡ rounds kind p root
    pub labels_fit : (r : ℕ) → r < p → (action : Action) → Stands (programme kind p root r) action → label_of action < label_count
    pub stamps_are : (a b : ℕ) → (mail a b).stamp ≡ stamp kind p root a b
    pub messages_are : sum_below (λ r. sends_in (programme kind p root r)) p ≡ messages kind p root

  -- every job has a plan
  abbrev pub Planned : Type 0
  Planned = (kind : Kind) (p root : ℕ) (inputs : List E) → p ≤ most_ranks → root < p → length inputs ≡ p → AllByRecursion Proper inputs → Plan kind p root inputs

  -- the actions that rank r has done
  abbrev pub acts_done : ℕ → Job E → ℕ → List Action
  acts_done p job r = take (rank_of m job r).done (actions p job r)

  -- the sends that the ranks of a job have done
  abbrev pub sends_done : ℕ → Job E → ℕ
  sends_done p job = sum_below (λ r. sends_in (acts_done p job r)) p

  -- of one job and the pair of a rank with a programme and rank b: s messages sent to b and t of them taken, each the one mail
  -- under the label that the programme says; ws is what waits between the two
  pub record Flight (prog : List Action) (b number : ℕ) (mail : Mail E) (s t : ℕ) (ws : List Message) : Type 0 where
    pub taken_sent : t ≤ s
    pub label : ℕ
    pub label_small : label < label_count
    pub label_right : 0 < s → Stands prog (Send b label)
    pub between : filter (of_job number) ws ≡ replicate (s - t) (message_of m number label mail)
    pub proper : 0 < s → Proper mail.value

  -- of a rank with a programme, `after` saying what it holds after some of its actions: it holds that, and what it holds is proper
  pub record RankSound (prog : List Action) (after : List Action → Rank E) (x : Rank E) : Type 0 where
    pub done_within : x.done ≤ length prog
    pub known : x ≡ after (take x.done prog)
    pub value_proper : Proper x.value
    pub prefix_proper : Proper x.prefix
    pub kept_proper : AllByRecursion Proper x.kept

  -- of a pending job, w being what waits between two ranks
  pub record JobSound (p : ℕ) (w : ℕ → ℕ → List Message) (job : Job E) : Type 0 where
    pub root_within : job.root < p
    pub inputs_all : length job.inputs ≡ p
    pub ranks_all : length job.ranks ≡ p
    pub sent_counted : job.sent ≡ sends_done p job
    pub plan : Plan job.kind p job.root job.inputs
    pub rank_sound : (r : ℕ) → r < p
        → RankSound (actions p job r) (state m.join p (actions p job) (λ q. fresh m.unit (slice_index_or job.inputs q m.unit)) plan.mail r) (rank_of m job r)
    pub flight : (a b : ℕ) → Flight (actions p job a) b job.number (plan.mail a b) (sends_to b (acts_done p job a)) (takes_from a (acts_done p job b)) (w a b)

module _ {E : Type 0} where
  -- the numbers of jobs
  abbrev pub numbers : List (Job E) → List ℕ
  numbers jobs = map (λ job. job.number) jobs

  -- of a machine: its bounds, its jobs, and no message but theirs
  pub record Sound (s : Plain E) : Type 0 where
    pub same_ranks : s.now.ranks ≡ s.origin.ranks
    pub same_depth : s.now.depth ≡ s.origin.depth
    pub same_room : s.now.room ≡ s.origin.room
    pub same_limit : s.now.limit ≡ s.origin.limit
    pub started_few : s.started ≤ 65535
    pub fits : 0 < length s.jobs → fit s ≡ true
    pub distinct : Distinct (numbers s.jobs)
    pub started_all : AllByRecursion (λ n. n ≤ s.started) (numbers s.jobs)
    pub pending_few : length s.jobs ≤ 4
    pub pending_depth : length s.jobs ≤ s.now.depth
    pub pending_room : messages_pending s.now.ranks s.jobs ≤ s.now.room
    pub jobs_sound : AllByRecursion (JobSound s.meaning s.now.ranks (waiting s.now)) s.jobs
    pub waiting_known : fit s ≡ true → (a b : ℕ) → AllByRecursion (λ msg. Among (msg.tag / label_count) (numbers s.jobs)) (waiting s.now a b)

  -- what a machine is that a new one becomes by calls
  pub record Good (s : Plain E) : Type 0 where
    pub lawful : Lawful s.meaning
    pub well : WellMade s.origin
    pub sound : Sound s
