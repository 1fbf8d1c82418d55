-- The plain machine: what each call of an engine answers, and what it leaves, by the rules alone.
-- A call is refused by the first line of `refusals` that applies to it; the rest says what an unrefused call does.
use Rattle.std.specs.Prelude.{ℕ, suc, ◌+◌, ◌*◌, Bool, cond, not, ◌&&◌, ◌||◌, List, [], ◌∷◌, ◌++◌, map, length, drop, filter, ◌==◌, nat_le, nat_lt, slice_set}
use Rattle.std.proofs.Math.Option.{Option, none, some}
use Rattle.std.proofs.Math.ListN.{get_elem?}
use Rattle.programme.specs.declared.Kind.{Kind}
use Rattle.programme.specs.declared.Action.{Action}
use Rattle.programme.specs.declared.Action.TheVariants.{Send, Take}
use Rattle.programme.specs.declared.Merge.{Merge}
use Rattle.programme.specs.Rank.{Rank, Mail, fresh, posted, after_send, after_take}
use Rattle.programme.specs.Formula.{messages}
use Rattle.programme.specs.Label.{label_count}
use Rattle.operation.specs.Meaning.{widest}
use Rattle.machine.specs.Operation.{Meaning, Result, Ok, Err, BlockFault}
use Rattle.machine.specs.Network.{Message, Network, apart, waiting_in_all, with_sent, with_carried, with_taken, with_abandoned, oldest, some_carried}
pub use Rattle.machine.specs.Call.{Call, Refusal, Answer, start, turn, carry, look, end, abandon, bad_pair, unfit, bad_root, bad_length, bad_block, four_pending, crowded, numbers_spent, no_job, bad_rank, unfinished, too_few_words, number_of, started, sent, took, waits, through, carried, looked, ended, abandoned, refused, when, first_refusal}
use Rattle.machine.specs.Job.{Job, blocks, elements, rank_of, actions, idle_ranks, finished, rounds_of, outcome, packed, rooted}

-- the most jobs pending at a time
abbrev pub most_pending : ℕ
most_pending = 4

-- the most jobs started by one engine
abbrev pub most_started : ℕ
most_started = 65535

-- the machine
pub record Plain (E : Type 0) : Type 0 where
  pub name : ℕ
  -- the operation's meaning
  pub meaning : Meaning E
  -- the transport's meaning when the engine was made, and now
  pub origin : Network
  pub now : Network
  -- how many jobs were started
  pub started : ℕ
  -- those pending, as started
  pub jobs : List (Job E)

-- what a turn comes to
pub data Move (E : Type 0) : Type 0 where
  -- nothing is altered
  stays : Answer → Move E
  -- a message to a rank; the turning rank becomes the one given
  sends : (to : ℕ) (message : Message) (after : Rank E) → Move E
  -- the oldest message with a tag from a rank; the turning rank becomes the one given
  takes : (from tag : ℕ) (after : Rank E) → Move E

-- the root of a job, 0 for a kind that has none
abbrev pub root_for : Kind → ℕ → ℕ
root_for kind root = cond (rooted kind) root 0

-- the tag of a job's message
abbrev pub tag_of : (number label : ℕ) → ℕ
tag_of number label = label_count * number + label

-- the lent words, with the front written over
abbrev pub written : List ℕ → List ℕ → List ℕ
written words lent = words ++ drop (length words) lent

module _ {E : Type 0} where
  -- a new machine
  abbrev pub made : ℕ → Meaning E → Network → Plain E
  made name meaning net = record { name = name; meaning = meaning; origin = net; now = net; started = 0; jobs = [] }

  -- a machine with other messages and other pending jobs
  abbrev pub with_now : Plain E → Network → List (Job E) → Plain E
  with_now s net jobs = record { name = s.name; meaning = s.meaning; origin = s.origin; now = net; started = s.started; jobs = jobs }

  -- the job of a number
  abbrev pub numbered : ℕ → List (Job E) → Option (Job E)
  numbered n [] = none
  numbered n (job ∷ jobs) = cond (job.number == n) (some job) (numbered n jobs)

  -- the pending job that a token shows
  abbrev pub shown : Plain E → (name number : ℕ) → Option (Job E)
  shown s name number = cond (name == s.name) (numbered number s.jobs) none

  -- whether the engine's parts fit each other: there are ranks, a block and a stamp fit a message, and nothing waited at the making
  abbrev pub fit : Plain E → Bool
  fit s =
      nat_lt 0 s.origin.ranks
      && (nat_le s.meaning.width widest
      && (nat_le (s.meaning.width + 1) s.origin.limit
      && waiting_in_all s.origin == 0))

  -- what each rank's block unpacks to
  abbrev pub blocks_read : Plain E → List ℕ → List (Result E BlockFault)
  blocks_read s words = map s.meaning.unpack (blocks s.meaning.width s.now.ranks words)

  -- the first block refused, the blocks counted from rank r
  abbrev pub block_refusal : ℕ → List (Result E BlockFault) → Option Refusal
  block_refusal r [] = none
  block_refusal r (Ok x ∷ more) = block_refusal (suc r) more
  block_refusal r (Err f ∷ more) = some (bad_block r f)

  -- the messages of the pending jobs, by the formulas
  abbrev pub messages_pending : ℕ → List (Job E) → ℕ
  messages_pending p [] = 0
  messages_pending p (job ∷ jobs) = messages job.kind p job.root + messages_pending p jobs

  -- whether one job more could fill the way between two ranks, or the transport
  abbrev pub crowds : Plain E → Kind → ℕ → Bool
  crowds s kind root =
      nat_lt s.now.depth (length s.jobs + 1)
      || nat_lt s.now.room (messages_pending s.now.ranks s.jobs + messages kind s.now.ranks root)

  -- the words of a job's answer blocks, from what its ranks hold
  abbrev pub answer_words : Plain E → Job E → List ℕ
  answer_words s job = packed s.meaning (outcome s.meaning job.kind job.root job.ranks)

  -- refusals, in order --

  -- start, its root being 0 for a kind that has none
  abbrev pub start_refusals : Plain E → Kind → ℕ → List ℕ → List (Option Refusal)
  start_refusals s kind root words =
      when (not (fit s)) unfit
      ∷ when (not (nat_lt root s.now.ranks)) bad_root
      ∷ when (not (length words == s.now.ranks * s.meaning.width)) bad_length
      ∷ block_refusal 0 (blocks_read s words)
      ∷ when (nat_le most_pending (length s.jobs)) four_pending
      ∷ when (crowds s kind root) crowded
      ∷ when (nat_le most_started s.started) numbers_spent
      ∷ []

  -- end, of a pending job
  abbrev pub end_refusals : Plain E → Job E → List ℕ → List (Option Refusal)
  end_refusals s job lent =
      when (not (finished s.meaning s.now.ranks job)) unfinished
      ∷ when (nat_lt (length lent) (length (answer_words s job))) too_few_words
      ∷ []

  -- turn, look, end and abandon: first of all the token has to show a pending job
  abbrev pub of_token : Option (Job E) → (Job E → List (Option Refusal)) → List (Option Refusal)
  of_token none more = some no_job ∷ []
  of_token (some job) more = more job

  -- of every call
  abbrev pub refusals : Plain E → Call → List (Option Refusal)
  refusals s (start kind root words) = start_refusals s kind (root_for kind root) words
  refusals s (turn name number rank) = of_token (shown s name number) (λ job. when (not (nat_lt rank s.now.ranks)) bad_rank ∷ [])
  refusals s (carry from to) = when (not (apart s.now.ranks from to)) bad_pair ∷ []
  refusals s (look name number) = of_token (shown s name number) (λ job. [])
  refusals s (end name number lent) = of_token (shown s name number) (λ job. end_refusals s job lent)
  refusals s (abandon name number) = of_token (shown s name number) (λ job. [])

  -- start --

  -- the first that applies to a start
  abbrev pub start_refusal : Plain E → Kind → ℕ → List ℕ → Option Refusal
  start_refusal s kind root words = first_refusal (start_refusals s kind root words)

  -- a job as it starts, each rank holding its input
  abbrev pub new_job : Plain E → Kind → ℕ → List E → Job E
  new_job s kind root inputs = record {
    number = s.started + 1;
    kind = kind;
    root = root;
    inputs = inputs;
    ranks = map (fresh s.meaning.unit) inputs;
    sent = 0;
  }

  -- the machine with one job more
  abbrev pub with_started : Plain E → Job E → Plain E
  with_started s job = record {
    name = s.name;
    meaning = s.meaning;
    origin = s.origin;
    now = s.now;
    started = s.started + 1;
    jobs = s.jobs ++ (job ∷ []);
  }

  -- a start that is not refused hands out the token of the next number
  abbrev pub after_start : Plain E → Kind → ℕ → List ℕ → Option Refusal → Answer × Plain E
  after_start s kind root words (some f) = (refused f, s)
  after_start s kind root words none = (started s.name (s.started + 1), with_started s (new_job s kind root (elements (blocks_read s words))))

  -- turn --

  -- a message: its stamp, and the block of the value
  abbrev pub message_of : Meaning E → (number label : ℕ) → Mail E → Message
  message_of m number label mail = record { tag = tag_of number label; words = mail.stamp ∷ m.pack mail.value }

  -- a stamp and what its block unpacks to
  abbrev pub stamped : ℕ → Result E BlockFault → Option (Mail E)
  stamped stamp (Ok x) = some (record { stamp = stamp; value = x })
  stamped stamp (Err f) = none

  -- what the words of a message hold, if they fit
  abbrev pub mail_of : Meaning E → Option (List ℕ) → Option (Mail E)
  mail_of m none = none
  mail_of m (some []) = none
  mail_of m (some (stamp ∷ block)) = stamped stamp (m.unpack block)

  -- a take, where the message asked for has arrived or not
  abbrev pub take_move : Meaning E → (from tag : ℕ) → Merge → Rank E → Option (Mail E) → Move E
  take_move m from tag merge x none = stays waits
  take_move m from tag merge x (some mail) = takes from tag (after_take m.join merge mail x)

  -- the action of a rank that holds x: none left, a send, or a take of the oldest message with its tag
  abbrev pub action_move : Meaning E → Network → (number r : ℕ) → Rank E → Option Action → Move E
  action_move m net number r x none = stays through
  action_move m net number r x (some (Send to label)) = sends to (message_of m number label (posted x)) (after_send x)
  action_move m net number r x (some (Take from label merge)) =
      take_move m from (tag_of number label) merge x (mail_of m (oldest (tag_of number label) (net.arrived from r)))

  -- rank r does its next action in a job
  abbrev pub job_move : Meaning E → Network → ℕ → Option (Job E) → Move E
  job_move m net r none = stays (refused no_job)
  job_move m net r (some job) =
      cond (nat_lt r net.ranks)
      (action_move m net job.number r (rank_of m job r) (get_elem? (actions net.ranks job r) (rank_of m job r).done))
      (stays (refused bad_rank))

  -- what a turn is answered
  abbrev pub answer_of : Move E → Answer
  answer_of (stays a) = a
  answer_of (sends to message x) = sent
  answer_of (takes from tag x) = took

  -- what a move of rank r leaves: the network
  abbrev pub moved : ℕ → Move E → Network → Network
  moved r (stays a) net = net
  moved r (sends to message x) net = with_sent r to message net
  moved r (takes from tag x) net = with_taken from r tag net

  -- the job's ranks
  abbrev pub moved_ranks : ℕ → Move E → List (Rank E) → List (Rank E)
  moved_ranks r (stays a) ranks = ranks
  moved_ranks r (sends to message x) ranks = slice_set ranks r x
  moved_ranks r (takes from tag x) ranks = slice_set ranks r x

  -- and its count of turns answered sent
  abbrev pub moved_count : Move E → ℕ → ℕ
  moved_count (stays a) n = n
  moved_count (sends to message x) n = n + 1
  moved_count (takes from tag x) n = n

  -- a job, if it is the one of the number
  abbrev pub moved_job : (number r : ℕ) → Move E → Job E → Job E
  moved_job number r move job = record {
    number = job.number;
    kind = job.kind;
    root = job.root;
    inputs = job.inputs;
    ranks = cond (job.number == number) (moved_ranks r move job.ranks) job.ranks;
    sent = cond (job.number == number) (moved_count move job.sent) job.sent;
  }

  -- the machine after a move of rank r for the job of a number
  abbrev pub after_move : Plain E → (number r : ℕ) → Move E → Plain E
  after_move s number r move = with_now s (moved r move s.now) (map (moved_job number r move) s.jobs)

  -- the move of rank r, shown a token
  abbrev pub move_of : Plain E → (name number r : ℕ) → Move E
  move_of s name number r = job_move s.meaning s.now r (shown s name number)

  -- carry --

  -- a machine with other messages
  abbrev pub with_network : Plain E → Network → Plain E
  with_network s net = with_now s net s.jobs

  -- a carry is the transport's
  abbrev pub after_carry : Plain E → (from to : ℕ) → Option Refusal → Answer × Plain E
  after_carry s from to (some f) = (refused f, s)
  after_carry s from to none = (carried (some_carried (s.now.under from to)), with_network s (with_carried from to s.now))

  -- look, end and abandon --

  -- how many ranks have no action left
  abbrev pub after_look : Plain E → Option (Job E) → Answer × Plain E
  after_look s none = (refused no_job, s)
  after_look s (some job) = (looked (idle_ranks s.meaning s.now.ranks job), s)

  -- a machine with other messages and without the job of a number
  abbrev pub without_job : ℕ → Plain E → Network → Plain E
  without_job number s net = with_now s net (filter (λ job. not (job.number == number)) s.jobs)

  -- the first that applies to an end
  abbrev pub end_refusal : Plain E → Job E → List ℕ → Option Refusal
  end_refusal s job lent = first_refusal (end_refusals s job lent)

  -- an end that is not refused writes the answer blocks over the front of the lent words, answers rounds and messages, and the job is gone
  abbrev pub after_end : Plain E → Job E → List ℕ → Option Refusal → Answer × Plain E
  after_end s job lent (some f) = (refused f, s)
  after_end s job lent none =
      (ended (written (answer_words s job) lent) (rounds_of s.meaning s.now.ranks job) job.sent, without_job job.number s s.now)

  -- an end, of the job that its token shows
  abbrev pub end_shown : Plain E → Option (Job E) → List ℕ → Answer × Plain E
  end_shown s none lent = (refused no_job, s)
  end_shown s (some job) lent = after_end s job lent (end_refusal s job lent)

  -- all that is under way has arrived, and the job is gone with its messages
  abbrev pub after_abandon : Plain E → Option (Job E) → Answer × Plain E
  after_abandon s none = (refused no_job, s)
  after_abandon s (some job) = (abandoned, without_job job.number s (with_abandoned job.number s.now))

  -- one call: its answer, and the machine afterwards
  abbrev pub step : Plain E → Call → Answer × Plain E
  step s (start kind root words) = after_start s kind (root_for kind root) words (start_refusal s kind (root_for kind root) words)
  step s (turn name number r) = (answer_of (move_of s name number r), after_move s number r (move_of s name number r))
  step s (carry from to) = after_carry s from to (when (not (apart s.now.ranks from to)) bad_pair)
  step s (look name number) = after_look s (shown s name number)
  step s (end name number lent) = end_shown s (shown s name number) lent
  step s (abandon name number) = after_abandon s (shown s name number)
