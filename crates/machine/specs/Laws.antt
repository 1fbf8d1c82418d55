-- What holds of every record of calls, for every operation that keeps its laws and every transport.
use Rattle.std.specs.Prelude.{◌≡◌, ℕ, ◌*◌, ◌/◌, ◌<◌, ◌≤◌, true, ◌⊎◌, List, ◌∷◌, ◌++◌, map, length, ◌≢◌}
use Rattle.programme.specs.declared.Kind.{Kind}
use Rattle.programme.specs.Formula.{rounds, messages}
use Rattle.programme.specs.Label.{label_count}
use Rattle.machine.specs.Operation.{Meaning, Lawful, Ok}
use Rattle.transport.specs.Network.{done, value, send_reply, after_send, take_reply, after_take, carry_reply, after_carry}
use Rattle.machine.specs.Network.{Message, Network, of_job, WellMade}
use Rattle.machine.specs.Job.{blocks, answer, packed}
use Rattle.std.proofs.Math.Option.{none, some}
use Rattle.machine.specs.Plain.{Plain, Call, Refusal, refused, first_refusal, refusals, start, turn, carry, look, end, started, sent, took, carried, looked, ended, step, made, root_for, written}
use Rattle.machine.specs.Record.{Entry, Follows, Recorded, TurnOf, is_sent, acts, turns, calls, after}
use Rattle.machine.specs.Replay.{rounds_told}

module _ {E : Type 0} where
  -- of a job that ended, `before` being the entries before its end: it was started; its answer blocks stand over the front
  -- of the lent words, the rest as it was; its rounds and messages are those that `before` tells, and those of the formulas
  pub record RightEnd (name : ℕ) (m : Meaning E) (p : ℕ) (before : List Entry) (number : ℕ) (lent after : List ℕ) (r k : ℕ) : Type 0 where
    pub kind : Kind
    pub root : ℕ
    pub words : List ℕ
    pub begun : Recorded (start kind root words) (started name number) before
    -- no other start was handed the number
    pub only : (other : Kind) (q : ℕ) (ws : List ℕ) → Recorded (start other q ws) (started name number) before → (other ≡ kind) × (q ≡ root) × (ws ≡ words)
    -- rank by rank, what the blocks of the words unpack to
    pub inputs : List E
    pub read : map m.unpack (blocks m.width p words) ≡ map Ok inputs
    pub room : length (packed m (answer m kind (root_for kind root) inputs)) ≤ length lent
    pub answered : after ≡ written (packed m (answer m kind (root_for kind root) inputs)) lent
    -- the greatest arrival that the job's turns answered sent or took come to
    pub rounds_counted : r ≡ rounds_told kind p (root_for kind root) (turns acts number before)
    pub rounds_are : r ≡ rounds kind p (root_for kind root)
    -- the job's turns answered sent
    pub messages_counted : k ≡ length (turns is_sent number before)
    pub messages_are : k ≡ messages kind p (root_for kind root)

  -- every end that is not refused
  abbrev pub Ends : (name : ℕ) → Meaning E → Network → Type 0
  Ends name m net =
      (before behind : List Entry) (e : Entry) (token number : ℕ) (lent words : List ℕ) (r k : ℕ)
      → e.call ≡ end token number lent
      → e.answer ≡ ended words r k
      → Follows (made name m net) (before ++ (e ∷ behind))
      → RightEnd name m net.ranks before number lent words r k

  -- two neighbouring turns of different ranks, of one job or two, can trade positions:
  -- put to any machine made alike, every call of the record gets the answer that it had
  abbrev pub Trades : (name : ℕ) → Meaning E → Network → Type 0
  Trades name m net =
      (before behind : List Entry) (e f : Entry) (q r : ℕ) (alike : Plain E)
      → TurnOf q e.call
      → TurnOf r f.call
      → (q ≢ r)
      → Follows (made name m net) (before ++ (e ∷ f ∷ behind))
      → alike ≡ made name m net
      → Follows alike (before ++ (f ∷ e ∷ behind))

  -- a call is refused by the first of the refusals that applies, and by none otherwise; a refused call alters nothing
  pub record RefusesFirst (s : Plain E) (call : Call) : Type 0 where
    pub refused_by : (f : Refusal) → first_refusal (refusals s call) ≡ some f → step s call ≡ (refused f, s)
    pub not_refused : first_refusal (refusals s call) ≡ none → (f : Refusal) → (step s call).0 ≢ refused f

  -- while a job has ranks with actions left, some rank's turn for it would be answered sent or took, or some carry would move a message
  abbrev pub GoesOn : Plain E → Type 0
  GoesOn s =
      (number idle : ℕ)
      → (step s (look s.name number)).0 ≡ looked idle
      → idle < s.now.ranks
      → ((r : ℕ) × (acts (step s (turn s.name number r)).0 ≡ true)) ⊎ ((from : ℕ) × (to : ℕ) × ((step s (carry from to)).0 ≡ carried 1))

  -- of a started job: no more than two turns a message were answered sent or took, and once it is finished exactly two a message
  pub record Paced (s : Plain E) (p : ℕ) (entries : List Entry) (kind : Kind) (root number : ℕ) : Type 0 where
    pub at_most : length (turns acts number entries) ≤ 2 * messages kind p root
    pub when_finished : (step s (look s.name number)).0 ≡ looked p → length (turns acts number entries) ≡ 2 * messages kind p root

  -- every job started in a record
  abbrev pub Paces : (name : ℕ) → Meaning E → Network → Type 0
  Paces name m net =
      (entries : List Entry) (kind : Kind) (root : ℕ) (words : List ℕ) (number : ℕ)
      → Follows (made name m net) entries
      → Recorded (start kind root words) (started name number) entries
      → Paced (after (made name m net) (calls entries)) net.ranks entries kind (root_for kind root) number

  -- what turns and carries leave of the messages is what the transport's own send, take and carry leave, and none of these is refused
  pub record Wired (s : Plain E) : Type 0 where
    pub sends : (name number r : ℕ) → (step s (turn name number r)).0 ≡ sent
        → (to : ℕ) × (message : Message) × (of_job number message ≡ true) × (send_reply s.now r to message.words ≡ done) × ((step s (turn name number r)).1.now ≡ after_send s.now r to message)
    -- with any buffer that holds the transport's longest message
    pub takes : (name number r : ℕ) → (step s (turn name number r)).0 ≡ took → (buffer : List ℕ) → s.now.limit ≤ length buffer
        → (from : ℕ) × (tag : ℕ) × (k : ℕ) × (tag / label_count ≡ number) × (take_reply s.now from r tag (length buffer) ≡ value k) × ((step s (turn name number r)).1.now ≡ after_take s.now from r tag (length buffer))
    pub carries : (from to n : ℕ) → (step s (carry from to)).0 ≡ carried n
        → (carry_reply s.now from to ≡ value n) × ((step s (carry from to)).1.now ≡ after_carry s.now from to)

  -- what holds of every record of calls to a new machine
  pub record RecordLaws (name : ℕ) (m : Meaning E) (net : Network) : Type 0 where
    pub ends : Ends name m net
    pub trades : Trades name m net
    pub goes_on : (entries : List Entry) → Follows (made name m net) entries → GoesOn (after (made name m net) (calls entries))
    pub paces : Paces name m net
    pub wired : (entries : List Entry) → Follows (made name m net) entries → Wired (after (made name m net) (calls entries))
    -- of every machine, whatever came before
    pub refuses : (s : Plain E) (call : Call) → RefusesFirst s call

-- for every lawful operation and every well-made network
abbrev pub MachineLaws : Type 0 → Type 0
MachineLaws E = (name : ℕ) (m : Meaning E) (net : Network) → Lawful m → WellMade net → RecordLaws name m net
