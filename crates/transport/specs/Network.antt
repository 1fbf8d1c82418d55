-- What a transport means: for each ordered pair of ranks the messages under way and those that have arrived, oldest first.
-- Each call's answer, and the network that it leaves, is a function of the network that it finds and of its arguments.
use Rattle.std.specs.Prelude.{◌≡◌, ℕ, ◌+◌, ◌≤◌, Bool, false, cond, not, ◌&&◌, List, [], ◌∷◌, ◌++◌, length, drop, Some, None, Ok, Err, Option, Result, ◌==◌, nat_le, nat_lt}
use Rattle.std.specs.List.{AllByRecursion}
use Rattle.ranks.specs.Ranks.{most_ranks, pair_ok, sum_below}
use Rattle.transport.specs.declared.Fault.{Fault}
use Rattle.transport.specs.declared.Fault.TheVariants.{BadPair, TooLong, PairFull, NoRoom, ShortBuffer}

-- a message: its tag and its words
pub record Message : Type 0 where
  pub tag : ℕ
  pub words : List ℕ

-- the message with that tag and these words
abbrev pub message : ℕ → List ℕ → Message
message t ws = record { tag = t; words = ws }

-- a network: how many ranks it has; how many messages may wait between two of them, and in all; how many words a message
-- may have; and from one rank to another the messages under way and those that have arrived, oldest first
pub record Network : Type 0 where
  pub ranks : ℕ
  pub depth : ℕ
  pub room : ℕ
  pub limit : ℕ
  pub under : ℕ → ℕ → List Message
  pub arrived : ℕ → ℕ → List Message

-- a network where nothing waits
abbrev pub quiet : (ranks depth room limit : ℕ) → Network
quiet p d r l = record { ranks = p; depth = d; room = r; limit = l; under = λ _ _. []; arrived = λ _ _. [] }

-- the network without ranks, where every call with ranks is refused
abbrev pub nobody : (limit : ℕ) → Network
nobody l = quiet 0 0 0 l

-- the network n, or the one without ranks where p is 0
abbrev pub when_ranks : (p limit : ℕ) → Network → Network
when_ranks p l n = cond (p == 0) (nobody l) n

-- the same network with other messages under way and arrived
abbrev pub with_lists : Network → (under arrived : ℕ → ℕ → List Message) → Network
with_lists n u v = record { ranks = n.ranks; depth = n.depth; room = n.room; limit = n.limit; under = u; arrived = v }

-- how many wait from a to b
abbrev pub between : Network → (a b : ℕ) → ℕ
between n a b = length (n.under a b) + length (n.arrived a b)

-- how many wait in all
unfoldable pub waiting : Network → ℕ
waiting n = sum_below (λ a. sum_below (λ b. between n a b) n.ranks) n.ranks

-- a table of pairs with the entry at a, b changed
abbrev pub put : {A : Type 0} → (ℕ → ℕ → A) → (a b : ℕ) → A → ℕ → ℕ → A
put f a b v x y = cond (a == x && b == y) v (f x y)

-- what a call answers: a refusal by its number, done, nothing there, or a number
pub data Reply : Type 0 where
  refused : ℕ → Reply
  done : Reply
  none : Reply
  value : ℕ → Reply

-- the number of each refusal
abbrev pub fault_number : Fault → ℕ
fault_number BadPair = 10
fault_number TooLong = 11
fault_number PairFull = 12
fault_number NoRoom = 13
fault_number ShortBuffer = 14

-- refused for that fault where the test holds, and otherwise the answer that follows
abbrev pub refuse_if : Bool → Fault → Reply → Reply
refuse_if test f r = cond test (refused (fault_number f)) r

-- what the code of a send answered
abbrev pub sending : {A : Type 0} → Result A Fault → Reply
sending (Ok _) = done
sending (Err f) = refused (fault_number f)

-- what the code of a carry answered: whether a message moved
abbrev pub carrying : Result Bool Fault → Reply
carrying (Ok moved) = value (cond moved 1 0)
carrying (Err f) = refused (fault_number f)

-- what the code of a take answered: how many words were written, or that no such message has arrived
abbrev pub taking : Result (Option ℕ) Fault → Reply
taking (Ok (Some k)) = value k
taking (Ok None) = none
taking (Err f) = refused (fault_number f)

-- what the code of a question answered
abbrev pub counting : Result ℕ Fault → Reply
counting (Ok k) = value k
counting (Err f) = refused (fault_number f)

-- how many wait from a to b: the answer
unfoldable pub between_reply : Network → (a b : ℕ) → Reply
between_reply n a b =
    refuse_if (not (pair_ok n.ranks a b)) BadPair
    (value (between n a b))

-- a send: the answer
unfoldable pub send_reply : Network → (a b : ℕ) → (words : List ℕ) → Reply
send_reply n a b ws =
    refuse_if (not (pair_ok n.ranks a b)) BadPair
    (refuse_if (nat_lt n.limit (length ws)) TooLong
    (refuse_if (nat_le n.depth (between n a b)) PairFull
    (refuse_if (nat_le n.room (waiting n)) NoRoom
    done)))

-- the message stands last under way
unfoldable pub sent : Network → (a b : ℕ) → Message → Network
sent n a b m = with_lists n (put n.under a b (n.under a b ++ (m ∷ []))) n.arrived

-- the first network where the answer is done, and otherwise the second
abbrev pub when_done : Reply → Network → Network → Network
when_done done n old = n
when_done (refused _) n old = old
when_done none n old = old
when_done (value _) n old = old

-- a send: the network after it
unfoldable pub after_send : Network → (a b : ℕ) → Message → Network
after_send n a b m = when_done (send_reply n a b m.words) (sent n a b m) n

-- whether there is one to carry: 1 or 0
abbrev pub some_moved : List Message → Reply
some_moved [] = value 0
some_moved (_ ∷ _) = value 1

-- a carry: the answer
unfoldable pub carry_reply : Network → (a b : ℕ) → Reply
carry_reply n a b =
    refuse_if (not (pair_ok n.ranks a b)) BadPair
    (some_moved (n.under a b))

-- the oldest of those under way, which are listed, stands last among those arrived
abbrev pub carried : Network → (a b : ℕ) → List Message → Network
carried n a b [] = n
carried n a b (m ∷ ms) = with_lists n (put n.under a b ms) (put n.arrived a b (n.arrived a b ++ (m ∷ [])))

-- a carry: the network after it
unfoldable pub after_carry : Network → (a b : ℕ) → Network
after_carry n a b = cond (pair_ok n.ranks a b) (carried n a b (n.under a b)) n

-- the oldest message with a tag
abbrev pub oldest : (tag : ℕ) → List Message → Option Message
oldest t [] = None
oldest t (m ∷ ms) = cond (m.tag == t) (Some m) (oldest t ms)

-- the messages without the oldest that has a tag
abbrev pub without : (tag : ℕ) → List Message → List Message
without t [] = []
without t (m ∷ ms) = cond (m.tag == t) ms (m ∷ without t ms)

-- how many words a message has, if there is one
abbrev pub word_count : Option Message → Reply
word_count None = none
word_count (Some m) = value (length m.words)

-- a message's words over the front of a buffer, whose rest stays as it was
abbrev pub written : Option Message → (buffer : List ℕ) → List ℕ
written None buffer = buffer
written (Some m) buffer = m.words ++ drop (length m.words) buffer

-- a take with a buffer of that size: the answer
unfoldable pub take_reply : Network → (a b tag size : ℕ) → Reply
take_reply n a b t size =
    refuse_if (not (pair_ok n.ranks a b)) BadPair
    (refuse_if (nat_lt size n.limit) ShortBuffer
    (word_count (oldest t (n.arrived a b))))

-- whether a take with a buffer of that size is not refused
abbrev pub may_take : Network → (a b size : ℕ) → Bool
may_take n a b size = pair_ok n.ranks a b && nat_le n.limit size

-- a take: the network after it
unfoldable pub after_take : Network → (a b tag size : ℕ) → Network
after_take n a b t size =
    cond (may_take n a b size) (with_lists n n.under (put n.arrived a b (without t (n.arrived a b)))) n

-- a take: the whole buffer after it
unfoldable pub taken_words : Network → (a b tag : ℕ) → (buffer : List ℕ) → List ℕ
taken_words n a b t buffer =
    cond (may_take n a b (length buffer)) (written (oldest t (n.arrived a b)) buffer) buffer

-- none of the messages has more words than that
abbrev pub Short : (limit : ℕ) → List Message → Type 0
Short l ms = AllByRecursion (λ m. length m.words ≤ l) ms

-- what the network of every transport is like, where its kind has that limit: the limit is at most 8 words, there are at most
-- as many ranks as may be, no ranks go with no depth and no room, and messages wait only between two different ranks and keep the limit
pub record Shaped (most : ℕ) (n : Network) : Type 0 where
  pub limited : n.limit ≡ most
  pub low : most ≤ 8
  pub few : n.ranks ≤ most_ranks
  pub no_depth : n.ranks ≡ 0 → n.depth ≡ 0
  pub no_room : n.ranks ≡ 0 → n.room ≡ 0
  pub no_under : (a b : ℕ) → pair_ok n.ranks a b ≡ false → n.under a b ≡ []
  pub no_arrived : (a b : ℕ) → pair_ok n.ranks a b ≡ false → n.arrived a b ≡ []
  pub short_under : (a b : ℕ) → Short most (n.under a b)
  pub short_arrived : (a b : ℕ) → Short most (n.arrived a b)
