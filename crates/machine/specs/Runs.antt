-- Whole runs of the machine over three ranks, by an operation that does not commute: maps y → a × y + b modulo 10.
use Rattle.std.specs.Prelude.{◌≡◌, ℕ, List, [], ◌∷◌}
use Rattle.programme.specs.declared.Kind.TheVariants.{Scan, Reduce, Gather}
use Rattle.operation.specs.declared.affine.AffineElement.{AffineElement}
use Rattle.operation.specs.Affine.{affine}
use Rattle.machine.specs.Operation.{WrongWord}
use Rattle.machine.specs.Network.{Network}
use Rattle.machine.specs.Plain.{Plain, Call, Answer, start, turn, carry, look, end, abandon, started, sent, took, waits, through, carried, looked, ended, abandoned, refused, unfinished, no_job, crowded, bad_root, bad_block, bad_length, bad_rank, bad_pair, too_few_words, made}
use Rattle.machine.specs.Record.{Entry, Follows, acts, turns}
use Rattle.machine.specs.Replay.{rounds_told}

infix 70 ◌⇒◌
-- a call and its answer
abbrev pub ◌⇒◌ : Call → Answer → Entry
call ⇒ answer = record { call = call; answer = answer }

-- three ranks, two messages between two of them, six in all, of up to four words
abbrev pub wires : Network
wires = record { ranks = 3; depth = 2; room = 6; limit = 4; under = λ a b. []; arrived = λ a b. [] }

-- the inputs (2, 1), (3, 4), (5, 6)
abbrev pub three_blocks : List ℕ
three_blocks = 2 ∷ 1 ∷ 3 ∷ 4 ∷ 5 ∷ 6 ∷ []

-- a new machine of name 7
abbrev pub new_machine : Plain AffineElement
new_machine = made 7 (affine 10) wires

-- it gives these answers
abbrev pub Run : List Entry → Type 0
Run entries = Follows new_machine entries

-- a scan, with refused calls on the way
abbrev pub scanned : List Entry
scanned =
    start Scan 0 three_blocks ⇒ started 7 1
    ∷ turn 7 1 1 ⇒ sent
    ∷ turn 7 1 1 ⇒ waits
    ∷ turn 7 1 0 ⇒ sent
    ∷ turn 7 1 1 ⇒ waits
    ∷ carry 0 1 ⇒ carried 1
    ∷ turn 7 1 1 ⇒ took
    ∷ carry 0 1 ⇒ carried 0
    ∷ carry 1 1 ⇒ refused bad_pair
    ∷ turn 7 1 1 ⇒ through
    ∷ turn 7 1 0 ⇒ sent
    ∷ turn 7 1 2 ⇒ waits
    ∷ carry 0 2 ⇒ carried 1
    ∷ turn 7 1 2 ⇒ waits
    ∷ carry 1 2 ⇒ carried 1
    ∷ look 7 1 ⇒ looked 2
    ∷ turn 7 1 2 ⇒ took
    ∷ end 7 1 (0 ∷ 0 ∷ 0 ∷ 0 ∷ 0 ∷ 0 ∷ 8 ∷ 9 ∷ []) ⇒ refused unfinished
    ∷ turn 7 1 2 ⇒ took
    ∷ look 7 1 ⇒ looked 3
    ∷ turn 7 1 3 ⇒ refused bad_rank
    ∷ turn 8 1 0 ⇒ refused no_job
    ∷ end 7 1 (0 ∷ 0 ∷ 0 ∷ 0 ∷ 0 ∷ []) ⇒ refused too_few_words
    ∷ end 7 1 (0 ∷ 0 ∷ 0 ∷ 0 ∷ 0 ∷ 0 ∷ 8 ∷ 9 ∷ []) ⇒ ended (2 ∷ 1 ∷ 6 ∷ 7 ∷ 0 ∷ 1 ∷ 8 ∷ 9 ∷ []) 2 3
    ∷ look 7 1 ⇒ refused no_job
    ∷ []

-- a reduce to rank 2 beside a gather to rank 1; a third job is crowded out
abbrev pub beside : List Entry
beside =
    start Reduce 3 [] ⇒ refused bad_root
    ∷ start Reduce 2 (2 ∷ 1 ∷ []) ⇒ refused bad_length
    ∷ start Reduce 2 (2 ∷ 1 ∷ 3 ∷ 10 ∷ 5 ∷ 6 ∷ []) ⇒ refused (bad_block 1 (WrongWord 1))
    ∷ start Reduce 2 three_blocks ⇒ started 7 1
    ∷ start Gather 1 three_blocks ⇒ started 7 2
    ∷ start Scan 0 three_blocks ⇒ refused crowded
    ∷ turn 7 1 1 ⇒ sent
    ∷ turn 7 2 0 ⇒ sent
    ∷ turn 7 2 2 ⇒ sent
    ∷ turn 7 1 2 ⇒ sent
    ∷ carry 1 0 ⇒ carried 1
    ∷ carry 2 0 ⇒ carried 1
    ∷ carry 0 1 ⇒ carried 1
    ∷ carry 2 1 ⇒ carried 1
    ∷ turn 7 1 0 ⇒ took
    ∷ turn 7 1 0 ⇒ took
    ∷ turn 7 1 0 ⇒ sent
    ∷ carry 0 2 ⇒ carried 1
    ∷ turn 7 1 2 ⇒ took
    ∷ end 7 1 (0 ∷ 0 ∷ []) ⇒ ended (0 ∷ 1 ∷ []) 3 3
    ∷ turn 7 2 1 ⇒ took
    ∷ turn 7 2 1 ⇒ took
    ∷ end 7 2 (0 ∷ 0 ∷ 0 ∷ 0 ∷ 0 ∷ 0 ∷ []) ⇒ ended three_blocks 2 2
    ∷ []

-- a gather does not take the scan's message that came first on its way; the scan is abandoned, and the gather's messages stay and have all arrived
abbrev pub left_behind : List Entry
left_behind =
    start Scan 0 three_blocks ⇒ started 7 1
    ∷ start Gather 1 three_blocks ⇒ started 7 2
    ∷ turn 7 1 0 ⇒ sent
    ∷ turn 7 2 0 ⇒ sent
    ∷ carry 0 1 ⇒ carried 1
    ∷ turn 7 2 1 ⇒ waits
    ∷ turn 7 2 2 ⇒ sent
    ∷ abandon 7 1 ⇒ abandoned
    ∷ abandon 7 1 ⇒ refused no_job
    ∷ turn 7 1 1 ⇒ refused no_job
    ∷ carry 0 1 ⇒ carried 0
    ∷ turn 7 2 1 ⇒ took
    ∷ turn 7 2 1 ⇒ took
    ∷ start Scan 0 three_blocks ⇒ started 7 3
    ∷ end 7 2 (0 ∷ 0 ∷ 0 ∷ 0 ∷ 0 ∷ 0 ∷ []) ⇒ ended three_blocks 2 2
    ∷ []

-- the runs, and the rounds that their entries tell
abbrev pub Runs : Type 0
Runs =
    Run scanned
    × Run beside
    × Run left_behind
    × (rounds_told Scan 3 0 (turns acts 1 scanned) ≡ 2)
    × (rounds_told Reduce 3 2 (turns acts 1 beside) ≡ 3)
    × (rounds_told Gather 3 1 (turns acts 2 beside) ≡ 2)
