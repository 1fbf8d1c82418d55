-- Turns and carries leave what the transport's own functions leave, and these refuse none of them.
use Rattle.std.proofs.Common.{◌≡◌, ℕ, ◌/◌, ◌≤◌, true, not, List, length, sym, refl, ap, ◌∙◌, arith}
use mathlib.Core.Option.{Option, none, some}
use Rattle.std.proofs.lemmas.Bool.{eq-eqb, not-false}
use Rattle.programme.specs.Rank.{posted}
use Rattle.transport.specs.Network.{done, value, send_reply, after_send, take_reply, after_take, carry_reply, after_carry}
use Rattle.machine.specs.Network.{Message, of_job, apart, waiting}
use Rattle.machine.specs.Job.{rank_of}
use Rattle.machine.specs.Plain.{Plain, Move, Refusal, sent, took, carried, answer_of, after_move, after_carry as carry_step, message_of, tag_of, when, bad_pair}
use Rattle.machine.specs.Record.{acts}
use Rattle.machine.specs.Laws.{Wired}
use Rattle.machine.specs.Sound.{JobSound, Good}
use Rattle.machine.proofs.Lists.{tag_job}
use Rattle.machine.proofs.Begin.{when_none}
use Rattle.machine.proofs.Jobs.{found}
use Rattle.machine.proofs.Keep.{width_fits, some_pending}
use Rattle.machine.proofs.Turn.{sent_apart, took_apart}
use Rattle.machine.proofs.Turned.{Turned, idle, sending, taking, turned}
use Rattle.machine.proofs.Crowd.{sendable, take_apart}
use Rattle.machine.proofs.Wires.{send_answers, send_leaves, take_finds, take_leaves, carry_answers, carry_leaves}

module _ {E : Type 0} (s : Plain E) (good : Good s) where
  sends_wired : (n r : ℕ) {move : Move E} → Turned s n r move → answer_of move ≡ sent
      → (to : ℕ) × (message : Message) × (of_job n message ≡ true) × (send_reply s.now r to message.words ≡ done) × ((after_move s n r move).now ≡ after_send s.now r to message)
  sends_wired n r (idle a quiet) e =
      let both = sym quiet ∙ ap acts e in
      let z : ◌≡◌ {A = ℕ} 0 1 = cc in
      absurd (omega arith)
  sends_wired n r (sending job at within to label here) e =
      let m = s.meaning in
      let p = s.now.ranks in
      let this = found n s.jobs job at in
      let sound : JobSound m p (waiting s.now) job = this.all_have (JobSound m p (waiting s.now)) good.sound.jobs_sound in
      let message : Message = message_of m job.number label (posted (rank_of m job r)) in
      let accepted = sendable s good n r job at within to label here in
      let mine : message.tag / 16 ≡ n = tag_job job.number label (sent_apart m p s.now job sound r within to label here).2 ∙ this.number_is in
      (to, message, eq-eqb (message.tag / 16) n mine, send_answers s r to message accepted, sym (send_leaves s r to message accepted))
  sends_wired n r (taking job at within from label merge words mail here words_are mail_is) e =
      let z : ◌≡◌ {A = ℕ} 0 1 = cc in
      absurd (omega arith)

  takes_wired : (n r : ℕ) {move : Move E} → Turned s n r move → answer_of move ≡ took → (buffer : List ℕ) → s.now.limit ≤ length buffer
      → (from : ℕ) × (tag : ℕ) × (k : ℕ) × (tag / 16 ≡ n) × (take_reply s.now from r tag (length buffer) ≡ value k) × ((after_move s n r move).now ≡ after_take s.now from r tag (length buffer))
  takes_wired n r (idle a quiet) e buffer long =
      let both = sym quiet ∙ ap acts e in
      let z : ◌≡◌ {A = ℕ} 0 1 = cc in
      absurd (omega arith)
  takes_wired n r (sending job at within to label here) e buffer long =
      let z : ◌≡◌ {A = ℕ} 0 1 = cc in
      absurd (omega arith)
  takes_wired n r (taking job at within from label merge words mail here words_are mail_is) e buffer long =
      let m = s.meaning in
      let p = s.now.ranks in
      let this = found n s.jobs job at in
      let sound : JobSound m p (waiting s.now) job = this.all_have (JobSound m p (waiting s.now)) good.sound.jobs_sound in
      let narrow = width_fits s (good.sound.fits (some_pending n s.jobs this.among)) in
      let tag : ℕ = tag_of job.number label in
      let mine : tag / 16 ≡ n = tag_job job.number label (took_apart m p s.now job sound r within good.lawful narrow from label merge words here words_are).2 ∙ this.number_is in
      let pair = take_apart s good n r job at within from label merge here in
      (from, tag, length words, mine, (take_finds s.now from r tag buffer pair long words words_are).0, sym (take_leaves s.now from r tag buffer pair long))

  carries_wired : (from to n : ℕ) (o : Option Refusal) → when (not (apart s.now.ranks from to)) bad_pair ≡ o → (carry_step s from to o).0 ≡ carried n
      → (carry_reply s.now from to ≡ value n) × ((carry_step s from to o).1.now ≡ after_carry s.now from to)
  carries_wired from to n none e given =
      let pair : apart s.now.ranks from to ≡ true = not-false _ (when_none _ bad_pair e) in
      (carry_answers s.now from to pair ∙ ap value cc, sym (carry_leaves s.now from to pair))
  carries_wired from to n (some f) e given =
      let z : ◌≡◌ {A = ℕ} 0 1 = cc in
      absurd (omega arith)

  pub wired : Wired s
  wired = record {
    sends = λ name n r e. sends_wired n r (turned s n r name) e;
    takes = λ name n r e buffer long. takes_wired n r (turned s n r name) e buffer long;
    carries = λ from to n e. carries_wired from to n (when (not (apart s.now.ranks from to)) bad_pair) refl e;
  }
