-- Every call keeps a machine sound.
use Rattle.std.proofs.Common.{◌≡◌, ℕ, ◌+◌, ◌/◌, ◌<◌, ◌≤◌, true, ltb, leb, List, [], ◌∷◌, map, length, sym, refl, ap, ◌∙◌, subst, arith}
use mathlib.Core.Option.{Option, none, some}
use lib.ListN.{length-map}
use Rattle.std.specs.List.{AllByRecursion}
use Rattle.std.proofs.lemmas.Bool.{eq-eqb, and_parts, leb-true}
use Rattle.programme.specs.Rank.{Mail, posted, after_send, after_take}
use Rattle.machine.specs.Operation.{Lawful}
use Rattle.machine.specs.Network.{Message, Network, waiting, with_sent, with_taken, with_carried}
use Rattle.machine.specs.Job.{Job, rank_of}
use Rattle.machine.specs.Plain.{Plain, with_now, Refusal, Move, sends, takes, fit, moved_job, after_move, after_carry, messages_pending, message_of, tag_of, mail_of}
use Rattle.machine.specs.Sound.{Among, Distinct, numbers, JobSound, Sound}
use Rattle.machine.proofs.Lists.{tag_job}
use Rattle.machine.proofs.Between.{waiting_carried, sent_others, taken_others, sent_all, taken_all}
use Rattle.machine.proofs.Advance.{advanced, job_same}
use Rattle.machine.proofs.Turn.{sent_apart, sent_sound, took_apart, mail_took, took_sound}
use Rattle.machine.proofs.Jobs.{found, update, numbers_moved, messages_moved, jobs_stay, job_elsewhere}
use Rattle.machine.proofs.Turned.{Turned, idle, sending, taking}

module _ {E : Type 0} where
  rebuilt : (s : Plain E) → Sound s → (net : Network) (jobs : List (Job E))
      → net.ranks ≡ s.now.ranks → net.depth ≡ s.now.depth → net.room ≡ s.now.room → net.limit ≡ s.now.limit
      → numbers jobs ≡ numbers s.jobs
      → length jobs ≡ length s.jobs
      → ((p : ℕ) → messages_pending p jobs ≡ messages_pending p s.jobs)
      → AllByRecursion (JobSound s.meaning net.ranks (waiting net)) jobs
      → (fit s ≡ true → (a b : ℕ) → AllByRecursion (λ msg. Among (msg.tag / 16) (numbers s.jobs)) (waiting net a b))
      → Sound (with_now s net jobs)
  rebuilt s h net jobs er ed em el en ek eg js ws = record {
    same_ranks = er ∙ h.same_ranks;
    same_depth = ed ∙ h.same_depth;
    same_room = em ∙ h.same_room;
    same_limit = el ∙ h.same_limit;
    started_few = h.started_few;
    fits = λ some_job. h.fits (omega arith);
    distinct = subst Distinct (sym en) h.distinct;
    started_all = subst (AllByRecursion (λ n. n ≤ s.started)) (sym en) h.started_all;
    pending_few = omega (arith, h.pending_few);
    pending_depth = omega (arith, h.pending_depth);
    pending_room = omega (arith, eg net.ranks, ap (λ p. messages_pending p s.jobs) er, h.pending_room, em);
    jobs_sound = js;
    waiting_known = λ f a b. subst (λ ks. AllByRecursion (λ msg. Among (msg.tag / 16) ks) (waiting net a b)) (sym en) (ws f a b);
  }

  pub width_fits : (s : Plain E) → fit s ≡ true → s.meaning.width ≤ 6
  width_fits s e =
      let one = and_parts (ltb 0 s.origin.ranks) _ e in
      let two = and_parts (leb s.meaning.width 6) _ one.1 in
      leb-true s.meaning.width 6 two.0

  pub some_pending : (n : ℕ) (jobs : List (Job E)) → Among n (numbers jobs) → 0 < length jobs
  some_pending n (k ∷ jobs) h = omega arith
  some_pending n [] h = absurd h

  pub turn_sound : (s : Plain E) → Lawful s.meaning → Sound s → (n r : ℕ) {move : Move E} → Turned s n r move → Sound (after_move s n r move)
  turn_sound s lawful h n r (idle a _) = subst (λ jobs. Sound (with_now s s.now jobs)) (sym (jobs_stay n r a s.jobs)) h
  turn_sound s lawful h n r (sending job at within to label here) =
      let m = s.meaning in
      let p = s.now.ranks in
      let this = found n s.jobs job at in
      let sound : JobSound m p (waiting s.now) job = this.all_have (JobSound m p (waiting s.now)) h.jobs_sound in
      let msg : Message = message_of m job.number label (posted (rank_of m job r)) in
      let move : Move E = sends to msg (after_send (rank_of m job r)) in
      let net : Network = with_sent r to msg s.now in
      let of_this : msg.tag / 16 ≡ n = tag_job job.number label (sent_apart m p s.now job sound r within to label here).2 ∙ this.number_is in
      let changed_here : moved_job n r move job ≡ advanced job r (after_send (rank_of m job r)) (job.sent + 1) = rw (eq-eqb job.number n this.number_is) in
      rebuilt s h net (map (moved_job n r move) s.jobs) refl refl refl refl
      (numbers_moved n r move s.jobs)
      (length-map s.jobs (moved_job n r move))
      (λ q. messages_moved q n r move s.jobs)
      (update (JobSound m p (waiting s.now)) (JobSound m p (waiting net)) (moved_job n r move) n s.jobs job h.distinct at h.jobs_sound
      (λ hs. subst (JobSound m p (waiting net)) (sym changed_here) (sent_sound m p s.now job hs r within to label here))
      (λ k other hk.
      subst (JobSound m p (waiting net)) (sym (job_elsewhere n r move k other))
      (job_same p (waiting s.now) (waiting net) k (sent_others k.number r to msg s.now (λ e. other (sym e ∙ of_this))) hk)))
      (λ f a b. sent_all (λ x. Among (x.tag / 16) (numbers s.jobs)) r to msg s.now a b (subst (λ i. Among i (numbers s.jobs)) (sym of_this) this.among) (h.waiting_known f a b))
  turn_sound s lawful h n r (taking job at within from label merge words mail here words_are mail_is) =
      let m = s.meaning in
      let p = s.now.ranks in
      let this = found n s.jobs job at in
      let sound : JobSound m p (waiting s.now) job = this.all_have (JobSound m p (waiting s.now)) h.jobs_sound in
      let narrow : m.width ≤ 6 = width_fits s (h.fits (some_pending n s.jobs this.among)) in
      let expected : Mail E = sound.plan.mail from r in
      let known : mail_of m (some words) ≡ some expected = mail_took m p s.now job sound r within lawful narrow from label merge words here words_are in
      let same : mail ≡ expected = cc in
      let tag : ℕ = tag_of job.number label in
      let move : Move E = takes from tag (after_take m.join merge expected (rank_of m job r)) in
      let net : Network = with_taken from r tag s.now in
      let of_this : tag / 16 ≡ n = tag_job job.number label (took_apart m p s.now job sound r within lawful narrow from label merge words here words_are).2 ∙ this.number_is in
      let changed_here : moved_job n r move job ≡ advanced job r (after_take m.join merge expected (rank_of m job r)) job.sent = rw (eq-eqb job.number n this.number_is) in
      subst (λ t. Sound (after_move s n r (takes from tag (after_take m.join merge t (rank_of m job r))))) (sym same)
      (rebuilt s h net (map (moved_job n r move) s.jobs) refl refl refl refl
      (numbers_moved n r move s.jobs)
      (length-map s.jobs (moved_job n r move))
      (λ q. messages_moved q n r move s.jobs)
      (update (JobSound m p (waiting s.now)) (JobSound m p (waiting net)) (moved_job n r move) n s.jobs job h.distinct at h.jobs_sound
      (λ _. subst (JobSound m p (waiting net)) (sym changed_here) (took_sound m p s.now job sound r within lawful narrow from label merge words here words_are))
      (λ k other hk.
      subst (JobSound m p (waiting net)) (sym (job_elsewhere n r move k other))
      (job_same p (waiting s.now) (waiting net) k (taken_others k.number from r tag s.now (λ e. other (sym e ∙ of_this))) hk)))
      (λ f a b. taken_all (λ x. Among (x.tag / 16) (numbers s.jobs)) from r tag s.now a b (h.waiting_known f a b)))

  pub carry_sound : (s : Plain E) → Sound s → (from to : ℕ) (o : Option Refusal) → Sound (after_carry s from to o).1
  carry_sound s h from to (some f) = h
  carry_sound s h from to none =
      let same = sym (waiting_carried from to s.now) in
      rebuilt s h (with_carried from to s.now) s.jobs refl refl refl refl refl refl (λ p. refl)
      (subst (λ w. AllByRecursion (JobSound s.meaning s.now.ranks w) s.jobs) same h.jobs_sound)
      (λ f a b. subst (λ w. AllByRecursion (λ x. Among (x.tag / 16) (numbers s.jobs)) (w a b)) same (h.waiting_known f a b))
