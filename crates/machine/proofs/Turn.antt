-- A job after a turn of one rank that sends or takes.
use Rattle.std.proofs.Common.{◌≡◌, ℕ, suc, ◌+◌, ◌-◌, ◌/◌, ◌<◌, ◌≤◌, Bool, true, false, cond, ◌&&◌, eqb, List, [], ◌∷◌, drop, filter, sym, refl, ap, ◌∙◌, subst, subst₂, inl, inr, append-nil, arith, length-set}
use mathlib.Core.Option.{some}
use lib.ListN.{get_elem?}
use Rattle.std.proofs.lemmas.Bool.{ne_eqb, eq-eqb, eqb-true, eqb-false, cases_Bool, and_parts}
use Rattle.std.proofs.lemmas.List.Elements.{filter-append}
use Rattle.programme.specs.declared.Action.TheVariants.{Send, Take}
use Rattle.programme.specs.declared.Merge.{Merge}
use Rattle.programme.specs.Rank.{posted, after_send, after_take}
use Rattle.programme.specs.Solved.{Stands}
use Rattle.machine.specs.Operation.{Meaning, Lawful}
use Rattle.machine.specs.Network.{Message, Network, waiting, with_sent, with_taken, of_job, oldest}
use Rattle.machine.specs.Job.{Job, rank_of, actions}
use Rattle.machine.specs.Plain.{message_of, mail_of, tag_of}
use Rattle.machine.specs.Sound.{sends_to, takes_from, Proper, acts_done, Flight, JobSound}
use Rattle.machine.proofs.Lists.{tag_job, Removed, removed}
use Rattle.machine.proofs.Actions.{next, first_send}
use Rattle.machine.proofs.Between.{waiting_sent, waiting_taken}
use Rattle.machine.proofs.Advance.{advanced, flight_same, sends_new, sends_done_new, takes_new, ranks_new, merge_proper}

pub same_cond : (t : Bool) → ◌≡◌ {A = ℕ} (cond t 0 0) 0
same_cond true = refl
same_cond false = refl

self : (n : ℕ) → eqb n n ≡ true
self n = eq-eqb n n refl

swapped : (s t : Bool) → (s && t) ≡ false → (t && s) ≡ false
swapped true true e = e
swapped true false e = refl
swapped false true e = refl
swapped false false e = refl

-- a count that goes up at one pair alone
pub elsewhere : (a b c d : ℕ) → (eqb a c && eqb b d) ≡ false → ◌≡◌ {A = ℕ} (cond (eqb a c) (cond (eqb d b) 1 0 + 0) 0) 0
elsewhere a b c d e =
    elim (cases_Bool (eqb a c)) [
      | inl f ↦
          let g : eqb b d ≡ false = rw f at e in
          rw (f, ne_eqb d b (λ h. eqb-false b d g (sym h)))
      | inr f ↦ rw f
    ]

module _ {E : Type 0} (m : Meaning E) (p : ℕ) (net : Network) (job : Job E) (h : JobSound m p (waiting net) job) (r : ℕ) (below : r < p) where
  module _ (to label : ℕ) (here : get_elem? (actions p job r) (rank_of m job r).done ≡ some (Send to label)) where
    abbrev stands : Stands (actions p job r) (Send to label)
    stands = record {
      before = acts_done m p job r;
      behind = drop (suc (rank_of m job r).done) (actions p job r);
      split = (next (actions p job r) (rank_of m job r).done (Send to label) here).split;
    }

    pub sent_apart : (to < p) × (r ≡ to → ⊥) × (label < 16)
    sent_apart =
        let other = h.plan.solved.send_rank r to label below stands in
        (other.0, other.1, h.plan.labels_fit r below (Send to label) stands)

    pub mail_sent : h.plan.mail r to ≡ posted (rank_of m job r)
    mail_sent = h.plan.solved.send_mail r to label below stands ∙ ap posted (sym (h.rank_sound r below).known)

    pub none_sent : sends_to to (acts_done m p job r) ≡ 0
    none_sent = first_send h.plan.solved r to (rank_of m job r).done label below here

    abbrev msg : Message
    msg = message_of m job.number label (posted (rank_of m job r))

    abbrev sender : Job E
    sender = advanced job r (after_send (rank_of m job r)) (job.sent + 1)

    abbrev after : Network
    after = with_sent r to msg net

    abbrev SentFlight : ℕ → ℕ → Type 0
    SentFlight a b = Flight m (actions p job a) b job.number (h.plan.mail a b) (sends_to b (acts_done m p sender a)) (takes_from a (acts_done m p sender b)) (waiting after a b)

    sent_here : SentFlight r to
    sent_here =
        let s' : sends_to to (acts_done m p sender r) ≡ 1
        = sends_new p (waiting net) job h r below (Send to label) here (job.sent + 1) r to ∙ rw (none_sent, self r, self to) in
        let t : takes_from r (acts_done m p job to) ≡ 0 = omega (arith, (h.flight r to).taken_sent, none_sent) in
        let t' : takes_from r (acts_done m p sender to) ≡ 0
        = takes_new p (waiting net) job h r below (Send to label) here (job.sent + 1) r to ∙ rw (t, same_cond (eqb to r)) in
        let nothing : filter (of_job job.number) (waiting net r to) ≡ []
        = (h.flight r to).between ∙ rw (none_sent, t) in
        let mine : of_job job.number msg ≡ true = eq-eqb (msg.tag / 16) job.number (tag_job job.number label sent_apart.2) in
        record {
          taken_sent = omega arith;
          label = label;
          label_small = sent_apart.2;
          label_right = λ _. stands;
          between =
              rw (s', t')
              (ap (filter (of_job job.number)) (waiting_sent r to msg net r to)
              ∙ filter-append (of_job job.number) (waiting net r to) (cond (eqb r r && eqb to to) (msg ∷ []) [])
              ∙ rw (nothing, self r, self to, mine) (ap (λ x. message_of m job.number label x ∷ []) (sym mail_sent)));
          proper = λ _. subst (λ x. Proper m x.value) (sym mail_sent) (h.rank_sound r below).value_proper;
        }

    pub sent_sound : JobSound m p (waiting after) sender
    sent_sound = record {
      root_within = h.root_within;
      inputs_all = h.inputs_all;
      ranks_all = length-set job.ranks r (after_send (rank_of m job r)) ∙ h.ranks_all;
      sent_counted = omega (arith, sends_done_new p (waiting net) job h r below (Send to label) here (job.sent + 1), h.sent_counted);
      plan = h.plan;
      rank_sound = ranks_new p (waiting net) job h r below (Send to label) here (job.sent + 1)
          (h.rank_sound r below).value_proper (h.rank_sound r below).prefix_proper (h.rank_sound r below).kept_proper;
      flight = λ a b.
          elim (cases_Bool (eqb a r && eqb b to)) [
            | inl e ↦
                let parts = and_parts (eqb a r) (eqb b to) e in
                subst₂ SentFlight (sym (eqb-true a r parts.0)) (sym (eqb-true b to parts.1)) sent_here
            | inr e ↦
                flight_same _ _ _ _ (waiting net a b) (waiting after a b)
                (sends_new p (waiting net) job h r below (Send to label) here (job.sent + 1) a b ∙ rw (elsewhere a b r to e) (omega arith))
                (takes_new p (waiting net) job h r below (Send to label) here (job.sent + 1) a b ∙ rw (same_cond (eqb b r)) (omega arith))
                (ap (filter (of_job job.number)) (waiting_sent r to msg net a b ∙ rw e (append-nil (waiting net a b))))
                (h.flight a b)
          ];
    }

  module _ (lawful : Lawful m) (narrow : m.width ≤ 6) (from label : ℕ) (merge : Merge) (words : List ℕ)
      (here : get_elem? (actions p job r) (rank_of m job r).done ≡ some (Take from label merge))
      (found : oldest (tag_of job.number label) (net.arrived from r) ≡ some words) where
    pub took_apart : (from < p) × (from ≡ r → ⊥) × (label < 16)
    took_apart =
        let stood : Stands (actions p job r) (Take from label merge) = record {
          before = acts_done m p job r;
          behind = drop (suc (rank_of m job r).done) (actions p job r);
          split = (next (actions p job r) (rank_of m job r).done (Take from label merge) here).split;
        } in
        let other = h.plan.solved.take_rank from r label merge below stood in
        (other.0, other.1, h.plan.labels_fit r below (Take from label merge) stood)

    abbrev arriving : Message
    arriving = message_of m job.number (h.flight from r).label (h.plan.mail from r)

    abbrev tag : ℕ
    tag = tag_of job.number label

    pub one_out : Removed job.number tag words (net.arrived from r) (net.under from r) (sends_to r (acts_done m p job from) - takes_from from (acts_done m p job r)) arriving
    one_out = removed job.number tag words (net.arrived from r) (net.under from r) _ arriving (tag_job job.number label took_apart.2) found (h.flight from r).between

    pub took_proper : Proper m (h.plan.mail from r).value
    took_proper = (h.flight from r).proper (omega (arith, one_out.one_less))

    pub mail_took : mail_of m (some words) ≡ some (h.plan.mail from r)
    mail_took = rw (one_out.words_are, (lawful.packing narrow).unpack_pack (h.plan.mail from r).value took_proper)

    abbrev taker : Job E
    taker = advanced job r (after_take m.join merge (h.plan.mail from r) (rank_of m job r)) job.sent

    abbrev left : Network
    left = with_taken from r tag net

    abbrev TookFlight : ℕ → ℕ → Type 0
    TookFlight a b = Flight m (actions p job a) b job.number (h.plan.mail a b) (sends_to b (acts_done m p taker a)) (takes_from a (acts_done m p taker b)) (waiting left a b)

    took_here : TookFlight from r
    took_here =
        let s' : sends_to r (acts_done m p taker from) ≡ sends_to r (acts_done m p job from)
        = sends_new p (waiting net) job h r below (Take from label merge) here job.sent from r ∙ rw (same_cond (eqb from r)) (omega arith) in
        let t' : takes_from from (acts_done m p taker r) ≡ takes_from from (acts_done m p job r) + 1
        = takes_new p (waiting net) job h r below (Take from label merge) here job.sent from r ∙ rw (self r, self from) in
        let count : sends_to r (acts_done m p taker from) - takes_from from (acts_done m p taker r) ≡ one_out.left
        = omega (arith, one_out.one_less) in
        record {
          taken_sent = omega (arith, one_out.one_less);
          label = (h.flight from r).label;
          label_small = (h.flight from r).label_small;
          label_right = λ _. (h.flight from r).label_right (omega (arith, one_out.one_less));
          between = rw count (ap (filter (of_job job.number)) (waiting_taken from r tag net from r) ∙ rw (self from, self r) one_out.rest_are);
          proper = λ _. took_proper;
        }

    pub took_sound : JobSound m p (waiting left) taker
    took_sound =
        let proper = merge_proper lawful merge (h.plan.mail from r) (rank_of m job r) took_proper
        (h.rank_sound r below).value_proper (h.rank_sound r below).prefix_proper (h.rank_sound r below).kept_proper in
        record {
          root_within = h.root_within;
          inputs_all = h.inputs_all;
          ranks_all = length-set job.ranks r (after_take m.join merge (h.plan.mail from r) (rank_of m job r)) ∙ h.ranks_all;
          sent_counted = omega (arith, sends_done_new p (waiting net) job h r below (Take from label merge) here job.sent, h.sent_counted);
          plan = h.plan;
          rank_sound = ranks_new p (waiting net) job h r below (Take from label merge) here job.sent proper.0 proper.1 proper.2;
          flight = λ a b.
              elim (cases_Bool (eqb a from && eqb b r)) [
                | inl e ↦
                    let parts = and_parts (eqb a from) (eqb b r) e in
                    subst₂ TookFlight (sym (eqb-true a from parts.0)) (sym (eqb-true b r parts.1)) took_here
                | inr e ↦
                    flight_same _ _ _ _ (waiting net a b) (waiting left a b)
                    (sends_new p (waiting net) job h r below (Take from label merge) here job.sent a b ∙ rw (same_cond (eqb a r)) (omega arith))
                    (takes_new p (waiting net) job h r below (Take from label merge) here job.sent a b ∙ rw (elsewhere b a r from (swapped (eqb a from) (eqb b r) e)) (omega arith))
                    (ap (filter (of_job job.number)) (waiting_taken from r tag net a b ∙ rw e))
                    (h.flight a b)
              ];
        }
