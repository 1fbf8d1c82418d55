-- The laws of every record of calls.
use Rattle.std.proofs.Common.{◌≡◌, ℕ, ◌*◌, ◌≤◌, true, not, ltb, List, [], ◌∷◌, ◌++◌, length, sym, refl, ap, ◌∙◌, subst, ap₂, subst₂, append_assoc, append-nil, arith}
use mathlib.Core.Option.{Option, none, some}
use Rattle.std.proofs.lemmas.Bool.{ltb-false, not-false, eq-eqb}
use Rattle.programme.specs.declared.Kind.{Kind}
use Rattle.programme.specs.Formula.{rounds, messages}
use Rattle.machine.specs.Operation.{Meaning, Lawful}
use Rattle.machine.specs.Network.{Network, waiting, WellMade}
use Rattle.machine.specs.Job.{Job, rounds_of, outcome, answer, packed, finished, idle_ranks}
use Rattle.machine.specs.Plain.{Plain, Refusal, start, end, started, looked, ended, step, made, when, unfinished, too_few_words, root_for, written, after_look, after_end, end_shown, end_refusal, answer_words, shown}
use Rattle.machine.specs.Record.{Entry, Follows, Recorded, is_sent, acts, turns, calls, after}
use Rattle.machine.specs.Replay.{rounds_told}
use Rattle.machine.specs.Laws.{RightEnd, Paced, RecordLaws}
use Rattle.machine.specs.Sound.{JobSound, Good}
use Rattle.machine.proofs.Jobs.{found, shown_found}
use Rattle.machine.proofs.Begin.{refusals_none, when_none}
use Rattle.machine.proofs.Finish.{ranks_final, messages_final, rounds_final, turns_final}
use Rattle.machine.proofs.Reachable.{Same, step_same, step_good, made_good}
use Rattle.machine.proofs.History.{Begun, History, step_on, actions_are}
use Rattle.machine.proofs.Replaying.{told_rounds}
use Rattle.machine.proofs.Progress.{goes_on}
use Rattle.machine.proofs.Trade.{trades}
use Rattle.machine.proofs.Refusing.{refuses_first}
use Rattle.machine.proofs.Wired.{wired}

-- a record's past, and what a good machine holds of it --

module _ {E : Type 0} where
  -- an end that is not refused
  end_right : (before : List Entry) (s : Plain E) → Good s → History before s → (token n : ℕ) (lent words : List ℕ) (r k : ℕ) (o : Option (Job E)) → shown s token n ≡ o
      → (end_shown s o lent).0 ≡ ended words r k
      → RightEnd s.name s.meaning s.now.ranks before n lent words r k
  end_right before s good h token n lent words r k none e given = let z : ◌≡◌ {A = ℕ} 0 1 = cc in absurd (omega arith)
  end_right before s good h token n lent words r k (some job) e given = go (end_refusal s job lent) refl given
    where
      go : (o : Option Refusal) → end_refusal s job lent ≡ o → (after_end s job lent o).0 ≡ ended words r k → RightEnd s.name s.meaning s.now.ranks before n lent words r k
      go (some f) q a = let z : ◌≡◌ {A = ℕ} 0 1 = cc in absurd (omega arith)
      go none q a =
          let m = s.meaning in
          let p = s.now.ranks in
          let first = refusals_none (when (not (finished m p job)) unfinished) _ q in
          let second = refusals_none (when (ltb (length lent) (length (answer_words s job))) too_few_words) _ first.1 in
          let idle_all : finished m p job ≡ true = not-false _ (when_none _ unfinished first.0) in
          let long : length (answer_words s job) ≤ length lent = ltb-false (length lent) (length (answer_words s job)) (when_none _ too_few_words second.0) in
          let found_job = found n s.jobs job (shown_found s token n job e) in
          let number_is = found_job.number_is in
          let sound : JobSound m p (waiting s.now) job = found_job.all_have (JobSound m p (waiting s.now)) good.sound.jobs_sound in
          let b : Begun before s.name m p job = found_job.all_have (Begun before s.name m p) h.jobs_begun in
          let after_is : words ≡ written (answer_words s job) lent = cc in
          let r_is : r ≡ rounds_of m p job = cc in
          let k_is : k ≡ job.sent = cc in
          let root_is = b.root_is in
          let words_are : answer_words s job ≡ packed m (answer m job.kind (root_for job.kind b.root_given) job.inputs)
          = ap (λ ranks. packed m (outcome m job.kind job.root ranks)) (ranks_final m p (waiting s.now) job sound idle_all)
          ∙ ap (packed m) sound.plan.answers
          ∙ ap (λ root. packed m (answer m job.kind root job.inputs)) root_is in
          record {
            kind = job.kind;
            root = b.root_given;
            words = b.words;
            begun = subst (λ i. Recorded (start job.kind b.root_given b.words) (started s.name i) before) number_is b.begun;
            only = λ k q ws rec.
                b.only k q ws (subst (λ i. Recorded (start k q ws) (started s.name i) before) (sym number_is) rec);
            inputs = job.inputs;
            read = b.read;
            room = subst (λ l. length l ≤ length lent) words_are long;
            answered = after_is ∙ ap (λ l. written l lent) words_are;
            rounds_counted =
                r_is ∙ told_rounds m p job (turns acts job.number before) b.told ∙ ap₂ (λ root i. rounds_told job.kind p root (turns acts i before)) root_is number_is;
            rounds_are = r_is ∙ rounds_final m p (waiting s.now) job sound idle_all ∙ ap (rounds job.kind p) root_is;
            messages_counted = k_is ∙ b.counted ∙ ap (λ i. length (turns is_sent i before)) number_is;
            messages_are = k_is ∙ messages_final m p (waiting s.now) job sound idle_all ∙ ap (messages job.kind p) root_is;
          }

  -- the turns of a started job
  paced : (before : List Entry) (s : Plain E) → Good s → History before s → (kind : Kind) (root : ℕ) (words : List ℕ) (n : ℕ) → Recorded (start kind root words) (started s.name n) before
      → Paced s s.now.ranks before kind (root_for kind root) n
  paced before s good h kind root words n rec = record {
    at_most = h.few kind root words n rec;
    when_finished = λ given. go (shown s s.name n) refl given;
  }
    where
      go : (o : Option (Job E)) → shown s s.name n ≡ o → (after_look s o).0 ≡ looked s.now.ranks → length (turns acts n before) ≡ 2 * messages kind s.now.ranks (root_for kind root)
      go none e a = let z : ◌≡◌ {A = ℕ} 0 1 = cc in absurd (omega arith)
      go (some job) e a =
          let m = s.meaning in
          let p = s.now.ranks in
          let idle : idle_ranks m p job ≡ p = cc in
          let found_job = found n s.jobs job (shown_found s s.name n job e) in
          let sound : JobSound m p (waiting s.now) job = found_job.all_have (JobSound m p (waiting s.now)) good.sound.jobs_sound in
          let b : Begun before s.name m p job = found_job.all_have (Begun before s.name m p) h.jobs_begun in
          let one = b.only kind root words (subst (λ i. Recorded (start kind root words) (started s.name i) before) (sym found_job.number_is) rec) in
          ap (λ i. length (turns acts i before)) (sym found_job.number_is)
          ∙ sym b.paced
          ∙ turns_final m p (waiting s.now) job sound (eq-eqb (idle_ranks m p job) p idle)
          ∙ actions_are m p s.now job sound
          ∙ ap₂ (λ k q. 2 * messages k p q) (sym one.0) (b.root_is ∙ ap₂ root_for (sym one.0) (sym one.1))

  -- a machine after the calls of a record, with its past
  record Past (past : List Entry) (s t : Plain E) : Type 0 where
    pub same : Same s t
    pub same_ranks : t.now.ranks ≡ s.now.ranks
    pub good : Good t
    pub history : History past t

  past_from : (past before behind : List Entry) (s : Plain E) → Good s → History past s → Follows s (before ++ behind) → Past (past ++ before) s (after s (calls before))
  past_from past [] behind s good h f = record {
    same = record { name_same = refl; meaning_same = refl; origin_same = refl };
    same_ranks = refl;
    good = good;
    history = subst (λ l. History l s) (sym (append-nil past)) h;
  }
  past_from past (b ∷ before) behind s good h f =
      let t : Plain E = (step s b.call).1 in
      let one = step_same s b.call in
      let next_good : Good t = step_good s good b.call in
      let rest = past_from (past ++ (b ∷ [])) before behind t next_good (step_on past s good h b.call b.answer f.0) f.1 in
      let ranks_same : t.now.ranks ≡ s.now.ranks = next_good.sound.same_ranks ∙ ap (λ net. net.ranks) one.origin_same ∙ sym good.sound.same_ranks in
      record {
        same = record {
          name_same = rest.same.name_same ∙ one.name_same;
          meaning_same = rest.same.meaning_same ∙ one.meaning_same;
          origin_same = rest.same.origin_same ∙ one.origin_same;
        };
        same_ranks = rest.same_ranks ∙ ranks_same;
        good = rest.good;
        history = subst (λ l. History l (after t (calls before))) (append_assoc past (b ∷ []) before) rest.history;
      }

  -- what the record goes on with follows the machine then
  follows_then : (before behind : List Entry) (s : Plain E) → Follows s (before ++ behind) → Follows (after s (calls before)) behind
  follows_then [] behind s f = f
  follows_then (b ∷ before) behind s f = follows_then before behind (step s b.call).1 f.1

  module _ (name : ℕ) (m : Meaning E) (net : Network) (lawful : Lawful m) (well : WellMade net) where
    past_of : (before behind : List Entry) → Follows (made name m net) (before ++ behind) → Past before (made name m net) (after (made name m net) (calls before))
    past_of before behind f =
        past_from [] before behind (made name m net) (made_good name m net lawful well)
        (record { jobs_begun = tt; later = λ n above. (refl, refl); known = λ kind root words n rec. absurd rec; few = λ kind root words n rec. absurd rec }) f

    pub record_laws : RecordLaws name m net
    record_laws = record {
      ends = λ before behind e token n lent words r k call given f.
          let t : Plain E = after (made name m net) (calls before) in
          let past = past_of before (e ∷ behind) f in
          let answered : (step t (end token n lent)).0 ≡ ended words r k = ap (λ c. (step t c).0) (sym call) ∙ sym (follows_then before (e ∷ behind) (made name m net) f).0 ∙ given in
          let right : RightEnd t.name t.meaning t.now.ranks before n lent words r k = end_right before t past.good past.history token n lent words r k (shown t token n) refl answered in
          subst (λ x. RightEnd x m net.ranks before n lent words r k) past.same.name_same
          (subst₂ (λ x y. RightEnd t.name x y before n lent words r k) past.same.meaning_same past.same_ranks right);
      trades = λ before behind e f q r alike t u differ given same.
          subst (λ s. Follows s (before ++ (f ∷ e ∷ behind))) (sym same) (trades (made name m net) before behind e f q r t u differ given);
      refuses = refuses_first;
      goes_on = λ entries f. goes_on _ (past_of entries [] (subst (Follows (made name m net)) (sym (append-nil entries)) f)).good;
      wired = λ entries f. wired _ (past_of entries [] (subst (Follows (made name m net)) (sym (append-nil entries)) f)).good;
      paces = λ entries kind root words n f rec.
          let t : Plain E = after (made name m net) (calls entries) in
          let past = past_of entries [] (subst (Follows (made name m net)) (sym (append-nil entries)) f) in
          subst (λ q. Paced t q entries kind (root_for kind root) n) past.same_ranks
          (paced entries t past.good past.history kind root words n (subst (λ x. Recorded (start kind root words) (started x n) entries) (sym past.same.name_same) rec));
    }
