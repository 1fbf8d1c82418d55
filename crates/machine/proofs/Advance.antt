-- A job with one rank an action further.
use Rattle.std.proofs.Common.{◌≡◌, ℕ, ◌+◌, ◌<◌, cond, eqb, List, [], ◌∷◌, ◌++◌, get_or, take, set, filter, sym, refl, ap, ◌∙◌, subst, inl, inr, arith}
use mathlib.Core.Option.{some}
use lib.ListN.{get_elem?}
use Rattle.std.specs.List.{AllByRecursion}
use Rattle.std.proofs.lemmas.Bool.{ne_eqb, eq-eqb, cases_eq}
use Rattle.std.proofs.lemmas.List.{get_or-set_same, get_or-set_other}
use Rattle.std.proofs.ByRecursion.{All-append}
use Rattle.programme.specs.declared.Action.{Action}
use Rattle.programme.specs.declared.Action.TheVariants.{Send, Take}
use Rattle.programme.specs.declared.Merge.{Merge}
use Rattle.programme.specs.declared.Merge.TheVariants.{Replace, Keep, Before, After, Prefix}
use Rattle.programme.specs.Rank.{Rank, Mail, fresh, act, after_take}
use Rattle.programme.specs.Solved.{state}
use Rattle.machine.specs.Operation.{Meaning, Lawful}
use Rattle.machine.specs.Network.{Message, of_job}
use Rattle.machine.specs.Job.{Job, rank_of, actions}
use Rattle.programme.specs.Formula.{sends as sends_in}
use Rattle.ranks.specs.Ranks.{sum_below}
use Rattle.ranks.proofs.Sums.{sum_same, sum-add, sum_one}
use Rattle.machine.specs.Sound.{sends_to, takes_from, sends_done, Proper, acts_done, Flight, RankSound, JobSound}
use Rattle.machine.proofs.Actions.{next, sends_to_append, takes_from_append, sends_in_append, acts_push}

-- rank r is now x, and n turns were answered sent
abbrev pub advanced : {E : Type 0} → Job E → (r : ℕ) → Rank E → (n : ℕ) → Job E
advanced job r x n = record {
  number = job.number;
  kind = job.kind;
  root = job.root;
  inputs = job.inputs;
  ranks = set job.ranks r x;
  sent = n;
}

module _ {E : Type 0} {m : Meaning E} where
  pub flight_same : {prog : List Action} {b number : ℕ} {mail : Mail E} (s t s' t' : ℕ) (ws ws' : List Message) → s' ≡ s → t' ≡ t
      → filter (of_job number) ws' ≡ filter (of_job number) ws
      → Flight m prog b number mail s t ws
      → Flight m prog b number mail s' t' ws'
  flight_same s t s' t' ws ws' es et ew f = record {
    taken_sent = omega (arith, f.taken_sent);
    label = f.label;
    label_small = f.label_small;
    label_right = λ h. f.label_right (omega arith);
    between = rw (es, et) (ew ∙ f.between);
    proper = λ h. f.proper (omega arith);
  }

  pub job_same : (p : ℕ) (w w' : ℕ → ℕ → List Message) (job : Job E)
      → ((a b : ℕ) → filter (of_job job.number) (w' a b) ≡ filter (of_job job.number) (w a b))
      → JobSound m p w job
      → JobSound m p w' job
  job_same p w w' job ew h = record {
    root_within = h.root_within;
    inputs_all = h.inputs_all;
    ranks_all = h.ranks_all;
    sent_counted = h.sent_counted;
    plan = h.plan;
    rank_sound = h.rank_sound;
    flight = λ a b. flight_same _ _ _ _ (w a b) (w' a b) refl refl (ew a b) (h.flight a b);
  }

  pub merge_proper : Lawful m → (merge : Merge) (mail : Mail E) (x : Rank E) → Proper m mail.value → Proper m x.value → Proper m x.prefix → AllByRecursion (Proper m) x.kept
      → (Proper m (after_take m.join merge mail x).value) × Proper m (after_take m.join merge mail x).prefix × AllByRecursion (Proper m) (after_take m.join merge mail x).kept
  merge_proper l Replace mail x t v e k = (t, e, k)
  merge_proper l Keep mail x t v e k = (v, e, All-append (Proper m) x.kept (mail.value ∷ []) k (t, tt))
  merge_proper l Before mail x t v e k = (l.monoid.join_proper _ _ t v, e, k)
  merge_proper l After mail x t v e k = (l.monoid.join_proper _ _ v t, e, k)
  merge_proper l Prefix mail x t v e k = (l.monoid.join_proper _ _ t v, l.monoid.join_proper _ _ t e, k)

  module _ (p : ℕ) (w : ℕ → ℕ → List Message) (job : Job E) (h : JobSound m p w job) (r : ℕ) (below : r < p) (a : Action)
      (here : get_elem? (actions p job r) (rank_of m job r).done ≡ some a) (n : ℕ) where
    abbrev was : Rank E
    was = rank_of m job r

    abbrev is : Rank E
    is = act m.join (λ q. h.plan.mail q r) a (rank_of m job r)

    abbrev new : Job E
    new = advanced job r is n

    one_more : is.done ≡ was.done + 1
    one_more = go a
      where
        go : (b : Action) → (act m.join (λ q. h.plan.mail q r) b (rank_of m job r)).done ≡ was.done + 1
        go (Send to label) = refl
        go (Take from label merge) = refl

    pub rank_here : rank_of m new r ≡ is
    rank_here = get_or-set_same job.ranks r is (fresh m.unit m.unit) (omega (arith, h.ranks_all))

    pub rank_there : (q : ℕ) → (q ≡ r → ⊥) → rank_of m new q ≡ rank_of m job q
    rank_there q other = get_or-set_other job.ranks r q is (fresh m.unit m.unit) other

    acts_here : acts_done m p new r ≡ acts_done m p job r ++ (a ∷ [])
    acts_here = ap (λ k. take k (actions p job r)) (ap (λ x. x.done) rank_here ∙ one_more) ∙ (next (actions p job r) was.done a here).more

    acts_there : (q : ℕ) → (q ≡ r → ⊥) → acts_done m p new q ≡ acts_done m p job q
    acts_there q other = ap (λ x. take x.done (actions p job q)) (rank_there q other)

    pub sends_new : (q b : ℕ) → sends_to b (acts_done m p new q) ≡ sends_to b (acts_done m p job q) + cond (eqb q r) (sends_to b (a ∷ [])) 0
    sends_new q b =
        elim (cases_eq q r) [
          | inl e ↦ rw (eq-eqb q r e, e) (ap (sends_to b) acts_here ∙ sends_to_append b (acts_done m p job r) (a ∷ []))
          | inr e ↦ rw (ne_eqb q r e) (ap (sends_to b) (acts_there q e) ∙ omega arith)
        ]

    pub sends_in_new : (q : ℕ) → sends_in (acts_done m p new q) ≡ sends_in (acts_done m p job q) + cond (eqb q r) (sends_in (a ∷ [])) 0
    sends_in_new q =
        elim (cases_eq q r) [
          | inl e ↦ rw (eq-eqb q r e, e) (ap sends_in acts_here ∙ sends_in_append (acts_done m p job r) (a ∷ []))
          | inr e ↦ rw (ne_eqb q r e) (ap sends_in (acts_there q e) ∙ omega arith)
        ]

    -- one more of the ranks' sends is done, or as many
    pub sends_done_new : sends_done m p new ≡ sends_done m p job + sends_in (a ∷ [])
    sends_done_new =
        sum_same _ _ p (λ q _. sends_in_new q)
        ∙ sum-add (λ q. sends_in (acts_done m p job q)) (λ q. cond (eqb q r) (sends_in (a ∷ [])) 0) p
        ∙ ap (λ c. sends_done m p job + c) (sum_one r (sends_in (a ∷ [])) p below)

    -- one more of the ranks' actions is done
    pub done_new : sum_below (λ q. (rank_of m new q).done) p ≡ sum_below (λ q. (rank_of m job q).done) p + 1
    done_new =
        sum_same _ (λ q. (rank_of m job q).done + cond (eqb q r) 1 0) p (λ q _.
        elim (cases_eq q r) [
          | inl e ↦ rw (eq-eqb q r e, e) (ap (λ x. x.done) rank_here ∙ one_more)
          | inr e ↦ rw (ne_eqb q r e) (ap (λ x. x.done) (rank_there q e) ∙ omega arith)
        ])
        ∙ sum-add (λ q. (rank_of m job q).done) (λ q. cond (eqb q r) 1 0) p
        ∙ ap (λ c. sum_below (λ q. (rank_of m job q).done) p + c) (sum_one r 1 p below)

    pub takes_new : (q b : ℕ) → takes_from q (acts_done m p new b) ≡ takes_from q (acts_done m p job b) + cond (eqb b r) (takes_from q (a ∷ [])) 0
    takes_new q b =
        elim (cases_eq b r) [
          | inl e ↦ rw (eq-eqb b r e, e) (ap (takes_from q) acts_here ∙ takes_from_append q (acts_done m p job r) (a ∷ []))
          | inr e ↦ rw (ne_eqb b r e) (ap (takes_from q) (acts_there b e) ∙ omega arith)
        ]

    abbrev after : ℕ → List Action → Rank E
    after q = state m.join p (actions p job) (λ i. fresh m.unit (get_or job.inputs i m.unit)) h.plan.mail q

    pub ranks_new : Proper m is.value → Proper m is.prefix → AllByRecursion (Proper m) is.kept → (q : ℕ) → q < p → RankSound m (actions p job q) (after q) (rank_of m new q)
    ranks_new v e k q within =
        elim (cases_eq q r) [
          | inl f ↦
              subst (λ i. RankSound m (actions p job i) (after i) (rank_of m new i)) (sym f)
              (subst (RankSound m (actions p job r) (after r)) (sym rank_here) (record {
                done_within = rw one_more (omega (arith, (next (actions p job r) was.done a here).within));
                known =
                    ap (act m.join (λ i. h.plan.mail i r) a) (h.rank_sound r below).known
                    ∙ sym (acts_push m.join (λ i. h.plan.mail i r) (acts_done m p job r) a (fresh m.unit (get_or job.inputs r m.unit)))
                    ∙ ap (after r) (sym (next (actions p job r) was.done a here).more ∙ ap (λ n. take n (actions p job r)) (sym one_more));
                value_proper = v;
                prefix_proper = e;
                kept_proper = k;
              }))
          | inr f ↦ subst (RankSound m (actions p job q) (after q)) (sym (rank_there q f)) (h.rank_sound q within)
        ]
