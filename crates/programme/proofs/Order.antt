-- What follows for every kind: along a rank's programme stamps rise, and no number of a rank passes the rounds.
use Rattle.std.proofs.Common.{◌≡◌, ℕ, ◌<◌, ◌≤◌, Bool, true, List, [], ◌∷◌, ◌++◌, sym, refl, ap, ◌∙◌, subst, append_assoc, arith}
use Rattle.programme.specs.declared.Action.{Action}
use Rattle.programme.specs.declared.Action.TheVariants.{Send, Take}
use Rattle.programme.specs.declared.Merge.{Merge}
use Rattle.programme.specs.declared.Kind.{Kind}
use Rattle.programme.specs.declared.Kind.TheVariants.{Broadcast, Gather, Reduce, Scan, Exscan, Allreduce}
use Rattle.programme.specs.Monoid.{Laws}
use Rattle.programme.specs.Rank.{Rank, Mail, posted, acts, after_send, after_take}
use Rattle.programme.specs.Programme.{programme}
use Rattle.programme.specs.Solved.{Stands, Solved, state}
use Rattle.programme.specs.Formula.{rounds}
use Rattle.programme.specs.Progress.{Chain, Growing}
use Rattle.programme.specs.Outcome.{Outcome, ComesOut, start, final}
use Rattle.programme.specs.Message.{mail}
use Rattle.programme.proofs.Lists.{acts_append}
use Rattle.ranks.proofs.Sums.{le_greatest}
use Rattle.programme.proofs.Spans.{span_proper}
use Rattle.programme.proofs.Scanning.{scan_comes_out, exscan_comes_out}
use Rattle.programme.proofs.Exchanging.{allreduce_comes_out}
use Rattle.programme.proofs.Spreading.{broadcast_comes_out}
use Rattle.programme.proofs.Folding.{reduce_comes_out}
use Rattle.programme.proofs.Gathering.{gather_comes_out}

pub comes_out : (kind : Kind) (E : Type 0) → ComesOut kind E
comes_out Broadcast = broadcast_comes_out
comes_out Gather = gather_comes_out
comes_out Reduce = reduce_comes_out
comes_out Scan = scan_comes_out
comes_out Exscan = exscan_comes_out
comes_out Allreduce = allreduce_comes_out

module _ {E : Type 0} (join : E → E → E) (mails : ℕ → Mail E) where
  pub arrival_grows : (xs : List Action) (x : Rank E) → x.arrival ≤ (acts join mails xs x).arrival
  arrival_grows [] x = omega arith
  arrival_grows (Send to label ∷ xs) x = arrival_grows xs (after_send x)
  arrival_grows (Take from label m ∷ xs) x = omega (arith, arrival_grows xs (after_take join m (mails from) x))

  pub departure_grows : (xs : List Action) (x : Rank E) → x.departure ≤ (acts join mails xs x).departure
  departure_grows [] x = omega arith
  departure_grows (Send to label ∷ xs) x = omega (arith, departure_grows xs (after_send x))
  departure_grows (Take from label m ∷ xs) x = departure_grows xs (after_take join m (mails from) x)

  pub take_arrives : (xs : List Action) (x : Rank E) (a label : ℕ) (m : Merge) → Stands xs (Take a label m) → (mails a).stamp ≤ (acts join mails xs x).arrival
  take_arrives xs x a label m s =
      let y : Rank E = acts join mails s.before x in
      let e : acts join mails xs x ≡ acts join mails s.behind (after_take join m (mails a) y) = ap (λ (l : List Action). acts join mails l x) s.split ∙ acts_append join mails s.before (Take a label m ∷ s.behind) x in
      omega (arith, ap (λ (z : Rank E). z.arrival) e, arrival_grows s.behind (after_take join m (mails a) y))

  pub send_departs : (xs : List Action) (x : Rank E) (b label : ℕ) (s : Stands xs (Send b label)) → (posted (acts join mails s.before x)).stamp ≤ (acts join mails xs x).departure
  send_departs xs x b label s =
      let y : Rank E = acts join mails s.before x in
      let e : acts join mails xs x ≡ acts join mails s.behind (after_send y) = ap (λ (l : List Action). acts join mails l x) s.split ∙ acts_append join mails s.before (Send b label ∷ s.behind) x in
      omega (arith, ap (λ (z : Rank E). z.departure) e, departure_grows s.behind (after_send y))

module _ {E : Type 0} (join : E → E → E) (p : ℕ) (actions : ℕ → List Action) (first : ℕ → Rank E) (mails : ℕ → ℕ → Mail E) (solved : Solved join p actions first mails) where
  -- a send bears a later stamp than each take before it: no ring of ranks waits for one another
  pub take_then_send : (c x y label other : ℕ) (m : Merge) → c < p → (s : Stands (actions c) (Send y label)) → Stands s.before (Take x other m) → (mails x c).stamp < (mails c y).stamp
  take_then_send c x y label other m h s t =
      omega (arith, ap (λ (z : Mail E). z.stamp) (solved.send_mail c y label h s), take_arrives join (λ a. mails a c) s.before (first c) x other m t)

  pub send_then_send : (c x y label other : ℕ) → c < p → (s : Stands (actions c) (Send y label)) → Stands s.before (Send x other) → (mails c x).stamp < (mails c y).stamp
  send_then_send c x y label other h s t =
      let rest : List Action = Send y label ∷ s.behind in
      let u : Stands (actions c) (Send x other) = record { before = t.before; behind = t.behind ++ rest; split = s.split ∙ ap (λ (l : List Action). l ++ rest) t.split ∙ append_assoc t.before (Send x other ∷ t.behind) rest } in
      omega (arith, ap (λ (z : Mail E). z.stamp) (solved.send_mail c y label h s), ap (λ (z : Mail E). z.stamp) (solved.send_mail c x other h u), send_departs join (λ a. mails a c) s.before (first c) x other t)

  -- from message to message of a chain
  pub chain_grows : (a b : ℕ) (way : List ℕ) → Chain p actions a b way → Growing (λ x y. (mails x y).stamp) a b way
  chain_grows a b [] h = tt
  chain_grows a b (c ∷ way) h = (
    take_then_send b a c h.1.label h.1.taken_label h.1.merge h.0 h.1.sends h.1.takes,
    chain_grows b c way h.2,
  )

  -- a stamp is never 0
  pub stamp_positive : (a b label : ℕ) → a < p → Stands (actions a) (Send b label) → 0 < (mails a b).stamp
  stamp_positive a b label h s = omega (arith, ap (λ (z : Mail E). z.stamp) (solved.send_mail a b label h s))

  -- a bound on every rank's last arrival bounds every stamp, arrival and departure
  module _ (bound : ℕ) (ends : (r : ℕ) → r < p → (state join p actions first mails r (actions r)).arrival ≤ bound) (starts : (r : ℕ) → r < p → (first r).departure ≡ 0) where
    pub stamp_bound : (a b label : ℕ) → a < p → Stands (actions a) (Send b label) → (mails a b).stamp ≤ bound
    stamp_bound a b label h s =
        let met : (m : Merge) × Stands (actions b) (Take a label m) = solved.send_met a b label h s in
        omega (arith, take_arrives join (λ c. mails c b) (actions b) (first b) a label met.0 met.1, ends b (solved.send_rank a b label h s).0)

    pub arrival_bound : (r : ℕ) (done left : List Action) → r < p → actions r ≡ done ++ left → (state join p actions first mails r done).arrival ≤ bound
    arrival_bound r done left h e =
        let f : state join p actions first mails r (actions r) ≡ acts join (λ a. mails a r) left (state join p actions first mails r done) = ap (state join p actions first mails r) e ∙ acts_append join (λ a. mails a r) done left (first r) in
        omega (arith, ap (λ (z : Rank E). z.arrival) f, arrival_grows join (λ a. mails a r) left (state join p actions first mails r done), ends r h)

    departure_from : (r : ℕ) (done more left : List Action) → r < p → actions r ≡ done ++ (more ++ left) → (state join p actions first mails r done).departure ≤ bound → (acts join (λ a. mails a r) more (state join p actions first mails r done)).departure ≤ bound
    departure_from r done [] left h e d = d
    departure_from r done (Send b label ∷ more) left h e d =
        let s : Stands (actions r) (Send b label) = record { before = done; behind = more ++ left; split = e } in
        let f : state join p actions first mails r (done ++ (Send b label ∷ [])) ≡ after_send (state join p actions first mails r done) = acts_append join (λ a. mails a r) done (Send b label ∷ []) (first r) in
        let now : (state join p actions first mails r (done ++ (Send b label ∷ []))).departure ≤ bound = omega (arith, ap (λ (z : Rank E). z.departure) f, stamp_bound r b label h s, ap (λ (z : Mail E). z.stamp) (solved.send_mail r b label h s)) in
        subst (λ (z : Rank E). (acts join (λ a. mails a r) more z).departure ≤ bound) f
        (departure_from r (done ++ (Send b label ∷ [])) more left h (e ∙ sym (append_assoc done (Send b label ∷ []) (more ++ left))) now)
    departure_from r done (Take a label m ∷ more) left h e d =
        let f : state join p actions first mails r (done ++ (Take a label m ∷ [])) ≡ after_take join m (mails a r) (state join p actions first mails r done) = acts_append join (λ a. mails a r) done (Take a label m ∷ []) (first r) in
        let now : (state join p actions first mails r (done ++ (Take a label m ∷ []))).departure ≤ bound = omega (arith, ap (λ (z : Rank E). z.departure) f) in
        subst (λ (z : Rank E). (acts join (λ a. mails a r) more z).departure ≤ bound) f
        (departure_from r (done ++ (Take a label m ∷ [])) more left h (e ∙ sym (append_assoc done (Take a label m ∷ []) (more ++ left))) now)

    pub departure_bound : (r : ℕ) (done left : List Action) → r < p → actions r ≡ done ++ left → (state join p actions first mails r done).departure ≤ bound
    departure_bound r done left h e = departure_from r [] done left h e (omega (arith, starts r h))

-- for each kind
module _ {E : Type 0} (proper : E → Bool) (unit : E) (join : E → E → E) (laws : Laws proper unit join) (kind : Kind) (p root : ℕ) (root_lt : root < p) (inputs : ℕ → E) (inputs_proper : (r : ℕ) → r < p → proper (inputs r) ≡ true) where
  abbrev out : Outcome unit join p root inputs kind
  out = comes_out kind E proper unit join laws p root root_lt inputs inputs_proper

  -- every message carries a proper value
  pub mail_proper : (a b label : ℕ) → a < p → Stands (programme kind p root a) (Send b label) → proper (mail unit join kind p root inputs a b).value ≡ true
  mail_proper a b label h s = span_proper proper unit join laws p inputs inputs_proper _ _ (out.within a b label h s).1

  ends_by_rounds : (r : ℕ) → r < p → (final unit join kind p root inputs r).arrival ≤ rounds kind p root
  ends_by_rounds r h = omega (arith, le_greatest (λ r. (final unit join kind p root inputs r).arrival) p r h, out.rounds_are)

  pub stamps_by_rounds : (a b label : ℕ) → a < p → Stands (programme kind p root a) (Send b label) → (mail unit join kind p root inputs a b).stamp ≤ rounds kind p root
  stamps_by_rounds = stamp_bound join p (programme kind p root) (start unit join kind p root inputs) (mail unit join kind p root inputs) out.solved (rounds kind p root) ends_by_rounds (λ r h. refl)

  pub numbers_by_rounds : (r : ℕ) (done left : List Action) → r < p → programme kind p root r ≡ done ++ left →
      ((state join p (programme kind p root) (start unit join kind p root inputs) (mail unit join kind p root inputs) r done).arrival ≤ rounds kind p root)
      × ((state join p (programme kind p root) (start unit join kind p root inputs) (mail unit join kind p root inputs) r done).departure ≤ rounds kind p root)
  numbers_by_rounds r done left h e = (
    arrival_bound join p (programme kind p root) (start unit join kind p root inputs) (mail unit join kind p root inputs) out.solved (rounds kind p root) ends_by_rounds (λ r h. refl) r done left h e,
    departure_bound join p (programme kind p root) (start unit join kind p root inputs) (mail unit join kind p root inputs) out.solved (rounds kind p root) ends_by_rounds (λ r h. refl) r done left h e,
  )
