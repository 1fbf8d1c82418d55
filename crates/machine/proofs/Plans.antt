-- Every job has a plan: what the schedules come to, in the machine's words.
use Rattle.std.proofs.Common.{◌≡◌, ℕ, zero, suc, ◌+◌, ◌<◌, ◌≤◌, cond, eqb, List, [], ◌∷◌, ◌++◌, length, get_or, take, drop, sym, refl, ap, ◌∙◌, ap₂, inl, inr, append_assoc, append-nil, zero-add, add-one, arith, length-append, length-take-le, take_all, take-suc}
use lib.Seq.{take-nil, drop-append-le, take-append-le}
use Rattle.std.specs.List.{AllByRecursion}
use Rattle.std.proofs.lemmas.Bool.{ne_eqb, eq-eqb, cases_order}
use Rattle.std.proofs.lemmas.List.{drop_all}
use Rattle.std.proofs.ByRecursion.{All-get_or, All-take}
use Rattle.programme.specs.declared.Kind.{Kind}
use Rattle.programme.specs.declared.Kind.TheVariants.{Broadcast, Gather, Reduce, Scan, Exscan, Allreduce}
use Rattle.programme.specs.Rank.{Rank}
use Rattle.programme.specs.Monoid.{Laws, span}
use Rattle.programme.specs.Outcome.{Outcome, Promised, others, final}
use Rattle.programme.specs.Message.{mail}
use Rattle.programme.proofs.Order.{comes_out}
use Rattle.programme.proofs.Flowing.{flows}
use Rattle.machine.specs.Operation.{Meaning, Lawful}
use Rattle.machine.specs.Job.{total}
use Rattle.machine.specs.Sound.{Proper, Planned}
use Rattle.machine.proofs.Planning.{Final, outcome_final}

module _ {E : Type 0} where
  -- all but the one at `root`, with one element more
  others_push : (root n : ℕ) (xs : List E) (y : E) → length xs ≡ n
      → (take root xs ++ drop (suc root) xs) ++ cond (eqb n root) [] (y ∷ []) ≡ take root (xs ++ (y ∷ [])) ++ drop (suc root) (xs ++ (y ∷ []))
  others_push root n xs y e =
      let longer : length (xs ++ (y ∷ [])) ≡ suc n = omega (arith, length-append xs (y ∷ [])) in
      elim (cases_order n root) [
        | inl f ↦
            rw (eq-eqb n root f, take-append-le root xs (y ∷ []) (omega arith), drop_all (suc root) xs (omega arith), drop_all (suc root) (xs ++ (y ∷ [])) (omega arith))
            (append-nil (take root xs ++ []))
        | inr (inl f) ↦
            rw (ne_eqb n root (λ q. omega arith), take_all root xs (omega arith), take_all root (xs ++ (y ∷ [])) (omega arith), drop_all (suc root) xs (omega arith), drop_all (suc root) (xs ++ (y ∷ [])) (omega arith))
            (append_assoc xs [] (y ∷ []) ∙ sym (append-nil (xs ++ (y ∷ []))))
        | inr (inr f) ↦
            rw (ne_eqb n root (λ q. omega arith), take-append-le root xs (y ∷ []) (omega arith), drop-append-le (suc root) xs (y ∷ []) (omega arith))
            (append_assoc (take root xs) (drop (suc root) xs) (y ∷ []))
      ]

  others_as : (root : ℕ) (inputs : List E) (d : E) (n : ℕ) → n ≤ length inputs → others root (λ r. get_or inputs r d) n ≡ take root (take n inputs) ++ drop (suc root) (take n inputs)
  unfolding others
  others_as root inputs d zero h = ap (λ l. l ++ []) (sym (take-nil root))
  others_as root inputs d (suc n) h =
      ap (λ l. l ++ cond (eqb n root) [] (get_or inputs n d ∷ [])) (others_as root inputs d n (omega arith))
      ∙ others_push root n (take n inputs) (get_or inputs n d) (length-take-le n inputs (omega arith))
      ∙ ap (λ l. take root l ++ drop (suc root) l) (sym (take-suc inputs n d (omega arith)))

  module _ (m : Meaning E) (lawful : Lawful m) where
    laws : Laws m.proper m.unit m.join
    laws = record {
      unit_proper = lawful.monoid.unit_proper;
      join_proper = lawful.monoid.join_proper;
      assoc = lawful.monoid.assoc;
      unit_left = lawful.monoid.unit_left;
      unit_right = lawful.monoid.unit_right;
    }

    total_proper : (xs : List E) → AllByRecursion (Proper m) xs → Proper m (total m xs)
    total_proper [] h = lawful.monoid.unit_proper
    total_proper (x ∷ xs) h = lawful.monoid.join_proper x (total m xs) h.0 (total_proper xs h.1)

    total_push : (xs : List E) (y : E) → AllByRecursion (Proper m) xs → Proper m y → total m (xs ++ (y ∷ [])) ≡ m.join (total m xs) y
    total_push [] y h k = lawful.monoid.unit_right y k ∙ sym (lawful.monoid.unit_left y k)
    total_push (x ∷ xs) y h k = ap (m.join x) (total_push xs y h.1 k) ∙ sym (lawful.monoid.assoc x (total m xs) y h.0 (total_proper xs h.1) k)

    -- the first n inputs joined
    span_as : (inputs : List E) → AllByRecursion (Proper m) inputs → (n : ℕ) → n ≤ length inputs → span m.unit m.join (λ r. get_or inputs r m.unit) 0 n ≡ total m (take n inputs)
    unfolding span
    span_as inputs proper zero h = refl
    span_as inputs proper (suc n) h =
        ap₂ m.join (span_as inputs proper n (omega arith)) (ap (λ i. get_or inputs i m.unit) (zero-add n))
        ∙ sym (total_push (take n inputs) (get_or inputs n m.unit) (All-take (Proper m) n inputs proper) (All-get_or (Proper m) inputs n m.unit (omega arith) proper))
        ∙ ap (total m) (sym (take-suc inputs n m.unit (omega arith)))

    all_span : (inputs : List E) → AllByRecursion (Proper m) inputs → (p : ℕ) → length inputs ≡ p → span m.unit m.join (λ r. get_or inputs r m.unit) 0 p ≡ total m inputs
    all_span inputs proper p e = span_as inputs proper p (omega arith) ∙ ap (total m) (take_all p inputs (omega arith))

    final_as : (kind : Kind) (p root : ℕ) (inputs : List E) → AllByRecursion (Proper m) inputs → length inputs ≡ p → root < p → (last : ℕ → Rank E)
        → ((r : ℕ) → r < p → Promised m.unit m.join p root (λ q. get_or inputs q m.unit) kind r (last r))
        → Final m kind p root inputs last
    final_as Broadcast p root inputs proper e within last h = h
    final_as Gather p root inputs proper e within last h =
        let this = h root within refl in
        (this.0, this.1 ∙ others_as root inputs m.unit p (omega arith) ∙ rw (take_all p inputs (omega arith), add-one root))
    final_as Reduce p root inputs proper e within last h = h root within refl ∙ all_span inputs proper p e
    final_as Scan p root inputs proper e within last h = λ r below. h r below ∙ span_as inputs proper (r + 1) (omega arith)
    final_as Exscan p root inputs proper e within last h = λ r below. h r below ∙ span_as inputs proper r (omega arith)
    final_as Allreduce p root inputs proper e within last h = λ r below. h r below ∙ all_span inputs proper p e

    pub planned : Planned m
    planned kind p root inputs few within count proper =
        let at : ℕ → E = λ r. get_or inputs r m.unit in
        let out : Outcome m.unit m.join p root at kind
        = comes_out kind E m.proper m.unit m.join laws p root within at (λ r below. All-get_or (Proper m) inputs r m.unit (omega arith) proper) in
        let last : ℕ → Rank E = final m.unit m.join kind p root at in
        record {
          mail = mail m.unit m.join kind p root at;
          solved = out.solved;
          answers = outcome_final m kind p root inputs last within count (final_as kind p root inputs proper count within last out.promised);
          rounds_are = out.rounds_are;
          labels_fit = (flows kind p root within).labels_fit (omega arith);
          stamps_are = λ a b. refl;
          messages_are = out.messages_are;
        }
