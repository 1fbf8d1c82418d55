-- What the ranks of a job have to come to, rank by rank, for the job to give its answer.
use Rattle.std.proofs.Common.{◌≡◌, ℕ, zero, suc, ◌+◌, ◌<◌, List, [], ◌∷◌, ◌++◌, map, length, get_or, take, drop, sym, refl, ap, ◌∙◌, ap₂, add-one, arith, length-take-le}
use lib.ListN.{length-map}
use lib.Seq.{split_at}
use Rattle.std.proofs.lemmas.List.{map-append, ext_get_or, take_at, drop_at}
use Rattle.programme.specs.declared.Kind.{Kind}
use Rattle.programme.specs.declared.Kind.TheVariants.{Broadcast, Gather, Reduce, Scan, Exscan, Allreduce}
use Rattle.programme.specs.Rank.{Rank, fresh}
use Rattle.machine.specs.Operation.{Meaning}
use Rattle.machine.specs.Job.{outcome, answer, listed, total}
use Rattle.machine.proofs.Finish.{length-listed, get_d_listed}

map-listed : {A B : Type 0} (f : A → B) (g : ℕ → A) (n : ℕ) → map f (listed g n) ≡ listed (λ i. f (g i)) n
map-listed f g zero = refl
map-listed f g (suc n) = map-append f (listed g n) (g n ∷ []) ∙ ap (λ l. l ++ (f (g n) ∷ [])) (map-listed f g n)

listed_same : {A : Type 0} (f g : ℕ → A) (n : ℕ) → ((i : ℕ) → i < n → f i ≡ g i) → listed f n ≡ listed g n
listed_same f g zero h = refl
listed_same f g (suc n) h = ap₂ (λ l x. l ++ (x ∷ [])) (listed_same f g n (λ i k. h i (omega arith))) (h n (omega arith))

-- the same for each
listed_all : {A B : Type 0} (c : B) (inputs : List A) (n : ℕ) → length inputs ≡ n → listed (λ i. c) n ≡ map (λ x. c) inputs
listed_all {A} c inputs n e =
    ext_get_or c (listed (λ i. c) n) (map (λ x. c) inputs) (length-listed (λ i. c) n ∙ sym (length-map inputs (λ x. c) ∙ e))
    (λ i h. get_d_listed (λ j. c) n i c (omega (arith, length-listed (λ j. c) n)) ∙ sym (all_same inputs i))
  where
    all_same : (l : List A) (i : ℕ) → get_or (map (λ x. c) l) i c ≡ c
    all_same [] i = refl
    all_same (x ∷ l) zero = refl
    all_same (x ∷ l) (suc i) = all_same l i

module _ {E : Type 0} (m : Meaning E) where
  -- `last r` is rank r at the end
  abbrev pub Final : Kind → (p root : ℕ) → List E → (ℕ → Rank E) → Type 0
  Final Broadcast p root inputs last = (r : ℕ) → r < p → (last r).value ≡ get_or inputs root m.unit
  Final Gather p root inputs last = ((last root).value ≡ get_or inputs root m.unit) × ((last root).kept ≡ take root inputs ++ drop (root + 1) inputs)
  Final Reduce p root inputs last = (last root).value ≡ total m inputs
  Final Scan p root inputs last = (r : ℕ) → r < p → (last r).value ≡ total m (take (r + 1) inputs)
  Final Exscan p root inputs last = (r : ℕ) → r < p → (last r).prefix ≡ total m (take r inputs)
  Final Allreduce p root inputs last = (r : ℕ) → r < p → (last r).value ≡ total m inputs

  pub outcome_final : (kind : Kind) (p root : ℕ) (inputs : List E) (last : ℕ → Rank E) → root < p → length inputs ≡ p → Final kind p root inputs last → outcome m kind root (listed last p) ≡ answer m kind root inputs
  outcome_final Broadcast p root inputs last within count final =
      map-listed (λ x. x.value) last p ∙ listed_same _ (λ _. get_or inputs root m.unit) p final ∙ listed_all (get_or inputs root m.unit) inputs p count
  outcome_final Gather p root inputs last within count final =
      let x = get_d_listed last p root (fresh m.unit m.unit) within in
      let others : List E = take root inputs ++ drop (root + 1) inputs in
      let kept : (get_or (listed last p) root (fresh m.unit m.unit)).kept ≡ others = ap (λ y. y.kept) x ∙ final.1 in
      let long : length (take root inputs) ≡ root = length-take-le root inputs (omega arith) in
      ap₂ (λ k v. take root k ++ (v ∷ drop root k)) kept (ap (λ y. y.value) x ∙ final.0)
      ∙ ap₂ (λ k l. k ++ (get_or inputs root m.unit ∷ l)) (take_at (take root inputs) (drop (root + 1) inputs) root long) (drop_at (take root inputs) (drop (root + 1) inputs) root long)
      ∙ ap (λ i. take root inputs ++ (get_or inputs root m.unit ∷ drop i inputs)) (add-one root)
      ∙ sym (split_at inputs root m.unit (omega arith))
  outcome_final Reduce p root inputs last within count final = ap (λ x. x ∷ []) (ap (λ x. x.value) (get_d_listed last p root (fresh m.unit m.unit) within) ∙ final)
  outcome_final Scan p root inputs last within count final =
      map-listed (λ x. x.value) last p ∙ listed_same _ (λ r. total m (take (r + 1) inputs)) p final ∙ ap (listed (λ r. total m (take (r + 1) inputs))) (sym count)
  outcome_final Exscan p root inputs last within count final =
      map-listed (λ x. x.prefix) last p ∙ listed_same _ (λ r. total m (take r inputs)) p final ∙ ap (listed (λ r. total m (take r inputs))) (sym count)
  outcome_final Allreduce p root inputs last within count final =
      map-listed (λ x. x.value) last p ∙ listed_same _ (λ _. total m inputs) p final ∙ listed_all (total m inputs) inputs p count
