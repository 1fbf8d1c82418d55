-- What a finished job gives, element by element.
use Rattle.std.proofs.Common.{◌≡◌, ℕ, zero, suc, ◌+◌, ◌-◌, ◌<◌, ◌≤◌, eqb, List, [], ◌∷◌, ◌++◌, map, length, get_or, take, drop, sym, refl, ap, ◌∙◌, subst, inl, inr, arith, length-append, length-drop, length-take}
use Rattle.std.specs.List.{AllByRecursion}
use Rattle.std.proofs.ByRecursion.{All-get_or, All-from_get_or, All-append, All-push, All-take, All-drop, All-map}
use Rattle.std.proofs.lemmas.List.{same_lists, get_or_default, get_or-map, get_or-take, get_or-drop, get_or_append_left, get_or-append_right, length-map}
use Rattle.std.proofs.lemmas.Bool.{lt-ltb, le-ltb, eq-eqb, ne_eqb, cases_order, cond-true}
use Rattle.programme.specs.Rank.{Rank, fresh}
use Rattle.schedule.specs.declared.Collective.{Collective}
use Rattle.schedule.specs.declared.Collective.TheVariants.{Broadcast, Gather, Reduce, Scan, Exscan, Allreduce}
use Rattle.schedule.specs.Collective.{kind_of, root_of}
use Rattle.machine.specs.Operation.{Meaning}
use Rattle.machine.specs.Job.{listed, outcome, answer}
use Rattle.machine.specs.Sound.{Proper}
use Rattle.machine.proofs.Finish.{length-listed, get_d_listed}
use Rattle.jobs.specs.declared.job.Job.{Job}
use Rattle.jobs.specs.declared.job.RankState.{RankState}
use Rattle.jobs.specs.Tables.{states, rank_in, gathered_at, result_in, result_count}

-- a list made from a function of the index
pub listed_map : {A B : Type 0} (g : A → B) (f : ℕ → B) (xs : List A) (a : A) → ((i : ℕ) → i < length xs → f i ≡ g (get_or xs i a)) → listed f (length xs) ≡ map g xs
listed_map g f xs a h =
    same_lists (listed f (length xs)) (map g xs) (length-listed f (length xs) ∙ sym (length-map xs g)) (λ k d lt.
    let low : k < length xs = omega (arith, length-listed f (length xs)) in
    get_d_listed f (length xs) k d low ∙ h k low ∙ sym (get_or-map g xs k a d low))

pub all_listed : {A : Type 0} (P : A → Type 0) (f : ℕ → A) (n : ℕ) → ((i : ℕ) → i < n → P (f i)) → AllByRecursion P (listed f n)
all_listed P f zero h = tt
all_listed P f (suc n) h = All-push P (listed f n) (f n) (all_listed P f n (λ i lt. h i (omega arith))) (h n (omega arith))

pub listed_at : {A : Type 0} (P : A → Type 0) (f : ℕ → A) (n : ℕ) → AllByRecursion P (listed f n) → (i : ℕ) → i < n → P (f i)
listed_at P f n all i lt = subst P (get_d_listed f n i (f i) lt) (All-get_or P (listed f n) i (f i) (omega (arith, length-listed f n)) all)

-- an element put into a list
module _ {E : Type 0} (ks : List E) (root : ℕ) (v : E) where
  abbrev pub inserted : List E
  inserted = take root ks ++ (v ∷ drop root ks)

  pub inserted_length : length inserted ≡ length ks + 1
  inserted_length =
      let one : length (v ∷ drop root ks) ≡ (length ks - root) + 1 = omega (arith, length-drop root ks) in
      omega (arith, length-append (take root ks) (v ∷ drop root ks), length-take root ks, one)

  module _ (low : root ≤ length ks) (i : ℕ) (e : E) where
    front : length (take root ks) ≡ root
    front = omega (arith, length-take root ks)

    pub inserted_below : i < root → get_or inserted i e ≡ get_or ks i e
    inserted_below h = get_or_append_left (take root ks) (v ∷ drop root ks) e i (omega (arith, front)) ∙ get_or-take root ks i e h

    pub inserted_here : i ≡ root → get_or inserted i e ≡ v
    inserted_here h =
        let none : i - root ≡ 0 = omega arith in
        get_or-append_right (take root ks) (v ∷ drop root ks) root i e front (omega arith) ∙ ap (λ n. get_or (v ∷ drop root ks) n e) none

    pub inserted_above : root < i → get_or inserted i e ≡ get_or ks (i - 1) e
    inserted_above h =
        let more : i - root ≡ suc (i - root - 1) = omega arith in
        let back : root + (i - root - 1) ≡ i - 1 = omega arith in
        get_or-append_right (take root ks) (v ∷ drop root ks) root i e front (omega arith)
        ∙ ap (λ n. get_or (v ∷ drop root ks) n e) more ∙ get_or-drop root ks (i - root - 1) e ∙ ap (λ n. get_or ks n e) back

-- how many elements each kind of job has to give
pub answer_count : {E : Type 0} (m : Meaning E) (c : Collective) (inputs : List E) → length (answer m (kind_of c) (root_of c) inputs) ≡ result_count c (length inputs)
answer_count m (Broadcast root) inputs = length-map inputs _
answer_count m (Gather root) inputs = refl
answer_count m (Reduce root) inputs = refl
answer_count m Scan inputs = length-listed _ (length inputs)
answer_count m Exscan inputs = length-listed _ (length inputs)
answer_count m Allreduce inputs = length-map inputs _

module _ {E : Type 0} (m : Meaning E) (j : Job E) (d : RankState E) (p : ℕ) (ranks : List (Rank E)) (many : length ranks ≡ p) where
  abbrev u : Rank E
  u = fresh m.unit m.unit

  -- the ranks are those that the arrays hold
  abbrev pub Held : Collective → Type 0
  Held c = (r : ℕ) → r < p → get_or ranks r u ≡ rank_in c j.kept r (get_or (states j) r d)

  by_value : (c : Collective) → Held c → listed (λ i. (get_or (states j) i d).value) p ≡ map (λ x. x.value) ranks
  by_value c at =
      ap (listed (λ i. (get_or (states j) i d).value)) (sym many)
      ∙ listed_map (λ x. x.value) (λ i. (get_or (states j) i d).value) ranks u (λ i h. sym (ap (λ x. x.value) (at i (omega (arith, many)))))

  module _ (root : ℕ) (low : root < p) (at : Held (Gather root)) (whole : length (outcome m (kind_of (Gather root)) root ranks) ≡ p) where
    abbrev ks : List E
    ks = (get_or ranks root u).kept

    abbrev v : E
    v = (get_or ranks root u).value

    abbrev st : RankState E
    st = get_or (states j) root d

    kept_are : ks ≡ take st.done j.kept
    kept_are = ap (λ x. x.kept) (at root low) ∙ cond-true (eqb root root) (take st.done j.kept) [] (eq-eqb root root refl)

    kept_many : length ks + 1 ≡ p
    kept_many = sym (inserted_length ks root v) ∙ whole

    kept_at : (i : ℕ) → i < length ks → (e : E) → get_or j.kept i d.value ≡ get_or ks i e
    kept_at i h e =
        let long = ap length kept_are ∙ length-take st.done j.kept in
        get_or_default j.kept i d.value e (omega (arith, long))
        ∙ sym (ap (λ l. get_or l i e) kept_are ∙ get_or-take st.done j.kept i e (omega (arith, long)))

    gathered_is : (k : ℕ) (e : E) → k < p → gathered_at j d root k ≡ get_or (inserted ks root v) k e
    gathered_is k e h =
        let within : root ≤ length ks = omega (arith, kept_many) in
        elim (cases_order k root) [
          | inl same ↦ rw (le-ltb k root (omega arith), eq-eqb k root same) (sym (ap (λ x. x.value) (at root low)) ∙ sym (inserted_here ks root v within k e same))
          | inr (inl less) ↦ rw (lt-ltb k root less) (kept_at k (omega (arith, kept_many)) e ∙ sym (inserted_below ks root v within k e less))
          | inr (inr more) ↦
              rw (le-ltb k root (omega arith), ne_eqb k root (λ q. omega arith))
              (kept_at (k - 1) (omega (arith, kept_many)) e ∙ sym (inserted_above ks root v within k e more))
        ]

    gathers : listed (gathered_at j d root) p ≡ inserted ks root v
    gathers =
        same_lists (listed (gathered_at j d root) p) (inserted ks root v) (length-listed (gathered_at j d root) p ∙ sym whole) (λ k e lt.
        let below : k < p = omega (arith, length-listed (gathered_at j d root) p) in
        get_d_listed (gathered_at j d root) p k e below ∙ gathered_is k e below)

  -- the elements are those of the plain machine
  pub results_are : (c : Collective) → root_of c < p → Held c → length (outcome m (kind_of c) (root_of c) ranks) ≡ result_count c p
      → listed (result_in c j d) (result_count c p) ≡ outcome m (kind_of c) (root_of c) ranks
  results_are (Broadcast root) low at whole = by_value (Broadcast root) at
  results_are (Gather root) low at whole = gathers root low at whole
  results_are (Reduce root) low at whole = ap (λ x. x.value ∷ []) (sym (at root low))
  results_are Scan low at whole = by_value Scan at
  results_are Exscan low at whole =
      ap (listed (λ i. (get_or (states j) i d).prefix)) (sym many)
      ∙ listed_map (λ x. x.prefix) (λ i. (get_or (states j) i d).prefix) ranks u (λ i h. sym (ap (λ x. x.prefix) (at i (omega (arith, many)))))
  results_are Allreduce low at whole = by_value Allreduce at

  module _ (values : (r : ℕ) → r < p → Proper m (get_or ranks r u).value) (prefixes : (r : ℕ) → r < p → Proper m (get_or ranks r u).prefix) (keeps : (r : ℕ) → r < p → AllByRecursion (Proper m) (get_or ranks r u).kept) where
    all_values : AllByRecursion (Proper m) (map (λ x. x.value) ranks)
    all_values = All-map (Proper m) (λ x. x.value) ranks (All-from_get_or (λ x. Proper m x.value) ranks u (λ i h. values i (omega (arith, many))))

    pub outcome_proper : (c : Collective) → root_of c < p → AllByRecursion (Proper m) (outcome m (kind_of c) (root_of c) ranks)
    outcome_proper (Broadcast root) low = all_values
    outcome_proper (Gather root) low =
        let ks : List E = (get_or ranks root u).kept in
        All-append (Proper m) (take root ks) ((get_or ranks root u).value ∷ drop root ks) (All-take (Proper m) root ks (keeps root low)) (values root low, All-drop (Proper m) root ks (keeps root low))
    outcome_proper (Reduce root) low = (values root low, tt)
    outcome_proper Scan low = all_values
    outcome_proper Exscan low = All-map (Proper m) (λ x. x.prefix) ranks (All-from_get_or (λ x. Proper m x.prefix) ranks u (λ i h. prefixes i (omega (arith, many))))
    outcome_proper Allreduce low = all_values
