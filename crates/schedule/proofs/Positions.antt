-- What stands at an index of a list of actions.
use Rattle.std.proofs.Common.{◌≡◌, ℕ, zero, suc, ◌+◌, ◌-◌, ◌*◌, ◌/◌, ◌%◌, ◌<◌, ◌≤◌, List, [], ◌∷◌, ◌++◌, length, Some, sym, refl, ap, ◌∙◌, ⊎_elim, append_assoc, append-nil, add-zero, arith, length-append}
use Rattle.std.specs.List.{slice_get}
use Rattle.std.proofs.lemmas.Bool.{cases_lt}
use Rattle.programme.specs.declared.Action.{Action}
use Rattle.programme.specs.Programme.{steps}
use Rattle.programme.proofs.Lists.{steps_next}

pub nth_left : (xs ys : List Action) (i : ℕ) → i < length xs → slice_get (xs ++ ys) i ≡ slice_get xs i
nth_left [] ys i h = absurd (omega arith)
nth_left (x ∷ xs) ys zero h = refl
nth_left (x ∷ xs) ys (suc i) h = nth_left xs ys i (omega arith)

pub nth_right : (xs ys : List Action) (i : ℕ) → length xs ≤ i → slice_get (xs ++ ys) i ≡ slice_get ys (i - length xs)
nth_right [] ys i h = ap (slice_get ys) (let e : i ≡ i - 0 = omega arith in e)
nth_right (x ∷ xs) ys zero h = absurd (omega arith)
nth_right (x ∷ xs) ys (suc i) h =
    nth_right xs ys i (omega arith) ∙ ap (slice_get ys) (let e : i - length xs ≡ suc i - suc (length xs) = omega arith in e)

-- g from, g (from + 1), .., in all n
abbrev pub listed : (ℕ → Action) → (from n : ℕ) → List Action
listed g from zero = []
listed g from (suc n) = g from ∷ listed g (suc from) n

pub length-listed : (g : ℕ → Action) (from n : ℕ) → length (listed g from n) ≡ n
length-listed g from zero = refl
length-listed g from (suc n) = ap suc (length-listed g (suc from) n)

pub nth_listed : (g : ℕ → Action) (from n i : ℕ) → i < n → slice_get (listed g from n) i ≡ Some (g (from + i))
nth_listed g from zero i h = absurd (omega arith)
nth_listed g from (suc n) zero h = ap (λ (k : ℕ). Some (g k)) (let e : from ≡ from + 0 = omega arith in e)
nth_listed g from (suc n) (suc i) h =
    nth_listed g (suc from) n i (omega arith) ∙ ap (λ (k : ℕ). Some (g k)) (let e : suc from + i ≡ from + suc i = omega arith in e)

pub listed_end : (g : ℕ → Action) (from n : ℕ) → listed g from n ++ (g (from + n) ∷ []) ≡ listed g from (suc n)
listed_end g from zero = ap (λ (k : ℕ). g k ∷ []) (let e : from + 0 ≡ from = omega arith in e)
listed_end g from (suc n) =
    ap (λ (l : List Action). g from ∷ l)
    (ap (λ (k : ℕ). listed g (suc from) n ++ (g k ∷ [])) (let e : from + suc n ≡ suc from + n = omega arith in e) ∙ listed_end g (suc from) n)

length-grows : (f : ℕ → List Action) (m n : ℕ) → length (steps f m) ≤ length (steps f (m + n))
length-grows f m zero = rw (add-zero m) (omega arith)
length-grows f m (suc n) =
    let e : m + suc n ≡ suc (m + n) = omega arith in
    rw (e, steps_next f (m + n), length-append (steps f (m + n)) (f (m + n))) (omega (arith, length-grows f m n))

-- later steps leave what stands before them
early_from : (f : ℕ → List Action) (m n i : ℕ) → i < length (steps f m) → slice_get (steps f (m + n)) i ≡ slice_get (steps f m) i
early_from f m zero i h = ap (λ (k : ℕ). slice_get (steps f k) i) (let e : m + 0 ≡ m = omega arith in e)
early_from f m (suc n) i h =
    ap (λ (k : ℕ). slice_get (steps f k) i) (let e : m + suc n ≡ suc (m + n) = omega arith in e)
    ∙ ap (λ (l : List Action). slice_get l i) (steps_next f (m + n))
    ∙ nth_left (steps f (m + n)) (f (m + n)) i (omega (arith, length-grows f m n))
    ∙ early_from f m n i h

pub steps_early : (f : ℕ → List Action) (m n i : ℕ) → m ≤ n → i < length (steps f m) → slice_get (steps f n) i ≡ slice_get (steps f m) i
steps_early f m n i l h = ap (λ (k : ℕ). slice_get (steps f k) i) (let e : n ≡ m + (n - m) = omega arith in e) ∙ early_from f m (n - m) i h

-- steps without an action, from m on
quiet_from : (f : ℕ → List Action) (m n : ℕ) → ((k : ℕ) → m ≤ k → k < m + n → f k ≡ []) → steps f (m + n) ≡ steps f m
quiet_from f m zero h = ap (steps f) (let e : m + 0 ≡ m = omega arith in e)
quiet_from f m (suc n) h =
    ap (steps f) (let e : m + suc n ≡ suc (m + n) = omega arith in e)
    ∙ steps_next f (m + n)
    ∙ ap (λ (l : List Action). steps f (m + n) ++ l) (h (m + n) (omega arith) (omega arith))
    ∙ append-nil (steps f (m + n))
    ∙ quiet_from f m n (λ k a b. h k a (omega arith))

pub steps_quiet : (f : ℕ → List Action) (m n : ℕ) → m ≤ n → ((k : ℕ) → m ≤ k → k < n → f k ≡ []) → steps f n ≡ steps f m
steps_quiet f m n l h =
    ap (steps f) (let e : n ≡ m + (n - m) = omega arith in e) ∙ quiet_from f m (n - m) (λ k a b. h k a (omega arith))

-- steps with one action each, from m on
single_from : (f : ℕ → List Action) (g : ℕ → Action) (m n : ℕ) → ((k : ℕ) → m ≤ k → k < m + n → f k ≡ g k ∷ []) →
    steps f (m + n) ≡ steps f m ++ listed g m n
single_from f g m zero h = ap (steps f) (let e : m + 0 ≡ m = omega arith in e) ∙ sym (append-nil (steps f m))
single_from f g m (suc n) h =
    ap (steps f) (let e : m + suc n ≡ suc (m + n) = omega arith in e)
    ∙ steps_next f (m + n)
    ∙ ap (λ (l : List Action). steps f (m + n) ++ l) (h (m + n) (omega arith) (omega arith))
    ∙ ap (λ (l : List Action). l ++ (g (m + n) ∷ [])) (single_from f g m n (λ k a b. h k a (omega arith)))
    ∙ append_assoc (steps f m) (listed g m n) (g (m + n) ∷ [])
    ∙ ap (λ (l : List Action). steps f m ++ l) (listed_end g m n)

pub steps_single : (f : ℕ → List Action) (g : ℕ → Action) (m n : ℕ) → m ≤ n → ((k : ℕ) → m ≤ k → k < n → f k ≡ g k ∷ []) →
    steps f n ≡ steps f m ++ listed g m (n - m)
steps_single f g m n l h =
    ap (steps f) (let e : n ≡ m + (n - m) = omega arith in e) ∙ single_from f g m (n - m) (λ k a b. h k a (omega arith))

-- steps with two actions each
module _ (f : ℕ → List Action) (g h : ℕ → Action) where
  pub length_pairs : (n : ℕ) → ((k : ℕ) → k < n → f k ≡ g k ∷ h k ∷ []) → length (steps f n) ≡ 2 * n
  unfolding steps
  length_pairs zero e = refl
  length_pairs (suc n) e =
      length-append (steps f n) (f n) ∙ omega (arith, length_pairs n (λ k l. e k (omega arith)), ap length (e n (omega arith)))

  last_pair : (n i : ℕ) → ((k : ℕ) → k < suc n → f k ≡ g k ∷ h k ∷ []) → 2 * n ≤ i → slice_get (steps f (suc n)) i ≡ slice_get (g n ∷ h n ∷ []) (i - 2 * n)
  last_pair n i e l =
      let len : length (steps f n) ≡ 2 * n = length_pairs n (λ k l. e k (omega arith)) in
      ap (λ (x : List Action). slice_get x i) (steps_next f n ∙ ap (λ (x : List Action). steps f n ++ x) (e n (omega arith)))
      ∙ nth_right (steps f n) (g n ∷ h n ∷ []) i (omega arith)
      ∙ ap (λ (k : ℕ). slice_get (g n ∷ h n ∷ []) (i - k)) len

  early_pair : (n i : ℕ) → ((k : ℕ) → k < suc n → f k ≡ g k ∷ h k ∷ []) → i < 2 * n → slice_get (steps f (suc n)) i ≡ slice_get (steps f n) i
  early_pair n i e l =
      let len : length (steps f n) ≡ 2 * n = length_pairs n (λ k l. e k (omega arith)) in
      ap (λ (x : List Action). slice_get x i) (steps_next f n) ∙ nth_left (steps f n) (f n) i (omega arith)

  pub nth_first : (n i : ℕ) → ((k : ℕ) → k < n → f k ≡ g k ∷ h k ∷ []) → i < 2 * n → i % 2 ≡ 0 → slice_get (steps f n) i ≡ Some (g (i / 2))
  nth_first zero i e l z = absurd (omega arith)
  nth_first (suc n) i e l z =
      ⊎_elim
      (λ (b : i < 2 * n). early_pair n i e b ∙ nth_first n i (λ k l. e k (omega arith)) b z)
      (λ (b : 2 * n ≤ i).
      last_pair n i e b
      ∙ ap (slice_get (g n ∷ h n ∷ [])) (let q : i - 2 * n ≡ 0 = omega arith in q)
      ∙ ap (λ (k : ℕ). Some (g k)) (let q : n ≡ i / 2 = omega arith in q))
      (cases_lt i (2 * n))

  pub nth_second : (n i : ℕ) → ((k : ℕ) → k < n → f k ≡ g k ∷ h k ∷ []) → i < 2 * n → i % 2 ≡ 1 → slice_get (steps f n) i ≡ Some (h (i / 2))
  nth_second zero i e l z = absurd (omega arith)
  nth_second (suc n) i e l z =
      ⊎_elim
      (λ (b : i < 2 * n). early_pair n i e b ∙ nth_second n i (λ k l. e k (omega arith)) b z)
      (λ (b : 2 * n ≤ i).
      last_pair n i e b
      ∙ ap (slice_get (g n ∷ h n ∷ [])) (let q : i - 2 * n ≡ 1 = omega arith in q)
      ∙ ap (λ (k : ℕ). Some (h k)) (let q : n ≡ i / 2 = omega arith in q))
      (cases_lt i (2 * n))
