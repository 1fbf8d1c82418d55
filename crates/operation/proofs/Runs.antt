-- Counting the places where a word starts counts the longest runs.
use Rattle.std.proofs.Common.{◌≡◌, ℕ, zero, suc, ◌+◌, ◌<◌, ◌≤◌, Bool, true, false, cond, not, ◌&&◌, List, [], ◌∷◌, length, get_or, refl, ap, subst, inl, inr, arith}
use Rattle.std.proofs.lemmas.Bool.{cases_lt, cases_order, both_ways, and_parts, not-true}
use Rattle.std.proofs.lemmas.List.Sums.{prefix_len-le-length, prefix_len_passes, prefix_len_stops}
use Rattle.std.specs.List.{prefix_len}
use Rattle.operation.specs.Text.{in_word, word_starts, word_count}
use Rattle.operation.specs.Runs.{LongestRun, RunsCounted}

-- a longest run of a text that stands behind a byte, of which the flag tells whether it is part of a word
pub record Run (inside : Bool) (bs : List ℕ) (from to : ℕ) : Type 0 where
  pub longest : LongestRun bs from to
  pub begins : from ≡ 0 → inside ≡ false

-- the runs of such a text, in order
pub record Listed (inside : Bool) (bs : List ℕ) (n : ℕ) : Type 0 where
  pub from : ℕ → ℕ
  pub to : ℕ → ℕ
  pub each : (k : ℕ) → k < n → Run inside bs (from k) (to k)
  pub ascending : (j k : ℕ) → j < k → k < n → to j < from k
  pub all : (a b : ℕ) → Run inside bs a b → (k : ℕ) × (k < n) × (from k ≡ a) × (to k ≡ b)

-- A run behind the first byte is a run of the rest

behind : (inside : Bool) (b : ℕ) (bs : List ℕ) (from to : ℕ) → Run (in_word b) bs from to → Run inside (b ∷ bs) (suc from) (suc to)
behind inside b bs from to r = record {
  longest = record {
    some = omega (arith, r.longest.some);
    within = omega (arith, r.longest.within);
    unspaced = unspaced;
    starts = starts;
    ends = λ h. r.longest.ends (omega arith);
  };
  begins = λ e. absurd (omega arith);
}
  where
    unspaced : (i : ℕ) → suc from ≤ i → i < suc to → in_word (get_or (b ∷ bs) i 0) ≡ true
    unspaced zero l h = absurd (omega arith)
    unspaced (suc i) l h = r.longest.unspaced i (omega arith) (omega arith)

    starts : (i : ℕ) → i + 1 ≡ suc from → in_word (get_or (b ∷ bs) i 0) ≡ false
    starts zero e = r.begins (omega arith)
    starts (suc i) e = r.longest.starts i (omega arith)

rest : (inside : Bool) (b : ℕ) (bs : List ℕ) (from to : ℕ) → Run inside (b ∷ bs) (suc from) (suc to) → Run (in_word b) bs from to
rest inside b bs from to r = record {
  longest = record {
    some = omega (arith, r.longest.some);
    within = omega (arith, r.longest.within);
    unspaced = λ i l h. r.longest.unspaced (suc i) (omega arith) (omega arith);
    starts = λ i e. r.longest.starts (suc i) (omega arith);
    ends = λ h. r.longest.ends (omega arith);
  };
  begins = λ e. r.longest.starts 0 (omega arith);
}

-- The run at the front

-- the first n bytes are those at the front that are part of a word
pub record Front (bs : List ℕ) (n : ℕ) : Type 0 where
  pub fits : n ≤ length bs
  pub unspaced : (i : ℕ) → i < n → in_word (get_or bs i 0) ≡ true
  pub ends : n < length bs → in_word (get_or bs n 0) ≡ false

front_is : (bs : List ℕ) → Front bs (prefix_len in_word bs)
front_is bs = record {
  fits = prefix_len-le-length in_word bs;
  unspaced = λ i h. prefix_len_passes in_word bs i 0 h;
  ends = λ h. prefix_len_stops in_word bs 0 h;
}

-- there is one such front
front_only : (bs : List ℕ) (m n : ℕ) → Front bs m → Front bs n → m < n → ⊥
front_only bs m n f g h = both_ways _ (f.ends (omega (arith, g.fits))) (g.unspaced m h)

front_same : (bs : List ℕ) (m n : ℕ) → Front bs m → Front bs n → m ≡ n
front_same bs m n f g =
    elim (cases_order m n) [
      | inl e ↦ e
      | inr h ↦ elim h [ inl l ↦ absurd (front_only bs m n f g l) | inr l ↦ absurd (front_only bs n m g f l) ]
    ]

front_of_run : (bs : List ℕ) (n : ℕ) → LongestRun bs 0 n → Front bs n
front_of_run bs n r = record { fits = r.within; unspaced = λ i h. r.unspaced i (omega arith) h; ends = r.ends }

run_of_front : (inside : Bool) (bs : List ℕ) (n : ℕ) → 0 < n → inside ≡ false → Front bs n → Run inside bs 0 n
run_of_front inside bs n some e f = record {
  longest = record {
    some = some;
    within = f.fits;
    unspaced = λ i _ h. f.unspaced i h;
    starts = λ i z. absurd (omega arith);
    ends = f.ends;
  };
  begins = λ _. e;
}

-- a run behind a byte of a word lies behind the front
front_before : (bs : List ℕ) (n a b : ℕ) → Front bs n → Run true bs a b → n < a
front_before bs n zero b f r = absurd (both_ways true (r.begins refl) refl)
front_before bs n (suc a) b f r =
    elim (cases_lt a n) [
      | inl h ↦ absurd (both_ways _ (r.longest.starts a (omega arith)) (f.unspaced a h))
      | inr h ↦ omega arith
    ]

-- One byte more at the front

-- a place in front of others, which lie behind one byte more
unfoldable placed : ℕ → (ℕ → ℕ) → ℕ → ℕ
placed x f zero = x
placed x f (suc k) = suc (f k)

module _ (inside : Bool) (b : ℕ) (bs : List ℕ) (n : ℕ) where
  goes_on : (in_word b && not inside) ≡ false → Listed (in_word b) bs n → Listed inside (b ∷ bs) (0 + n)
  goes_on e l = record {
    from = λ k. suc (l.from k);
    to = λ k. suc (l.to k);
    each = λ k h. behind inside b bs _ _ (l.each k (omega arith));
    ascending = λ j k h g. let a = l.ascending j k h (omega arith) in omega arith;
    all = all;
  }
    where
      all : (a t : ℕ) → Run inside (b ∷ bs) a t → (k : ℕ) × (k < 0 + n) × (suc (l.from k) ≡ a) × (suc (l.to k) ≡ t)
      all zero t r =
          let w = r.longest.unspaced 0 (omega arith) r.longest.some in
          let z : (in_word b && not inside) ≡ true = simp (w, r.begins refl) in
          absurd (both_ways _ e z)
      all (suc a) zero r = absurd (omega (arith, r.longest.some))
      all (suc a) (suc t) r =
          let k = l.all a t (rest inside b bs a t r) in
          (k.0, omega (arith, k.1), ap suc k.2, ap suc k.3)

  begins_here : in_word b ≡ true → inside ≡ false → Listed (in_word b) bs n → Listed inside (b ∷ bs) (1 + n)
  unfolding placed
  begins_here w e l = record {
    from = placed 0 l.from;
    to = placed (1 + prefix_len in_word bs) l.to;
    each = each;
    ascending = ascending;
    all = all;
  }
    where
      here : Front (b ∷ bs) (1 + prefix_len in_word bs)
      here = subst (λ t. Front (b ∷ bs) (cond t (1 + prefix_len in_word bs) 0)) w (front_is (b ∷ bs))

      each : (k : ℕ) → k < 1 + n → Run inside (b ∷ bs) (placed 0 l.from k) (placed (1 + prefix_len in_word bs) l.to k)
      each zero h = run_of_front inside (b ∷ bs) (1 + prefix_len in_word bs) (omega arith) e here
      each (suc k) h = behind inside b bs _ _ (l.each k (omega arith))

      ascending : (j k : ℕ) → j < k → k < 1 + n → placed (1 + prefix_len in_word bs) l.to j < placed 0 l.from k
      ascending j zero h g = absurd (omega arith)
      ascending zero (suc k) h g =
          let r : Run true bs (l.from k) (l.to k) = subst (λ t. Run t bs (l.from k) (l.to k)) w (l.each k (omega arith)) in
          let a = front_before bs (prefix_len in_word bs) (l.from k) (l.to k) (front_is bs) r in
          omega arith
      ascending (suc j) (suc k) h g = let a = l.ascending j k (omega arith) (omega arith) in omega arith

      all : (a t : ℕ) → Run inside (b ∷ bs) a t → (k : ℕ) × (k < 1 + n) × (placed 0 l.from k ≡ a) × (placed (1 + prefix_len in_word bs) l.to k ≡ t)
      all zero t r = (0, omega arith, refl, front_same (b ∷ bs) (1 + prefix_len in_word bs) t here (front_of_run (b ∷ bs) t r.longest))
      all (suc a) zero r = absurd (omega (arith, r.longest.some))
      all (suc a) (suc t) r =
          let k = l.all a t (rest inside b bs a t r) in
          (suc k.0, omega (arith, k.1), ap suc k.2, ap suc k.3)

  listed_more : (t : Bool) → (in_word b && not inside) ≡ t → Listed (in_word b) bs n → Listed inside (b ∷ bs) (cond t 1 0 + n)
  listed_more true h l =
      let k = and_parts (in_word b) (not inside) h in begins_here k.0 (not-true inside k.1) l
  listed_more false h l = goes_on h l

listed : (inside : Bool) (bs : List ℕ) → Listed inside bs (word_starts inside bs)
listed inside [] = record {
  from = λ k. k;
  to = λ k. k;
  each = λ k h. absurd (omega arith);
  ascending = λ j k h g. absurd (omega arith);
  all = λ a b r. absurd (omega (arith, r.longest.some, r.longest.within));
}
listed inside (b ∷ bs) = listed_more inside b bs (word_starts (in_word b) bs) (in_word b && not inside) refl (listed (in_word b) bs)

pub words_are_runs : (bs : List ℕ) → RunsCounted bs (word_count bs)
words_are_runs bs =
    let l = listed false bs in
    record {
      from = l.from;
      to = l.to;
      each = λ k h. (l.each k h).longest;
      ascending = l.ascending;
      all = λ a b r. l.all a b (record { longest = r; begins = λ _. refl });
    }
