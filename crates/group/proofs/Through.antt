-- A sum over some different numbers, where there is nothing at the others.
use Rattle.std.proofs.Common.{◌≡◌, ℕ, zero, suc, ◌+◌, ◌<◌, true, false, cond, eqb, ◌⊎◌, sym, refl, ap, ◌∙◌, inl, inr, arith}
use Rattle.std.proofs.lemmas.Bool.{cases_Bool, cases_eq, eqb-true, eqb-false, ne_eqb}
use Rattle.ranks.specs.Ranks.{sum_below}
use Rattle.ranks.proofs.Sums.{sum_same, sum_zeros, sum-add}
use Rattle.transport.proofs.Tables.{sum-hit}

pub sum_through : (c p : ℕ) (at g : ℕ → ℕ) → ((k : ℕ) → k < c → at k < p) → ((j k : ℕ) → j < c → k < c → at j ≡ at k → j ≡ k)
    → ((a : ℕ) → ((k : ℕ) → k < c → at k ≡ a → ⊥) → g a ≡ 0) → sum_below (λ k. g (at k)) c ≡ sum_below g p
sum_through zero p at g inside distinct none = sym (sum_zeros g p (λ a _. none a (λ k h _. no_less k h)))
  where
    no_less : (k : ℕ) → k < 0 → ⊥
    no_less k h = omega arith
sum_through (suc c) p at g inside distinct none =
    ap (λ x. x + g (at c)) (front ∙ sum_through c p at rest (λ k h. inside k (omega arith)) (λ j k hj hk e. distinct j k (omega arith) (omega arith) e) rest_none)
    ∙ sym whole
  where
    rest : ℕ → ℕ
    rest a = cond (eqb (at c) a) 0 (g a)

    front : sum_below (λ k. g (at k)) c ≡ sum_below (λ k. rest (at k)) c
    front = sum_same (λ k. g (at k)) (λ k. rest (at k)) c (λ k h. sym (keep k h))
      where
        other : (k : ℕ) → k < c → at c ≡ at k → ⊥
        other k h e = omega (arith, distinct c k (omega arith) (omega arith) e)

        keep : (k : ℕ) → k < c → cond (eqb (at c) (at k)) 0 (g (at k)) ≡ g (at k)
        keep k h = rw (ne_eqb (at c) (at k) (other k h)) refl

    rest_none : (a : ℕ) → ((k : ℕ) → k < c → at k ≡ a → ⊥) → cond (eqb (at c) a) 0 (g a) ≡ 0
    rest_none a out = by (cases_Bool (eqb (at c) a))
      where
        by : (eqb (at c) a ≡ true) ⊎ (eqb (at c) a ≡ false) → cond (eqb (at c) a) 0 (g a) ≡ 0
        by (inl e) = rw e
        by (inr e) = rw e (none a all)
          where
            all : (k : ℕ) → k < suc c → at k ≡ a → ⊥
            all k h q = from (cases_eq k c)
              where
                from : (k ≡ c) ⊎ (k ≡ c → ⊥) → ⊥
                from (inl z) = eqb-false (at c) a e (ap at (sym z) ∙ q)
                from (inr ne) = out k (omega arith) q

    whole : sum_below g p ≡ sum_below rest p + g (at c)
    whole =
        sum_same g (λ a. rest a + cond (eqb (at c) a) (g (at c)) 0) p (λ a _. part a (cases_Bool (eqb (at c) a)))
        ∙ sum-add rest (λ a. cond (eqb (at c) a) (g (at c)) 0) p
        ∙ ap (λ x. sum_below rest p + x) (sum-hit (at c) (g (at c)) p (inside c (omega arith)))
      where
        part : (a : ℕ) → (eqb (at c) a ≡ true) ⊎ (eqb (at c) a ≡ false) → g a ≡ cond (eqb (at c) a) 0 (g a) + cond (eqb (at c) a) (g (at c)) 0
        part a (inl e) = rw e (ap g (sym (eqb-true (at c) a e)) ∙ plus (g (at c)))
          where
            plus : (x : ℕ) → x ≡ 0 + x
            plus x = omega arith
        part a (inr e) = rw e (plus (g a))
          where
            plus : (x : ℕ) → x ≡ x + 0
            plus x = omega arith
