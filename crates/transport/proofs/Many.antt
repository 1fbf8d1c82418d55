-- Several messages of one pair sent, carried or taken, one after the other.
use Rattle.std.proofs.Common.{◌≡◌, ℕ, suc, ◌+◌, ◌≤◌, Bool, true, false, cond, ◌&&◌, eqb, ◌⊎◌, List, [], ◌∷◌, ◌++◌, length, take, drop, Some, sym, refl, ap, ◌∙◌, ap₂, inl, inr, arith, take-add}
use Rattle.std.proofs.lemmas.List.{append-nil, append_assoc, length-append, drop-drop, nil_from_length}
use Rattle.std.proofs.lemmas.Bool.{cases_Bool}
use Rattle.transport.specs.Network.{Network, Message, between, waiting, put, with_lists, sent, carry_reply, after_carry, carried, some_moved, after_take, oldest, without, Shaped}
use Rattle.transport.specs.Many.{sent_all, carried_all, without_n, taken_all}
use Rattle.ranks.specs.Ranks.{pair_ok, sum_below}
use Rattle.ranks.proofs.Sums.{sum-zero}
use Rattle.transport.proofs.Pairs.{pair_parts}
use Rattle.transport.proofs.Tables.{put_here, put_other, put_put, put_same, sum-grown}
use Rattle.transport.proofs.Replies.{after_take_found}

module _ (n : Network) (a b : ℕ) where
  pub sent_none : sent_all n a b [] ≡ n
  sent_none = ap (λ u. with_lists n u n.arrived) (ap (put n.under a b) (append-nil (n.under a b)) ∙ put_same n.under a b)

  pub sent_one : (ms : List Message) (m : Message) → sent (sent_all n a b ms) a b m ≡ sent_all n a b (ms ++ (m ∷ []))
  unfolding sent
  sent_one ms m =
      ap (λ u. with_lists n u n.arrived)
      (put_put n.under a b (n.under a b ++ ms) _
      ∙ ap (put n.under a b) (ap (λ l. l ++ (m ∷ [])) (put_here n.under a b (n.under a b ++ ms)) ∙ append_assoc (n.under a b) ms (m ∷ [])))

  pub sent_between : (ms : List Message) → between (sent_all n a b ms) a b ≡ between n a b + length ms
  sent_between ms =
      let e = ap length (put_here n.under a b (n.under a b ++ ms)) in
      omega (arith, e, length-append (n.under a b) ms)

  pub sent_waiting : (ms : List Message) → pair_ok n.ranks a b ≡ true → waiting (sent_all n a b ms) ≡ waiting n + length ms
  unfolding waiting
  sent_waiting ms e =
      let h = pair_parts n.ranks a b e in
      sum-grown n.ranks a b (length ms) (between n) (between (sent_all n a b ms)) h.0 h.1 (sent_between ms)
      (λ x y ne. ap (λ l. length l + length (n.arrived x y)) (put_other n.under a b (n.under a b ++ ms) x y ne))

  pub carried_none : carried_all n a b 0 ≡ n
  carried_none = ap₂ (with_lists n) (put_same n.under a b) (ap (put n.arrived a b) (append-nil (n.arrived a b)) ∙ put_same n.arrived a b)

  pub carried_reply : (k : ℕ) → pair_ok n.ranks a b ≡ true → carry_reply (carried_all n a b k) a b ≡ some_moved (drop k (n.under a b))
  unfolding carry_reply
  carried_reply k e = rw e (ap some_moved (put_here n.under a b (drop k (n.under a b))))

  pub carried_one : (k : ℕ) → pair_ok n.ranks a b ≡ true → after_carry (carried_all n a b k) a b ≡ carried_all n a b (k + 1)
  unfolding after_carry
  carried_one k e =
      rw e
      (ap (carried (carried_all n a b k) a b) (put_here n.under a b (drop k (n.under a b)))
      ∙ by (drop k (n.under a b)) refl)
    where
      rest : (l : List Message) → drop k (n.under a b) ≡ l → drop (k + 1) (n.under a b) ≡ drop 1 l
      rest l d = sym (drop-drop 1 k (n.under a b)) ∙ ap (drop 1) d

      front : (l : List Message) → drop k (n.under a b) ≡ l → take (k + 1) (n.under a b) ≡ take k (n.under a b) ++ take 1 l
      front l d = take-add k 1 (n.under a b) ∙ ap (λ x. take k (n.under a b) ++ take 1 x) d

      by : (l : List Message) → drop k (n.under a b) ≡ l → carried (carried_all n a b k) a b l ≡ carried_all n a b (k + 1)
      by [] d =
          ap₂ (with_lists n)
          (ap (put n.under a b) (d ∙ sym (rest [] d)))
          (ap (λ l. put n.arrived a b (n.arrived a b ++ l)) (sym (front [] d ∙ append-nil (take k (n.under a b)))))
      by (m ∷ ms) d =
          ap₂ (with_lists n)
          (put_put n.under a b (drop k (n.under a b)) ms ∙ ap (put n.under a b) (sym (rest (m ∷ ms) d)))
          (put_put n.arrived a b (n.arrived a b ++ take k (n.under a b)) _
          ∙ ap (put n.arrived a b)
          (ap (λ l. l ++ (m ∷ [])) (put_here n.arrived a b (n.arrived a b ++ take k (n.under a b))) ∙ append_assoc (n.arrived a b) (take k (n.under a b)) (m ∷ []) ∙ ap (λ l. n.arrived a b ++ l) (sym (front (m ∷ ms) d))))

  pub taken_none : (t : ℕ) → taken_all n a b t 0 ≡ n
  taken_none t = ap (with_lists n n.under) (put_same n.arrived a b)

  pub taken_one : (t k : ℕ) (buffer : List ℕ) → pair_ok n.ranks a b ≡ true → n.limit ≤ length buffer → after_take (taken_all n a b t k) a b t (length buffer) ≡ taken_all n a b t (k + 1)
  taken_one t k buffer e h =
      after_take_found (taken_all n a b t k) a b t buffer e h
      ∙ ap (with_lists n n.under)
      (put_put n.arrived a b (without_n t k (n.arrived a b)) _
      ∙ ap (put n.arrived a b) (ap (without t) (put_here n.arrived a b (without_n t k (n.arrived a b))) ∙ ap (λ j. without_n t j (n.arrived a b)) (one_more k)))
    where
      one_more : (k : ℕ) → suc k ≡ k + 1
      one_more k = omega arith

-- where nothing waits in all, nothing waits anywhere
pub nothing_waits : (most : ℕ) (n : Network) → Shaped most n → waiting n ≡ 0 → (a b : ℕ) → (n.under a b ≡ []) × (n.arrived a b ≡ [])
unfolding waiting
nothing_waits most n s e a b = by (cases_Bool (pair_ok n.ranks a b))
  where
    by : (pair_ok n.ranks a b ≡ true) ⊎ (pair_ok n.ranks a b ≡ false) → (n.under a b ≡ []) × (n.arrived a b ≡ [])
    by (inl ok) =
        let h = pair_parts n.ranks a b ok in
        let row = sum-zero (λ x. sum_below (between n x) n.ranks) n.ranks e a h.0 in
        let z = sum-zero (between n a) n.ranks row b h.1 in
        (nil_from_length (n.under a b) (omega arith), nil_from_length (n.arrived a b) (omega arith))
    by (inr no_pair) = (s.no_under a b no_pair, s.no_arrived a b no_pair)

-- a carry leaves as many waiting
pub carried_waiting : (n : Network) (a b : ℕ) (m : Message) (ms : List Message) → pair_ok n.ranks a b ≡ true → n.under a b ≡ m ∷ ms
    → waiting (with_lists n (put n.under a b ms) (put n.arrived a b (n.arrived a b ++ (m ∷ [])))) ≡ waiting n
unfolding waiting
carried_waiting n a b m ms pair u =
    let h = pair_parts n.ranks a b pair in
    sum-grown n.ranks a b 0 (between n) (between after) h.0 h.1 here there ∙ plus_zero (waiting n)
  where
    after : Network
    after = with_lists n (put n.under a b ms) (put n.arrived a b (n.arrived a b ++ (m ∷ [])))

    plus_zero : (k : ℕ) → k + 0 ≡ k
    plus_zero k = omega arith

    here : between (with_lists n (put n.under a b ms) (put n.arrived a b (n.arrived a b ++ (m ∷ [])))) a b ≡ between n a b + 0
    here =
        ap₂ (λ x y. length x + length y) (put_here n.under a b ms) (put_here n.arrived a b (n.arrived a b ++ (m ∷ [])))
        ∙ count (ap length u) (length-append (n.arrived a b) (m ∷ []))
      where
        count : length (n.under a b) ≡ suc (length ms) → length (n.arrived a b ++ (m ∷ [])) ≡ length (n.arrived a b) + 1 → length ms + length (n.arrived a b ++ (m ∷ [])) ≡ length (n.under a b) + length (n.arrived a b) + 0
        count p q = omega arith

    there : (x y : ℕ) → (eqb a x && eqb b y) ≡ false → between (with_lists n (put n.under a b ms) (put n.arrived a b (n.arrived a b ++ (m ∷ [])))) x y ≡ between n x y
    there x y ne = ap₂ (λ u v. length u + length v) (put_other n.under a b ms x y ne) (put_other n.arrived a b (n.arrived a b ++ (m ∷ [])) x y ne)

pub length_without : (t : ℕ) (ms : List Message) (m : Message) → oldest t ms ≡ Some m → length ms ≡ length (without t ms) + 1
length_without t [] m e = let z : ◌≡◌ {A = ℕ} 0 1 = cc in absurd (omega arith)
length_without t (x ∷ ms) m e = by (eqb x.tag t) (length_without t ms m) e
  where
    by : (u : Bool) → (oldest t ms ≡ Some m → length ms ≡ length (without t ms) + 1) → cond u (Some x) (oldest t ms) ≡ Some m → suc (length ms) ≡ length (cond u ms (x ∷ without t ms)) + 1
    by true rest k = omega arith
    by false rest k = omega (arith, rest k)

-- a take leaves one less
pub taken_waiting : (n : Network) (a b t : ℕ) (m : Message) → pair_ok n.ranks a b ≡ true → oldest t (n.arrived a b) ≡ Some m
    → waiting n ≡ waiting (with_lists n n.under (put n.arrived a b (without t (n.arrived a b)))) + 1
unfolding waiting
taken_waiting n a b t m pair o =
    let h = pair_parts n.ranks a b pair in
    sum-grown n.ranks a b 1 (between (with_lists n n.under (put n.arrived a b (without t (n.arrived a b))))) (between n) h.0 h.1 here there
  where
    here : between n a b ≡ between (with_lists n n.under (put n.arrived a b (without t (n.arrived a b)))) a b + 1
    here = omega (arith, ap length (put_here n.arrived a b (without t (n.arrived a b))), length_without t (n.arrived a b) m o)

    there : (x y : ℕ) → (eqb a x && eqb b y) ≡ false → between n x y ≡ between (with_lists n n.under (put n.arrived a b (without t (n.arrived a b)))) x y
    there x y ne = ap (λ v. length (n.under x y) + length v) (sym (put_other n.arrived a b (without t (n.arrived a b)) x y ne))
