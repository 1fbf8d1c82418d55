-- Allreduce: numbers that exchange, and the even ranks below twice the surplus that hand in their inputs.
use Rattle.std.proofs.Common.{◌≡◌, ℕ, zero, suc, ◌+◌, ◌-◌, ◌*◌, ◌/◌, ◌%◌, ◌^◌, ◌<◌, ◌≤◌, max, Bool, true, false, cond, eqb, ltb, ◌⊎◌, List, [], ◌∷◌, ◌++◌, sym, refl, ap, ◌∙◌, subst, ap₂, inl, inr, ⊎_elim, append_assoc, append-nil, mod-lt, mod-eq_of_lt, arith, pow_pos}
use mathlib.Core.Path.{fun_ext}
use native.Mathlib.Nat.{mod-le}
use Rattle.std.proofs.lemmas.Bool.{ltb-true, lt-ltb, le-ltb, le-leb, lt-leb, cases_lt, eq-eqb, ne_eqb}
use Rattle.programme.specs.declared.Action.{Action}
use Rattle.programme.specs.declared.Action.TheVariants.{Send, Take}
use Rattle.programme.specs.declared.Merge.{Merge}
use Rattle.programme.specs.declared.Merge.TheVariants.{Before, After, Replace}
use Rattle.programme.specs.declared.Kind.TheVariants.{Allreduce}
use Rattle.programme.specs.Label.{hand_in, hand_back}
use Rattle.programme.specs.Levels.{floor_log, surplus}
use Rattle.programme.specs.Monoid.{Laws, span}
use Rattle.programme.specs.Rank.{Rank, Mail, fresh, posted, acts, merged_value}
use Rattle.programme.specs.Programme.{steps, when, bit, flip, rank_of, exchange_step, exchange, allreduce}
use Rattle.programme.specs.Solved.{Stands, Solved}
use Rattle.programme.specs.Message.{Interval, Within, only, number_of, delay, apart, block_start, behind, allreduce_stamp, allreduce_covers}
use Rattle.programme.specs.Outcome.{ComesOut}
use Rattle.ranks.specs.Ranks.{sum_below, greatest_below}
use Rattle.programme.specs.Formula.{sends}
use Rattle.programme.proofs.Power.{floor_log_pow, pow_inj, surplus_splits, surplus_lt}
use Rattle.programme.proofs.Bits.{Clear, Set, clear_or_set, block_ends}
use Rattle.programme.proofs.Lists.{Every, every_stands, every_append, every_steps, every_when, stands_first, stands_left, stands_right, stands_when, stands_steps, moved_stands, acts_done, acts_append, sends_append, sends_steps, sends_when, sends_when_take}
use Rattle.ranks.proofs.Sums.{sum_same, sum-split, sum-constant, greatest_is}
use Rattle.programme.proofs.Spans.{span_one, spans_join}
use Rattle.programme.proofs.Mails.{mail_path, moved_mail}

cond_lt : (a b x y : ℕ) → ((a < b) × (cond (ltb a b) x y ≡ x)) ⊎ ((b ≤ a) × (cond (ltb a b) x y ≡ y))
cond_lt a b x y = elim (cases_lt a b) [ inl h ↦ inl (h, rw (lt-ltb a b h)) | inr h ↦ inr (h, rw (le-ltb a b h)) ]

pub rank_cases : (p n : ℕ) → ((n < surplus p) × (rank_of p n ≡ 2 * n + 1)) ⊎ ((surplus p ≤ n) × (rank_of p n ≡ n + surplus p))
rank_cases p n = cond_lt n (surplus p) _ _

pub number_cases : (p r : ℕ) → ((r < 2 * surplus p) × (number_of p r ≡ r / 2)) ⊎ ((2 * surplus p ≤ r) × (number_of p r ≡ r - surplus p))
unfolding number_of
number_cases p r = cond_lt r (2 * surplus p) _ _

pub delay_cases : (p n : ℕ) → ((n < surplus p) × (delay p n ≡ 1)) ⊎ ((surplus p ≤ n) × (delay p n ≡ 0))
unfolding delay
delay_cases p n = cond_lt n (surplus p) _ _

pub number_of_rank : (p n : ℕ) → number_of p (rank_of p n) ≡ n
number_of_rank p n = omega (arith, rank_cases p n, number_cases p (rank_of p n))

pub number_of_even : (p j : ℕ) → j < surplus p → number_of p (2 * j) ≡ j
number_of_even p j h = omega (arith, number_cases p (2 * j))

pub rank_inj : (p n o : ℕ) → rank_of p n ≡ rank_of p o → n ≡ o
rank_inj p n o e = sym (number_of_rank p n) ∙ ap (number_of p) e ∙ number_of_rank p o

pub rank_odd : (p n j : ℕ) → j < surplus p → rank_of p n ≡ 2 * j → ⊥
rank_odd p n j h e = omega (arith, rank_cases p n)

pub rank_lt : (p n : ℕ) → 0 < p → n < 2 ^ floor_log p → rank_of p n < p
rank_lt p n pos h = omega (arith, rank_cases p n, surplus_splits p pos)

pub apart_flip : (n k : ℕ) → apart n (flip n k) ≡ 2 ^ k
apart_flip n k =
    ⊎_elim
    (λ (c : Clear n k). omega (arith, c.flips))
    (λ (c : Set n k). omega (arith, c.flips))
    (clear_or_set n k)

pub flip_back : (n k : ℕ) → flip (flip n k) k ≡ n
flip_back n k = ⊎_elim (λ (c : Clear n k). c.back) (λ (c : Set n k). c.back) (clear_or_set n k)

pub flip_other : (n k : ℕ) → n ≡ flip n k → ⊥
flip_other n k e = omega (arith, apart_flip n k, pow_pos k)

-- the block of 2 ^ k numbers around n lies below 2 ^ F
pub block_fits : (n k f : ℕ) → k ≤ f → n < 2 ^ f → block_start n (2 ^ k) + 2 ^ k ≤ 2 ^ f
block_fits n k f l h = let e : f - k + k ≡ f = omega arith in rw e at (block_ends n k (f - k) (rw e h))

pub flip_lt : (n k f : ℕ) → k < f → n < 2 ^ f → flip n k < 2 ^ f
flip_lt n k f l h =
    ⊎_elim
    (λ (c : Clear n k). omega (arith, c.flips, c.next, block_fits n (suc k) f l h, mod_small))
    (λ (c : Set n k). omega (arith, c.flips))
    (clear_or_set n k)
  where
    mod_small : n % 2 ^ k < 2 ^ k
    mod_small = mod-lt n (pow_pos k)

-- what stands before and behind the exchanges of number n
abbrev pub handed_in : (p n : ℕ) → List Action
handed_in p n = when (ltb n (surplus p)) (Take (rank_of p n - 1) hand_in Before)

abbrev pub handed_back : (p n : ℕ) → List Action
handed_back p n = when (ltb n (surplus p)) (Send (rank_of p n - 1) hand_back)

odd_programme : (p r n : ℕ) → n < surplus p → r ≡ 2 * n + 1 → allreduce p r ≡ (Take (r - 1) hand_in Before ∷ exchange p n) ++ (Send (r - 1) hand_back ∷ [])
unfolding allreduce
odd_programme p r n h e =
    let d : (r - 1) / 2 ≡ n = omega arith in
    rw (lt-leb (2 * surplus p) r (omega arith), ne_eqb (r % 2) 0 (λ q. omega arith), d)

high_programme : (p r n : ℕ) → surplus p ≤ n → r ≡ n + surplus p → allreduce p r ≡ exchange p n
unfolding allreduce
high_programme p r n h e =
    let d : r - surplus p ≡ n = omega arith in
    rw (le-leb (2 * surplus p) r (omega arith), d)

pub at_number : (p n : ℕ) → allreduce p (rank_of p n) ≡ (handed_in p n ++ exchange p n) ++ handed_back p n
at_number p n = go (rank_of p n) (rank_cases p n)
  where
    go : (r : ℕ) → ((n < surplus p) × (r ≡ 2 * n + 1)) ⊎ ((surplus p ≤ n) × (r ≡ n + surplus p)) → allreduce p r ≡ (when (ltb n (surplus p)) (Take (r - 1) hand_in Before) ++ exchange p n) ++ when (ltb n (surplus p)) (Send (r - 1) hand_back)
    go r (inl c) = rw (lt-ltb n (surplus p) c.0) (odd_programme p r n c.0 c.1)
    go r (inr c) = rw (le-ltb n (surplus p) c.0) (high_programme p r n c.0 c.1 ∙ sym (append-nil (exchange p n)))

pub at_even : (p j : ℕ) → j < surplus p → allreduce p (2 * j) ≡ Send (2 * j + 1) hand_in ∷ Take (2 * j + 1) hand_back Replace ∷ []
unfolding allreduce
at_even p j h = rw (lt-leb (2 * surplus p) (2 * j) (omega arith), eq-eqb (2 * j % 2) 0 (omega arith))

-- every rank has a number, or is the even partner of one
pub data Role (p r : ℕ) : Type 0 where
  numbered : (n : ℕ) → n < 2 ^ floor_log p → r ≡ rank_of p n → Role p r
  partner : (j : ℕ) → j < surplus p → r ≡ 2 * j → Role p r

pub role : (p r : ℕ) → r < p → Role p r
role p r h =
    ⊎_elim
    (λ (l : r < 2 * surplus p).
    ⊎_elim
    (λ (e : r % 2 < 1). partner (r / 2) (omega arith) (omega arith))
    (λ (e : 1 ≤ r % 2). numbered (r / 2) (omega (arith, surplus_lt p (omega arith))) (omega (arith, rank_cases p (r / 2))))
    (cases_lt (r % 2) 1))
    (λ (l : 2 * surplus p ≤ r). numbered (r - surplus p) (omega (arith, surplus_splits p (omega arith))) (omega (arith, rank_cases p (r - surplus p))))
    (cases_lt r (2 * surplus p))

-- the actions of rank r before step k of its number n
abbrev pub before_step : (p n k : ℕ) → List Action
before_step p n k = handed_in p n ++ steps (exchange_step p n) k

pub data Sent (p r : ℕ) (before : List Action) (b label : ℕ) : Type 0 where
  swaps : (n k : ℕ) → n < 2 ^ floor_log p → k < floor_log p → r ≡ rank_of p n → b ≡ rank_of p (flip n k) → label ≡ k → before ≡ before_step p n k → Sent p r before b label
  hands_in : (j : ℕ) → j < surplus p → r ≡ 2 * j → b ≡ rank_of p j → label ≡ hand_in → before ≡ [] → Sent p r before b label
  hands_back : (j : ℕ) → j < surplus p → r ≡ rank_of p j → b ≡ 2 * j → label ≡ hand_back → before ≡ before_step p j (floor_log p) → Sent p r before b label

pub data Took (p r : ℕ) (before : List Action) (a label : ℕ) (with : Merge) : Type 0 where
  swaps : (n k : ℕ) → n < 2 ^ floor_log p → k < floor_log p → r ≡ rank_of p n → a ≡ rank_of p (flip n k) → label ≡ k → with ≡ cond (bit n k) Before After → before ≡ before_step p n k ++ (Send (rank_of p (flip n k)) k ∷ []) → Took p r before a label with
  gets : (j : ℕ) → j < surplus p → r ≡ rank_of p j → a ≡ 2 * j → label ≡ hand_in → with ≡ Before → before ≡ [] → Took p r before a label with
  gets_back : (j : ℕ) → j < surplus p → r ≡ 2 * j → a ≡ rank_of p j → label ≡ hand_back → with ≡ Replace → before ≡ Send (2 * j + 1) hand_in ∷ [] → Took p r before a label with

abbrev pub Told : (p r : ℕ) → List Action → Action → Type 0
Told p r before (Send b label) = Sent p r before b label
Told p r before (Take a label with) = Took p r before a label with

rank_below : (p j : ℕ) → j < surplus p → rank_of p j ≡ 2 * j + 1
rank_below p j h = omega (arith, rank_cases p j)

-- number n's exchanges come behind whatever stands before them
told_swaps : (p n k : ℕ) → n < 2 ^ floor_log p → k < floor_log p → Every (λ before. Told p (rank_of p n) (before_step p n k ++ before)) (exchange_step p n k)
unfolding exchange_step
told_swaps p n k h l = (
  Sent.swaps n k h l refl refl refl (append-nil (before_step p n k)),
  (Took.swaps n k h l refl refl refl refl refl, tt),
)

told_number : (p n : ℕ) → n < 2 ^ floor_log p → Every (Told p (rank_of p n)) ((handed_in p n ++ exchange p n) ++ handed_back p n)
unfolding exchange
told_number p n h =
    every_append (Told p (rank_of p n)) (handed_in p n ++ exchange p n) (handed_back p n)
    (every_append (Told p (rank_of p n)) (handed_in p n) (exchange p n)
    (every_when (Told p (rank_of p n)) (ltb n (surplus p)) (Take (rank_of p n - 1) hand_in Before)
    λ e. Took.gets n (ltb-true n (surplus p) e) refl (omega (arith, rank_below p n (ltb-true n (surplus p) e))) refl refl refl)
    (every_steps (λ before. Told p (rank_of p n) (handed_in p n ++ before)) (exchange_step p n) (floor_log p)
    λ k l. moved k (told_swaps p n k h l)))
    (every_when (λ before. Told p (rank_of p n) ((handed_in p n ++ exchange p n) ++ before)) (ltb n (surplus p)) (Send (rank_of p n - 1) hand_back)
    λ e. Sent.hands_back n (ltb-true n (surplus p) e) refl (omega (arith, rank_below p n (ltb-true n (surplus p) e))) refl (append-nil (before_step p n (floor_log p))))
  where
    moved : (k : ℕ) → Every (λ before. Told p (rank_of p n) (before_step p n k ++ before)) (exchange_step p n k) → Every (λ before. Told p (rank_of p n) (handed_in p n ++ (steps (exchange_step p n) k ++ before))) (exchange_step p n k)
    moved k = subst (λ (f : List Action → List Action). Every (λ before. Told p (rank_of p n) (f before)) (exchange_step p n k)) (fun_ext (λ before. append_assoc (handed_in p n) (steps (exchange_step p n) k) before))

told_even : (p j : ℕ) → j < surplus p → Every (Told p (2 * j)) (Send (2 * j + 1) hand_in ∷ Take (2 * j + 1) hand_back Replace ∷ [])
told_even p j h = (
  Sent.hands_in j h refl (sym (rank_below p j h)) refl refl,
  (Took.gets_back j h refl (sym (rank_below p j h)) refl refl refl, tt),
)

pub told : (p r : ℕ) → r < p → Every (Told p r) (allreduce p r)
told p r h = go (role p r h)
  where
    go : Role p r → Every (Told p r) (allreduce p r)
    go (numbered n l e) = subst (λ (r : ℕ). Every (Told p r) (allreduce p r)) (sym e) (subst (Every (Told p (rank_of p n))) (sym (at_number p n)) (told_number p n l))
    go (partner j l e) = subst (λ (r : ℕ). Every (Told p r) (allreduce p r)) (sym e) (subst (Every (Told p (2 * j))) (sym (at_even p j l)) (told_even p j l))

-- where the actions stand
swap_stands : (p n k : ℕ) (a : Action) → k < floor_log p → Stands (exchange_step p n k) a → Stands (allreduce p (rank_of p n)) a
unfolding exchange
swap_stands p n k a l s =
    subst (λ (x : List Action). Stands x a) (sym (at_number p n))
    (stands_left (handed_in p n ++ exchange p n) (handed_back p n) a
    (stands_right (handed_in p n) (exchange p n) a
    (stands_steps (exchange_step p n) (floor_log p) k a l s)))

send_swap_stands : (p n k : ℕ) → k < floor_log p → Stands (allreduce p (rank_of p n)) (Send (rank_of p (flip n k)) k)
unfolding exchange_step
send_swap_stands p n k l = swap_stands p n k (Send (rank_of p (flip n k)) k) l (stands_first (Send (rank_of p (flip n k)) k) (Take (rank_of p (flip n k)) k (cond (bit n k) Before After) ∷ []))

take_swap_stands : (p n k : ℕ) → k < floor_log p → Stands (allreduce p (rank_of p n)) (Take (rank_of p (flip n k)) k (cond (bit n k) Before After))
unfolding exchange_step
take_swap_stands p n k l =
    let t : Action = Take (rank_of p (flip n k)) k (cond (bit n k) Before After) in
    swap_stands p n k t l (stands_right (Send (rank_of p (flip n k)) k ∷ []) (t ∷ []) t (stands_first t []))

send_in_stands : (p j : ℕ) → j < surplus p → Stands (allreduce p (2 * j)) (Send (rank_of p j) hand_in)
send_in_stands p j h = rw (at_even p j h, rank_below p j h) (stands_first (Send (2 * j + 1) hand_in) (Take (2 * j + 1) hand_back Replace ∷ []))

take_back_stands : (p j : ℕ) → j < surplus p → Stands (allreduce p (2 * j)) (Take (rank_of p j) hand_back Replace)
take_back_stands p j h =
    let t : Action = Take (2 * j + 1) hand_back Replace in
    rw (at_even p j h, rank_below p j h) (stands_right (Send (2 * j + 1) hand_in ∷ []) (t ∷ []) t (stands_first t []))

take_in_stands : (p j : ℕ) → j < surplus p → Stands (allreduce p (rank_of p j)) (Take (2 * j) hand_in Before)
take_in_stands p j h =
    let e : rank_of p j - 1 ≡ 2 * j = omega (arith, rank_below p j h) in
    subst (λ (x : ℕ). Stands (allreduce p (rank_of p j)) (Take x hand_in Before)) e
    (subst (λ (x : List Action). Stands x (Take (rank_of p j - 1) hand_in Before)) (sym (at_number p j))
    (stands_left (handed_in p j ++ exchange p j) (handed_back p j) (Take (rank_of p j - 1) hand_in Before)
    (stands_left (handed_in p j) (exchange p j) (Take (rank_of p j - 1) hand_in Before)
    (stands_when (ltb j (surplus p)) (Take (rank_of p j - 1) hand_in Before) (lt-ltb j (surplus p) h)))))

send_back_stands : (p j : ℕ) → j < surplus p → Stands (allreduce p (rank_of p j)) (Send (2 * j) hand_back)
send_back_stands p j h =
    let e : rank_of p j - 1 ≡ 2 * j = omega (arith, rank_below p j h) in
    subst (λ (x : ℕ). Stands (allreduce p (rank_of p j)) (Send x hand_back)) e
    (subst (λ (x : List Action). Stands x (Send (rank_of p j - 1) hand_back)) (sym (at_number p j))
    (stands_right (handed_in p j ++ exchange p j) (handed_back p j) (Send (rank_of p j - 1) hand_back)
    (stands_when (ltb j (surplus p)) (Send (rank_of p j - 1) hand_back) (lt-ltb j (surplus p) h))))

-- the ranks behind each message
swap_covers : (p n o k : ℕ) → apart n o ≡ 2 ^ k → allreduce_covers p (rank_of p n) (rank_of p o) (number_of p (rank_of p n)) (number_of p (rank_of p o)) ≡ behind p (block_start n (2 ^ k)) (block_start n (2 ^ k) + 2 ^ k)
swap_covers p n o k e =
    ap₂ (allreduce_covers p (rank_of p n) (rank_of p o)) (number_of_rank p n) (number_of_rank p o)
    ∙ ap (λ (t : Bool). cond t (cond (ltb (rank_of p n) (rank_of p o)) (only (rank_of p n)) (record { first = 0; number = p })) (behind p (block_start n (apart n o)) (block_start n (apart n o) + apart n o))) (ne_eqb n o (λ q. omega (arith, pow_pos k)))
    ∙ ap (λ (w : ℕ). behind p (block_start n w) (block_start n w + w)) e

in_covers : (p j : ℕ) → j < surplus p → allreduce_covers p (2 * j) (rank_of p j) (number_of p (2 * j)) (number_of p (rank_of p j)) ≡ only (2 * j)
in_covers p j h =
    ap₂ (allreduce_covers p (2 * j) (rank_of p j)) (number_of_even p j h) (number_of_rank p j)
    ∙ ap₂ (λ (t u : Bool). cond t (cond u (only (2 * j)) (record { first = 0; number = p })) (behind p (block_start j (apart j j)) (block_start j (apart j j) + apart j j))) (eq-eqb j j refl) (lt-ltb (2 * j) (rank_of p j) (omega (arith, rank_below p j h)))

back_covers : (p j : ℕ) → j < surplus p → allreduce_covers p (rank_of p j) (2 * j) (number_of p (rank_of p j)) (number_of p (2 * j)) ≡ record { first = 0; number = p }
back_covers p j h =
    ap₂ (allreduce_covers p (rank_of p j) (2 * j)) (number_of_rank p j) (number_of_even p j h)
    ∙ ap₂ (λ (t u : Bool). cond t (cond u (only (rank_of p j)) (record { first = 0; number = p })) (behind p (block_start j (apart j j)) (block_start j (apart j j) + apart j j))) (eq-eqb j j refl) (le-ltb (rank_of p j) (2 * j) (omega (arith, rank_below p j h)))

abbrev covered : (p a b : ℕ) → Interval
covered p a b = allreduce_covers p a b (number_of p a) (number_of p b)

within : (p a b label : ℕ) (before : List Action) → a < p → Sent p a before b label → Within p (covered p a b)
within p a b label before h (swaps n k l m ea eb _ _) =
    let pos : 0 < p = omega arith in
    let fits : block_start n (2 ^ k) + 2 ^ k ≤ 2 ^ floor_log p = block_fits n k (floor_log p) (omega arith) l in
    rw (ea, eb) (subst (Within p) (sym (swap_covers p n (flip n k) k (apart_flip n k))) (omega (arith, pow_pos k), omega (arith, surplus_splits p pos)))
within p a b label before h (hands_in j l ea eb _ _) = rw (ea, eb) (subst (Within p) (sym (in_covers p j l)) (omega arith, omega arith))
within p a b label before h (hands_back j l ea eb _ _) = rw (ea, eb) (subst (Within p) (sym (back_covers p j l)) (omega arith, omega arith))

module _ {E : Type 0} (proper : E → Bool) (unit : E) (join : E → E → E) (laws : Laws proper unit join) (p : ℕ) (pos : 0 < p) (inputs : ℕ → E) (inputs_proper : (r : ℕ) → r < p → proper (inputs r) ≡ true) where
  abbrev joined : Interval → E
  joined i = span unit join inputs i.first i.number

  abbrev sent : (a b : ℕ) → Mail E
  sent a b = record { stamp = allreduce_stamp p a b (number_of p a) (number_of p b); value = joined (allreduce_covers p a b (number_of p a) (number_of p b)) }

  -- the inputs behind neighbouring rows of numbers
  behind_join : (a b c : ℕ) → a ≤ b → b ≤ c → c ≤ 2 ^ floor_log p → join (joined (behind p a b)) (joined (behind p b c)) ≡ joined (behind p a c)
  behind_join a b c h l f = spans_join proper unit join laws p inputs inputs_proper _ _ _ _ _ _ (omega arith) (omega arith) (omega arith) (omega (arith, surplus_splits p pos))

  swap_stamp : (n o k : ℕ) → apart n o ≡ 2 ^ k → (sent (rank_of p n) (rank_of p o)).stamp ≡ k + delay p (block_start n (2 ^ k)) + 1
  swap_stamp n o k e =
      ap₂ (allreduce_stamp p (rank_of p n) (rank_of p o)) (number_of_rank p n) (number_of_rank p o)
      ∙ ap (λ (t : Bool). cond t (cond (ltb (rank_of p n) (rank_of p o)) 1 (floor_log p + 2)) (floor_log (apart n o) + delay p (block_start n (apart n o)) + 1)) (ne_eqb n o (λ q. omega (arith, pow_pos k)))
      ∙ ap (λ (w : ℕ). floor_log w + delay p (block_start n w) + 1) e
      ∙ ap (λ (f : ℕ). f + delay p (block_start n (2 ^ k)) + 1) (floor_log_pow k)

  swap_value : (n o k : ℕ) → apart n o ≡ 2 ^ k → (sent (rank_of p n) (rank_of p o)).value ≡ joined (behind p (block_start n (2 ^ k)) (block_start n (2 ^ k) + 2 ^ k))
  swap_value n o k e = ap joined (swap_covers p n o k e)

  -- number n after k steps
  record Holds (n k : ℕ) (x : Rank E) : Type 0 where
    value : x.value ≡ joined (behind p (block_start n (2 ^ k)) (block_start n (2 ^ k) + 2 ^ k))
    arrival : x.arrival ≡ k + delay p (block_start n (2 ^ k))
    departure : x.departure ≤ x.arrival

  -- one exchange
  step : (n k : ℕ) (x : Rank E) → n < 2 ^ floor_log p → k < floor_log p → Holds n k x → Holds n (suc k) (acts join (λ a. sent a (rank_of p n)) (exchange_step p n k) x)
  unfolding exchange_step
  step n k x h l c =
      let o : ℕ = flip n k in
      let ap_on : apart o n ≡ 2 ^ k = omega (arith, apart_flip n k) in
      let stamp_is : (sent (rank_of p o) (rank_of p n)).stamp ≡ k + delay p (block_start o (2 ^ k)) + 1 = swap_stamp o n k ap_on in
      let value_is : (sent (rank_of p o) (rank_of p n)).value ≡ joined (behind p (block_start o (2 ^ k)) (block_start o (2 ^ k) + 2 ^ k)) = swap_value o n k ap_on in
      let fits : block_start n (2 ^ suc k) + 2 ^ suc k ≤ 2 ^ floor_log p = block_fits n (suc k) (floor_log p) l h in
      ⊎_elim
      (λ (s : Clear n k).
      let low : block_start n (2 ^ suc k) ≡ block_start n (2 ^ k) = ap (λ (m : ℕ). n - m) s.next in
      let high : block_start o (2 ^ k) ≡ block_start n (2 ^ k) + 2 ^ k = omega (arith, s.flips, s.rest, mod-le n (2 ^ k)) in
      record {
        value =
            ap (λ (b : Bool). merged_value join (cond b Before After) x.value (sent (rank_of p o) (rank_of p n)).value) s.is
            ∙ ap₂ join c.value (value_is ∙ ap (λ (w : ℕ). joined (behind p w (w + 2 ^ k))) high)
            ∙ behind_join (block_start n (2 ^ k)) (block_start n (2 ^ k) + 2 ^ k) (block_start n (2 ^ k) + 2 ^ k + 2 ^ k) (omega arith) (omega arith) (omega arith)
            ∙ ap₂ (λ (a b : ℕ). joined (behind p a b)) (sym low) (omega arith);
        arrival = omega (arith, c.arrival, c.departure, stamp_is, delay_cases p (block_start n (2 ^ k)), delay_cases p (block_start o (2 ^ k)), delay_cases p (block_start n (2 ^ suc k)));
        departure = omega (arith, c.departure);
      })
      (λ (s : Set n k).
      let low : block_start n (2 ^ suc k) ≡ block_start o (2 ^ k) = omega (arith, s.flips, s.rest, s.next) in
      let high : block_start n (2 ^ k) ≡ block_start o (2 ^ k) + 2 ^ k = omega (arith, s.flips, s.rest, s.low) in
      record {
        value =
            ap (λ (b : Bool). merged_value join (cond b Before After) x.value (sent (rank_of p o) (rank_of p n)).value) s.is
            ∙ ap₂ join value_is (c.value ∙ ap (λ (w : ℕ). joined (behind p w (w + 2 ^ k))) high)
            ∙ behind_join (block_start o (2 ^ k)) (block_start o (2 ^ k) + 2 ^ k) (block_start o (2 ^ k) + 2 ^ k + 2 ^ k) (omega arith) (omega arith) (omega arith)
            ∙ ap₂ (λ (a b : ℕ). joined (behind p a b)) (sym low) (omega arith);
        arrival = omega (arith, c.arrival, c.departure, stamp_is, delay_cases p (block_start n (2 ^ k)), delay_cases p (block_start o (2 ^ k)), delay_cases p (block_start n (2 ^ suc k)));
        departure = omega (arith, c.departure);
      })
      (clear_or_set n k)

  -- the even partner hands in its input
  in_stamp : (j : ℕ) → j < surplus p → (sent (2 * j) (rank_of p j)).stamp ≡ 1
  in_stamp j h =
      ap₂ (allreduce_stamp p (2 * j) (rank_of p j)) (number_of_even p j h) (number_of_rank p j)
      ∙ ap₂ (λ (t u : Bool). cond t (cond u 1 (floor_log p + 2)) (floor_log (apart j j) + delay p (block_start j (apart j j)) + 1)) (eq-eqb j j refl) (lt-ltb (2 * j) (rank_of p j) (omega (arith, rank_below p j h)))

  in_value : (j : ℕ) → j < surplus p → (sent (2 * j) (rank_of p j)).value ≡ joined (only (2 * j))
  in_value j h = ap joined (in_covers p j h)

  -- and gets the whole back
  back_stamp : (j : ℕ) → j < surplus p → (sent (rank_of p j) (2 * j)).stamp ≡ floor_log p + 2
  back_stamp j h =
      ap₂ (allreduce_stamp p (rank_of p j) (2 * j)) (number_of_rank p j) (number_of_even p j h)
      ∙ ap₂ (λ (t u : Bool). cond t (cond u 1 (floor_log p + 2)) (floor_log (apart j j) + delay p (block_start j (apart j j)) + 1)) (eq-eqb j j refl) (le-ltb (rank_of p j) (2 * j) (omega (arith, rank_below p j h)))

  back_value : (j : ℕ) → j < surplus p → (sent (rank_of p j) (2 * j)).value ≡ span unit join inputs 0 p
  back_value j h = ap joined (back_covers p j h)

  one_is : (r : ℕ) → r < p → joined (only r) ≡ inputs r
  one_is r h = span_one proper unit join laws p inputs inputs_proper r h

  begins : (n : ℕ) → n < 2 ^ floor_log p → Holds n 0 (acts join (λ a. sent a (rank_of p n)) (handed_in p n) (fresh unit (inputs (rank_of p n))))
  begins n h = ⊎_elim low high (rank_cases p n)
    where
      low : (n < surplus p) × (rank_of p n ≡ 2 * n + 1) → Holds n 0 (acts join (λ a. sent a (rank_of p n)) (handed_in p n) (fresh unit (inputs (rank_of p n))))
      low c =
          let e : rank_of p n - 1 ≡ 2 * n = omega (arith, c.1) in
          let stamp_is : (sent (rank_of p n - 1) (rank_of p n)).stamp ≡ 1 = ap (λ (a : ℕ). (sent a (rank_of p n)).stamp) e ∙ in_stamp n c.0 in
          let value_is : (sent (rank_of p n - 1) (rank_of p n)).value ≡ joined (only (2 * n)) = ap (λ (a : ℕ). (sent a (rank_of p n)).value) e ∙ in_value n c.0 in
          let own : inputs (rank_of p n) ≡ joined (only (2 * n + 1)) = ap inputs c.1 ∙ sym (one_is (2 * n + 1) (omega (arith, surplus_splits p pos, surplus_lt p pos))) in
          subst (λ (t : Bool). Holds n 0 (acts join (λ a. sent a (rank_of p n)) (when t (Take (rank_of p n - 1) hand_in Before)) (fresh unit (inputs (rank_of p n))))) (sym (lt-ltb n (surplus p) c.0))
          (record {
            value = ap₂ join value_is own ∙ spans_join proper unit join laws p inputs inputs_proper _ _ _ _ _ _ (omega arith) (omega (arith, c.0)) (omega (arith, c.0)) (omega (arith, c.0, surplus_splits p pos, surplus_lt p pos));
            arrival = omega (arith, stamp_is, c.0, delay_cases p (block_start n 1));
            departure = omega arith;
          })

      high : (surplus p ≤ n) × (rank_of p n ≡ n + surplus p) → Holds n 0 (acts join (λ a. sent a (rank_of p n)) (handed_in p n) (fresh unit (inputs (rank_of p n))))
      high c =
          subst (λ (t : Bool). Holds n 0 (acts join (λ a. sent a (rank_of p n)) (when t (Take (rank_of p n - 1) hand_in Before)) (fresh unit (inputs (rank_of p n))))) (sym (le-ltb n (surplus p) c.0))
          (record {
            value = ap inputs c.1 ∙ sym (one_is (n + surplus p) (omega (arith, surplus_splits p pos))) ∙ ap₂ (span unit join inputs) (omega (arith, c.0)) (omega (arith, c.0));
            arrival = omega (arith, c.0, delay_cases p (block_start n 1));
            departure = omega arith;
          })

  -- number n's rank before step k
  abbrev reached : (n k : ℕ) → Rank E
  reached n k = acts join (λ a. sent a (rank_of p n)) (before_step p n k) (fresh unit (inputs (rank_of p n)))

  holds : (n k : ℕ) → n < 2 ^ floor_log p → k ≤ floor_log p → Holds n k (reached n k)
  unfolding steps
  holds n zero h l = subst (λ (t : List Action). Holds n 0 (acts join (λ a. sent a (rank_of p n)) t (fresh unit (inputs (rank_of p n))))) (sym (append-nil (handed_in p n))) (begins n h)
  holds n (suc k) h l =
      subst (λ (x : Rank E). Holds n (suc k) x)
      (sym (acts_append join (λ a. sent a (rank_of p n)) (before_step p n k) (exchange_step p n k) (fresh unit (inputs (rank_of p n))))
      ∙ ap (λ (t : List Action). acts join (λ a. sent a (rank_of p n)) t (fresh unit (inputs (rank_of p n)))) (append_assoc (handed_in p n) (steps (exchange_step p n) k) (exchange_step p n k)))
      (step n k (reached n k) h (omega arith) (holds n k h (omega arith)))

  whole : (n : ℕ) → n < 2 ^ floor_log p → (reached n (floor_log p)).value ≡ span unit join inputs 0 p
  whole n h =
      let z : n % 2 ^ floor_log p ≡ n = mod-eq_of_lt h in
      (holds n (floor_log p) h (omega arith)).value
      ∙ ap₂ (span unit join inputs) (omega arith) (omega (arith, surplus_splits p pos, surplus_lt p pos))

  whole_arrival : (n : ℕ) → n < 2 ^ floor_log p → (reached n (floor_log p)).arrival ≡ floor_log p + delay p 0
  whole_arrival n h =
      let z : n % 2 ^ floor_log p ≡ n = mod-eq_of_lt h in
      let y : n - n % 2 ^ floor_log p ≡ 0 = omega arith in
      (holds n (floor_log p) h (omega arith)).arrival ∙ ap (λ (w : ℕ). floor_log p + delay p w) y

  -- each send carries what was said
  swap_mail : (n k : ℕ) → n < 2 ^ floor_log p → k < floor_log p → sent (rank_of p n) (rank_of p (flip n k)) ≡ posted (reached n k)
  swap_mail n k h l =
      let c : Holds n k (reached n k) = holds n k h (omega arith) in
      mail_path (sent (rank_of p n) (rank_of p (flip n k))) (posted (reached n k))
      (swap_stamp n (flip n k) k (apart_flip n k) ∙ omega (arith, c.arrival, c.departure))
      (swap_value n (flip n k) k (apart_flip n k) ∙ sym c.value)

  in_mail : (j : ℕ) → j < surplus p → sent (2 * j) (rank_of p j) ≡ posted (fresh unit (inputs (2 * j)))
  in_mail j h =
      mail_path (sent (2 * j) (rank_of p j)) (posted (fresh unit (inputs (2 * j))))
      (in_stamp j h)
      (in_value j h ∙ one_is (2 * j) (omega (arith, surplus_splits p pos, surplus_lt p pos)))

  back_mail : (j : ℕ) → j < surplus p → sent (rank_of p j) (2 * j) ≡ posted (reached j (floor_log p))
  back_mail j h =
      let l : j < 2 ^ floor_log p = omega (arith, surplus_lt p pos) in
      let c : Holds j (floor_log p) (reached j (floor_log p)) = holds j (floor_log p) l (omega arith) in
      mail_path (sent (rank_of p j) (2 * j)) (posted (reached j (floor_log p)))
      (back_stamp j h ∙ omega (arith, c.departure, whole_arrival j l, delay_cases p 0))
      (back_value j h ∙ sym (whole j l))

  send_rank : (a b label : ℕ) (before : List Action) → Sent p a before b label → (b < p) × (a ≡ b → ⊥)
  send_rank a b label before (swaps n k h l ea eb el _) = (
    rw eb (rank_lt p (flip n k) pos (flip_lt n k (floor_log p) l h)),
    (λ e. flip_other n k (rank_inj p n (flip n k) (sym ea ∙ e ∙ eb))),
  )
  send_rank a b label before (hands_in j h ea eb el _) = (omega (arith, rank_below p j h, surplus_splits p pos, surplus_lt p pos), λ e. omega (arith, rank_below p j h))
  send_rank a b label before (hands_back j h ea eb el _) = (omega (arith, rank_below p j h, surplus_splits p pos, surplus_lt p pos), λ e. omega (arith, rank_below p j h))

  take_rank : (a b label : ℕ) (m : Merge) (before : List Action) → Took p b before a label m → (a < p) × (a ≡ b → ⊥)
  take_rank a b label m before (swaps n k h l eb ea el _ _) = (
    rw ea (rank_lt p (flip n k) pos (flip_lt n k (floor_log p) l h)),
    (λ e. flip_other n k (rank_inj p n (flip n k) (sym eb ∙ sym e ∙ ea))),
  )
  take_rank a b label m before (gets j h eb ea el _ _) = (omega (arith, rank_below p j h, surplus_splits p pos, surplus_lt p pos), λ e. omega (arith, rank_below p j h))
  take_rank a b label m before (gets_back j h eb ea el _ _) = (omega (arith, rank_below p j h, surplus_splits p pos, surplus_lt p pos), λ e. omega (arith, rank_below p j h))

  abbrev at : ℕ → List Action → Rank E
  at r before = acts join (λ a. sent a r) before (fresh unit (inputs r))

  send_mail : (a b label : ℕ) (before : List Action) → Sent p a before b label → sent a b ≡ posted (at a before)
  send_mail a b label before (swaps n k h l ea eb _ e) = moved_mail sent at a (rank_of p n) b (rank_of p (flip n k)) before (before_step p n k) ea eb e (swap_mail n k h l)
  send_mail a b label before (hands_in j h ea eb _ e) = moved_mail sent at a (2 * j) b (rank_of p j) before [] ea eb e (in_mail j h)
  send_mail a b label before (hands_back j h ea eb _ e) = moved_mail sent at a (rank_of p j) b (2 * j) before (before_step p j (floor_log p)) ea eb e (back_mail j h)

  send_met : (a b label : ℕ) (before : List Action) → Sent p a before b label → (m : Merge) × Stands (allreduce p b) (Take a label m)
  send_met a b label before (swaps n k h l ea eb el _) =
      let m : Merge = cond (bit (flip n k) k) Before After in
      (m, moved_stands (allreduce p) b (rank_of p (flip n k)) (Take a label m) (Take (rank_of p (flip (flip n k) k)) k m) eb (ap₂ (λ (u v : ℕ). Take u v m) (ea ∙ ap (rank_of p) (sym (flip_back n k))) el) (take_swap_stands p (flip n k) k l))
  send_met a b label before (hands_in j h ea eb el _) = (Before, moved_stands (allreduce p) b (rank_of p j) (Take a label Before) (Take (2 * j) hand_in Before) eb (ap₂ (λ (u v : ℕ). Take u v Before) ea el) (take_in_stands p j h))
  send_met a b label before (hands_back j h ea eb el _) = (Replace, moved_stands (allreduce p) b (2 * j) (Take a label Replace) (Take (rank_of p j) hand_back Replace) eb (ap₂ (λ (u v : ℕ). Take u v Replace) ea el) (take_back_stands p j h))

  take_met : (a b label : ℕ) (m : Merge) (before : List Action) → Took p b before a label m → Stands (allreduce p a) (Send b label)
  take_met a b label m before (swaps n k h l eb ea el _ _) = moved_stands (allreduce p) a (rank_of p (flip n k)) (Send b label) (Send (rank_of p (flip (flip n k) k)) k) ea (ap₂ Send (eb ∙ ap (rank_of p) (sym (flip_back n k))) el) (send_swap_stands p (flip n k) k l)
  take_met a b label m before (gets j h eb ea el _ _) = moved_stands (allreduce p) a (2 * j) (Send b label) (Send (rank_of p j) hand_in) ea (ap₂ Send eb el) (send_in_stands p j h)
  take_met a b label m before (gets_back j h eb ea el _ _) = moved_stands (allreduce p) a (rank_of p j) (Send b label) (Send (2 * j) hand_back) ea (ap₂ Send eb el) (send_back_stands p j h)

  same_step : (n n' k k' b : ℕ) → n ≡ n' → b ≡ rank_of p (flip n k) → b ≡ rank_of p (flip n' k') → k ≡ k'
  same_step n n' k k' b e f g =
      let q : flip n k ≡ flip n k' = rank_inj p (flip n k) (flip n k') (sym f ∙ g ∙ ap (λ (x : ℕ). rank_of p (flip x k')) (sym e)) in
      pow_inj k k' (sym (apart_flip n k) ∙ ap (apart n) q ∙ apart_flip n k')

  send_once : (a b label other : ℕ) (x y : List Action) → Sent p a x b label → Sent p a y b other → x ≡ y
  send_once a b label other x y (swaps n k _ _ ea eb _ e) (swaps n' k' _ _ ea' eb' _ e') =
      let q : n ≡ n' = rank_inj p n n' (sym ea ∙ ea') in
      e ∙ ap₂ (before_step p) q (same_step n n' k k' b q eb eb') ∙ sym e'
  send_once a b label other x y (swaps n k _ _ ea eb _ e) (hands_in j h ea' eb' _ e') = absurd (rank_odd p n j h (sym ea ∙ ea'))
  send_once a b label other x y (swaps n k _ _ ea eb _ e) (hands_back j h ea' eb' _ e') = absurd (rank_odd p (flip n k) j h (sym eb ∙ eb'))
  send_once a b label other x y (hands_in j h ea eb _ e) (swaps n k _ _ ea' eb' _ e') = absurd (rank_odd p n j h (sym ea' ∙ ea))
  send_once a b label other x y (hands_in j h ea eb _ e) (hands_in j' h' ea' eb' _ e') = e ∙ sym e'
  send_once a b label other x y (hands_in j h ea eb _ e) (hands_back j' h' ea' eb' _ e') = absurd (rank_odd p j' j h (sym ea' ∙ ea))
  send_once a b label other x y (hands_back j h ea eb _ e) (swaps n k _ _ ea' eb' _ e') = absurd (rank_odd p (flip n k) j h (sym eb' ∙ eb))
  send_once a b label other x y (hands_back j h ea eb _ e) (hands_in j' h' ea' eb' _ e') = absurd (rank_odd p j j' h' (sym ea ∙ ea'))
  send_once a b label other x y (hands_back j h ea eb _ e) (hands_back j' h' ea' eb' _ e') = e ∙ ap (λ (n : ℕ). before_step p n (floor_log p)) (rank_inj p j j' (sym ea ∙ ea')) ∙ sym e'

  take_once : (a b label other : ℕ) (m o : Merge) (x y : List Action) → Took p b x a label m → Took p b y a other o → x ≡ y
  take_once a b label other m o x y (swaps n k _ _ eb ea _ _ e) (swaps n' k' _ _ eb' ea' _ _ e') =
      let q : n ≡ n' = rank_inj p n n' (sym eb ∙ eb') in
      e ∙ ap₂ (λ (n k : ℕ). before_step p n k ++ (Send (rank_of p (flip n k)) k ∷ [])) q (same_step n n' k k' a q ea ea') ∙ sym e'
  take_once a b label other m o x y (swaps n k _ _ eb ea _ _ e) (gets j h eb' ea' _ _ e') = absurd (rank_odd p (flip n k) j h (sym ea ∙ ea'))
  take_once a b label other m o x y (swaps n k _ _ eb ea _ _ e) (gets_back j h eb' ea' _ _ e') = absurd (rank_odd p n j h (sym eb ∙ eb'))
  take_once a b label other m o x y (gets j h eb ea _ _ e) (swaps n k _ _ eb' ea' _ _ e') = absurd (rank_odd p (flip n k) j h (sym ea' ∙ ea))
  take_once a b label other m o x y (gets j h eb ea _ _ e) (gets j' h' eb' ea' _ _ e') = e ∙ sym e'
  take_once a b label other m o x y (gets j h eb ea _ _ e) (gets_back j' h' eb' ea' _ _ e') = absurd (rank_odd p j j' h' (sym eb ∙ eb'))
  take_once a b label other m o x y (gets_back j h eb ea _ _ e) (swaps n k _ _ eb' ea' _ _ e') = absurd (rank_odd p n j h (sym eb' ∙ eb))
  take_once a b label other m o x y (gets_back j h eb ea _ _ e) (gets j' h' eb' ea' _ _ e') = absurd (rank_odd p j' j h (sym eb' ∙ eb))
  take_once a b label other m o x y (gets_back j h eb ea _ _ e) (gets_back j' h' eb' ea' _ _ e') =
      let q : j ≡ j' = omega arith in
      e ∙ ap (λ (n : ℕ). Send (2 * n + 1) hand_in ∷ []) q ∙ sym e'

  abbrev said : (a b label : ℕ) (h : a < p) (s : Stands (allreduce p a) (Send b label)) → Sent p a s.before b label
  said a b label h s = every_stands (Told p a) (allreduce p a) (Send b label) (told p a h) s

  abbrev heard : (a b label : ℕ) (m : Merge) (h : b < p) (s : Stands (allreduce p b) (Take a label m)) → Took p b s.before a label m
  heard a b label m h s = every_stands (Told p b) (allreduce p b) (Take a label m) (told p b h) s

  solved : Solved join p (allreduce p) (λ r. fresh unit (inputs r)) sent
  solved =
      record {
        send_rank = λ a b label h s. send_rank a b label s.before (said a b label h s);
        send_mail = λ a b label h s. send_mail a b label s.before (said a b label h s);
        send_met = λ a b label h s. send_met a b label s.before (said a b label h s);
        take_rank = λ a b label m h s. take_rank a b label m s.before (heard a b label m h s);
        take_met = λ a b label m h s. take_met a b label m s.before (heard a b label m h s);
        send_once = λ a b label other h s t. send_once a b label other s.before t.before (said a b label h s) (said a b other h t);
        take_once = λ a b label other m o h s t. take_once a b label other m o s.before t.before (heard a b label m h s) (heard a b other o h t);
      }

  -- rank r with all of its actions done
  abbrev last : ℕ → Rank E
  last r = at r (allreduce p r)

  -- what the last send leaves as it was
  unsent : (x : Rank E) (mails : ℕ → Mail E) (t : Bool) (to label : ℕ) → ((acts join mails (when t (Send to label)) x).value ≡ x.value) × ((acts join mails (when t (Send to label)) x).arrival ≡ x.arrival)
  unsent x mails true to label = (refl, refl)
  unsent x mails false to label = (refl, refl)

  record Ends (r rounds : ℕ) : Type 0 where
    value : (last r).value ≡ span unit join inputs 0 p
    arrival : (last r).arrival ≡ rounds

  last_number : (n : ℕ) → n < 2 ^ floor_log p → Ends (rank_of p n) (floor_log p + delay p 0)
  unfolding exchange
  last_number n h =
      let mails : ℕ → Mail E = λ a. sent a (rank_of p n) in
      let e : last (rank_of p n) ≡ acts join mails (handed_back p n) (reached n (floor_log p)) = ap (at (rank_of p n)) (at_number p n) ∙ acts_append join mails (before_step p n (floor_log p)) (handed_back p n) (fresh unit (inputs (rank_of p n))) in
      let u : ((acts join mails (handed_back p n) (reached n (floor_log p))).value ≡ (reached n (floor_log p)).value) × ((acts join mails (handed_back p n) (reached n (floor_log p))).arrival ≡ (reached n (floor_log p)).arrival) = unsent (reached n (floor_log p)) mails (ltb n (surplus p)) (rank_of p n - 1) hand_back in
      record {
        value = ap (λ (x : Rank E). x.value) e ∙ u.0 ∙ whole n h;
        arrival = ap (λ (x : Rank E). x.arrival) e ∙ u.1 ∙ whole_arrival n h;
      }

  last_even : (j : ℕ) → j < surplus p → Ends (2 * j) (floor_log p + 2)
  last_even j h =
      let e : last (2 * j) ≡ at (2 * j) (Send (2 * j + 1) hand_in ∷ Take (2 * j + 1) hand_back Replace ∷ []) = ap (at (2 * j)) (at_even p j h) in
      let r : 2 * j + 1 ≡ rank_of p j = sym (rank_below p j h) in
      record {
        value = ap (λ (x : Rank E). x.value) e ∙ ap (λ (a : ℕ). (sent a (2 * j)).value) r ∙ back_value j h;
        arrival = ap (λ (x : Rank E). x.arrival) e ∙ ap (λ (a : ℕ). max 1 (sent a (2 * j)).stamp) r ∙ ap (max 1) (back_stamp j h) ∙ omega arith;
      }

  ends : (r : ℕ) → r < p → (n : ℕ) × (n ≤ floor_log p + 2) × (surplus p ≡ 0 → n ≡ floor_log p) × Ends r n
  ends r h = go (role p r h)
    where
      go : Role p r → (n : ℕ) × (n ≤ floor_log p + 2) × (surplus p ≡ 0 → n ≡ floor_log p) × Ends r n
      go (numbered n l e) = (floor_log p + delay p 0, omega (arith, delay_cases p 0), (λ z. omega (arith, delay_cases p 0)), subst (λ (r : ℕ). Ends r (floor_log p + delay p 0)) (sym e) (last_number n l))
      go (partner j l e) = (floor_log p + 2, omega arith, (λ z. omega arith), subst (λ (r : ℕ). Ends r (floor_log p + 2)) (sym e) (last_even j l))

  last_value : (r : ℕ) → r < p → (last r).value ≡ span unit join inputs 0 p
  last_value r h = (ends r h).3.value

  rounds_are : greatest_below (λ r. (last r).arrival) p ≡ cond (eqb (surplus p) 0) (floor_log p) (floor_log p + 2)
  rounds_are =
      ⊎_elim
      (λ (z : surplus p < 1).
      rw (eq-eqb (surplus p) 0 (omega arith))
      (greatest_is (λ r. (last r).arrival) p (floor_log p) 0 pos
      ((ends 0 pos).3.arrival ∙ (ends 0 pos).2 (omega arith))
      (λ r h. omega (arith, (ends r h).3.arrival, (ends r h).2 (omega arith)))))
      (λ (z : 1 ≤ surplus p).
      rw (ne_eqb (surplus p) 0 (λ q. omega arith))
      (greatest_is (λ r. (last r).arrival) p (floor_log p + 2) 0 pos
      (last_even 0 z).arrival
      (λ r h. omega (arith, (ends r h).3.arrival, (ends r h).1))))
      (cases_lt (surplus p) 1)

-- the sends of each rank
exchange_sends : (p n f : ℕ) → sends (steps (exchange_step p n) f) ≡ f
unfolding exchange_step
exchange_sends p n f = sends_steps (exchange_step p n) f ∙ sum-constant 1 f ∙ omega arith

number_sends : (p n : ℕ) → sends (allreduce p (rank_of p n)) ≡ floor_log p + delay p n
unfolding exchange delay
number_sends p n =
    ap sends (at_number p n)
    ∙ sends_append (handed_in p n ++ exchange p n) (handed_back p n)
    ∙ ap₂ (λ (x y : ℕ). x + y)
    (sends_append (handed_in p n) (exchange p n) ∙ ap₂ (λ (x y : ℕ). x + y) (sends_when_take (ltb n (surplus p)) (rank_of p n - 1) hand_in Before) (exchange_sends p n (floor_log p)))
    (sends_when (ltb n (surplus p)) (rank_of p n - 1) hand_back)
    ∙ omega arith

even_sends : (p j : ℕ) → j < surplus p → sends (allreduce p (2 * j)) ≡ 1
even_sends p j h = ap sends (at_even p j h)

low_sum : (p j : ℕ) → j ≤ surplus p → sum_below (λ r. sends (allreduce p r)) (2 * j) ≡ j * (floor_log p + 2)
low_sum p zero h = omega arith
low_sum p (suc j) h =
    let e : 2 * suc j ≡ suc (suc (2 * j)) = omega arith in
    let odd : suc (2 * j) ≡ rank_of p j = omega (arith, rank_below p j h) in
    let f : sends (allreduce p (suc (2 * j))) ≡ floor_log p + delay p j = ap (λ (r : ℕ). sends (allreduce p r)) odd ∙ number_sends p j in
    rw e (omega (arith, low_sum p j (omega arith), even_sends p j h, f, delay_cases p j))

pub messages_are : (p : ℕ) → 0 < p → sum_below (λ r. sends (allreduce p r)) p ≡ 2 ^ floor_log p * floor_log p + 2 * surplus p
messages_are p pos =
    let d : ℕ = p - 2 * surplus p in
    let e : 2 * surplus p + d ≡ p = omega (arith, surplus_splits p pos, surplus_lt p pos) in
    let q : 2 ^ floor_log p ≡ d + surplus p = omega (arith, surplus_splits p pos) in
    let high : sum_below (λ k. sends (allreduce p (2 * surplus p + k))) d ≡ floor_log p * d =
    sum_same (λ k. sends (allreduce p (2 * surplus p + k))) (λ k. floor_log p) d (λ k l.
    let r : 2 * surplus p + k ≡ rank_of p (surplus p + k) = omega (arith, rank_cases p (surplus p + k)) in
    ap (λ (r : ℕ). sends (allreduce p r)) r ∙ number_sends p (surplus p + k) ∙ omega (arith, delay_cases p (surplus p + k)))
    ∙ sum-constant (floor_log p) d in
    ap (sum_below (λ r. sends (allreduce p r))) (sym e)
    ∙ sum-split (λ r. sends (allreduce p r)) (2 * surplus p) d
    ∙ omega (arith, low_sum p (surplus p) (omega arith), high, ap (λ (x : ℕ). x * floor_log p) q)

pub allreduce_comes_out : (E : Type 0) → ComesOut Allreduce E
allreduce_comes_out E proper unit join laws p root h inputs ip =
    let pos : 0 < p = omega arith in
    record {
      solved = solved proper unit join laws p pos inputs ip;
      within = λ a b label l s. within p a b label s.before l (every_stands (Told p a) (allreduce p a) (Send b label) (told p a l) s);
      promised = last_value proper unit join laws p pos inputs ip;
      all_done = λ r l. acts_done join _ (allreduce p r) (fresh unit (inputs r)) ∙ omega arith;
      rounds_are = rounds_are proper unit join laws p pos inputs ip;
      messages_are = messages_are p pos;
    }
