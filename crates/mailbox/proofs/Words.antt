-- The slots that words stand for.
use Rattle.std.proofs.Common.{◌≡◌, ℕ, zero, suc, ◌+◌, ◌-◌, ◌*◌, ◌≤◌, List, [], ◌∷◌, ◌++◌, length, get_or, map, take, drop, set, sym, refl, ap, ◌∙◌, ap₂, arith}
use Rattle.std.specs.List.{copy_within}
use Rattle.std.specs.Simd.{first_chunks}
use Rattle.std.proofs.lemmas.List.{length-append, length-drop, length-take-le, take_rest, take_at, drop-drop, drop_all, set_split}
use Rattle.mailbox.specs.declared.Slot.{Slot}
use Rattle.mailbox.specs.declared.Slot.TheVariants.{Free}
use Rattle.mailbox.specs.Slots.{decoded, slot_of, slots_of, taken_out}

four_more : (k : ℕ) → 4 * suc k ≡ suc (suc (suc (suc (4 * k))))
four_more k = omega arith

pub slots-take : (k : ℕ) (ws : List ℕ) → slots_of (take (4 * k) ws) ≡ take k (slots_of ws)
slots-take zero ws = refl
slots-take (suc k) (m ∷ t ∷ x ∷ y ∷ ws) = ap (λ n. slots_of (take n (m ∷ t ∷ x ∷ y ∷ ws))) (four_more k) ∙ ap (λ l. decoded m t x y ∷ l) (slots-take k ws)
slots-take (suc k) (m ∷ t ∷ x ∷ []) = ap (λ n. slots_of (take n (m ∷ t ∷ x ∷ []))) (four_more k)
slots-take (suc k) (m ∷ t ∷ []) = ap (λ n. slots_of (take n (m ∷ t ∷ []))) (four_more k)
slots-take (suc k) (m ∷ []) = ap (λ n. slots_of (take n (m ∷ []))) (four_more k)
slots-take (suc k) [] = ap (λ n. slots_of (take n [])) (four_more k)

pub slots-drop : (k : ℕ) (ws : List ℕ) → slots_of (drop (4 * k) ws) ≡ drop k (slots_of ws)
slots-drop zero ws = refl
slots-drop (suc k) (m ∷ t ∷ x ∷ y ∷ ws) = ap (λ n. slots_of (drop n (m ∷ t ∷ x ∷ y ∷ ws))) (four_more k) ∙ slots-drop k ws
slots-drop (suc k) (m ∷ t ∷ x ∷ []) = ap (λ n. slots_of (drop n (m ∷ t ∷ x ∷ []))) (four_more k)
slots-drop (suc k) (m ∷ t ∷ []) = ap (λ n. slots_of (drop n (m ∷ t ∷ []))) (four_more k)
slots-drop (suc k) (m ∷ []) = ap (λ n. slots_of (drop n (m ∷ []))) (four_more k)
slots-drop (suc k) [] = ap (λ n. slots_of (drop n [])) (four_more k)

pub slots-append : (k : ℕ) (xs ys : List ℕ) → length xs ≡ 4 * k → slots_of (xs ++ ys) ≡ slots_of xs ++ slots_of ys
slots-append k (m ∷ t ∷ x ∷ y ∷ xs) ys e = ap (λ l. decoded m t x y ∷ l) (slots-append (k - 1) xs ys (omega arith))
slots-append k (m ∷ t ∷ x ∷ []) ys e = absurd (omega arith)
slots-append k (m ∷ t ∷ []) ys e = absurd (omega arith)
slots-append k (m ∷ []) ys e = absurd (omega arith)
slots-append k [] ys e = refl

pub length-slots : (k : ℕ) (ws : List ℕ) → length ws ≡ 4 * k → length (slots_of ws) ≡ k
length-slots k (m ∷ t ∷ x ∷ y ∷ ws) e = let rest = length-slots (k - 1) ws (omega arith) in omega (arith, rest)
length-slots k (m ∷ t ∷ x ∷ []) e = absurd (omega arith)
length-slots k (m ∷ t ∷ []) e = absurd (omega arith)
length-slots k (m ∷ []) e = absurd (omega arith)
length-slots k [] e = omega arith

pub slots_enough : (k : ℕ) (ws : List ℕ) → 4 * k ≤ length ws → k ≤ length (slots_of ws)
slots_enough k (m ∷ t ∷ x ∷ y ∷ ws) e = let rest = slots_enough (k - 1) ws (omega arith) in omega (arith, rest)
slots_enough k (m ∷ t ∷ x ∷ []) e = omega arith
slots_enough k (m ∷ t ∷ []) e = omega arith
slots_enough k (m ∷ []) e = omega arith
slots_enough k [] e = omega arith

-- the first four words
pub slot_first : (c ws : List ℕ) → length c ≡ 4 → slots_of (c ++ ws) ≡ slot_of c ∷ slots_of ws
slot_first (m ∷ t ∷ x ∷ y ∷ []) ws e = refl
slot_first (m ∷ t ∷ x ∷ y ∷ z ∷ c) ws e = absurd (omega arith)
slot_first (m ∷ t ∷ x ∷ []) ws e = absurd (omega arith)
slot_first (m ∷ t ∷ []) ws e = absurd (omega arith)
slot_first (m ∷ []) ws e = absurd (omega arith)
slot_first [] ws e = absurd (omega arith)

-- words cut into fours stand for the slots
pub slots_cut : (k : ℕ) (ws : List ℕ) → length ws ≡ 4 * k → map slot_of (first_chunks 4 k ws) ≡ slots_of ws
slots_cut zero (m ∷ ws) e = absurd (omega arith)
slots_cut zero [] e = refl
slots_cut (suc k) (m ∷ t ∷ x ∷ y ∷ ws) e = ap (λ l. decoded m t x y ∷ l) (slots_cut k ws (omega arith))
slots_cut (suc k) (m ∷ t ∷ x ∷ []) e = absurd (omega arith)
slots_cut (suc k) (m ∷ t ∷ []) e = absurd (omega arith)
slots_cut (suc k) (m ∷ []) e = absurd (omega arith)
slots_cut (suc k) [] e = absurd (omega arith)

-- the slot that is read at a place
pub slot_there : (k : ℕ) (ws : List ℕ) (other : Slot) → 4 * k + 4 ≤ length ws → get_or (slots_of ws) k other ≡ slot_of (take (4 * (k + 1) - 4 * k) (drop (4 * k) ws))
slot_there k ws other h = at k ws h ∙ ap (λ n. slot_of (take n (drop (4 * k) ws))) (width k)
  where
    width : (k : ℕ) → 4 ≡ 4 * (k + 1) - 4 * k
    width k = omega arith

    at : (k : ℕ) (ws : List ℕ) → 4 * k + 4 ≤ length ws → get_or (slots_of ws) k other ≡ slot_of (take 4 (drop (4 * k) ws))
    at zero (m ∷ t ∷ x ∷ y ∷ ws) h = refl
    at (suc k) (m ∷ t ∷ x ∷ y ∷ ws) h = at k ws (omega arith) ∙ ap (λ n. slot_of (take 4 (drop n (m ∷ t ∷ x ∷ y ∷ ws)))) (sym (four_more k))
    at k (m ∷ t ∷ x ∷ []) h = absurd (omega arith)
    at k (m ∷ t ∷ []) h = absurd (omega arith)
    at k (m ∷ []) h = absurd (omega arith)
    at k [] h = absurd (omega arith)

-- the slots after four words are written at a place
pub slots_written : (k : ℕ) (ws c : List ℕ) → 4 * k + 4 ≤ length ws → length c ≡ 4 → slots_of (take (4 * k) ws ++ (c ++ drop (4 * (k + 1) - 4 * k) (drop (4 * k) ws))) ≡ set (slots_of ws) k (slot_of c)
slots_written k ws c h e =
    slots-append k (take (4 * k) ws) _ (length-take-le (4 * k) ws (omega arith))
    ∙ ap₂ ◌++◌ (slots-take k ws)
    (slot_first c _ e ∙ ap (λ l. slot_of c ∷ l) (ap slots_of (drop-drop (4 * (k + 1) - 4 * k) (4 * k) ws ∙ ap (λ n. drop n ws) (on k)) ∙ slots-drop (suc k) ws))
    ∙ sym (set_split (slots_of ws) k (slot_of c) (let enough = slots_enough (k + 1) ws (omega arith) in omega (arith, enough)))
  where
    on : (k : ℕ) → 4 * k + (4 * (k + 1) - 4 * k) ≡ 4 * suc k
    on k = omega arith

-- the slots after one is taken out: the words behind it move down, and the last four become zeros
pub slots_taken : (k : ℕ) (ws : List ℕ) → 4 * k + 4 ≤ length ws → (n : ℕ) → 4 * n ≡ length ws
    → slots_of ((take (4 * k) ws ++ drop (4 * (k + 1)) ws) ++ (0 ∷ 0 ∷ 0 ∷ 0 ∷ [])) ≡ taken_out (slots_of ws) k
slots_taken k ws h n e =
    slots-append (n - 1) (take (4 * k) ws ++ drop (4 * (k + 1)) ws) _ (length-append (take (4 * k) ws) (drop (4 * (k + 1)) ws) ∙ sizes)
    ∙ ap (λ l. l ++ (Free ∷ [])) (slots-append k (take (4 * k) ws) _ (length-take-le (4 * k) ws (omega arith)) ∙ ap₂ ◌++◌ (slots-take k ws) (ap (λ i. slots_of (drop (4 * i) ws)) (on k) ∙ slots-drop (suc k) ws))
  where
    on : (k : ℕ) → k + 1 ≡ suc k
    on k = omega arith

    sizes : length (take (4 * k) ws) + length (drop (4 * (k + 1)) ws) ≡ 4 * (n - 1)
    sizes = omega (arith, length-take-le (4 * k) ws (omega arith), length-drop (4 * (k + 1)) ws)

-- the words behind a slot move down over it
pub gap_closed : (k : ℕ) (ws xs : List ℕ) → xs ≡ copy_within ws (4 * (k + 1)) (length ws) (4 * k) → 4 * k + 4 ≤ length ws → take (length ws - 4) xs ≡ take (4 * k) ws ++ drop (4 * (k + 1)) ws
gap_closed k ws xs e h = ap (take (length ws - 4)) e ∙ take_at (take (4 * k) ws ++ take (length ws - 4 * (k + 1)) (drop (4 * (k + 1)) ws)) _ (length ws - 4) long ∙ ap (λ r. take (4 * k) ws ++ r) (take_rest ws (4 * (k + 1)))
  where
    long : length (take (4 * k) ws ++ take (length ws - 4 * (k + 1)) (drop (4 * (k + 1)) ws)) ≡ length ws - 4
    long = omega (arith, length-append (take (4 * k) ws) (take (length ws - 4 * (k + 1)) (drop (4 * (k + 1)) ws)), length-take-le (4 * k) ws (omega arith), ap length (take_rest ws (4 * (k + 1))), length-drop (4 * (k + 1)) ws)

-- and the last four become zeros
pub row_closed : (k : ℕ) (ws xs zs : List ℕ) → take (length ws - 4) xs ≡ take (4 * k) ws ++ drop (4 * (k + 1)) ws → length xs ≡ length ws → zs ≡ 0 ∷ 0 ∷ 0 ∷ 0 ∷ []
    → take (length xs - 4) xs ++ (zs ++ drop (length xs - (length xs - 4)) (drop (length xs - 4) xs)) ≡ (take (4 * k) ws ++ drop (4 * (k + 1)) ws) ++ (0 ∷ 0 ∷ 0 ∷ 0 ∷ [])
row_closed k ws xs zs e l z =
    ap₂ ◌++◌
    (ap (λ n. take (n - 4) xs) l ∙ e)
    (ap₂ ◌++◌ z (drop_all (length xs - (length xs - 4)) (drop (length xs - 4) xs) (omega (arith, length-drop (length xs - 4) xs))))
