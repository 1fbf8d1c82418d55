-- The element of two texts, one after the other, is the join of their elements.
use Rattle.std.proofs.Common.{◌≡◌, ◌==◌, ℕ, ◌+◌, ◌-◌, ◌%◌, ◌^◌, ◌≤◌, Bool, true, false, cond, not, ◌&&◌, List, [], ◌∷◌, Some, None, ◌++◌, length, sym, refl, ap, ◌∙◌, append-nil, append_assoc, arith, length-append}
use Rattle.std.proofs.lemmas.List.Sums.{sum_by-append}
use Rattle.std.specs.List.{fold}
use Rattle.operation.specs.TextLaws.{lost_small}
use Rattle.operation.specs.Text.{counts_of, counts_join, text_join, lost_word, measured, in_word, line_count, word_starts, word_count, last_byte}
use Rattle.operation.specs.declared.text.Counts.{Counts}

last_append : (x : ℕ) (xs : List ℕ) (y : ℕ) (ys : List ℕ) → last_byte x (xs ++ (y ∷ ys)) ≡ last_byte y ys
last_append x [] y ys = refl
last_append x (z ∷ xs) y ys = last_append z xs y ys

starts_append : (inside : Bool) (x : ℕ) (xs ys : List ℕ)
    → word_starts inside ((x ∷ xs) ++ ys) ≡ word_starts inside (x ∷ xs) + word_starts (in_word (last_byte x xs)) ys
starts_append inside x [] ys = omega arith
starts_append inside x (z ∷ xs) ys = let h = starts_append (in_word x) z xs ys in omega arith

-- a byte of a word starts one unless it goes on with one
starts_inside : (inside : Bool) (y : ℕ) (ys : List ℕ) → word_starts inside (y ∷ ys) + lost_word inside (in_word y) ≡ word_starts false (y ∷ ys)
starts_inside inside y ys = go inside (in_word y) (word_starts (in_word y) ys)
  where
    go : (a b : Bool) (n : ℕ) → cond (b && not a) 1 0 + n + lost_word a b ≡ cond (b && true) 1 0 + n
    go true true n = omega arith
    go true false n = omega arith
    go false true n = omega arith
    go false false n = omega arith

-- a word that goes on from the left text to the right one is counted once
words_append : (x : ℕ) (xs : List ℕ) (y : ℕ) (ys : List ℕ)
    → word_count ((x ∷ xs) ++ (y ∷ ys)) + lost_word (in_word (last_byte x xs)) (in_word y) ≡ word_count (x ∷ xs) + word_count (y ∷ ys)
words_append x xs y ys = omega (arith, starts_append false x xs (y ∷ ys), starts_inside (in_word (last_byte x xs)) y ys)

sum-mod : (n a b : ℕ) → n ≡ a + b → n % 2 ^ 32 ≡ (a % 2 ^ 32 + b % 2 ^ 32) % 2 ^ 32
sum-mod n a b e = omega arith

sum-mod_lost : (n a b j : ℕ) → j ≤ 1 → n + j ≡ a + b → n % 2 ^ 32 ≡ (a % 2 ^ 32 + b % 2 ^ 32 + (2 ^ 32 - j)) % 2 ^ 32
sum-mod_lost n a b j k e = omega arith

filled_append : (x : ℕ) (xs : List ℕ) (y : ℕ) (ys : List ℕ)
    → measured ((x ∷ xs) ++ (y ∷ ys)) ≡ text_join (measured (x ∷ xs)) (measured (y ∷ ys))
filled_append x xs y ys = λ i. Some (counts_of (bytes i) (lines i) (words i) (in_word x) (in_word (last_append x xs y ys i)))
  where
    bytes : length ((x ∷ xs) ++ (y ∷ ys)) % 2 ^ 32 ≡ (length (x ∷ xs) % 2 ^ 32 + length (y ∷ ys) % 2 ^ 32) % 2 ^ 32
    bytes = sum-mod _ _ _ (length-append (x ∷ xs) (y ∷ ys))

    lines : line_count ((x ∷ xs) ++ (y ∷ ys)) % 2 ^ 32 ≡ (line_count (x ∷ xs) % 2 ^ 32 + line_count (y ∷ ys) % 2 ^ 32) % 2 ^ 32
    lines = sum-mod _ _ _ (sum_by-append (λ b. cond (b == 10) 1 0) (x ∷ xs) (y ∷ ys))

    words : word_count ((x ∷ xs) ++ (y ∷ ys)) % 2 ^ 32
        ≡ (word_count (x ∷ xs) % 2 ^ 32 + word_count (y ∷ ys) % 2 ^ 32 + (2 ^ 32 - lost_word (in_word (last_byte x xs)) (in_word y))) % 2 ^ 32
    words = sum-mod_lost _ _ _ _ (lost_small (in_word (last_byte x xs)) (in_word y)) (words_append x xs y ys)

pub measured_append : (xs ys : List ℕ) → measured (xs ++ ys) ≡ text_join (measured xs) (measured ys)
measured_append [] ys = refl
measured_append (x ∷ xs) [] = ap measured (append-nil (x ∷ xs))
measured_append (x ∷ xs) (y ∷ ys) = filled_append x xs y ys

-- joining the elements of single bytes, one by one
joined_bytes : (xs ys : List ℕ) → fold (λ sum b. text_join sum (measured (b ∷ []))) (measured xs) ys ≡ measured (xs ++ ys)
joined_bytes xs [] = ap measured (sym (append-nil xs))
joined_bytes xs (y ∷ ys) =
    ap (λ sum. fold (λ s b. text_join s (measured (b ∷ []))) sum ys) (sym (measured_append xs (y ∷ [])))
    ∙ joined_bytes (xs ++ (y ∷ [])) ys
    ∙ ap measured (append_assoc xs (y ∷ []) ys)

pub measured_by_byte : (bytes : List ℕ) → fold (λ sum b. text_join sum (measured (b ∷ []))) None bytes ≡ measured bytes
measured_by_byte bytes = joined_bytes [] bytes

-- the counts of a text of one byte
abbrev pub byte_counts : ℕ → Counts
byte_counts b = counts_of (1 % 2 ^ 32) (line_count (b ∷ []) % 2 ^ 32) (word_count (b ∷ []) % 2 ^ 32) (in_word b) (in_word b)

-- joining single bytes to a text that is not empty joins their counts
pub joined_counts : (sum : Counts) (bs : List ℕ)
    → fold (λ s b. text_join s (measured (b ∷ []))) (Some sum) bs ≡ Some (fold (λ s b. counts_join s (byte_counts b)) sum bs)
joined_counts sum [] = refl
joined_counts sum (b ∷ bs) = joined_counts (counts_join sum (byte_counts b)) bs
