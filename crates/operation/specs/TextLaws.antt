-- The laws of `text`.
use Rattle.std.specs.Prelude.{◌≡◌, ℕ, ◌+◌, ◌-◌, ◌*◌, ◌/◌, ◌%◌, ◌^◌, ◌<◌, ◌≤◌, Bool, true, false, cond, ◌&&◌, List, [], ◌∷◌, length, Some, None, Ok, Option, ◌==◌, nat_le, nat_lt, slice_index, refl}
use Rattle.std.proofs.Common.{ap, ◌∙◌, arith}
use Rattle.std.proofs.lemmas.Bool.Decides.{nat_tests}
use Rattle.std.proofs.lemmas.Bool.{cond-true, cond_both, eqb-true, leb-true, ltb-true, and_parts}
use Rattle.std.specs.List.{AllByRecursion}
use Rattle.operation.specs.Optional.{present_assoc, present_unit, present_proper}
use Rattle.operation.specs.Meaning.{Monoid, Packing}
use Rattle.operation.specs.Text.{text, counts_of, counts_proper, counts_join, text_proper, text_pack, text_read, empty_read, filled_read, lost_word}
use Rattle.operation.specs.declared.text.Counts.{Counts}
use Rattle.operation.specs.Reading.{Fair, below_fair, below-one, words_from, packing_from_words}

pub lost_small : (r l : Bool) → lost_word r l ≤ 1
lost_small r l = cond_both (r && l) 1 0 (λ n. n ≤ 1) (λ _. omega arith) (λ _. omega arith)

sums : (a b c : ℕ) → ((a + b) % 2 ^ 32 + c) % 2 ^ 32 ≡ (a + (b + c) % 2 ^ 32) % 2 ^ 32
sums a b c = omega arith

sums_lost : (a b c j k : ℕ) → j ≤ 1 → k ≤ 1
    → ((a + b + (2 ^ 32 - j)) % 2 ^ 32 + c + (2 ^ 32 - k)) % 2 ^ 32 ≡ (a + (b + c + (2 ^ 32 - k)) % 2 ^ 32 + (2 ^ 32 - j)) % 2 ^ 32
sums_lost a b c j k p q = omega arith

counts_assoc : (x y z : Counts) → counts_join (counts_join x y) z ≡ counts_join x (counts_join y z)
counts_assoc x y z = λ i. counts_of (bytes i) (lines i) (words i) x.left z.right
  where
    bytes : (counts_join (counts_join x y) z).bytes ≡ (counts_join x (counts_join y z)).bytes
    bytes = sums x.bytes y.bytes z.bytes

    lines : (counts_join (counts_join x y) z).lines ≡ (counts_join x (counts_join y z)).lines
    lines = sums x.lines y.lines z.lines

    words : (counts_join (counts_join x y) z).words ≡ (counts_join x (counts_join y z)).words
    words = sums_lost x.words y.words z.words _ _ (lost_small x.right y.left) (lost_small y.right z.left)

counts_kept : (x y : Counts) → counts_proper x ≡ true → counts_proper y ≡ true → counts_proper (counts_join x y) ≡ true
counts_kept x y hx hy = sum (x.bytes + y.bytes) (x.lines + y.lines) (x.words + y.words + (2 ^ 32 - lost_word x.right y.left)) x.left y.right
  where
    sum : (b l w : ℕ) (f t : Bool) → counts_proper (counts_of (b % 2 ^ 32) (l % 2 ^ 32) (w % 2 ^ 32) f t) ≡ true
    sum b l w f t = grind (arith, nat_tests)

words : (x : Option Counts) → text_proper x ≡ true → AllByRecursion (λ w. w < 2 ^ 32) (text_pack x)
words None h = (omega arith, (omega arith, (omega arith, (omega arith, tt))))
words (Some x) h =
    let k = and_parts (nat_lt x.bytes (2 ^ 32)) (nat_lt x.lines (2 ^ 32) && nat_lt x.words (2 ^ 32)) h in
    let l = and_parts (nat_lt x.lines (2 ^ 32)) (nat_lt x.words (2 ^ 32)) k.1 in
    (ltb-true _ _ k.0, (ltb-true _ _ l.0, (ltb-true _ _ l.1, (edge_small x.left x.right, tt))))
  where
    edge_small : (l r : Bool) → 4 + 2 * cond l 1 0 + cond r 1 0 < 2 ^ 32
    edge_small true true = omega arith
    edge_small true false = omega arith
    edge_small false true = omega arith
    edge_small false false = omega arith

long : (x : Option Counts) → length (text_pack x) ≡ 4
long None = refl
long (Some x) = refl

edge_back : (b l w : ℕ) (f t : Bool) → text_read b l w (4 + 2 * cond f 1 0 + cond t 1 0) ≡ filled_read (counts_of b l w f t)
edge_back b l w true true = refl
edge_back b l w true false = refl
edge_back b l w false true = refl
edge_back b l w false false = refl

read_back : (x : Option Counts) → text_proper x ≡ true
    → text_read (slice_index (text_pack x) 0) (slice_index (text_pack x) 1) (slice_index (text_pack x) 2) (slice_index (text_pack x) 3) ≡ Ok x
read_back None h = refl
read_back (Some x) h =
    edge_back x.bytes x.lines x.words x.left x.right ∙ cond-true (counts_proper x) (Ok (Some x)) _ h

-- the edge that is read is the edge of what is read
edge_is : (e : ℕ) → 4 ≤ e → e ≤ 7 → e ≡ 4 + 2 * cond (e / 2 % 2 == 1) 1 0 + cond (e % 2 == 1) 1 0
edge_is e low high = grind (arith, nat_tests)

read_fair : (b l w e : ℕ) → Fair text (b ∷ l ∷ w ∷ e ∷ []) (text_read b l w e)
read_fair b l w e =
    cond_both (e == 0) _ _ (Fair text (b ∷ l ∷ w ∷ e ∷ [])) (λ p. empty (eqb-true e 0 p))
    (λ _. cond_both (nat_le 4 e && nat_le e 7) _ _ (Fair text (b ∷ l ∷ w ∷ e ∷ []))
    (λ p. let k = and_parts (nat_le 4 e) (nat_le e 7) p in filled (leb-true 4 e k.0) (leb-true e 7 k.1))
    (λ _. omega arith))
  where
    empty : e ≡ 0 → Fair text (b ∷ l ∷ w ∷ e ∷ []) (empty_read b l w)
    empty h =
        below_fair 1 (b ∷ l ∷ w ∷ []) None 0 (Fair text (b ∷ l ∷ w ∷ e ∷ []))
        (λ p. (refl, λ i. below-one b p.0 i ∷ below-one l p.1.0 i ∷ below-one w p.1.1.0 i ∷ h i ∷ []))
        (λ i k. omega arith)

    filled : 4 ≤ e → e ≤ 7 → Fair text (b ∷ l ∷ w ∷ e ∷ []) (filled_read (counts_of b l w (e / 2 % 2 == 1) (e % 2 == 1)))
    filled low high =
        cond_both (counts_proper (counts_of b l w (e / 2 % 2 == 1) (e % 2 == 1))) _ _ (Fair text (b ∷ l ∷ w ∷ e ∷ []))
        (λ p. (p, ap (λ n. b ∷ l ∷ w ∷ n ∷ []) (edge_is e low high)))
        (λ _. omega arith)

fair : (ws : List ℕ) → Fair text (words_from ws 0 4) (text_read (slice_index ws 0) (slice_index ws 1) (slice_index ws 2) (slice_index ws 3))
fair ws = read_fair (slice_index ws 0) (slice_index ws 1) (slice_index ws 2) (slice_index ws 3)

pub text_monoid : Monoid text
text_monoid = record {
  unit_proper = refl;
  join_proper = present_proper counts_join counts_proper counts_kept;
  assoc = λ x y z _ _ _. present_assoc counts_join counts_assoc x y z;
  unit_left = λ x _. refl;
  unit_right = λ x _. present_unit counts_join x;
}

pub text_packing : Packing text
text_packing = packing_from_words text _ (λ _. refl) fair (λ x _. long x) words read_back
