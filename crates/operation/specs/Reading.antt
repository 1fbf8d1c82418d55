-- Blocks stand for the proper elements where reading the words of a block is fair.
use Rattle.std.specs.Prelude.{◌≡◌, ℕ, zero, suc, ◌+◌, ◌^◌, ◌<◌, true, List, [], ◌∷◌, length, Ok, Err, Result, ◌==◌, ◌≢◌, nat_lt, slice_index, refl}
use Rattle.std.proofs.Common.{sym, ap, subst, ◌∙◌, inl, inr, arith}
use Rattle.std.proofs.lemmas.Bool.{cases_eq, eq-eqb, ne_eqb, cond-true, cond-false, cond_both, ltb-true}
use Rattle.std.specs.List.{AllByRecursion}
use Rattle.operation.specs.Meaning.{Meaning, Packing, sized, where_below}
use Rattle.operation.specs.declared.fault.BlockFault.{BlockFault}
use Rattle.operation.specs.declared.fault.BlockFault.TheVariants.{WrongLength, WrongWord}

-- what holds of x where each word is below the bound, and of each refusal of a word, holds of what is read
pub below_fair : {E : Type 0} (bound : ℕ) (ws : List ℕ) (x : E) (place : ℕ) (P : Result E BlockFault → Type 0)
    → (AllByRecursion (λ w. w < bound) ws → P (Ok x)) → ((i : ℕ) → i < place + length ws → P (Err (WrongWord i)))
    → P (where_below bound x place ws)
below_fair bound [] x place P ok wrong = ok tt
below_fair bound (w ∷ ws) x place P ok wrong =
    cond_both (nat_lt w bound) (where_below bound x (place + 1) ws) (Err (WrongWord place)) P
    (λ t. below_fair bound ws x (place + 1) P (λ all. ok (ltb-true w bound t, all)) (λ i h. wrong i (omega arith)))
    (λ _. wrong place (omega arith))

-- the words of a list, by their places
abbrev pub words_from : List ℕ → (place n : ℕ) → List ℕ
words_from ws place zero = []
words_from ws place (suc n) = slice_index ws place ∷ words_from ws (suc place) n

words_at : (ws : List ℕ) (n : ℕ) → length ws ≡ n → ws ≡ words_from ws 0 n
words_at [] zero h = refl
words_at [] (suc n) h = absurd (omega arith)
words_at (w ∷ ws) zero h = absurd (omega arith)
words_at (w ∷ ws) (suc n) h = ap (λ rest. w ∷ rest) (words_at ws n (omega arith) ∙ behind w ws 0 n)
  where
    behind : (w : ℕ) (ws : List ℕ) (place n : ℕ) → words_from ws place n ≡ words_from (w ∷ ws) (suc place) n
    behind w ws place zero = refl
    behind w ws place (suc n) = ap (λ rest. slice_index ws place ∷ rest) (behind w ws (suc place) n)

pub below-one : (w : ℕ) → w < 1 → w ≡ 0
below-one w h = omega arith

module _ {E : Type 0} (m : Meaning E) where
  -- an element that is read is proper and has this block, and a refusal names one of the words
  abbrev pub Fair : List ℕ → Result E BlockFault → Type 0
  Fair b (Ok x) = (m.proper x ≡ true) × (b ≡ m.pack x)
  Fair b (Err WrongLength) = ⊥
  Fair b (Err (WrongWord i)) = i < m.width

  fault_named : (b : List ℕ) (f : BlockFault) → Fair b (Err f) → (i : ℕ) × (f ≡ WrongWord i) × (i < m.width)
  fault_named b WrongLength bad = absurd bad
  fault_named b (WrongWord i) below = (i, (λ _. WrongWord i), below)

  module _ (read : List ℕ → Result E BlockFault) (is : (b : List ℕ) → m.unpack b ≡ sized m.width read b) where
    sized_read : (b : List ℕ) → length b ≡ m.width → m.unpack b ≡ read b
    sized_read b h = is b ∙ cond-true (length b == m.width) (read b) (Err WrongLength) (eq-eqb _ _ h)

    sized_refused : (b : List ℕ) → (length b ≢ m.width) → m.unpack b ≡ Err WrongLength
    sized_refused b h = is b ∙ cond-false (length b == m.width) (read b) (Err WrongLength) (ne_eqb _ _ h)

    module _ (fair : (b : List ℕ) → length b ≡ m.width → Fair b (read b)) where
      fair_ok : (b : List ℕ) (x : E) → m.unpack b ≡ Ok x → Fair b (Ok x)
      fair_ok b x e =
          elim (cases_eq (length b) m.width) [
            | inl h ↦ subst (Fair b) (sym (sized_read b h) ∙ e) (fair b h)
            | inr h ↦ let r = sized_refused b h in let z : ◌≡◌ {A = ℕ} 0 1 = cc in absurd (omega arith)
          ]

      pub packing_from : ((x : E) → m.proper x ≡ true → length (m.pack x) ≡ m.width)
          → ((x : E) → m.proper x ≡ true → AllByRecursion (λ w. w < 2 ^ 32) (m.pack x))
          → ((x : E) → m.proper x ≡ true → read (m.pack x) ≡ Ok x) → Packing m
      packing_from long words back = record {
        pack_length = long;
        pack_words = words;
        unpack_pack = λ x h. sized_read (m.pack x) (long x h) ∙ back x h;
        unpack_proper = λ b x e. (fair_ok b x e).0;
        unpack_block = λ b x e. (fair_ok b x e).1;
        refused_length = sized_refused;
        refused_word = λ b f h e. fault_named b f (subst (Fair b) (sym (sized_read b h) ∙ e) (fair b h));
      }

    -- the same, where reading is fair to the first words of any list
    pub packing_from_words : ((b : List ℕ) → Fair (words_from b 0 m.width) (read b))
        → ((x : E) → m.proper x ≡ true → length (m.pack x) ≡ m.width)
        → ((x : E) → m.proper x ≡ true → AllByRecursion (λ w. w < 2 ^ 32) (m.pack x))
        → ((x : E) → m.proper x ≡ true → read (m.pack x) ≡ Ok x) → Packing m
    packing_from_words fair = packing_from (λ b h. subst (λ block. Fair block (read b)) (sym (words_at b m.width h)) (fair b))
