-- Consecutive blocks, read or written one after the other.
use Rattle.std.proofs.Common.{◌≡◌, ℕ, suc, ◌+◌, ◌-◌, ◌*◌, ◌<◌, ◌≤◌, true, List, [], ◌∷◌, ◌++◌, map, length, take, drop, set, replicate, Ok, Err, Result, sym, refl, ap, ◌∙◌, ap₂, append_assoc, append-nil, mul-le-mul_right, zero-mul, arith, length-drop}
use borrow.Rule.Slice.PartMut.{put_mid}
use lib.Seq.{take-append_seam, drop-append-add}
use Rattle.std.specs.List.{AllByRecursion}
use Rattle.std.proofs.lemmas.List.{take_more_set, take-append-drop, drop-drop, drop-set-lt, drop-replicate, length-set, flat_map_more}
use Rattle.operation.specs.Meaning.{Meaning, Packing, written as written_front}
use Rattle.operation.specs.declared.fault.BlockFault.{BlockFault}
use Rattle.operation.proofs.Written.{written_behind, written_enough}
use Rattle.engine_parts.specs.declared.inputs.BadBlock.{BadBlock}
use Rattle.engine_parts.specs.Inputs.{blocks, block_at, blocks_read, at_rank, behind, inputs_of, padded}
use Rattle.engine_parts.specs.Outputs.{packed, written, block_over}
use Rattle.engine_parts.proofs.Packed.{next_start, length-block, length-packed}

-- the block of a rank below n lies within n blocks
pub within : (r n w : ℕ) → r < n → (r + 1) * w ≤ n * w
within r n w h = mul-le-mul_right w (omega arith)

pub drop-next : (r w : ℕ) (ws : List ℕ) → drop w (drop (r * w) ws) ≡ drop ((r + 1) * w) ws
drop-next r w ws = drop-drop w (r * w) ws ∙ ap (λ k. drop k ws) (next_start r w)

-- reading --

pub blocks_next : (w n r : ℕ) (ws : List ℕ) → r < n → blocks w (n - r) (drop (r * w) ws) ≡ block_at w r ws ∷ blocks w (n - (r + 1)) (drop ((r + 1) * w) ws)
blocks_next w n r ws h =
    let more : n - r ≡ suc (n - (r + 1)) = omega arith in
    ap (λ k. blocks w k (drop (r * w) ws)) more ∙ ap (λ l. block_at w r ws ∷ blocks w (n - (r + 1)) l) (drop-next r w ws)

module _ {E : Type 0} where
  behind_nil : (r : Result (List E) BadBlock) → behind [] r ≡ r
  behind_nil (Ok ys) = refl
  behind_nil (Err e) = refl

  behind_behind : (xs ys : List E) (r : Result (List E) BadBlock) → behind xs (behind ys r) ≡ behind (xs ++ ys) r
  behind_behind xs ys (Ok zs) = ap Ok (sym (append_assoc xs ys zs))
  behind_behind xs ys (Err e) = refl

  unpacked : (r : ℕ) (u : Result E BlockFault) (x : E) → Ok x ≡ at_rank r u → u ≡ Ok x
  unpacked r (Ok y) x e = cc
  unpacked r (Err f) x e = let z : ◌≡◌ {A = ℕ} 0 1 = cc in absurd (omega arith)

  refused_first : (r : ℕ) (u : Result E BlockFault) (more : List (Result E BlockFault)) (b : BadBlock) → Err b ≡ at_rank r u → inputs_of r (u ∷ more) ≡ Err b
  refused_first r (Ok y) more b e = let z : ◌≡◌ {A = ℕ} 0 1 = cc in absurd (omega arith)
  refused_first r (Err f) more b e = ap Err (cc)

  -- the first r of n blocks are read
  pub record Reading (m : Meaning E) (n : ℕ) (ws : List ℕ) (r : ℕ) (xs : List E) : Type 0 where
    pub sized : length xs ≡ 64
    pub rest : drop r xs ≡ replicate (64 - r) m.unit
    pub front : inputs_of 0 (blocks_read m n ws) ≡ behind (take r xs) (inputs_of r (blocks_read m (n - r) (drop (r * m.width) ws)))

  module _ (m : Meaning E) (n : ℕ) (ws : List ℕ) where
    pub reading_none : Reading m n ws 0 (replicate 64 m.unit)
    reading_none =
        let whole : n ≡ n - 0 = omega arith in
        record {
          sized = refl;
          rest = refl;
          front = ap₂ (λ k i. inputs_of 0 (blocks_read m k (drop i ws))) whole (sym (zero-mul m.width)) ∙ sym (behind_nil _);
        }

    module _ (r : ℕ) (xs : List E) (reading : Reading m n ws r xs) where
      ahead : r < n → inputs_of r (blocks_read m (n - r) (drop (r * m.width) ws))
          ≡ inputs_of r (m.unpack (block_at m.width r ws) ∷ blocks_read m (n - (r + 1)) (drop ((r + 1) * m.width) ws))
      ahead h = ap (λ bs. inputs_of r (map m.unpack bs)) (blocks_next m.width n r ws h)

      pub reading_more : (x : E) → r < n → r < 64 → Ok x ≡ at_rank r (m.unpack (block_at m.width r ws)) → Reading m n ws (r + 1) (set xs r x)
      reading_more x h k e =
          let in_range : r < length xs = omega (arith, reading.sized) in
          let less : 64 - r - 1 ≡ 64 - (r + 1) = omega arith in
          let next : suc r ≡ r + 1 = omega arith in
          record {
            sized = length-set xs r x ∙ reading.sized;
            rest =
                drop-set-lt (r + 1) xs r x (omega arith)
                ∙ sym (drop-drop 1 r xs)
                ∙ ap (drop 1) reading.rest
                ∙ drop-replicate 1 (64 - r) m.unit
                ∙ ap (λ i. replicate i m.unit) less;
            front =
                reading.front
                ∙ ap (behind (take r xs))
                (ahead h
                ∙ ap (λ u. inputs_of r (u ∷ blocks_read m (n - (r + 1)) (drop ((r + 1) * m.width) ws))) (unpacked r _ x e)
                ∙ ap (λ i. behind (x ∷ []) (inputs_of i (blocks_read m (n - (r + 1)) (drop ((r + 1) * m.width) ws)))) next)
                ∙ behind_behind (take r xs) (x ∷ []) _
                ∙ ap (λ l. behind l (inputs_of (r + 1) (blocks_read m (n - (r + 1)) (drop ((r + 1) * m.width) ws)))) (sym (take_more_set xs r x in_range));
          }

      pub reading_refused : (b : BadBlock) → r < n → Err b ≡ at_rank r (m.unpack (block_at m.width r ws)) → Err b ≡ padded m n (inputs_of 0 (blocks_read m n ws))
      reading_refused b h e =
          sym (ap (padded m n) (reading.front ∙ ap (behind (take r xs)) (ahead h ∙ refused_first r _ _ b e)))

      pub reading_all : r ≡ n → Ok xs ≡ padded m n (inputs_of 0 (blocks_read m n ws))
      reading_all e =
          let none : n - r ≡ 0 = omega arith in
          sym (ap (padded m n)
          (reading.front
          ∙ ap (λ k. behind (take r xs) (inputs_of r (blocks_read m k (drop (r * m.width) ws)))) none)
          ∙ ap Ok
          (ap₂ ◌++◌ (append-nil (take r xs)) (ap (λ i. replicate (64 - i) m.unit) (sym e) ∙ sym reading.rest)
          ∙ take-append-drop r xs))

-- writing --

module _ {E : Type 0} (m : Meaning E) (packing : Packing m) where
  pub block_written : (x : E) → m.proper x ≡ true → (place start : ℕ) (ws part : List ℕ) → start ≡ place * m.width → (place + 1) * m.width ≤ length ws
      → part ≡ written_front (m.pack x) (take (length ws - start) (drop start ws)) → put_mid start (length ws - start) ws part ≡ block_over m x place ws
  unfolding block_over
  block_written x proper place start ws part s room e =
      let l = length-block m packing x proper in
      let t = next_start place m.width in
      let fits : length (m.pack x) ≤ length (drop start ws) = simp length-drop (omega arith) in
      let end : start + length (m.pack x) ≡ (place + 1) * m.width = omega arith in
      written_behind start ws (m.pack x) part e
      ∙ ap₂ (λ i r. take i ws ++ r) s
      (written_enough (m.pack x) (drop start ws) fits
      ∙ ap (λ r. m.pack x ++ r) (drop-drop (length (m.pack x)) start ws ∙ ap (λ i. drop i ws) end))

  -- one block more behind those in front
  pub packed_push : (xs : List E) → AllByRecursion (λ y. m.proper y ≡ true) xs → (x : E) (i : ℕ) → length xs ≡ i → (ws : List ℕ)
      → block_over m x i (packed m xs ++ drop (i * m.width) ws) ≡ packed m (xs ++ (x ∷ [])) ++ drop ((i + 1) * m.width) ws
  unfolding block_over
  packed_push xs all x i long ws =
      let p = packed m xs in
      let d = drop (i * m.width) ws in
      let size : i * m.width ≡ length p = sym (length-packed m packing xs all ∙ ap (λ k. k * m.width) long) in
      let end : (i + 1) * m.width ≡ length p + m.width = sym (next_start i m.width) ∙ ap (λ k. k + m.width) size in
      ap₂ ◌++◌
      (ap (λ k. take k (p ++ d)) size ∙ take-append_seam p d)
      (ap (λ r. m.pack x ++ r) (ap (λ k. drop k (p ++ d)) end ∙ drop-append-add p d m.width ∙ drop-next i m.width ws))
      ∙ sym (append_assoc p (m.pack x) (drop ((i + 1) * m.width) ws))
      ∙ ap (λ l. l ++ drop ((i + 1) * m.width) ws) (flat_map_more m.pack [] xs x)

  pub packed_none : (ws : List ℕ) → ws ≡ packed m [] ++ drop (0 * m.width) ws
  packed_none ws = ap (λ k. drop k ws) (sym (zero-mul m.width))

  pub packed_all : (xs : List E) → AllByRecursion (λ y. m.proper y ≡ true) xs → (i : ℕ) → length xs ≡ i → (ws : List ℕ) → packed m xs ++ drop (i * m.width) ws ≡ written (packed m xs) ws
  packed_all xs all i long ws = ap (λ k. packed m xs ++ drop k ws) (sym (length-packed m packing xs all ∙ ap (λ k. k * m.width) long))

-- what the inputs tell of the blocks --

-- the blocks all unpack, to these elements
pub inputs_elements : {E : Type 0} (r : ℕ) (us : List (Result E BlockFault)) (xs : List E) → inputs_of r us ≡ Ok xs → us ≡ map Ok xs
inputs_elements r [] [] e = refl
inputs_elements r [] (x ∷ xs) e = let z : ◌≡◌ {A = ℕ} 0 1 = cc in absurd (omega arith)
inputs_elements {E} r (Ok y ∷ us) xs e = by (inputs_of (suc r) us) refl (inputs_elements (suc r) us) xs e
  where
    by : (o : Result (List E) BadBlock) → inputs_of (suc r) us ≡ o → ((ys : List E) → inputs_of (suc r) us ≡ Ok ys → us ≡ map Ok ys)
        → (zs : List E) → behind (y ∷ []) o ≡ Ok zs → Ok y ∷ us ≡ map Ok zs
    by (Ok ys) k rest zs q = let s : y ∷ ys ≡ zs = cc in ap (λ l. Ok y ∷ l) (rest ys k) ∙ ap (map Ok) s
    by (Err b) k rest zs q = let z : ◌≡◌ {A = ℕ} 0 1 = cc in absurd (omega arith)
inputs_elements r (Err f ∷ us) xs e = let z : ◌≡◌ {A = ℕ} 0 1 = cc in absurd (omega arith)
