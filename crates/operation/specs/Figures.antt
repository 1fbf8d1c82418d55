-- Worked figures of the three operations, by their blocks.
use Rattle.std.specs.Prelude.{◌≡◌, ℕ, List, [], ◌∷◌, Ok, Err, Result}
use Rattle.operation.specs.Meaning.{Meaning}
use Rattle.operation.specs.Affine.{affine}
use Rattle.operation.specs.Text.{text}
use Rattle.operation.specs.Least.{least}
use Rattle.operation.specs.declared.fault.BlockFault.{BlockFault}

abbrev pub joined_elements : {E : Type 0} → Meaning E → Result E BlockFault → Result E BlockFault → List ℕ
joined_elements m (Ok x) (Ok y) = m.pack (m.join x y)
joined_elements m (Ok x) (Err f) = []
joined_elements m (Err f) y = []

-- the block of the join of two blocks' elements
abbrev pub joined_block : {E : Type 0} → Meaning E → List ℕ → List ℕ → List ℕ
joined_block m x y = joined_elements m (m.unpack x) (m.unpack y)

abbrev pub Figures : Type 0
Figures =
    (joined_block (affine 10) (2 ∷ 1 ∷ []) (3 ∷ 4 ∷ []) ≡ 6 ∷ 7 ∷ [])
    × (joined_block (affine 10) (3 ∷ 4 ∷ []) (2 ∷ 1 ∷ []) ≡ 6 ∷ 9 ∷ [])
    × (joined_block (affine 10) (joined_block (affine 10) (2 ∷ 1 ∷ []) (3 ∷ 4 ∷ [])) (5 ∷ 6 ∷ []) ≡ 0 ∷ 1 ∷ [])
    × (joined_block text (4 ∷ 0 ∷ 2 ∷ 7 ∷ []) (3 ∷ 1 ∷ 1 ∷ 4 ∷ []) ≡ 7 ∷ 1 ∷ 3 ∷ 6 ∷ [])
    × (joined_block text (2 ∷ 0 ∷ 1 ∷ 7 ∷ []) (2 ∷ 0 ∷ 1 ∷ 7 ∷ []) ≡ 4 ∷ 0 ∷ 1 ∷ 7 ∷ [])
    × (joined_block least (1 ∷ 2147483653 ∷ 3 ∷ []) (1 ∷ 2147483653 ∷ 2 ∷ []) ≡ 1 ∷ 2147483653 ∷ 2 ∷ [])
