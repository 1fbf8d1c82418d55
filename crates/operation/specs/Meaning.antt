-- What an operation means, and the laws that every operation keeps.
use Rattle.std.specs.Prelude.{◌≡◌, ℕ, ◌+◌, ◌^◌, ◌<◌, Bool, true, cond, List, [], ◌∷◌, ◌++◌, length, drop, Ok, Err, Result, ◌==◌, ◌≢◌, nat_le, nat_lt}
use Rattle.std.specs.List.{AllByRecursion}
use Rattle.operation.specs.declared.fault.BlockFault.{BlockFault}
use Rattle.operation.specs.declared.fault.BlockFault.TheVariants.{WrongLength, WrongWord}
use Rattle.operation.specs.declared.fault.ModulusFault.{ModulusFault}
use Rattle.operation.specs.declared.fault.ModulusFault.TheVariants.{OutOfRange}

-- the number of each refusal: of a modulus, and of a block
abbrev pub modulus_number : ModulusFault → ℕ
modulus_number OutOfRange = 1

abbrev pub block_number : BlockFault → ℕ
block_number WrongLength = 2
block_number (WrongWord at) = 3

-- elements with a unit and a join, and blocks of words that stand for them
pub record Meaning (E : Type 0) : Type 0 where
  pub proper : E → Bool
  pub unit : E
  pub join : E → E → E
  -- how many words a block has
  pub width : ℕ
  -- the block of an element
  pub pack : E → List ℕ
  -- the element of a block, or why there is none
  pub unpack : List ℕ → Result E BlockFault

-- the proper elements are a monoid
pub record Monoid {E : Type 0} (m : Meaning E) : Type 0 where
  pub unit_proper : m.proper m.unit ≡ true
  pub join_proper : (x y : E) → m.proper x ≡ true → m.proper y ≡ true → m.proper (m.join x y) ≡ true
  pub assoc : (x y z : E) → m.proper x ≡ true → m.proper y ≡ true → m.proper z ≡ true → m.join (m.join x y) z ≡ m.join x (m.join y z)
  pub unit_left : (x : E) → m.proper x ≡ true → m.join m.unit x ≡ x
  pub unit_right : (x : E) → m.proper x ≡ true → m.join x m.unit ≡ x

-- the widest block of which packing and unpacking are asked
abbrev pub widest : ℕ
widest = 6

-- blocks stand for the proper elements, one each
pub record Packing {E : Type 0} (m : Meaning E) : Type 0 where
  -- the block of a proper element has the operation's width and holds 32-bit words
  pub pack_length : (x : E) → m.proper x ≡ true → length (m.pack x) ≡ m.width
  pub pack_words : (x : E) → m.proper x ≡ true → AllByRecursion (λ w. w < 2 ^ 32) (m.pack x)
  pub unpack_pack : (x : E) → m.proper x ≡ true → m.unpack (m.pack x) ≡ Ok x
  -- a block that unpacks gives a proper element, and is its block
  pub unpack_proper : (b : List ℕ) (x : E) → m.unpack b ≡ Ok x → m.proper x ≡ true
  pub unpack_block : (b : List ℕ) (x : E) → m.unpack b ≡ Ok x → b ≡ m.pack x
  -- a block of another length is refused for that, and no other is: it is refused for one of its words
  pub refused_length : (b : List ℕ) → (length b ≢ m.width) → m.unpack b ≡ Err WrongLength
  pub refused_word : (b : List ℕ) (f : BlockFault) → length b ≡ m.width → m.unpack b ≡ Err f → (i : ℕ) × (f ≡ WrongWord i) × (i < m.width)

-- a block that has not the width is refused for that, and any other is read
abbrev pub sized : {E : Type 0} → ℕ → (List ℕ → Result E BlockFault) → List ℕ → Result E BlockFault
sized width read block = cond (length block == width) (read block) (Err WrongLength)

-- x, where each word of a block is below the bound: the wrong word is the first other one, of places that begin at `place`
abbrev pub where_below : {E : Type 0} → (bound : ℕ) → E → (place : ℕ) → List ℕ → Result E BlockFault
where_below bound x place [] = Ok x
where_below bound x place (w ∷ ws) = cond (nat_lt w bound) (where_below bound x (place + 1) ws) (Err (WrongWord place))

-- a block at the front of lent words, the rest unchanged; too few words stay as they were
unfoldable pub written : List ℕ → List ℕ → List ℕ
written block words = cond (nat_le (length block) (length words)) (block ++ drop (length block) words) words
