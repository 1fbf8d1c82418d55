-- What a job of each kind comes to, for any number of ranks and any monoid.
use Rattle.std.specs.Prelude.{◌≡◌, ℕ, zero, suc, ◌+◌, ◌<◌, Bool, true, cond, List, [], ◌∷◌, ◌++◌, length, ◌==◌}
use Rattle.ranks.specs.Ranks.{sum_below, greatest_below}
use Rattle.programme.specs.declared.Kind.{Kind}
use Rattle.programme.specs.declared.Kind.TheVariants.{Broadcast, Gather, Reduce, Scan, Exscan, Allreduce}
use Rattle.programme.specs.declared.Action.TheVariants.{Send}
use Rattle.programme.specs.Monoid.{Laws, span}
use Rattle.programme.specs.Rank.{Rank, fresh}
use Rattle.programme.specs.Programme.{programme}
use Rattle.programme.specs.Message.{Within, covers, mail}
use Rattle.programme.specs.Solved.{Solved, Stands, state}
use Rattle.programme.specs.Formula.{rounds, messages, sends}

module _ {E : Type 0} (unit : E) (join : E → E → E) (kind : Kind) (p root : ℕ) (inputs : ℕ → E) where
  -- rank r before its first action
  abbrev pub start : ℕ → Rank E
  start r = fresh unit (inputs r)

  -- rank r with all of its actions done
  abbrev pub final : ℕ → Rank E
  final r = state join p (programme kind p root) start (mail unit join kind p root inputs) r (programme kind p root r)

-- f 0, .., f (n - 1) without the one at `root`
unfoldable pub others : {E : Type 0} → (root : ℕ) → (ℕ → E) → ℕ → List E
others root f zero = []
others root f (suc n) = others root f n ++ cond (n == root) [] (f n ∷ [])

module _ {E : Type 0} (unit : E) (join : E → E → E) (p root : ℕ) (inputs : ℕ → E) where
  -- what rank r, which is x at the end, then holds
  abbrev pub Promised : Kind → (r : ℕ) → Rank E → Type 0
  -- every rank holds the root's input
  Promised Broadcast r x = x.value ≡ inputs root
  -- the root holds its own input, and keeps all others in rank order
  Promised Gather r x = r ≡ root → (x.value ≡ inputs root) × (x.kept ≡ others root inputs p)
  -- the root holds the join of all inputs
  Promised Reduce r x = r ≡ root → x.value ≡ span unit join inputs 0 p
  -- rank r holds the join of the inputs up to its own
  Promised Scan r x = x.value ≡ span unit join inputs 0 (r + 1)
  -- rank r holds the join of the inputs before its own
  Promised Exscan r x = x.prefix ≡ span unit join inputs 0 r
  -- every rank holds the join of all inputs
  Promised Allreduce r x = x.value ≡ span unit join inputs 0 p

  -- all that is promised of a job
  pub record Outcome (kind : Kind) : Type 0 where
    -- each rank sends to each other what the closed form says; sends and takes meet, one to a pair of ranks at most
    pub solved : Solved join p (programme kind p root) (start unit join kind p root inputs) (mail unit join kind p root inputs)
    -- a message joins the inputs of one rank at least, and of none but the p
    pub within : (a b label : ℕ) → a < p → Stands (programme kind p root a) (Send b label) → Within p (covers kind p root a b)
    -- at the end each rank holds what it should, and has done as many actions as its programme has
    pub promised : (r : ℕ) → r < p → Promised kind r (final unit join kind p root inputs r)
    pub all_done : (r : ℕ) → r < p → (final unit join kind p root inputs r).done ≡ length (programme kind p root r)
    -- the latest arrival is in the round of the formula, and the sends are as many as the formula says
    pub rounds_are : greatest_below (λ r. (final unit join kind p root inputs r).arrival) p ≡ rounds kind p root
    pub messages_are : sum_below (λ r. sends (programme kind p root r)) p ≡ messages kind p root

-- for every monoid over E, every number of ranks and every root
abbrev pub ComesOut : Kind → Type 0 → Type 0
ComesOut kind E =
    (proper : E → Bool) (unit : E) (join : E → E → E) → Laws proper unit join →
    (p root : ℕ) → root < p → (inputs : ℕ → E) → ((r : ℕ) → r < p → proper (inputs r) ≡ true) →
    Outcome unit join p root inputs kind
