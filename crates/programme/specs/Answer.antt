-- What a finished job hands out, in rank order, and what that is to be by the inputs alone.
use Rattle.std.specs.Prelude.{◌≡◌, ℕ, zero, suc, ◌+◌, ◌<◌, Bool, true, List, [], ◌∷◌, ◌++◌, take, drop}
use Rattle.programme.specs.declared.Kind.{Kind}
use Rattle.programme.specs.declared.Kind.TheVariants.{Broadcast, Gather, Reduce, Scan, Exscan, Allreduce}
use Rattle.programme.specs.Monoid.{Laws, span}
use Rattle.programme.specs.Rank.{Rank}
use Rattle.programme.specs.Outcome.{final}

-- f 0, .., f (n - 1)
unfoldable pub row : {A : Type 0} → (ℕ → A) → ℕ → List A
row f zero = []
row f (suc n) = row f n ++ (f n ∷ [])

-- what is handed out, from what each rank holds at the end; the root of a gather puts its own between those kept
abbrev pub answer : {E : Type 0} → Kind → (p root : ℕ) → (ℕ → Rank E) → List E
answer Broadcast p root x = row (λ r. (x r).value) p
answer Gather p root x = take root (x root).kept ++ ((x root).value ∷ drop root (x root).kept)
answer Reduce p root x = (x root).value ∷ []
answer Scan p root x = row (λ r. (x r).value) p
answer Exscan p root x = row (λ r. (x r).prefix) p
answer Allreduce p root x = row (λ r. (x r).value) p

-- what that is to be
abbrev pub expected : {E : Type 0} → E → (E → E → E) → Kind → (p root : ℕ) → (ℕ → E) → List E
expected unit join Broadcast p root inputs = row (λ r. inputs root) p
expected unit join Gather p root inputs = row inputs p
expected unit join Reduce p root inputs = span unit join inputs 0 p ∷ []
expected unit join Scan p root inputs = row (λ r. span unit join inputs 0 (r + 1)) p
expected unit join Exscan p root inputs = row (λ r. span unit join inputs 0 r) p
expected unit join Allreduce p root inputs = row (λ r. span unit join inputs 0 p) p

-- the two are the same, for every monoid over E, every number of ranks and every root
abbrev pub Answers : Kind → Type 0 → Type 0
Answers kind E =
    (proper : E → Bool) (unit : E) (join : E → E → E) → Laws proper unit join →
    (p root : ℕ) → root < p → (inputs : ℕ → E) → ((r : ℕ) → r < p → proper (inputs r) ≡ true) →
    answer kind p root (final unit join kind p root inputs) ≡ expected unit join kind p root inputs
