-- Actions by their index.
use Rattle.std.proofs.Common.{◌≡◌, ℕ, zero, suc, ◌<◌, ◌≤◌, List, [], ◌∷◌, ◌++◌, length, take, Some, None, refl, ap, ◌∙◌, arith, length-take}
use Rattle.std.specs.List.{slice_get}
use Rattle.programme.specs.declared.Action.{Action}
use Rattle.programme.specs.Rank.{Rank, Mail, act, acts}
use Rattle.programme.specs.Solved.{Stands}
use Rattle.programme.proofs.Lists.{acts_append, acts_done}

-- the action at an index stands behind that many
pub record Next (actions : List Action) (i : ℕ) (here : Action) : Type 0 where
  pub stands : Stands actions here
  pub before_is : stands.before ≡ take i actions
  pub index_is : length stands.before ≡ i

pub next_at : (actions : List Action) (i : ℕ) (here : Action) → slice_get actions i ≡ Some here → Next actions i here
next_at [] i here e = absurd (let z : ◌≡◌ {A = ℕ} 0 1 = cc in omega arith)
next_at (a ∷ more) zero here e =
    record {
      stands = record { before = []; behind = more; split = ap (λ (x : Action). x ∷ more) (let q : a ≡ here = cc in q) };
      before_is = refl;
      index_is = refl;
    }
next_at (a ∷ more) (suc i) here e =
    let n : Next more i here = next_at more i here e in
    record {
      stands = record { before = a ∷ n.stands.before; behind = n.stands.behind; split = ap (λ (l : List Action). a ∷ l) n.stands.split };
      before_is = ap (λ (l : List Action). a ∷ l) n.before_is;
      index_is = ap suc n.index_is;
    }

-- past the last index there is none, and only there
pub none_left : (actions : List Action) (i : ℕ) → slice_get actions i ≡ None → length actions ≤ i
none_left [] i e = omega arith
none_left (a ∷ more) zero e = absurd (let z : ◌≡◌ {A = ℕ} 0 1 = cc in omega arith)
none_left (a ∷ more) (suc i) e = omega (arith, none_left more i e)

pub one_left : (actions : List Action) (i : ℕ) (here : Action) → slice_get actions i ≡ Some here → i < length actions
one_left [] i here e = absurd (let z : ◌≡◌ {A = ℕ} 0 1 = cc in omega arith)
one_left (a ∷ more) zero here e = omega arith
one_left (a ∷ more) (suc i) here e = omega (arith, one_left more i here e)

pub take_next : (actions : List Action) (i : ℕ) (here : Action) → slice_get actions i ≡ Some here → take (suc i) actions ≡ take i actions ++ (here ∷ [])
take_next [] i here e = absurd (let z : ◌≡◌ {A = ℕ} 0 1 = cc in omega arith)
take_next (a ∷ more) zero here e = ap (λ (x : Action). x ∷ []) (let q : a ≡ here = cc in q)
take_next (a ∷ more) (suc i) here e = ap (λ (l : List Action). a ∷ l) (take_next more i here e)

module _ {E : Type 0} (join : E → E → E) (mails : ℕ → Mail E) where
  -- one more action
  pub acts_next : (actions : List Action) (i : ℕ) (here : Action) (x : Rank E) → slice_get actions i ≡ Some here →
      acts join mails (take (suc i) actions) x ≡ act join mails here (acts join mails (take i actions) x)
  acts_next actions i here x e =
      ap (λ (l : List Action). acts join mails l x) (take_next actions i here e) ∙ acts_append join mails (take i actions) (here ∷ []) x

  pub acts_index : (actions : List Action) (i : ℕ) (x : Rank E) → x.done ≡ 0 → i ≤ length actions → (acts join mails (take i actions) x).done ≡ i
  acts_index actions i x z l = omega (arith, acts_done join mails (take i actions) x, length-take i actions)
