-- All that is under way between two ranks carried, one message after the other.
use Rattle.std.proofs.Common.{◌≡◌, ℕ, ◌<◌, Bool, true, false, cond, List, [], ◌∷◌, ◌++◌, length, Ok, Err, Result, sym, refl, ap, ◌∙◌, ap₂, arith}
use Rattle.std.proofs.lemmas.List.{append-nil, append_assoc}
use Rattle.transport.specs.declared.Fault.{Fault}
use Rattle.transport.specs.Network.{Network, Message, value, refused, fault_number, carrying, put, with_lists, carry_reply, after_carry, carried, some_moved}
use Rattle.ranks.specs.Ranks.{pair_ok}
use Rattle.transport.proofs.Tables.{put_here, put_put, put_same}
use Rattle.engine_parts.specs.Clearing.{some_in, delivered}

pub moved_refuses_not : (f : ℕ) (l : List Message) → refused f ≡ some_moved l → ⊥
moved_refuses_not f [] e = let z : ◌≡◌ {A = ℕ} 0 1 = cc in omega arith
moved_refuses_not f (x ∷ l) e = let z : ◌≡◌ {A = ℕ} 0 1 = cc in omega arith

pub moved_some : (t : Bool) (l : List Message) → value (cond t 1 0) ≡ some_moved l → t ≡ some_in l
moved_some true [] e = let z : ◌≡◌ {A = ℕ} 1 0 = cc in absurd (omega arith)
moved_some false [] e = refl
moved_some true (x ∷ l) e = refl
moved_some false (x ∷ l) e = let z : ◌≡◌ {A = ℕ} 0 1 = cc in absurd (omega arith)

-- a carry between two ranks is not refused, and tells whether a message was under way
pub carry_tells : (r : Result Bool Fault) (l : List Message) → carrying r ≡ some_moved l → r ≡ Ok (some_in l)
carry_tells (Ok moved) l e = ap Ok (moved_some moved l e)
carry_tells (Err f) l e = absurd (moved_refuses_not (fault_number f) l e)

pub none_in : (l : List Message) → false ≡ some_in l → l ≡ []
none_in [] e = refl
none_in (x ∷ l) e = let z : ◌≡◌ {A = ℕ} 0 1 = cc in absurd (omega arith)

module _ (n : Network) (a b : ℕ) where
  pub carry_found : pair_ok n.ranks a b ≡ true → carry_reply n a b ≡ some_moved (n.under a b)
  unfolding carry_reply
  carry_found e = rw e

  pub after_carry_found : pair_ok n.ranks a b ≡ true → after_carry n a b ≡ carried n a b (n.under a b)
  unfolding after_carry
  after_carry_found e = rw e

  -- carrying one message changes nothing of what is left when all are carried
  pub delivered_carried : delivered a b (carried n a b (n.under a b)) ≡ delivered a b n
  delivered_carried = by (n.under a b) refl
    where
      by : (l : List Message) → n.under a b ≡ l → delivered a b (carried n a b l) ≡ delivered a b n
      by [] e = refl
      by (x ∷ l) e =
          ap₂ (with_lists n)
          (put_put n.under a b l [])
          (put_put n.arrived a b (n.arrived a b ++ (x ∷ [])) _
          ∙ ap (put n.arrived a b)
          (ap₂ ◌++◌ (put_here n.arrived a b (n.arrived a b ++ (x ∷ []))) (put_here n.under a b l)
          ∙ append_assoc (n.arrived a b) (x ∷ []) l
          ∙ ap (λ r. n.arrived a b ++ r) (sym e)))

  pub delivered_done : n.under a b ≡ [] → delivered a b n ≡ n
  delivered_done e =
      ap₂ (with_lists n)
      (ap (put n.under a b) (sym e) ∙ put_same n.under a b)
      (ap (put n.arrived a b) (ap (λ r. n.arrived a b ++ r) e ∙ append-nil (n.arrived a b)) ∙ put_same n.arrived a b)

  pub carried_done : n.under a b ≡ [] → carried n a b (n.under a b) ≡ n
  carried_done e = ap (carried n a b) e

  pub carried_fewer : true ≡ some_in (n.under a b) → length ((carried n a b (n.under a b)).under a b) < length (n.under a b)
  carried_fewer e = by (n.under a b) e
    where
      by : (l : List Message) → true ≡ some_in l → length ((carried n a b l).under a b) < length l
      by [] k = let z : ◌≡◌ {A = ℕ} 0 1 = cc in absurd (omega arith)
      by (x ∷ l) k = let h = ap length (put_here n.under a b l) in omega arith
