-- What waits between two ranks after a send, a take, a carry and an abandoned job.
use Rattle.std.proofs.Common.{◌≡◌, ℕ, ◌/◌, Bool, true, false, cond, not, ◌&&◌, eqb, List, [], ◌∷◌, ◌++◌, length, filter, sym, refl, ap, ◌∙◌, subst, ap₂, inl, inr, append_assoc, append-nil, arith, length-append}
use mathlib.Core.Path.{fun_ext}
use Rattle.std.specs.List.{AllByRecursion}
use Rattle.std.proofs.lemmas.Bool.{ne_eqb, eqb-true, cases_Bool, and_parts}
use Rattle.std.proofs.lemmas.List.Elements.{filter-append}
use Rattle.std.proofs.ByRecursion.{All-append}
use Rattle.machine.specs.Network.{Message, Network, put, with_lists, waiting_in_all, waiting, with_sent, with_taken, with_carried, with_abandoned, without, of_job}
use Rattle.ranks.specs.Ranks.{sum_below}
use Rattle.transport.specs.Network.{carried}
use Rattle.transport.specs.Network as transport
use Rattle.machine.proofs.Lists.{kept_without, kept_others}
use Rattle.ranks.proofs.Sums.{sum_same}
use Rattle.machine.proofs.Tests.{eqb_swap}

-- a table with one entry changed, at any entry
pub put_at : {A : Type 0} (c d : ℕ) (g : A → A) (f : ℕ → ℕ → A) (a b : ℕ) → put f c d (g (f c d)) a b ≡ cond (eqb a c && eqb b d) (g (f a b)) (f a b)
put_at c d g f a b =
    rw (eqb_swap c a, eqb_swap d b)
    (elim (cases_Bool (eqb a c && eqb b d)) [
      | inl e ↦
          let parts = and_parts (eqb a c) (eqb b d) e in
          rw e (ap₂ (λ i j. g (f i j)) (sym (eqb-true a c parts.0)) (sym (eqb-true b d parts.1)))
      | inr e ↦ rw e
    ])

pub waiting_sent : (r to : ℕ) (msg : Message) (net : Network) (a b : ℕ) → waiting (with_sent r to msg net) a b ≡ waiting net a b ++ cond (eqb a r && eqb b to) (msg ∷ []) []
waiting_sent r to msg net a b =
    ap (λ l. net.arrived a b ++ l) (put_at r to (λ l. l ++ (msg ∷ [])) net.under a b ∙ pushed (eqb a r && eqb b to) (net.under a b))
    ∙ sym (append_assoc (net.arrived a b) (net.under a b) (cond (eqb a r && eqb b to) (msg ∷ []) []))
  where
    pushed : (t : Bool) (l : List Message) → cond t (l ++ (msg ∷ [])) l ≡ l ++ cond t (msg ∷ []) []
    pushed true l = refl
    pushed false l = sym (append-nil l)

pub waiting_taken : (from r tag : ℕ) (net : Network) (a b : ℕ) → waiting (with_taken from r tag net) a b ≡ cond (eqb a from && eqb b r) (without tag (net.arrived a b)) (net.arrived a b) ++ net.under a b
waiting_taken from r tag net a b = ap (λ l. l ++ net.under a b) (put_at from r (without tag) net.arrived a b)

pub waiting_carried : (from to : ℕ) (net : Network) → waiting (with_carried from to net) ≡ waiting net
waiting_carried from to net = go (net.under from to) refl
  where
    go : (l : List Message) → net.under from to ≡ l → waiting (with_lists net (carried net from to l).under (carried net from to l).arrived) ≡ waiting net
    go [] e = refl
    go (x ∷ l) e =
        fun_ext λ a.
        fun_ext λ b.
        rw (eqb_swap from a, eqb_swap to b)
        (elim (cases_Bool (eqb a from && eqb b to)) [
          | inl f ↦
              let parts = and_parts (eqb a from) (eqb b to) f in
              rw f
              (append_assoc (net.arrived from to) (x ∷ []) l
              ∙ ap (λ u. net.arrived from to ++ u) (sym e)
              ∙ ap₂ (waiting net) (sym (eqb-true a from parts.0)) (sym (eqb-true b to parts.1)))
          | inr f ↦ rw f
        ])

-- the messages of another job
pub sent_others : (k r to : ℕ) (msg : Message) (net : Network) → (msg.tag / 16 ≡ k → ⊥) → (a b : ℕ) → filter (of_job k) (waiting (with_sent r to msg net) a b) ≡ filter (of_job k) (waiting net a b)
sent_others k r to msg net other a b =
    ap (filter (of_job k)) (waiting_sent r to msg net a b)
    ∙ filter-append (of_job k) (waiting net a b) (cond (eqb a r && eqb b to) (msg ∷ []) [])
    ∙ ap (λ l. filter (of_job k) (waiting net a b) ++ l) (nothing (eqb a r && eqb b to))
    ∙ append-nil (filter (of_job k) (waiting net a b))
  where
    nothing : (t : Bool) → filter (of_job k) (cond t (msg ∷ []) []) ≡ []
    nothing true = rw (ne_eqb (msg.tag / 16) k other)
    nothing false = refl

pub taken_others : (k from r tag : ℕ) (net : Network) → (tag / 16 ≡ k → ⊥) → (a b : ℕ) → filter (of_job k) (waiting (with_taken from r tag net) a b) ≡ filter (of_job k) (waiting net a b)
taken_others k from r tag net other a b =
    ap (filter (of_job k)) (waiting_taken from r tag net a b)
    ∙ same (eqb a from && eqb b r) (net.arrived a b) (net.under a b)
  where
    same : (t : Bool) (l u : List Message) → filter (of_job k) (cond t (without tag l) l ++ u) ≡ filter (of_job k) (l ++ u)
    same true l u = filter-append (of_job k) (without tag l) u ∙ ap (λ x. x ++ filter (of_job k) u) (kept_without k tag l other) ∙ sym (filter-append (of_job k) l u)
    same false l u = refl

pub abandoned_others : (k n : ℕ) (net : Network) → (k ≡ n → ⊥) → (a b : ℕ) → filter (of_job k) (waiting (with_abandoned n net) a b) ≡ filter (of_job k) (waiting net a b)
abandoned_others k n net other a b =
    ap (filter (of_job k)) (append-nil (filter (λ msg. not (of_job n msg)) (waiting net a b))) ∙ kept_others k n (waiting net a b) other

all_without : (P : Message → Type 0) (tag : ℕ) (l u : List Message) → AllByRecursion P (l ++ u) → AllByRecursion P (without tag l ++ u)
all_without P tag [] u h = h
all_without P tag (x ∷ l) u h =
    elim (cases_Bool (eqb x.tag tag)) [
      | inl e ↦ rw e h.1
      | inr e ↦ rw e (h.0, all_without P tag l u h.1)
    ]

pub taken_all : (P : Message → Type 0) (from r tag : ℕ) (net : Network) (a b : ℕ) → AllByRecursion P (waiting net a b) → AllByRecursion P (waiting (with_taken from r tag net) a b)
taken_all P from r tag net a b h = subst (AllByRecursion P) (sym (waiting_taken from r tag net a b)) (either (eqb a from && eqb b r))
  where
    either : (t : Bool) → AllByRecursion P (cond t (without tag (net.arrived a b)) (net.arrived a b) ++ net.under a b)
    either true = all_without P tag (net.arrived a b) (net.under a b) h
    either false = h

pub sent_all : (P : Message → Type 0) (r to : ℕ) (msg : Message) (net : Network) (a b : ℕ) → P msg → AllByRecursion P (waiting net a b) → AllByRecursion P (waiting (with_sent r to msg net) a b)
sent_all P r to msg net a b new h = subst (AllByRecursion P) (sym (waiting_sent r to msg net a b)) (All-append P (waiting net a b) (cond (eqb a r && eqb b to) (msg ∷ []) []) h (either (eqb a r && eqb b to)))
  where
    either : (t : Bool) → AllByRecursion P (cond t (msg ∷ []) [])
    either true = (new, tt)
    either false = tt

-- how many wait in all, counted on the lists
pub in_all : (net : Network) → waiting_in_all net ≡ sum_below (λ a. sum_below (λ b. length (waiting net a b)) net.ranks) net.ranks
unfolding transport.waiting
in_all net =
    sum_same _ _ net.ranks (λ a _. sum_same _ _ net.ranks (λ b _. omega (arith, length-append (net.arrived a b) (net.under a b))))

-- a carry as the transport has it
pub carried_is : (from to : ℕ) (net : Network) → with_carried from to net ≡ carried net from to (net.under from to)
carried_is from to net = go (net.under from to)
  where
    go : (l : List Message) → with_lists net (carried net from to l).under (carried net from to l).arrived ≡ carried net from to l
    go [] = refl
    go (x ∷ l) = refl
