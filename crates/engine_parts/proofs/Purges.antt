-- Messages that have arrived taken out, one after the other.
use Rattle.std.proofs.Common.{◌≡◌, ℕ, suc, ◌+◌, ◌*◌, ◌/◌, ◌%◌, ◌<◌, Bool, true, false, cond, not, ◌&&◌, ◌||◌, eqb, ltb, List, [], ◌∷◌, length, is_some, Some, None, Option, sym, refl, ap, ◌∙◌, arith}
use mathlib.Core.Path.{fun_ext}
use Rattle.std.proofs.lemmas.Bool.{lt-ltb, le-ltb}
use Rattle.std.proofs.lemmas.Bool.Decides.{nat_tests}
use Rattle.transport.specs.Network.{Network, Message, put, with_lists, oldest, without}
use Rattle.transport.proofs.Replies.{without_absent}
use Rattle.transport.proofs.Tables.{put_here, put_put, put_same}
use Rattle.engine_parts.specs.Mail.{with_taken}
use Rattle.engine_parts.specs.Clearing.{others, tagged, of_job, labelled, purged}

pub none_some : (o : Option Message) → false ≡ is_some o → o ≡ None
none_some None e = refl
none_some (Some x) e = let z : ◌≡◌ {A = ℕ} 0 1 = cc in absurd (omega arith)

module _ (t : ℕ) where
  pub others_without : (ms : List Message) → others (tagged t) (without t ms) ≡ others (tagged t) ms
  others_without [] = refl
  others_without (x ∷ ms) = by (eqb x.tag t) refl (others_without ms)
    where
      by : (u : Bool) → eqb x.tag t ≡ u → others (tagged t) (without t ms) ≡ others (tagged t) ms
          → others (tagged t) (cond u ms (x ∷ without t ms)) ≡ cond (not u) (x ∷ others (tagged t) ms) (others (tagged t) ms)
      by true e rest = refl
      by false e rest = rw e (ap (λ l. x ∷ l) rest)

  pub others_absent : (ms : List Message) → oldest t ms ≡ None → others (tagged t) ms ≡ ms
  others_absent [] e = refl
  others_absent (x ∷ ms) e = by (eqb x.tag t) (others_absent ms) e
    where
      by : (u : Bool) → (oldest t ms ≡ None → others (tagged t) ms ≡ ms) → cond u (Some x) (oldest t ms) ≡ None
          → cond (not u) (x ∷ others (tagged t) ms) (others (tagged t) ms) ≡ x ∷ ms
      by true rest k = let z : ◌≡◌ {A = ℕ} 0 1 = cc in absurd (omega arith)
      by false rest k = ap (λ l. x ∷ l) (rest k)

  pub without_fewer : (ms : List Message) → true ≡ is_some (oldest t ms) → length (without t ms) < length ms
  without_fewer [] e = let z : ◌≡◌ {A = ℕ} 0 1 = cc in absurd (omega arith)
  without_fewer (x ∷ ms) e = by (eqb x.tag t) (without_fewer ms) e
    where
      by : (u : Bool) → (true ≡ is_some (oldest t ms) → length (without t ms) < length ms) → true ≡ is_some (cond u (Some x) (oldest t ms))
          → length (cond u ms (x ∷ without t ms)) < suc (length ms)
      by true rest k = omega arith
      by false rest k = let h = rest k in omega arith

  module _ (n : Network) (a b : ℕ) where
    -- taking one message changes nothing of what is left when all with its tag are taken
    pub purged_taken : purged (tagged t) a b (with_taken n a b t) ≡ purged (tagged t) a b n
    purged_taken =
        ap (with_lists n n.under)
        (put_put n.arrived a b (without t (n.arrived a b)) _
        ∙ ap (put n.arrived a b) (ap (others (tagged t)) (put_here n.arrived a b (without t (n.arrived a b))) ∙ others_without (n.arrived a b)))

    pub purged_done : oldest t (n.arrived a b) ≡ None → purged (tagged t) a b n ≡ n
    purged_done e =
        ap (with_lists n n.under) (ap (put n.arrived a b) (others_absent (n.arrived a b) e) ∙ put_same n.arrived a b)

    pub taken_done : oldest t (n.arrived a b) ≡ None → with_taken n a b t ≡ n
    taken_done e =
        ap (with_lists n n.under) (ap (put n.arrived a b) (without_absent t (n.arrived a b) e) ∙ put_same n.arrived a b)

    pub taken_fewer : true ≡ is_some (oldest t (n.arrived a b)) → length ((with_taken n a b t).arrived a b) < length (n.arrived a b)
    taken_fewer e =
        let h = ap length (put_here n.arrived a b (without t (n.arrived a b))) in
        let k = without_fewer (n.arrived a b) e in
        omega arith

-- two tests one after the other
module _ (f g h : Message → Bool) (either : (x : Message) → h x ≡ (f x || g x)) where
  pub others_others : (ms : List Message) → others g (others f ms) ≡ others h ms
  others_others [] = refl
  others_others (x ∷ ms) = rw (either x) (by (f x) (g x) refl (others_others ms))
    where
      by : (u v : Bool) → g x ≡ v → others g (others f ms) ≡ others h ms
          → others g (cond (not u) (x ∷ others f ms) (others f ms)) ≡ cond (not (u || v)) (x ∷ others h ms) (others h ms)
      by true v e rest = rest
      by false true e rest = rw e rest
      by false false e rest = rw e (ap (λ l. x ∷ l) rest)

  pub purged_purged : (a b : ℕ) (n : Network) → purged g a b (purged f a b n) ≡ purged h a b n
  purged_purged a b n =
      ap (with_lists n n.under)
      (put_put n.arrived a b (others f (n.arrived a b)) _
      ∙ ap (put n.arrived a b) (ap (others g) (put_here n.arrived a b (others f (n.arrived a b))) ∙ others_others (n.arrived a b)))

pub purged_same : (f g : Message → Bool) (a b : ℕ) (n : Network) → ((x : Message) → f x ≡ g x) → purged f a b n ≡ purged g a b n
purged_same f g a b n e = ap (λ t. purged t a b n) (fun_ext e)

pub others_all : (ms : List Message) → others (λ x. false) ms ≡ ms
others_all [] = refl
others_all (x ∷ ms) = ap (λ l. x ∷ l) (others_all ms)

pub purged_nothing : (f : Message → Bool) (a b : ℕ) (n : Network) → ((x : Message) → f x ≡ false) → purged f a b n ≡ n
purged_nothing f a b n e =
    purged_same f (λ x. false) a b n e
    ∙ ap (with_lists n n.under) (ap (put n.arrived a b) (others_all (n.arrived a b)) ∙ put_same n.arrived a b)

pub purged_empty : (f : Message → Bool) (a b : ℕ) (n : Network) → n.arrived a b ≡ [] → purged f a b n ≡ n
purged_empty f a b n e =
    ap (with_lists n n.under) (ap (put n.arrived a b) (ap (others f) e ∙ sym e) ∙ put_same n.arrived a b)

-- one label more
next_label : (t q r number k : ℕ) → t ≡ 16 * q + r → r < 16 → k < 16
    → (eqb q number && ltb r (k + 1)) ≡ ((eqb q number && ltb r k) || eqb t (16 * number + k))
next_label t q r number k e h l = grind (arith, nat_tests)

pub label_next : (number k : ℕ) → k < 16 → (x : Message) → labelled number (k + 1) x ≡ (labelled number k x || tagged (16 * number + k) x)
label_next number k l x = next_label x.tag (x.tag / 16) (x.tag % 16) number k (omega arith) (omega arith) l

pub label_none : (number : ℕ) (x : Message) → labelled number 0 x ≡ false
label_none number x = by (of_job number x)
  where
    by : (u : Bool) → (u && ltb (x.tag % 16) 0) ≡ false
    by true = le-ltb (x.tag % 16) 0 (omega arith)
    by false = refl

pub label_all : (number : ℕ) (x : Message) → labelled number 16 x ≡ of_job number x
label_all number x = rw (lt-ltb (x.tag % 16) 16 (omega arith)) (by (of_job number x))
  where
    by : (u : Bool) → (u && true) ≡ u
    by true = refl
    by false = refl
