-- Equal messages.
use Rattle.std.proofs.Common.{◌≡◌, ℕ, List}
use Rattle.programme.specs.declared.Action.{Action}
use Rattle.programme.specs.Rank.{Rank, Mail, posted}

-- equal parts make equal messages
pub mail_path : {E : Type 0} (x y : Mail E) → x.stamp ≡ y.stamp → x.value ≡ y.value → x ≡ y
mail_path x y e f = λ i. record { stamp = e i; value = f i }

-- the same message after the same actions, by other names
pub moved_mail : {E : Type 0} (sent : (a b : ℕ) → Mail E) (at : ℕ → List Action → Rank E) (a a' b b' : ℕ) (before before' : List Action) →
    a ≡ a' → b ≡ b' → before ≡ before' → sent a' b' ≡ posted (at a' before') → sent a b ≡ posted (at a before)
moved_mail sent at a a' b b' before before' e f g h = rw (e, f, g) h
