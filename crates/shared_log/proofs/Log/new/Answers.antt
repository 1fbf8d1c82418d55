use Rattle.std.proofs.Common.{◌≡◌, ℕ, true, false, length, sym, ap, ◌∙◌}
use Rattle.transport.specs.Network.{quiet}
use Rattle.shared_log.specs.Records.{usable}
use Rattle.shared_log.proofs.Calls.{new_is}
use Rattle.shared_log.proofs.Log.new.Goals as goal

pub returns-then-not-is_usable-clause-meaning : goal.returns-then-not-is_usable-clause-meaning
returns-then-not-is_usable-clause-meaning c =
    let bad : usable c.args.ranks (length c.args.records.now) ≡ false = sym c.is_usable.ensures ∙ c.if-not-is_usable.true in
    new_is 0 0 ∙ rw bad

pub returns-clause-meaning : goal.returns-clause-meaning
returns-clause-meaning c =
    let good : usable c.args.ranks (length c.args.records.now) ≡ true = sym c.is_usable.ensures ∙ c.if-not-is_usable.false in
    new_is c.args.ranks c.min-room.result ∙ rw good (ap (λ (k : ℕ). quiet c.args.ranks k k 4) c.min-room.ensures)
