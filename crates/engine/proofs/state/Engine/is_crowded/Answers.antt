use Rattle.std.proofs.Common.{◌+◌, ltb, [], ap, ◌∙◌, ap₂, arith, rules}
use Rattle.schedule.specs.Collective.{messages_of}
use Rattle.engine.proofs.Starting.{too_deep, room_tells, messages_fit}
use Rattle.engine.proofs.state.Engine.is_crowded.Goals as goal

pub returns-then-len-depth : goal.returns-then-len-depth
returns-then-len-depth g c = λ o h.
    too_deep c.args.self.now o h c.args.schedule.collective [] (omega (arith, c.len.ensures, c.depth.ensures, c.if-len-depth.true))

pub messages-pending-requires : goal.messages-pending-requires
messages-pending-requires g c = (search rules, omega (arith, messages_fit c.args.self.now, c.room-room.ensures, c.room-room.type_inv))

pub overfills-requires : goal.overfills-requires
overfills-requires g c = omega (arith, messages_fit c.args.self.now, c.room-room.ensures, c.messages-pending.ensures)

pub returns : goal.returns
returns g c = λ o h.
    let k = c.args.schedule.collective in
    room_tells c.args.self.now o h k [] (omega (arith, c.len.ensures, c.depth.ensures, c.if-len-depth.false)) _
    (c.overfills.ensures ∙ ap₂ ltb c.room-room.ensures (ap₂ ◌+◌ c.messages-pending.ensures (c.messages.ensures ∙ ap (messages_of k) c.requires)))
