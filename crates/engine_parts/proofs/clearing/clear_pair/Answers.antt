use Rattle.std.proofs.Common.{◌≡◌, true, sym, ap, ◌∙◌, subst}
use Rattle.ranks.specs.Ranks.{pair_ok}
use Rattle.engine_parts.specs.Clearing.{purged, of_job}
use Rattle.engine_parts.proofs.Clears.{cleared_empty, cleared_pair, none_waits, some_wait}
use Rattle.engine_parts.proofs.clearing.clear_pair.Goals as goal

pub returns-then-unwrap_or-eq0 : goal.returns-then-unwrap_or-eq0
returns-then-unwrap_or-eq0 g c =
    let n = g.T.Transport.meaning c.args.transport.now in
    let shape = g.met.T.Transport.shaped c.args.transport.now in
    let none = none_waits _ n shape c.args.pair.from c.args.pair.to _ c.waiting_between.ensures (sym c.unwrap_or.ensures ∙ c.if-unwrap_or-eq0.true) in
    sym (cleared_empty c.args.number n c.args.pair.from c.args.pair.to none.0 none.1)

pub carry_all-requires : goal.carry_all-requires
carry_all-requires g c =
    let n = g.T.Transport.meaning c.args.transport.now in
    let shape = g.met.T.Transport.shaped c.args.transport.now in
    some_wait _ n shape c.args.pair.from c.args.pair.to _ c.waiting_between.ensures (λ z. c.if-unwrap_or-eq0.false (c.unwrap_or.ensures ∙ z))

pub take_job-requires : goal.take_job-requires
take_job-requires g c =
    let n = g.T.Transport.meaning c.args.transport.now in
    let shape = g.met.T.Transport.shaped c.args.transport.now in
    let pair = some_wait _ n shape c.args.pair.from c.args.pair.to _ c.waiting_between.ensures (λ z. c.if-unwrap_or-eq0.false (c.unwrap_or.ensures ∙ z)) in
    record {
      among = subst (λ m. pair_ok m.ranks c.args.pair.from c.args.pair.to ≡ true) (sym c.carry_all.ensures) pair;
      small = c.requires;
    }

pub returns : goal.returns
returns g c =
    c.take_job.ensures
    ∙ ap (purged (of_job c.args.number) c.args.pair.from c.args.pair.to) c.carry_all.ensures
    ∙ cleared_pair c.args.number (g.T.Transport.meaning c.args.transport.now) c.args.pair.from c.args.pair.to
