use Rattle.std.proofs.Common.{◌*◌, ap}
use Rattle.engine_parts.proofs.Blocks.{block_written}
use Rattle.engine_parts.proofs.outputs.write_block.Goals as goal

pub returns : goal.returns
returns g c =
    let m = g.O.Operation.meaning c.args.op.now in
    let packing = g.met.O.Operation.packing c.args.op.now c.requires.narrow in
    block_written m packing c.args.value c.requires.proper c.args.place _ c.args.words.now c.pack.new.words (ap (λ w. c.args.place * w) c.width.ensures) c.requires.room c.pack.ensures
