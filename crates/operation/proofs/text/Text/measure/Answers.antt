use Rattle.std.proofs.Common.{◌∙◌}
use Rattle.operation.proofs.Measured.{measured_append, measured_by_byte}
use Rattle.operation.proofs.Runs.{words_are_runs}
use Rattle.operation.proofs.text.Text.measure.Goals as goal

pub returns : goal.returns
returns c = record {
  value = c.join_bytes.ensures ∙ measured_by_byte c.args.bytes.now;
  joins = measured_append;
  words_are_runs = words_are_runs;
}
