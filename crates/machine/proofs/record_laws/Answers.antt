use Rattle.machine.proofs.Records.{record_laws}
use Rattle.machine.proofs.record_laws.Goals as goal

pub returns : goal.returns
returns g c = λ name m net lawful well. record_laws name m net lawful well
