use Rattle.programme.proofs.Flowing.{flows}
use Rattle.programme.proofs.flow_stands.Goals as goal

pub returns : goal.returns
returns c = flows _
