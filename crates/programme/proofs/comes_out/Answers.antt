use Rattle.programme.proofs.Order.{comes_out}
use Rattle.programme.proofs.comes_out.Goals as goal

pub returns : goal.returns
returns g c = comes_out _ _
