use Rattle.programme.proofs.Answering.{answers}
use Rattle.programme.proofs.answers_stand.Goals as goal

pub returns : goal.returns
returns g c = answers _ _
