use Rattle.schedule_tests.proofs.Agreeing.{agrees}
use Rattle.schedule_tests.proofs.messages_agree.Goals as goal

pub returns : goal.returns
returns c = agrees
