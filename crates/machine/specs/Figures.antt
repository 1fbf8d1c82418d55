-- All worked figures: of the operations, and of rounds and messages.
use Rattle.operation.specs.Figures.{Figures as OperationFigures}
use Rattle.programme.specs.Figures.{Figures as ScheduleFigures}

abbrev pub Figures : Type 0
Figures = OperationFigures × ScheduleFigures
