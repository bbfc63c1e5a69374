-- What document 02's CR 2 buys of the exported calls: request 4 is the manual operator, and `first` its number.
use Rattle.std.specs.Prelude.{ℕ, List, take}
use Rattle.at_command.specs.ManualOperator.{OperatorCommand}
use Rattle.sim7000.specs.Command.{ExportWriteKeeps, ExportOpenKeeps, ExportOpenEchoKeeps}

-- a call that keeps its contract and answers 0 leaves an `OperatorCommand` in front of the buffer
pub record OperatorsExported (number code : ℕ) (first second out out' : List ℕ) (size size' : ℕ) : Type 0 where
  pub written : ExportWriteKeeps 4 number code first second out size 0 out' size' → OperatorCommand first (take size' out')
  pub opened : (state state' : List ℕ) → ExportOpenKeeps state 4 number code first second out size 0 state' out' size' → OperatorCommand first (take size' out')
  pub echoed : (state sent state' sent' : List ℕ) → ExportOpenEchoKeeps state sent 4 number code first second out size 0 state' sent' out' size' → OperatorCommand first (take size' out')
