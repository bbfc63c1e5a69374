-- What document 02's CR 2 buys at the desk: what each open of a manual operator gives, in both modes and whatever the desk's past.
use Rattle.std.specs.Prelude.{ℕ, List, Result}
use Rattle.at_command.specs.ManualOperator.{OperatorAnswer}
use Rattle.at_command.specs.says.Request.{encoded_says}
use Rattle.text.specs.declared.refusal.Refusal.{Refusal}
use Rattle.at_command.specs.declared.request.Request.TheVariants.{SetManualOperator}
use Rattle.desk.specs.Keeps.{OpenKeeps, OpenLentKeeps, OpenOnKeeps, OpenEchoOnKeeps}
use Rattle.desk.specs.Rules.{Mode}
use Rattle.desk.specs.declared.State.{State}
use Rattle.desk.specs.declared.Desk.{Desk}
use Rattle.desk.specs.declared.open.Opened.{Opened}
use Rattle.desk.specs.declared.open.OpenedParts.{OpenedParts}

-- an open that keeps its contract gives an `OperatorAnswer`
pub record OperatorsOpened (plmn second out out' : List ℕ) : Type 0 where
  pub value : (mode : Mode) (d : Desk) (r : Opened) → OpenKeeps mode d SetManualOperator plmn second out r out' → OperatorAnswer plmn (encoded_says r.answer) out'
  pub lent : (mode : Mode) (d d' : Desk) (r : Result ℕ Refusal) → OpenLentKeeps mode d SetManualOperator plmn second out d' r out' → OperatorAnswer plmn (encoded_says r) out'
  pub parts : (state : State) (r : OpenedParts) → OpenOnKeeps state SetManualOperator plmn second out r out' → OperatorAnswer plmn (encoded_says r.answer) out'
  pub echo_parts : (state : State) (sent : List ℕ) (r : OpenedParts) (sent' : List ℕ)
      → OpenEchoOnKeeps state sent SetManualOperator plmn second out r sent' out' → OperatorAnswer plmn (encoded_says r.answer) out'
