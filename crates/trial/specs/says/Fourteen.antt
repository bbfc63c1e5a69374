-- What the fourteen claim of the code: whatever keeps the contract says what the row does.
use Rattle.std.specs.Prelude.{Result, Option, Float, ◌≡◌, List, [], ◌∷◌}
use Rattle.text.specs.declared.refusal.Refusal.{Refusal}
use Rattle.text.specs.Reading.{read}
use Rattle.numeral.specs.says.Numeral.{NumeralKeeps}
use Rattle.numeral.specs.says.Numeral.{says as numeral_says}
use Rattle.trial.specs.Fourteen.{Row, says, is}
use Rattle.trial.specs.says.Line.{line_says, LineKeeps}
use Rattle.trial.specs.declared.Line.{Line}

abbrev pub Holds : Row → Type 0
Holds (says line said) = (r : Result Line Refusal) → LineKeeps line r → line_says r ≡ said
Holds (is numeral x) = (r : Option Float) → NumeralKeeps numeral r → numeral_says r ≡ read x

abbrev pub All : List Row → Type 0
All [] = Unit {0}
All (row ∷ rows) = Holds row × All rows
