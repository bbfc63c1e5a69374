-- What the answers of ccid say on paper.
use Rattle.std.specs.Prelude.{◌≡◌, List, ℕ, Result}
use Rattle.text.specs.Line.{checked}
use Rattle.text.specs.Reading.{Reading}
use Rattle.text.specs.says.Refusal.{reading_said}
use Rattle.text.specs.declared.refusal.Refusal.{Refusal}
use Rattle.at_command.specs.Ccid.{Card, iccid_text}
use Rattle.at_command.specs.declared.ccid.Iccid.{Iccid}

abbrev pub card_says : Iccid → Card
card_says i = record { country = i.country; issuer = i.issuer; account = i.account }

abbrev pub says : Result Iccid Refusal → Reading Card
says = reading_said card_says

-- the contract of its reader
abbrev pub IccidKeeps : List ℕ → Result Iccid Refusal → Type 0
IccidKeeps line r = says r ≡ checked iccid_text line
