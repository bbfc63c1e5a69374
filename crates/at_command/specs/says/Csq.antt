-- What the answers of csq say on paper.
use Rattle.std.specs.Prelude.{◌≡◌, List, ℕ, Result}
use Rattle.text.specs.Line.{checked}
use Rattle.text.specs.Reading.{Reading}
use Rattle.text.specs.says.Refusal.{option_said, reading_said}
use Rattle.text.specs.declared.refusal.Refusal.{Refusal}
use Rattle.at_command.specs.Csq.{Signal, csq_text}
use Rattle.at_command.specs.declared.csq.SignalQuality.{SignalQuality}

abbrev pub signal_says : SignalQuality → Signal
signal_says q = record { strength = option_said q.signal_strength; quality = option_said q.signal_quality }

abbrev pub says : Result SignalQuality Refusal → Reading Signal
says = reading_said signal_says

-- the contract of its reader
abbrev pub SignalQualityKeeps : List ℕ → Result SignalQuality Refusal → Type 0
SignalQualityKeeps line r = says r ≡ checked csq_text line
