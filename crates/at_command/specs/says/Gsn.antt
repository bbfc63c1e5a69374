-- What the answers of gsn say on paper.
use Rattle.std.specs.Prelude.{◌≡◌, List, ℕ, Result}
use Rattle.text.specs.Line.{checked}
use Rattle.text.specs.Reading.{Reading}
use Rattle.text.specs.says.Refusal.{reading_said}
use Rattle.text.specs.declared.refusal.Refusal.{Refusal}
use Rattle.text.specs.says.Part.{place_says}
use Rattle.at_command.specs.Gsn.{Identity, imei_text}
use Rattle.at_command.specs.declared.gsn.Imei.{Imei}

abbrev pub imei_says : Imei → Identity
imei_says i = record { digits = place_says i.imei; is_version_number = i.is_version_number }

abbrev pub says : Result Imei Refusal → Reading Identity
says = reading_said imei_says

-- the contract of its reader
abbrev pub ImeiKeeps : List ℕ → Result Imei Refusal → Type 0
ImeiKeeps line r = says r ≡ checked imei_text line
