-- What the answers of the trial say on paper, and the contract of `Urc::from_line`.
use Rattle.std.specs.Prelude.{◌≡◌, List, ℕ, Result}
use Rattle.text.specs.Line.{checked}
use Rattle.text.specs.Reading.{Reading}
use Rattle.text.specs.declared.refusal.Refusal.{Refusal}
use Rattle.text.specs.says.Refusal.{reading_said}
use Rattle.unsolicited.specs.Urc.{Unsolicited, gnss, registration, urc_text, urc_reading_at}
use Rattle.unsolicited.specs.says.Gnss.{report_says}
use Rattle.unsolicited.specs.says.Registration.{registration_says}
use Rattle.unsolicited.specs.declared.Urc.{Urc}
use Rattle.unsolicited.specs.declared.Urc.TheVariants.{GnssReport, NetworkRegistration}

abbrev pub urc_says : Urc → Unsolicited
urc_says (GnssReport r) = gnss (report_says r)
urc_says (NetworkRegistration r) = registration (registration_says r)

abbrev pub says : Result Urc Refusal → Reading Unsolicited
says r = reading_said urc_says r

abbrev pub UrcKeeps : List ℕ → Result Urc Refusal → Type 0
UrcKeeps line r = says r ≡ checked urc_text line

-- and of one reader, by its place
abbrev pub UrcAtKeeps : ℕ → List ℕ → Result Urc Refusal → Type 0
UrcAtKeeps place line r = says r ≡ checked (urc_reading_at place) line
