-- What the answers on the registration in the network say on paper, and the contract of their four readers.
use Rattle.std.specs.Prelude.{◌≡◌, List, ℕ, ℤ, Result}
use Rattle.text.specs.Line.{checked}
use Rattle.text.specs.Reading.{Reading}
use Rattle.text.specs.declared.refusal.Refusal.{Refusal}
use Rattle.text.specs.says.Refusal.{option_said, reading_said}
use Rattle.unsolicited.specs.Registration.{Registration, status_of}
use Rattle.unsolicited.specs.declared.network_registration.RegistrationStatus.{RegistrationStatus}
use Rattle.unsolicited.specs.declared.network_registration.RegistrationStatus.TheVariants.{NotRegistered, RegisteredHome, Searching, RegistrationDenied, Unknown, RegisteredRoaming}
use Rattle.unsolicited.specs.declared.network_registration.NetworkRegistration.{NetworkRegistration}

abbrev pub status_number : RegistrationStatus → ℕ
status_number NotRegistered = 0
status_number RegisteredHome = 1
status_number Searching = 2
status_number RegistrationDenied = 3
status_number Unknown = 4
status_number RegisteredRoaming = 5

-- a status made of its number
abbrev pub StatusKeeps : ℤ → RegistrationStatus → Type 0
StatusKeeps n s = status_number s ≡ status_of n

abbrev pub registration_says : NetworkRegistration → Registration
registration_says r = record { status = status_number r.status; lac = option_said r.lac; ci = option_said r.ci }

abbrev pub says : Result NetworkRegistration Refusal → Reading Registration
says r = reading_said registration_says r

-- text is the reader's: `creg_text`, `cgreg_text`, `cereg_text` or `registration_text`
abbrev pub RegistrationKeeps : (List ℕ → Reading Registration) → List ℕ → Result NetworkRegistration Refusal → Type 0
RegistrationKeeps text line r = says r ≡ checked text line
