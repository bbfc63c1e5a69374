-- What the answers of cntp say on paper.
use Rattle.std.specs.Prelude.{◌≡◌, List, ℕ, Result}
use Rattle.std.specs.Prelude as Std
use Rattle.std.proofs.Math.Option.{Option}
use Rattle.text.specs.Part.{Span}
use Rattle.text.specs.Line.{checked}
use Rattle.text.specs.Reading.{Reading}
use Rattle.text.specs.says.Refusal.{option_mapped, reading_said}
use Rattle.text.specs.declared.part.Place.{Place}
use Rattle.text.specs.declared.refusal.Refusal.{Refusal}
use Rattle.text.specs.says.Part.{place_says}
use Rattle.at_command.specs.Cntp.{NetTime, cntp_text}
use Rattle.at_command.specs.declared.cntp.SyncNtpStatusCode.{SyncNtpStatusCode}
use Rattle.at_command.specs.declared.cntp.SyncNtpStatusCode.TheVariants.{Success, NetworkError, DnsResolutionError, ConnectionError, ServiceResponseError, ServiceResponseTimeout}
use Rattle.at_command.specs.declared.cntp.NetworkTime.{NetworkTime}

abbrev pub code_number : SyncNtpStatusCode → ℕ
code_number Success = 1
code_number NetworkError = 61
code_number DnsResolutionError = 62
code_number ConnectionError = 63
code_number ServiceResponseError = 64
code_number ServiceResponseTimeout = 65

abbrev pub time_says : Std.Option Place → Option Span
time_says = option_mapped place_says

abbrev pub info_says : NetworkTime → NetTime
info_says t = record { code = code_number t.code; time = time_says t.time }

abbrev pub says : Result NetworkTime Refusal → Reading NetTime
says = reading_said info_says

-- the contract of its reader
abbrev pub NetworkTimeKeeps : List ℕ → Result NetworkTime Refusal → Type 0
NetworkTimeKeeps line r = says r ≡ checked cntp_text line
