-- What the answers of cmgf say on paper.
use Rattle.std.specs.Prelude.{◌≡◌, List, ℕ, Result}
use Rattle.text.specs.Line.{checked}
use Rattle.text.specs.Reading.{Reading}
use Rattle.text.specs.says.Refusal.{reading_said}
use Rattle.text.specs.declared.refusal.Refusal.{Refusal}
use Rattle.at_command.specs.Cmgf.{cmgf_text}
use Rattle.at_command.specs.declared.cmgf.SmsMessageFormat.{SmsMessageFormat}
use Rattle.at_command.specs.declared.cmgf.SmsMessageFormat.TheVariants.{Pdu, Text}

abbrev pub format_number : SmsMessageFormat → ℕ
format_number Pdu = 0
format_number Text = 1

abbrev pub says : Result SmsMessageFormat Refusal → Reading ℕ
says = reading_said format_number

-- the contract of its reader
abbrev pub SmsMessageFormatKeeps : List ℕ → Result SmsMessageFormat Refusal → Type 0
SmsMessageFormatKeeps line r = says r ≡ checked cmgf_text line
