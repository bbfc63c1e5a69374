-- What the answers of cmgr say on paper.
use Rattle.std.specs.Prelude.{◌≡◌, List, ℕ, Result}
use Rattle.text.specs.Part.{Span}
use Rattle.text.specs.Line.{checked}
use Rattle.text.specs.Reading.{Reading}
use Rattle.text.specs.says.Refusal.{reading_said}
use Rattle.text.specs.declared.refusal.Refusal.{Refusal}
use Rattle.text.specs.says.Part.{place_says}
use Rattle.at_command.specs.Cmgr.{cmgr_text}
use Rattle.at_command.specs.declared.cmgr.SmsMessage.{SmsMessage}

abbrev pub message_says : SmsMessage → Span
message_says m = place_says m.sender

abbrev pub says : Result SmsMessage Refusal → Reading Span
says = reading_said message_says

-- the contract of its reader
abbrev pub SmsMessageKeeps : List ℕ → Result SmsMessage Refusal → Type 0
SmsMessageKeeps line r = says r ≡ checked cmgr_text line
