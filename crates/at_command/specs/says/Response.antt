-- What the answers of the trial say on paper.
use Rattle.std.specs.Prelude.{◌≡◌, ◌+◌, List, ℕ, Result, Ok, Err, drop}
use Rattle.text.specs.Line.{checked}
use Rattle.text.specs.Reading.{Reading, read, first_of}
use Rattle.text.specs.says.Refusal.{number_of, reading_said}
use Rattle.text.specs.declared.refusal.Refusal.{Refusal}
use Rattle.at_command.specs.Response.{Response, kind_of, ok, error, prompt, close_ok, iccid, signal, system, operator, time, download, imei, format, message, readings, response_text, reading_at}
use Rattle.at_command.specs.says.Ccid.{card_says}
use Rattle.at_command.specs.says.Cmgf.{format_number}
use Rattle.at_command.specs.says.Cmgr.{message_says}
use Rattle.at_command.specs.says.Cntp.{info_says as time_says}
use Rattle.at_command.specs.says.Cops.{info_says as operator_says}
use Rattle.at_command.specs.says.Cpsi.{info_says as system_says}
use Rattle.at_command.specs.says.Csq.{signal_says}
use Rattle.at_command.specs.says.Generic.{ok_mark, fault_says, prompt_mark, connection_says}
use Rattle.at_command.specs.says.Gsn.{imei_says}
use Rattle.at_command.specs.says.Httptofs.{info_says as download_says}
use Rattle.at_command.specs.says.Request.{kind_says}
use Rattle.at_command.specs.declared.request.ResponseKind.{ResponseKind}
use Rattle.at_command.specs.declared.ResponseCode.{ResponseCode}
use Rattle.at_command.specs.declared.ResponseCode.TheVariants as R

abbrev pub code_says : ResponseCode → Response
code_says (R.Ok v) = ok (ok_mark v)
code_says (R.Error v) = error (fault_says v)
code_says (R.WritePrompt v) = prompt (prompt_mark v)
code_says (R.CloseOk v) = close_ok (connection_says v)
code_says (R.Iccid v) = iccid (card_says v)
code_says (R.SignalQuality v) = signal (signal_says v)
code_says (R.SystemInfo v) = system (system_says v)
code_says (R.OperatorInfo v) = operator (operator_says v)
code_says (R.NetworkTime v) = time (time_says v)
code_says (R.DownloadInfo v) = download (download_says v)
code_says (R.Imei v) = imei (imei_says v)
code_says (R.SmsMessageFormat v) = format (format_number v)
code_says (R.SmsMessage v) = message (message_says v)

abbrev pub says : Result ResponseCode Refusal → Reading Response
says = reading_said code_says

-- before the reader at a place: what is left of the trial, where the readers before it refused, the worst of them so
abbrev pub TriedTo : ℕ → List ℕ → Refusal → Type 0
TriedTo place line k = response_text line ≡ first_of (number_of k) (drop place (readings line))

-- and behind it: Err is what it said, which ends the trial
abbrev pub TriedKeeps : ℕ → List ℕ → Result Refusal ResponseCode → Type 0
TriedKeeps place line (Ok k) = TriedTo (place + 1) line k
TriedKeeps place line (Err code) = read (code_says code) ≡ response_text line

-- the contract of the trial
abbrev pub ResponseCodeKeeps : List ℕ → Result ResponseCode Refusal → Type 0
ResponseCodeKeeps line r = says r ≡ checked response_text line

-- and of one reader, by its place
abbrev pub ResponseAtKeeps : ℕ → List ℕ → Result ResponseCode Refusal → Type 0
ResponseAtKeeps place line r = says r ≡ checked (reading_at place) line

-- and of `kind`
abbrev pub KindKeeps : ResponseCode → ResponseKind → Type 0
KindKeeps code r = kind_says r ≡ kind_of (code_says code)
