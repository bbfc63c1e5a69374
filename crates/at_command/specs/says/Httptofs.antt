-- What the answers of httptofs say on paper.
use Rattle.std.specs.Prelude.{◌≡◌, List, ℕ, cond, eqb, Result}
use Rattle.std.specs.Prelude as Std
use Rattle.std.proofs.Math.Option.{Option, none, some}
use Rattle.text.specs.Line.{checked}
use Rattle.text.specs.Reading.{Reading}
use Rattle.text.specs.says.Refusal.{reading_said}
use Rattle.text.specs.declared.refusal.Refusal.{Refusal}
use Rattle.at_command.specs.Httptofs.{Download, httptofs_text}
use Rattle.at_command.specs.declared.httptofs.StatusCode.{StatusCode}
use Rattle.at_command.specs.declared.httptofs.StatusCode.TheVariants.{Continue, Ok, PartialContent, BadRequest, NotFound, RequestTimeout, InternalServerError, NotHttpPdu, NetworkError, NoMemory, DnsError, StackBusy, SslContinue, OtherErrors}
use Rattle.at_command.specs.declared.httptofs.DownloadInfo.{DownloadInfo}

abbrev pub status_number : StatusCode → ℕ
status_number Continue = 100
status_number Ok = 200
status_number PartialContent = 206
status_number BadRequest = 400
status_number NotFound = 404
status_number RequestTimeout = 408
status_number InternalServerError = 500
status_number NotHttpPdu = 600
status_number NetworkError = 601
status_number NoMemory = 602
status_number DnsError = 603
status_number StackBusy = 604
status_number SslContinue = 620
status_number OtherErrors = 0

-- the error that a code is (httptofs.rs, `success`); none is 200
abbrev pub failure_of : ℕ → Option ℕ
failure_of n = cond (eqb n 200) none (some n)

abbrev pub success_says : Result Unit StatusCode → Option ℕ
success_says (Std.Ok v) = none
success_says (Std.Err c) = some (status_number c)

abbrev pub info_says : DownloadInfo → Download
info_says d = record { status = status_number d.status_code; size = d.data_length }

abbrev pub says : Result DownloadInfo Refusal → Reading Download
says = reading_said info_says

-- the contract of its reader
abbrev pub DownloadInfoKeeps : List ℕ → Result DownloadInfo Refusal → Type 0
DownloadInfoKeeps line r = says r ≡ checked httptofs_text line

-- and of `success`
abbrev pub SuccessKeeps : StatusCode → Result Unit StatusCode → Type 0
SuccessKeeps code r = success_says r ≡ failure_of (status_number code)
