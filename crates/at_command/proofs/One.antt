-- No second answer meets a reader's contract: what an answer says on paper can be taken back.
use mathlib.Core.Path.{◌≡◌, refl, ap}
use mathlib.Core.Bool.{cond}
use mathlib.Core.List.{List}
use mathlib.Core.Option.{Option, none, some}
use lib.Ieee.{Float}
use Prim.Native.Nat.{ℕ}
use lib.Dec.{eqb}
use Rattle.text.specs.Part.{Span}
use Rattle.text.specs.Reading.{Mark}
use Rattle.text.specs.declared.part.Place.{Place}
use Rattle.std.specs.Prelude as Std
use Rattle.std.specs.Prelude.{Result, Ok, Err}
use Rattle.text.specs.declared.handed.TextAt.{TextAt}
use Rattle.text.specs.declared.handed.TextAt.TheVariants as N
use Rattle.text.specs.declared.refusal.Refusal.{Refusal}
use Rattle.text.proofs.One.{one_answer, one_reading, option, back_option}
use Rattle.at_command.specs.Ccid.{Card}
use Rattle.at_command.specs.Cntp.{NetTime}
use Rattle.at_command.specs.Cops.{Name, in_line, in_fallback, Operator}
use Rattle.at_command.specs.Cpsi.{System}
use Rattle.at_command.specs.Csq.{Signal}
use Rattle.at_command.specs.Generic.{Fault, generic, cme, cms}
use Rattle.at_command.specs.Gsn.{Identity}
use Rattle.at_command.specs.Httptofs.{Download}
use Rattle.at_command.specs.Response.{Response, ok, error, prompt, close_ok, iccid, signal, system, operator, time, download, imei, format, message}
use Rattle.at_command.specs.says.Ccid as Ccid
use Rattle.at_command.specs.says.Ccid.{IccidKeeps}
use Rattle.at_command.specs.says.Cmgf as Cmgf
use Rattle.at_command.specs.says.Cmgf.{SmsMessageFormatKeeps}
use Rattle.at_command.specs.says.Cmgr as Cmgr
use Rattle.at_command.specs.says.Cmgr.{SmsMessageKeeps}
use Rattle.at_command.specs.says.Cntp as Cntp
use Rattle.at_command.specs.says.Cntp.{NetworkTimeKeeps}
use Rattle.at_command.specs.says.Cops as Cops
use Rattle.at_command.specs.says.Cops.{OperatorInfoKeeps}
use Rattle.at_command.specs.says.Cpsi as Cpsi
use Rattle.at_command.specs.says.Cpsi.{SystemInfoKeeps}
use Rattle.at_command.specs.says.Csq as Csq
use Rattle.at_command.specs.says.Csq.{SignalQualityKeeps}
use Rattle.at_command.specs.says.Generic as Generic
use Rattle.at_command.specs.says.Generic.{GenericOkKeeps, SimErrorKeeps, WritePromptKeeps, CloseOkKeeps}
use Rattle.at_command.specs.says.Gsn as Gsn
use Rattle.at_command.specs.says.Gsn.{ImeiKeeps}
use Rattle.at_command.specs.says.Httptofs as Httptofs
use Rattle.at_command.specs.says.Httptofs.{DownloadInfoKeeps, SuccessKeeps}
use Rattle.at_command.specs.says.Response as Response
use Rattle.at_command.specs.says.Response.{ResponseCodeKeeps, ResponseAtKeeps}
use Rattle.at_command.specs.declared.cmgf.SmsMessageFormat.{SmsMessageFormat}
use Rattle.at_command.specs.declared.cmgf.SmsMessageFormat.TheVariants as format
use Rattle.at_command.specs.declared.cpsi.SystemMode.{SystemMode}
use Rattle.at_command.specs.declared.cpsi.SystemMode.TheVariants as system_mode
use Rattle.at_command.specs.declared.cpsi.OperationMode.{OperationMode}
use Rattle.at_command.specs.declared.cpsi.OperationMode.TheVariants as operation_mode
use Rattle.at_command.specs.declared.cops.OperatorMode.{OperatorMode}
use Rattle.at_command.specs.declared.cops.OperatorMode.TheVariants as OperatorModes
use Rattle.at_command.specs.declared.cops.OperatorFormat.{OperatorFormat}
use Rattle.at_command.specs.declared.cops.OperatorFormat.TheVariants as OperatorFormats
use Rattle.at_command.specs.declared.cntp.SyncNtpStatusCode.{SyncNtpStatusCode}
use Rattle.at_command.specs.declared.cntp.SyncNtpStatusCode.TheVariants as ntp
use Rattle.at_command.specs.declared.httptofs.StatusCode.{StatusCode}
use Rattle.at_command.specs.declared.httptofs.StatusCode.TheVariants as status
use Rattle.at_command.specs.declared.generic_response.GenericOk.{GenericOk}
use Rattle.at_command.specs.declared.generic_response.SimError.{SimError}
use Rattle.at_command.specs.declared.generic_response.WritePrompt.{WritePrompt}
use Rattle.at_command.specs.declared.generic_response.CloseOk.{CloseOk}
use Rattle.at_command.specs.declared.ccid.Iccid.{Iccid}
use Rattle.at_command.specs.declared.cpsi.SystemInfo.{SystemInfo}
use Rattle.at_command.specs.declared.cops.OperatorInfo.{OperatorInfo}
use Rattle.at_command.specs.declared.cntp.NetworkTime.{NetworkTime}
use Rattle.at_command.specs.declared.httptofs.DownloadInfo.{DownloadInfo}
use Rattle.at_command.specs.declared.csq.SignalQuality.{SignalQuality}
use Rattle.at_command.specs.declared.gsn.Imei.{Imei}
use Rattle.at_command.specs.declared.cmgr.SmsMessage.{SmsMessage}
use Rattle.at_command.specs.declared.ResponseCode.{ResponseCode}
use Rattle.at_command.specs.declared.ResponseCode.TheVariants as R
use Rattle.at_command.specs.declared.generic_response.SimError.TheVariants as fault

-- the codes, by their numbers

abbrev format_of : ℕ → SmsMessageFormat
format_of n = cond (eqb n 0) format.Pdu (format.Text)

format_back : (m : SmsMessageFormat) → format_of (Cmgf.format_number m) ≡ m
format_back format.Pdu = refl
format_back format.Text = refl

abbrev system_mode_of : ℕ → SystemMode
system_mode_of n = cond (eqb n 0) system_mode.NoService (cond (eqb n 1) system_mode.Gsm (cond (eqb n 2) system_mode.LteCatM1 (system_mode.LteNbIot)))

system_mode_back : (m : SystemMode) → system_mode_of (Cpsi.system_number m) ≡ m
system_mode_back system_mode.NoService = refl
system_mode_back system_mode.Gsm = refl
system_mode_back system_mode.LteCatM1 = refl
system_mode_back system_mode.LteNbIot = refl

abbrev operation_mode_of : ℕ → OperationMode
operation_mode_of n = cond (eqb n 0) operation_mode.Online (cond (eqb n 1) operation_mode.Offline (cond (eqb n 2) operation_mode.FactoryTest (cond (eqb n 3) operation_mode.Reset (operation_mode.LowPower))))

operation_mode_back : (m : OperationMode) → operation_mode_of (Cpsi.operation_number m) ≡ m
operation_mode_back operation_mode.Online = refl
operation_mode_back operation_mode.Offline = refl
operation_mode_back operation_mode.FactoryTest = refl
operation_mode_back operation_mode.Reset = refl
operation_mode_back operation_mode.LowPower = refl

abbrev operator_mode_of : ℕ → OperatorMode
operator_mode_of n = cond (eqb n 0) OperatorModes.Automatic (cond (eqb n 1) OperatorModes.Manual (cond (eqb n 2) OperatorModes.ManualDeregister (OperatorModes.ManualAutomatic)))

operator_mode_back : (m : OperatorMode) → operator_mode_of (Cops.mode_number m) ≡ m
operator_mode_back OperatorModes.Automatic = refl
operator_mode_back OperatorModes.Manual = refl
operator_mode_back OperatorModes.ManualDeregister = refl
operator_mode_back OperatorModes.ManualAutomatic = refl

abbrev operator_format_of : ℕ → OperatorFormat
operator_format_of n = cond (eqb n 0) OperatorFormats.Long (cond (eqb n 1) OperatorFormats.Short (OperatorFormats.Numeric))

operator_format_back : (m : OperatorFormat) → operator_format_of (Cops.format_number m) ≡ m
operator_format_back OperatorFormats.Long = refl
operator_format_back OperatorFormats.Short = refl
operator_format_back OperatorFormats.Numeric = refl

abbrev ntp_of : ℕ → SyncNtpStatusCode
ntp_of n = cond (eqb n 1) ntp.Success (cond (eqb n 61) ntp.NetworkError (cond (eqb n 62) ntp.DnsResolutionError (cond (eqb n 63) ntp.ConnectionError (cond (eqb n 64) ntp.ServiceResponseError (ntp.ServiceResponseTimeout)))))

ntp_back : (m : SyncNtpStatusCode) → ntp_of (Cntp.code_number m) ≡ m
ntp_back ntp.Success = refl
ntp_back ntp.NetworkError = refl
ntp_back ntp.DnsResolutionError = refl
ntp_back ntp.ConnectionError = refl
ntp_back ntp.ServiceResponseError = refl
ntp_back ntp.ServiceResponseTimeout = refl

abbrev status_of : ℕ → StatusCode
status_of n = cond (eqb n 100) status.Continue (cond (eqb n 200) status.Ok (cond (eqb n 206) status.PartialContent (cond (eqb n 400) status.BadRequest (cond (eqb n 404) status.NotFound (cond (eqb n 408) status.RequestTimeout (cond (eqb n 500) status.InternalServerError (cond (eqb n 600) status.NotHttpPdu (cond (eqb n 601) status.NetworkError (cond (eqb n 602) status.NoMemory (cond (eqb n 603) status.DnsError (cond (eqb n 604) status.StackBusy (cond (eqb n 620) status.SslContinue (status.OtherErrors)))))))))))))

status_back : (m : StatusCode) → status_of (Httptofs.status_number m) ≡ m
status_back status.Continue = refl
status_back status.Ok = refl
status_back status.PartialContent = refl
status_back status.BadRequest = refl
status_back status.NotFound = refl
status_back status.RequestTimeout = refl
status_back status.InternalServerError = refl
status_back status.NotHttpPdu = refl
status_back status.NetworkError = refl
status_back status.NoMemory = refl
status_back status.DnsError = refl
status_back status.StackBusy = refl
status_back status.SslContinue = refl
status_back status.OtherErrors = refl

-- what the readers read
abbrev place : Span → Place
place p = record { start = p.start; end = p.end }

abbrev fault_of : Fault → SimError
fault_of generic = fault.Generic
fault_of (cme n) = fault.CmeErr n
fault_of (cms n) = fault.CmsErr n

fault_back : (e : SimError) → fault_of (Generic.fault_says e) ≡ e
fault_back fault.Generic = refl
fault_back (fault.CmeErr n) = refl
fault_back (fault.CmsErr n) = refl

abbrev ok_of : Mark → GenericOk
ok_of m = record {}

abbrev prompt_of : Mark → WritePrompt
prompt_of m = record {}

abbrev close_of : ℕ → CloseOk
close_of n = record { connection = n }

abbrev card_of : Card → Iccid
card_of c = record { country = c.country; issuer = c.issuer; account = c.account }

abbrev level : Option Float → Std.Option Float
level = option Std.Some Std.None (λ x. x)

abbrev signal_of : Signal → SignalQuality
signal_of g = record { signal_strength = level g.strength; signal_quality = level g.quality }

signal_back : (q : SignalQuality) → signal_of (Csq.signal_says q) ≡ q
signal_back q = rw (back_option q.signal_strength, back_option q.signal_quality)

abbrev system_of : System → SystemInfo
system_of i = record { system_mode = system_mode_of i.system_mode; operation_mode = operation_mode_of i.operation_mode }

system_back : (i : SystemInfo) → system_of (Cpsi.info_says i) ≡ i
system_back i = rw (system_mode_back i.system_mode, operation_mode_back i.operation_mode)

abbrev name_of : Name → TextAt
name_of (in_line p) = N.InLine (place p)
name_of (in_fallback p) = N.InFallback (place p)

name_back : (x : TextAt) → name_of (Cops.name_says x) ≡ x
name_back (N.InLine p) = refl
name_back (N.InFallback p) = refl

abbrev operator_of : Operator → OperatorInfo
operator_of i = record { mode = operator_mode_of i.mode; format = operator_format_of i.format; operator_name = name_of i.name }

operator_back : (i : OperatorInfo) → operator_of (Cops.info_says i) ≡ i
operator_back i = rw (operator_mode_back i.mode, operator_format_back i.format, name_back i.operator_name)

abbrev time_place : Option Span → Std.Option Place
time_place = option Std.Some Std.None place

time_place_back : (x : Std.Option Place) → time_place (Cntp.time_says x) ≡ x
time_place_back Std.None = refl
time_place_back (Std.Some p) = refl

abbrev time_of : NetTime → NetworkTime
time_of t = record { code = ntp_of t.code; time = time_place t.time }

time_back : (t : NetworkTime) → time_of (Cntp.info_says t) ≡ t
time_back t = rw (ntp_back t.code, time_place_back t.time)

abbrev download_of : Download → DownloadInfo
download_of d = record { status_code = status_of d.status; data_length = d.size }

download_back : (d : DownloadInfo) → download_of (Httptofs.info_says d) ≡ d
download_back d = rw (status_back d.status_code)

abbrev imei_of : Identity → Imei
imei_of i = record { imei = place i.digits; is_version_number = i.is_version_number }

abbrev message_of : Span → SmsMessage
message_of p = record { sender = place p }

-- and so the answers
-- one answer: generic_response::GenericOk::from_line
pub one_ok : (line : List ℕ) (a b : Result GenericOk Refusal) → GenericOkKeeps line a → GenericOkKeeps line b → a ≡ b
one_ok line a b = one_reading Generic.ok_mark ok_of (λ v. refl) a b _

-- one answer: generic_response::SimError::from_line
pub one_error : (line : List ℕ) (a b : Result SimError Refusal) → SimErrorKeeps line a → SimErrorKeeps line b → a ≡ b
one_error line a b = one_reading Generic.fault_says fault_of fault_back a b _

-- one answer: generic_response::WritePrompt::from_line
pub one_prompt : (line : List ℕ) (a b : Result WritePrompt Refusal) → WritePromptKeeps line a → WritePromptKeeps line b → a ≡ b
one_prompt line a b = one_reading Generic.prompt_mark prompt_of (λ v. refl) a b _

-- one answer: generic_response::CloseOk::from_line
pub one_close : (line : List ℕ) (a b : Result CloseOk Refusal) → CloseOkKeeps line a → CloseOkKeeps line b → a ≡ b
one_close line a b = one_reading Generic.connection_says close_of (λ v. refl) a b _

-- one answer: ccid::Iccid::from_line
pub one_iccid : (line : List ℕ) (a b : Result Iccid Refusal) → IccidKeeps line a → IccidKeeps line b → a ≡ b
one_iccid line a b = one_reading Ccid.card_says card_of (λ v. refl) a b _

-- one answer: csq::SignalQuality::from_line
pub one_signal : (line : List ℕ) (a b : Result SignalQuality Refusal) → SignalQualityKeeps line a → SignalQualityKeeps line b → a ≡ b
one_signal line a b = one_reading Csq.signal_says signal_of signal_back a b _

-- one answer: cpsi::SystemInfo::from_line
pub one_system : (line : List ℕ) (a b : Result SystemInfo Refusal) → SystemInfoKeeps line a → SystemInfoKeeps line b → a ≡ b
one_system line a b = one_reading Cpsi.info_says system_of system_back a b _

-- one answer: cops::OperatorInfo::from_line
pub one_operator : (line format_fallback name_fallback : List ℕ) (a b : Result OperatorInfo Refusal) → OperatorInfoKeeps line format_fallback name_fallback a → OperatorInfoKeeps line format_fallback name_fallback b → a ≡ b
one_operator line format_fallback name_fallback a b = one_reading Cops.info_says operator_of operator_back a b _

-- one answer: cntp::NetworkTime::from_line
pub one_time : (line : List ℕ) (a b : Result NetworkTime Refusal) → NetworkTimeKeeps line a → NetworkTimeKeeps line b → a ≡ b
one_time line a b = one_reading Cntp.info_says time_of time_back a b _

-- one answer: httptofs::DownloadInfo::from_line
pub one_download : (line : List ℕ) (a b : Result DownloadInfo Refusal) → DownloadInfoKeeps line a → DownloadInfoKeeps line b → a ≡ b
one_download line a b = one_reading Httptofs.info_says download_of download_back a b _

-- one answer: gsn::Imei::from_line
pub one_imei : (line : List ℕ) (a b : Result Imei Refusal) → ImeiKeeps line a → ImeiKeeps line b → a ≡ b
one_imei line a b = one_reading Gsn.imei_says imei_of (λ v. refl) a b _

-- one answer: cmgf::SmsMessageFormat::from_line
pub one_format : (line : List ℕ) (a b : Result SmsMessageFormat Refusal) → SmsMessageFormatKeeps line a → SmsMessageFormatKeeps line b → a ≡ b
one_format line a b = one_reading Cmgf.format_number format_of format_back a b _

-- one answer: cmgr::SmsMessage::from_line
pub one_message : (line : List ℕ) (a b : Result SmsMessage Refusal) → SmsMessageKeeps line a → SmsMessageKeeps line b → a ≡ b
one_message line a b = one_reading Cmgr.message_says message_of (λ v. refl) a b _

abbrev pub code_of : Response → ResponseCode
code_of (ok x) = R.Ok (ok_of x)
code_of (error x) = R.Error (fault_of x)
code_of (prompt x) = R.WritePrompt (prompt_of x)
code_of (close_ok x) = R.CloseOk (close_of x)
code_of (iccid x) = R.Iccid (card_of x)
code_of (signal x) = R.SignalQuality (signal_of x)
code_of (system x) = R.SystemInfo (system_of x)
code_of (operator x) = R.OperatorInfo (operator_of x)
code_of (time x) = R.NetworkTime (time_of x)
code_of (download x) = R.DownloadInfo (download_of x)
code_of (imei x) = R.Imei (imei_of x)
code_of (format x) = R.SmsMessageFormat (format_of x)
code_of (message x) = R.SmsMessage (message_of x)

pub code_back : (c : ResponseCode) → code_of (Response.code_says c) ≡ c
code_back (R.Ok x) = refl
code_back (R.Error x) = ap R.Error (fault_back x)
code_back (R.WritePrompt x) = refl
code_back (R.CloseOk x) = refl
code_back (R.Iccid x) = refl
code_back (R.SignalQuality x) = ap R.SignalQuality (signal_back x)
code_back (R.SystemInfo x) = ap R.SystemInfo (system_back x)
code_back (R.OperatorInfo x) = ap R.OperatorInfo (operator_back x)
code_back (R.NetworkTime x) = ap R.NetworkTime (time_back x)
code_back (R.DownloadInfo x) = ap R.DownloadInfo (download_back x)
code_back (R.Imei x) = refl
code_back (R.SmsMessageFormat x) = ap R.SmsMessageFormat (format_back x)
code_back (R.SmsMessage x) = refl

-- one answer: ResponseCode::from_line
pub one_response : (line : List ℕ) (a b : Result ResponseCode Refusal) → ResponseCodeKeeps line a → ResponseCodeKeeps line b → a ≡ b
one_response line a b = one_reading Response.code_says code_of code_back a b _

-- one answer: straight::read_at
pub one_response_at : (place : ℕ) (line : List ℕ) (a b : Result ResponseCode Refusal) → ResponseAtKeeps place line a → ResponseAtKeeps place line b → a ≡ b
one_response_at place line a b = one_reading Response.code_says code_of code_back a b _

-- the status of a download
abbrev success_of : Option ℕ → Result Unit StatusCode
success_of none = Ok tt
success_of (some n) = Err (status_of n)

success_back : (r : Result Unit StatusCode) → success_of (Httptofs.success_says r) ≡ r
success_back (Ok v) = refl
success_back (Err c) = ap Err (status_back c)

-- one answer: httptofs::StatusCode::success
pub one_success : (code : StatusCode) (a b : Result Unit StatusCode) → SuccessKeeps code a → SuccessKeeps code b → a ≡ b
one_success code a b = one_answer Httptofs.success_says success_of success_back a b _
