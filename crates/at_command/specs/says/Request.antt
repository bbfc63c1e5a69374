-- What the requests and the answers of their writers say on paper.
use Rattle.std.specs.Prelude.{◌≡◌, ℕ, List, [], ◌∷◌, Result}
use Rattle.text.specs.Reading.{Reading}
use Rattle.text.specs.says.Refusal.{reading_said}
use Rattle.text.specs.declared.refusal.Refusal.{Refusal}
use Rattle.at_command.specs.Kind.{Kind, generic_ok, sim_error, write_prompt, close_ok, iccid, signal_quality, system_info, operator_info, network_time, download_info, imei, sms_message_format, sms_message, kind_at}
use Rattle.at_command.specs.Request.{Asked, get_signal_quality, show_iccid, get_imei, get_operator_info, set_manual_operator, set_automatic_operator, get_system_info, synchronize_network_time, execute, download_to_file_system, get_sms_message_format, set_sms_message_format, read_sms, Writes, answers_to}
use Rattle.at_command.specs.says.Cmgf.{format_number}
use Rattle.at_command.specs.declared.request.Request.{Request}
use Rattle.at_command.specs.declared.request.Request.TheVariants as R
use Rattle.at_command.specs.declared.request.ResponseKind.{ResponseKind}
use Rattle.at_command.specs.declared.request.ResponseKind.TheVariants as K
use Rattle.at_command.specs.declared.request.Awaits.{Awaits}
use Rattle.at_command.specs.declared.request.Awaits.TheVariants.{One, Two}

abbrev pub encoded_says : Result ℕ Refusal → Reading ℕ
encoded_says = reading_said (λ n. n)

-- the request with the lent texts, as far as it has texts
abbrev pub asked : Request → List ℕ → List ℕ → Asked
asked R.GetSignalQuality first second = get_signal_quality
asked R.ShowIccid first second = show_iccid
asked R.GetImei first second = get_imei
asked R.GetOperatorInfo first second = get_operator_info
asked R.SetManualOperator first second = set_manual_operator first
asked R.SetAutomaticOperator first second = set_automatic_operator
asked R.GetSystemInfo first second = get_system_info
asked (R.SynchronizeNetworkTime timezone cid) first second = synchronize_network_time first timezone cid
asked R.Execute first second = execute
asked R.DownloadToFileSystem first second = download_to_file_system first second
asked R.GetSmsMessageFormat first second = get_sms_message_format
asked (R.SetSmsMessageFormat f) first second = set_sms_message_format (format_number f)
asked (R.ReadSms index) first second = read_sms index

abbrev pub kind_says : ResponseKind → Kind
kind_says K.GenericOk = generic_ok
kind_says K.SimError = sim_error
kind_says K.WritePrompt = write_prompt
kind_says K.CloseOk = close_ok
kind_says K.Iccid = iccid
kind_says K.SignalQuality = signal_quality
kind_says K.SystemInfo = system_info
kind_says K.OperatorInfo = operator_info
kind_says K.NetworkTime = network_time
kind_says K.DownloadInfo = download_info
kind_says K.Imei = imei
kind_says K.SmsMessageFormat = sms_message_format
kind_says K.SmsMessage = sms_message

abbrev pub awaits_says : Awaits → List Kind
awaits_says (One a) = kind_says a ∷ []
awaits_says (Two a b) = kind_says a ∷ kind_says b ∷ []

-- the answers that the request awaits, whatever its texts
abbrev pub awaited_by : Request → List Kind
awaited_by q = answers_to (asked q [] [])

-- the contract of every writer: the size or the refusal, and the output buffer
abbrev pub EncodeKeeps : Asked → List ℕ → Result ℕ Refusal → List ℕ → Type 0
EncodeKeeps request before r after = Writes request before (encoded_says r) after

-- and of `awaits`
abbrev pub AwaitsKeeps : Request → Awaits → Type 0
AwaitsKeeps request r = awaits_says r ≡ awaited_by request

-- and of `at`
abbrev pub KindAtKeeps : ℕ → ResponseKind → Type 0
KindAtKeeps place r = kind_says r ≡ kind_at place
