-- No second answer meets the contract of a request's writer, nor another final content of the buffer, for any of the thirteen requests; and
-- none that of the awaited answers.
use mathlib.Core.Path.{◌≡◌, refl, ap, sym, ◌∙◌}
use mathlib.Core.List.{List, [], ◌∷◌}
use Prim.Native.Nat.{ℕ}
use Rattle.std.specs.Prelude.{Result}
use Rattle.text.proofs.One.{one_answer, one_reading}
use Rattle.text.specs.declared.refusal.Refusal.{Refusal}
use Rattle.at_command.specs.Kind.{Kind, generic_ok, sim_error, write_prompt, close_ok, iccid, signal_quality, system_info, operator_info, network_time, download_info, imei, sms_message_format, sms_message}
use Rattle.at_command.specs.Request.{Asked, answers_to}
use Rattle.at_command.specs.says.Request.{asked, kind_says, awaits_says, awaited_by, KindAtKeeps, EncodeKeeps, AwaitsKeeps}
use Rattle.at_command.specs.says.Response.{KindKeeps}
use Rattle.at_command.specs.declared.ResponseCode.{ResponseCode}
use Rattle.at_command.specs.declared.request.Request.{Request}
use Rattle.at_command.specs.declared.request.Request.TheVariants as R
use Rattle.at_command.specs.declared.request.ResponseKind.{ResponseKind}
use Rattle.at_command.specs.declared.request.ResponseKind.TheVariants as K
use Rattle.at_command.specs.declared.request.Awaits.{Awaits}
use Rattle.at_command.specs.declared.request.Awaits.TheVariants.{One, Two}

-- the size or the refusal, and the output buffer
-- one answer: request::Request::encode, ccid::ShowIccid::encode, cmgf::GetSmsMessageFormat::encode, cmgf::SetSmsMessageFormat::encode, cmgr::ReadSms::encode
-- one answer: cntp::Execute::encode, cntp::SynchronizeNetworkTime::encode, cops::GetOperatorInfo::encode, cops::SetAutomaticOperator::encode
-- one answer: cops::SetManualOperator::encode, cpsi::GetSystemInfo::encode, csq::GetSignalQuality::encode, gsn::GetImei::encode
-- one answer: httptofs::DownloadToFileSystem::encode
pub one_encoded : (request : Asked) (before : List ℕ) (a b : Result ℕ Refusal) (after after' : List ℕ) → EncodeKeeps request before a after → EncodeKeeps request before b after' → (a ≡ b) × (after ≡ after')
one_encoded request before a b after after' f g = (one_reading (λ n. n) (λ n. n) (λ n. refl) a b _ f.says g.says, f.holds ∙ sym g.holds)

abbrev pub kind : Kind → ResponseKind
kind generic_ok = K.GenericOk
kind sim_error = K.SimError
kind write_prompt = K.WritePrompt
kind close_ok = K.CloseOk
kind iccid = K.Iccid
kind signal_quality = K.SignalQuality
kind system_info = K.SystemInfo
kind operator_info = K.OperatorInfo
kind network_time = K.NetworkTime
kind download_info = K.DownloadInfo
kind imei = K.Imei
kind sms_message_format = K.SmsMessageFormat
kind sms_message = K.SmsMessage

pub kind_back : (k : ResponseKind) → kind (kind_says k) ≡ k
kind_back K.GenericOk = refl
kind_back K.SimError = refl
kind_back K.WritePrompt = refl
kind_back K.CloseOk = refl
kind_back K.Iccid = refl
kind_back K.SignalQuality = refl
kind_back K.SystemInfo = refl
kind_back K.OperatorInfo = refl
kind_back K.NetworkTime = refl
kind_back K.DownloadInfo = refl
kind_back K.Imei = refl
kind_back K.SmsMessageFormat = refl
kind_back K.SmsMessage = refl

-- no request awaits nothing, or more than two
abbrev awaits : List Kind → Awaits
awaits [] = One K.GenericOk
awaits (a ∷ []) = One (kind a)
awaits (a ∷ b ∷ l) = Two (kind a) (kind b)

awaits_back : (r : Awaits) → awaits (awaits_says r) ≡ r
awaits_back (One a) = ap One (kind_back a)
awaits_back (Two a b) = rw (kind_back a, kind_back b)

-- one answer: request::Request::awaits
pub one_awaits : (request : Request) (a b : Awaits) → AwaitsKeeps request a → AwaitsKeeps request b → a ≡ b
one_awaits request a b = one_answer awaits_says awaits awaits_back a b _

-- one answer: request::ResponseKind::at
pub one_kind_at : (place : ℕ) (a b : ResponseKind) → KindAtKeeps place a → KindAtKeeps place b → a ≡ b
one_kind_at place a b = one_answer kind_says kind kind_back a b _

-- one answer: ResponseCode::kind
pub one_kind : (code : ResponseCode) (a b : ResponseKind) → KindKeeps code a → KindKeeps code b → a ≡ b
one_kind code a b = one_answer kind_says kind kind_back a b _

-- what a request awaits does not depend on its texts
pub any_texts : (q : Request) (first second : List ℕ) → answers_to (asked q first second) ≡ awaited_by q
any_texts R.GetSignalQuality first second = refl
any_texts R.ShowIccid first second = refl
any_texts R.GetImei first second = refl
any_texts R.GetOperatorInfo first second = refl
any_texts R.SetManualOperator first second = refl
any_texts R.SetAutomaticOperator first second = refl
any_texts R.GetSystemInfo first second = refl
any_texts (R.SynchronizeNetworkTime timezone cid) first second = refl
any_texts R.Execute first second = refl
any_texts R.DownloadToFileSystem first second = refl
any_texts R.GetSmsMessageFormat first second = refl
any_texts (R.SetSmsMessageFormat format) first second = refl
any_texts (R.ReadSms index) first second = refl
