-- The requests: what each sends, which it refuses, what it awaits (the `AtRequest` of each Rust file; TS 27.007 and 27.005).
use Rattle.std.specs.Prelude.{ℕ, ◌^◌, ◌<◌, ◌≡◌, Bool, true, false, cond, not, ◌&&◌, ◌||◌, List, [], ◌∷◌, ◌++◌, eqb, ltb, length, drop}
use Rattle.text.specs.Bytes.{bytes, within, all_within, all_digits}
use Rattle.text.specs.Reading.{Reading, read, refused, mapped}
use Rattle.at_command.specs.Kind.{Kind, generic_ok, iccid, signal_quality, system_info, operator_info, network_time, download_info, imei, sms_message_format, sms_message}
use Rattle.at_command.specs.Piece.{quoted, decimal}

-- a request, with its texts and numbers
pub data Asked : Type 0 where
  get_signal_quality : Asked
  show_iccid : Asked
  get_imei : Asked
  get_operator_info : Asked
  set_manual_operator : (plmn : List ℕ) → Asked
  set_automatic_operator : Asked
  get_system_info : Asked
  synchronize_network_time : (server : List ℕ) → (timezone cid : ℕ) → Asked
  execute : Asked
  download_to_file_system : (url path : List ℕ) → Asked
  get_sms_message_format : Asked
  set_sms_message_format : (format : ℕ) → Asked
  read_sms : (index : ℕ) → Asked

-- its numbers are of the Rust's types: a timezone is a u16, a cid and an index are each a u8, and a format is 0 or 1
abbrev pub Numbers : Asked → Type 0
Numbers get_signal_quality = Unit {0}
Numbers show_iccid = Unit {0}
Numbers get_imei = Unit {0}
Numbers get_operator_info = Unit {0}
Numbers (set_manual_operator plmn) = Unit {0}
Numbers set_automatic_operator = Unit {0}
Numbers get_system_info = Unit {0}
Numbers (synchronize_network_time server timezone cid) = (timezone < 2 ^ 16) × (cid < 2 ^ 8)
Numbers execute = Unit {0}
Numbers (download_to_file_system url path) = Unit {0}
Numbers get_sms_message_format = Unit {0}
Numbers (set_sms_message_format format) = format < 2
Numbers (read_sms index) = index < 2 ^ 8

-- what it sends, up to the CR that ends every command line (V.250, 5.2.1)
abbrev pub body_of : Asked → List ℕ
body_of get_signal_quality = bytes "AT+CSQ"
body_of show_iccid = bytes "AT+CCID"
body_of get_imei = bytes "AT+GSN"
body_of get_operator_info = bytes "AT+COPS?"
body_of (set_manual_operator plmn) = bytes "AT+COPS=1,2,\"" ++ plmn ++ bytes "\""
body_of set_automatic_operator = bytes "AT+COPS=0"
body_of get_system_info = bytes "AT+CPSI?"
body_of (synchronize_network_time server timezone cid) = bytes "AT+CNTP=" ++ quoted server ++ bytes "," ++ decimal timezone ++ bytes "," ++ decimal cid
body_of execute = bytes "AT+CNTP"
body_of (download_to_file_system url path) = bytes "AT+HTTPTOFS=" ++ quoted url ++ bytes "," ++ quoted path
body_of get_sms_message_format = bytes "AT+CMGF?"
body_of (set_sms_message_format format) = bytes "AT+CMGF=" ++ decimal format
body_of (read_sms index) = bytes "AT+CMGR=" ++ decimal index

abbrev pub command_of : Asked → List ℕ
command_of a = body_of a ++ bytes "\r"

-- a good operator number: five or six ASCII digits (document 02, CR 2)
abbrev pub operator_number : List ℕ → Bool
operator_number t = within 5 6 (length t) && all_digits t

-- a text of a request, the most bytes that it may have, and whether it is to be an operator number
pub record Text : Type 0 where
  pub most : ℕ
  pub operator : Bool
  pub text : List ℕ

abbrev pub up_to : ℕ → List ℕ → Text
up_to n t = record { most = n; operator = false; text = t }

abbrev pub operator_up_to : ℕ → List ℕ → Text
operator_up_to n t = record { most = n; operator = true; text = t }

-- the texts of a request, with the limits of refusal 5 (document 01, "Refusal numbers"); a plmn alone is to be an operator number (document 02, CR 2)
abbrev pub texts_of : Asked → List Text
texts_of get_signal_quality = []
texts_of show_iccid = []
texts_of get_imei = []
texts_of get_operator_info = []
texts_of (set_manual_operator plmn) = operator_up_to 6 plmn ∷ []
texts_of set_automatic_operator = []
texts_of get_system_info = []
texts_of (synchronize_network_time server timezone cid) = up_to 64 server ∷ []
texts_of execute = []
texts_of (download_to_file_system url path) = up_to 64 url ∷ up_to 32 path ∷ []
texts_of get_sms_message_format = []
texts_of (set_sms_message_format format) = []
texts_of (read_sms index) = []

-- a text is too long
abbrev pub any_long : List Text → Bool
any_long [] = false
any_long (t ∷ ts) = ltb t.most (length t.text) || any_long ts

-- a text that is to be an operator number is none
abbrev pub any_bad_operator : List Text → Bool
any_bad_operator [] = false
any_bad_operator (t ∷ ts) = (t.operator && not (operator_number t.text)) || any_bad_operator ts

-- a text has a byte outside 32 to 126
abbrev pub any_unfit : List Text → Bool
any_unfit [] = false
any_unfit (t ∷ ts) = not (all_within 32 126 t.text) || any_unfit ts

-- the refusal of texts, 0 where they are good: 5, 12 and 6, each over all texts before the next (document 01, "Refusal numbers"; document 02, CR 2)
abbrev pub refusal_of : List Text → ℕ
refusal_of ts = cond (any_long ts) 5 (cond (any_bad_operator ts) 12 (cond (any_unfit ts) 6 0))

-- a command for a buffer with room for so many bytes
abbrev pub fitting : List ℕ → ℕ → Reading (List ℕ)
fitting command room = cond (ltb room (length command)) (refused 7) (read command)

-- the command that is written, or the refusal: that of its texts, then 7
abbrev pub encode_reading : Asked → ℕ → Reading (List ℕ)
encode_reading a room = cond (eqb (refusal_of (texts_of a)) 0) (fitting (command_of a) room) (refused (refusal_of (texts_of a)))

-- the output buffer afterwards: the command fills its front, and a refusal leaves it as it was
abbrev pub written : Reading (List ℕ) → List ℕ → List ℕ
written (read command) out = command ++ drop (length command) out
written (refused k) out = out

-- what a call that writes answers, the command's size or the refusal, and what it leaves in the buffer
pub record LeavesWritten (w : Reading (List ℕ)) (before : List ℕ) (answer : Reading ℕ) (after : List ℕ) : Type 0 where
  pub says : answer ≡ mapped length w
  pub holds : after ≡ written w before

abbrev pub Writes : Asked → List ℕ → Reading ℕ → List ℕ → Type 0
Writes a before = LeavesWritten (encode_reading a (length before)) before

-- the answers that it awaits: the `Response` of the Rust, in order
abbrev pub answers_to : Asked → List Kind
answers_to get_signal_quality = signal_quality ∷ generic_ok ∷ []
answers_to show_iccid = iccid ∷ generic_ok ∷ []
answers_to get_imei = imei ∷ generic_ok ∷ []
answers_to get_operator_info = operator_info ∷ generic_ok ∷ []
answers_to (set_manual_operator plmn) = generic_ok ∷ []
answers_to set_automatic_operator = generic_ok ∷ []
answers_to get_system_info = system_info ∷ generic_ok ∷ []
answers_to (synchronize_network_time server timezone cid) = generic_ok ∷ []
answers_to execute = generic_ok ∷ network_time ∷ []
answers_to (download_to_file_system url path) = generic_ok ∷ download_info ∷ []
answers_to get_sms_message_format = sms_message_format ∷ generic_ok ∷ []
answers_to (set_sms_message_format format) = generic_ok ∷ []
answers_to (read_sms index) = sms_message ∷ generic_ok ∷ []
