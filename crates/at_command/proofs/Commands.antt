-- Every command: how it begins, how many bytes it has at most, and that they are printable up to the CR. And what a writer that gives one has found of its texts
-- and its buffer. A modem with echo on sends these lines back, and no reader is to accept one (document 02, CR 4; trial/proofs/Commands.antt). Assumes nothing.
use mathlib.Core.Path.{◌≡◌, refl, sym, ◌∙◌}
use mathlib.Core.Bool.{Bool, true, false, cond}
use mathlib.Core.List.{List, [], ◌∷◌}
use Prim.Native.Nat.{ℕ, ◌≤◌}
use native.Mathlib.Omega.{arith}
use lib.Dec.{eqb, ltb, leb}
use lib.ListN.{length, length-append}
use lib.Seq.{take_all}
use borrow.Author.Tests.{eqb-true, leb-true, ltb-false}
use denote.Laws.{Is}
use denote.Enum.Declared.{row}
use denote.Enum.Laws.{val, owed}
use Rattle.text.specs.Bytes.{bytes, starts_with, within, all_within}
use Rattle.text.specs.Reading.{Reading, read, refused}
use Rattle.text.proofs.Ascii.{within_append, within_wider, digits_printable}
use Rattle.text.proofs.Begins.{begins_size, starts_in}
use Rattle.text.proofs.Tests.{never, and_left, and_right}
use Rattle.at_command.specs.Piece.{marked, escape, escaped, quoted, decimal}
use Rattle.at_command.specs.Request.{Asked, get_signal_quality, show_iccid, get_imei, get_operator_info, set_manual_operator, set_automatic_operator, get_system_info, synchronize_network_time, execute, download_to_file_system, get_sms_message_format, set_sms_message_format, read_sms, Numbers, body_of, command_of, up_to, operator_up_to, texts_of, any_long, any_unfit, refusal_of, fitting, encode_reading, LeavesWritten, Writes}
use Rattle.at_command.specs.says.Request.{asked}
use Rattle.at_command.specs.declared.cmgf.SmsMessageFormat.TheVariants.{Pdu, Text}
use Rattle.at_command.specs.declared.request.Request.{Request}
use Rattle.at_command.specs.declared.request.Request.TheVariants as R
use Rattle.at_command.proofs.Decimals.{decimal_most}
use Rattle.at_command.proofs.DecimalReads.{decimal_digits}
use Rattle.at_command.proofs.Pieces.{Holds}
use Rattle.at_command.proofs.QuotedSizes.{quoted_most}
use Rattle.at_command.proofs.Writing.{limited, fitted, Faultless, no_fault, past_texts}
use Rattle.at_command.specs.contracts.request.Request.{the_type}
use Rattle.at_command.proofs.request.Request.TheLaws.{the_laws}

-- ---- the pieces

escape_printable : (x : ℕ) → within 32 126 x ≡ true → all_within 32 126 (escape x) ≡ true
escape_printable x e = go (marked x)
  where
    go : (b : Bool) → all_within 32 126 (cond b (92 ∷ x ∷ []) (x ∷ [])) ≡ true
    go true = rw e
    go false = rw e

escaped_printable : (t : List ℕ) → all_within 32 126 t ≡ true → all_within 32 126 (escaped t) ≡ true
escaped_printable [] e = refl
escaped_printable (x ∷ t) e = rw (within_append 32 126 (escape x) (escaped t), escape_printable x (and_left _ _ e)) (escaped_printable t (and_right (within 32 126 x) _ e))

quoted_printable : (t : List ℕ) → all_within 32 126 t ≡ true → all_within 32 126 (quoted t) ≡ true
unfolding quoted
quoted_printable t e = rw (within_append 32 126 (escaped t) (bytes "\""), escaped_printable t e)

decimal_printable : (n : ℕ) → all_within 32 126 (decimal n) ≡ true
decimal_printable n = digits_printable (decimal n) (decimal_digits n)

-- ---- the commands

record Command (a : Asked) : Type 0 where
  begins : starts_with (bytes "AT+") (body_of a) ≡ true
  size : Numbers a → any_long (texts_of a) ≡ false → length (body_of a) ≤ 209
  printable : any_unfit (texts_of a) ≡ false → all_within 32 126 (body_of a) ≡ true

-- one that is the same whatever is asked
fixed : (a : Asked) → starts_with (bytes "AT+") (body_of a) ≡ true → leb (length (body_of a)) 209 ≡ true → all_within 32 126 (body_of a) ≡ true → Command a
fixed a b s p = record { begins = b; size = λ n h. leb-true (length (body_of a)) 209 s; printable = λ h. p }

command : (a : Asked) → Command a
unfolding starts_with
command get_signal_quality = fixed get_signal_quality refl refl refl
command show_iccid = fixed show_iccid refl refl refl
command get_imei = fixed get_imei refl refl refl
command get_operator_info = fixed get_operator_info refl refl refl
command (set_manual_operator plmn) = record {
  begins = refl;
  size = λ n h. let l = (limited (operator_up_to 6 plmn) [] h).0 in simp length-append (omega arith);
  printable = λ h. let p = (fitted (operator_up_to 6 plmn) [] h).0 in simp (within_append, p);
}
command set_automatic_operator = fixed set_automatic_operator refl refl refl
command get_system_info = fixed get_system_info refl refl refl
command (synchronize_network_time server timezone cid) = record {
  begins = refl;
  size = λ n h.
      let l = (limited (up_to 64 server) [] h).0 in
      let q = quoted_most server in
      let t = decimal_most 4 timezone (omega arith) in
      let c = decimal_most 2 cid (omega arith) in
      simp length-append (omega arith);
  printable = λ h. let p = quoted_printable server (fitted (up_to 64 server) [] h).0 in simp (within_append, p, decimal_printable);
}
command execute = fixed execute refl refl refl
command (download_to_file_system url path) = record {
  begins = refl;
  size = λ n h.
      let l = limited (up_to 64 url) (up_to 32 path ∷ []) h in
      let k = (limited (up_to 32 path) [] l.1).0 in
      let q = quoted_most url in
      let r = quoted_most path in
      simp length-append (omega arith);
  printable = λ h.
      let f = fitted (up_to 64 url) (up_to 32 path ∷ []) h in
      let p = quoted_printable url f.0 in
      let q = quoted_printable path (fitted (up_to 32 path) [] f.1).0 in
      simp (within_append, p, q);
}
command get_sms_message_format = fixed get_sms_message_format refl refl refl
command (set_sms_message_format format) = record {
  begins = refl;
  size = λ n h. let t = decimal_most 0 format (omega arith) in simp length-append (omega arith);
  printable = λ h. decimal_printable format;
}
command (read_sms index) = record {
  begins = refl;
  size = λ n h. let t = decimal_most 2 index (omega arith) in simp length-append (omega arith);
  printable = λ h. decimal_printable index;
}

module _ (a : Asked) where
  pub body_begins : starts_with (bytes "AT+") (body_of a) ≡ true
  body_begins = (command a).begins

  -- so the body is not empty, nor the command
  pub body_some : 3 ≤ length (body_of a)
  body_some = begins_size (bytes "AT+") (body_of a) body_begins

  pub command_begins : starts_with (bytes "AT+") (command_of a) ≡ true
  command_begins = starts_in (bytes "AT+") (body_of a) (bytes "\r") body_some ∙ body_begins

  -- 210 is "AT+HTTPTOFS=" with texts of 64 and of 32 quotes, and its CR (RequestExamples.antt: longest)
  module _ (numbers : Numbers a) (short : any_long (texts_of a) ≡ false) where
    pub body_size : length (body_of a) ≤ 209
    body_size = (command a).size numbers short

    pub command_size : length (command_of a) ≤ 210
    command_size = let s = body_size in let z = length-append (body_of a) (bytes "\r") in omega arith

  module _ (fit : any_unfit (texts_of a) ≡ false) where
    pub command_printable : all_within 32 126 (body_of a) ≡ true
    command_printable = (command a).printable fit

    pub body_ascii : all_within 0 0x7F (body_of a) ≡ true
    body_ascii = within_wider 32 126 0 0x7F (omega arith) (omega arith) (body_of a) command_printable

    pub command_ascii : all_within 0 0x7F (command_of a) ≡ true
    command_ascii = rw (within_append 0 0x7F (body_of a) (bytes "\r"), body_ascii)

-- ---- what is written

-- the 210 bytes that `Command` has room for hold it whole: a writer whose texts are good sends it
pub sends : (a : Asked) (b c : List ℕ) (w : Reading ℕ) (x : List ℕ) → Numbers a → 0 ≡ refusal_of (texts_of a) → Holds c (command_of a) → LeavesWritten (fitting c (length b)) b w x → Writes a b w x
sends a b c w x numbers is h p =
    let whole = take_all 210 (command_of a) (command_size a numbers (no_fault (texts_of a) (sym is)).short) in
    past_texts a b is w x (rw (sym (h.is ∙ whole)) p)

-- ---- what was written

-- a writer gives the command, and only where the texts are good and the buffer has room
pub record Gave (a : Asked) (room : ℕ) (w : List ℕ) : Type 0 where
  pub is : w ≡ command_of a
  pub texts : Faultless (texts_of a)
  pub fits : length w ≤ room

pub encode_gives : (a : Asked) (room : ℕ) {w : List ℕ} → encode_reading a room ≡ read w → Gave a room w
encode_gives a room {w} =
    go (eqb (refusal_of (texts_of a)) 0) (ltb room (length (command_of a))) (λ e. no_fault (texts_of a) (eqb-true _ 0 e)) (ltb-false room (length (command_of a)))
  where
    go : (t r : Bool) → (t ≡ true → Faultless (texts_of a)) → (r ≡ false → length (command_of a) ≤ room)
        → cond t (cond r (refused 7) (read (command_of a))) (refused (refusal_of (texts_of a))) ≡ read w → Gave a room w
    go false r g f e = never (cc)
    go true true g f e = never (cc)
    go true false g f e = let z : w ≡ command_of a = cc in record { is = z; texts = g refl; fits = rw z (f refl) }

-- the code's requests have such numbers: the premise is what owning a parameter of type `Request` tells, its part of `c.good` at a function's start
pub request_numbers : (q : Request) (first second : List ℕ) → Is (row the_type) q (val the_type the_laws q ∷ []) → Numbers (asked q first second)
request_numbers R.GetSignalQuality first second h = tt
request_numbers R.ShowIccid first second h = tt
request_numbers R.GetImei first second h = tt
request_numbers R.GetOperatorInfo first second h = tt
request_numbers R.SetManualOperator first second h = tt
request_numbers R.SetAutomaticOperator first second h = tt
request_numbers R.GetSystemInfo first second h = tt
request_numbers (R.SynchronizeNetworkTime timezone cid) first second h = let k = owed the_type the_laws (R.SynchronizeNetworkTime timezone cid) _ h in omega arith
request_numbers R.Execute first second h = tt
request_numbers R.DownloadToFileSystem first second h = tt
request_numbers R.GetSmsMessageFormat first second h = tt
request_numbers (R.SetSmsMessageFormat Pdu) first second h = omega arith
request_numbers (R.SetSmsMessageFormat Text) first second h = omega arith
request_numbers (R.ReadSms index) first second h = let k = owed the_type the_laws (R.ReadSms index) _ h in omega arith
