-- The kinds of response, in the Rust's order of trial (document 01, "What the port takes").
use Rattle.std.specs.Prelude.{ℕ, List, [], ◌∷◌, get_or}

pub data Kind : Type 0 where
  generic_ok : Kind
  sim_error : Kind
  write_prompt : Kind
  close_ok : Kind
  iccid : Kind
  signal_quality : Kind
  system_info : Kind
  operator_info : Kind
  network_time : Kind
  download_info : Kind
  imei : Kind
  sms_message_format : Kind
  sms_message : Kind

-- the place of a kind, counted from 0: that of its reader in the order of trial (specs/Response.antt: readings; proofs/KindPlaces.antt)
abbrev pub place_of : Kind → ℕ
place_of generic_ok = 0
place_of sim_error = 1
place_of write_prompt = 2
place_of close_ok = 3
place_of iccid = 4
place_of signal_quality = 5
place_of system_info = 6
place_of operator_info = 7
place_of network_time = 8
place_of download_info = 9
place_of imei = 10
place_of sms_message_format = 11
place_of sms_message = 12

-- and the kind at a place; past the last, the last
abbrev pub kinds : List Kind
kinds =
    generic_ok
    ∷ sim_error
    ∷ write_prompt
    ∷ close_ok
    ∷ iccid
    ∷ signal_quality
    ∷ system_info
    ∷ operator_info
    ∷ network_time
    ∷ download_info
    ∷ imei
    ∷ sms_message_format
    ∷ sms_message
    ∷ []

unfoldable pub kind_at : ℕ → Kind
kind_at k = get_or kinds k sms_message
