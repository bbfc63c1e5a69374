-- Commands as the Rust writes them, and the order of the refusals, each computed.
use mathlib.Core.Path.{◌≡◌, refl}
use mathlib.Core.List.{[], ◌∷◌, ◌++◌}
use lib.ListN.{length, replicate}
use Rattle.text.specs.Bytes.{bytes}
use Rattle.text.specs.Reading.{read, refused}
use Rattle.at_command.specs.Piece.{quoted, digits_up_to, decimal}
use Rattle.at_command.specs.Request.{set_manual_operator, synchronize_network_time, download_to_file_system, set_sms_message_format, read_sms, command_of, encode_reading}

operator : command_of (set_manual_operator (bytes "64304")) ≡ bytes "AT+COPS=1,2,\"64304\"\r"
operator = refl

time : command_of (synchronize_network_time (bytes "pool.ntp.org") 0 255) ≡ bytes "AT+CNTP=\"pool.ntp.org\",0,255\r"
unfolding quoted digits_up_to decimal
time = refl

most : command_of (synchronize_network_time [] 65535 10) ≡ bytes "AT+CNTP=\"\",65535,10\r"
unfolding quoted digits_up_to decimal
most = refl

download : command_of (download_to_file_system (bytes "http://a/\"b\"") (bytes "C:\\x")) ≡ bytes "AT+HTTPTOFS=\"http://a/\\\"b\\\"\",\"C:\\\\x\"\r"
unfolding quoted
download = refl

text_format : command_of (set_sms_message_format 1) ≡ bytes "AT+CMGF=1\r"
unfolding digits_up_to decimal
text_format = refl

sms : command_of (read_sms 100) ≡ bytes "AT+CMGR=100\r"
unfolding digits_up_to decimal
sms = refl

-- as long as any (proofs/Commands.antt: command_size)
longest : length (command_of (download_to_file_system (replicate 64 34) (replicate 32 34))) ≡ 210
unfolding quoted
longest = refl

-- 5 over both texts, before 6 over both, before 7
second_long : encode_reading (download_to_file_system (bytes "\n") (replicate 33 97)) 0 ≡ refused 5
second_long = refl

second_unfit : encode_reading (download_to_file_system (bytes "a") (127 ∷ [])) 0 ≡ refused 6
second_unfit = refl

no_room : encode_reading (set_manual_operator (bytes "64304")) 19 ≡ refused 7
no_room = refl

just_room : encode_reading (set_manual_operator (bytes "64304")) 20 ≡ read (bytes "AT+COPS=1,2,\"64304\"\r")
just_room = refl

-- an operator number has five or six digits: else 12, after 5, before 6 and before 7; another text need be none
six : encode_reading (set_manual_operator (bytes "310410")) 21 ≡ read (bytes "AT+COPS=1,2,\"310410\"\r")
six = refl

clerk : encode_reading (set_manual_operator (bytes "64304\"")) 256 ≡ refused 12
clerk = refl

empty : encode_reading (set_manual_operator []) 256 ≡ refused 12
empty = refl

four : encode_reading (set_manual_operator (bytes "6430")) 0 ≡ refused 12
four = refl

seven : encode_reading (set_manual_operator (bytes "6430412")) 256 ≡ refused 5
seven = refl

nul : encode_reading (set_manual_operator (bytes "64304" ++ 0 ∷ [])) 256 ≡ refused 12
nul = refl

nuls : encode_reading (set_manual_operator (replicate 7 0)) 0 ≡ refused 5
nuls = refl

server : encode_reading (synchronize_network_time (bytes "6430\"") 0 1) 256 ≡ read (bytes "AT+CNTP=\"6430\\\"\",0,1\r")
unfolding quoted digits_up_to decimal
server = refl
