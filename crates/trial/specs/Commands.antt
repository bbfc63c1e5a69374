-- What a modem with echo on sends back is no line that a reader accepts (document 02, CR 4): so an echo stands in place of nothing but a stray.
use Rattle.std.specs.Prelude.{ℕ, ◌≡◌, List, replicate}
use Rattle.text.specs.Line.{line_check}
use Rattle.text.specs.Reading.{read, refused}
use Rattle.at_command.specs.Cops.{cops_text}
use Rattle.at_command.specs.Request.{Asked, Numbers, body_of, encode_reading}
use Rattle.trial.specs.Answer.{all_readings}

-- the line gets neither refusal 1 nor 2, and each of the seventeen readers refuses it with 3, that of +COPS whatever fallbacks are lent to it
pub record NoneReads (l : List ℕ) : Type 0 where
  pub passes : line_check l ≡ 0
  pub refuse : all_readings l ≡ replicate 17 (refused 3)
  pub operator : (format name : List ℕ) → cops_text format name l ≡ refused 3

-- no command that a writer gives is accepted by any reader, with its CR, w, or without it, `body_of a`
abbrev pub CommandsUnread : Type 0
CommandsUnread = (a : Asked) (room : ℕ) (w : List ℕ) → Numbers a → encode_reading a room ≡ read w → NoneReads w × NoneReads (body_of a)
