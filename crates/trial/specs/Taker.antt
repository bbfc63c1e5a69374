-- Which reader takes a line: what the line says, with its value forgotten and its refusal kept (document 02, CR 6).
use Rattle.std.specs.Prelude.{ℕ, cond, List, eqb, ltb}
use Rattle.text.specs.Reading.{Reading, mapped}
use Rattle.at_command.specs.Kind.{Kind, kind_at}
use Rattle.at_command.specs.Response.{kind_of}
use Rattle.unsolicited.specs.Urc as Urc
use Rattle.trial.specs.Answer as Answer
use Rattle.trial.specs.Answer.{Said, line_said}

-- a response's kind, or one of the two unsolicited ones
pub data Taker : Type 0 where
  response : Kind → Taker
  gnss : Taker
  registration : Taker

abbrev pub taker_of : Said → Taker
taker_of (Answer.response r) = response (kind_of r)
taker_of (Answer.unsolicited (Urc.gnss r)) = gnss
taker_of (Answer.unsolicited (Urc.registration r)) = registration

unfoldable pub line_taker : List ℕ → Reading Taker
line_taker l = mapped taker_of (line_said l)

-- the reader at a place in the order of trial: thirteen responses, the report, three registrations
abbrev pub taker_at : ℕ → Taker
taker_at i = cond (ltb i 13) (response (kind_at i)) (cond (eqb i 13) gnss registration)
