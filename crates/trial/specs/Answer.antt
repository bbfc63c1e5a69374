-- What a line says, by both trials in turn: the thirteen responses, then the four unsolicited (document 01, "What the port takes").
use Rattle.std.specs.Prelude.{ℕ, List, ◌++◌}
use Rattle.text.specs.Reading.{Reading, each, first_of}
use Rattle.text.specs.Line.{checked}
use Rattle.at_command.specs.Response.{Response, readings}
use Rattle.unsolicited.specs.Urc.{Unsolicited, urc_readings}

pub data Said : Type 0 where
  response : Response → Said
  unsolicited : Unsolicited → Said

-- all seventeen, in order of trial
unfoldable pub all_readings : List ℕ → List (Reading Said)
all_readings l = each response (readings l) ++ each unsolicited (urc_readings l)

-- the first that accepts; else 4 or 13 where one said so; else 3 (what a line is refused with: specs/Refusals.antt)
unfoldable pub said_text : List ℕ → Reading Said
said_text l = first_of 3 (all_readings l)

-- the line check first (1, 2)
unfoldable pub line_said : List ℕ → Reading Said
line_said l = checked said_text l
