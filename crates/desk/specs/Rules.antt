-- The rules for a desk's bytes, with no buffer and no chunk: the lines of the bytes, each judged by the command that was opened, and numbered (document 01, "The
-- desk (added)"; document 02, CR 4 and 7).
use Rattle.std.specs.Prelude.{ℕ, List, []}
use Rattle.at_command.specs.Request.{Asked, command_of, answers_to}
use Rattle.desk.specs.Cut.{View, held}
use Rattle.trial.specs.Sort.{line_sort}
use Rattle.desk.specs.Machine.{Machine, Judging, judged, judge_all}
use Rattle.desk.specs.Ordinal.{Numbered, number}
use Rattle.desk.specs.Lines.{cutter, lines_of}
use Rattle.desk.specs.Judge.{Seen, Command, awaiting, echoing, judge}

-- a command is opened in plain mode, or in echo mode for a modem with echo on
pub data Mode : Type 0 where
  plain_mode : Mode
  echo_mode : Mode

-- what the command of a request awaits once it is opened: its answers, and in echo mode its own bytes before them
abbrev pub command_for : Mode → Asked → Command
command_for plain_mode a = awaiting (answers_to a)
command_for echo_mode a = echoing (command_of a) (answers_to a)

-- the events of these bytes, after a command was opened: one for each line that is not empty
abbrev pub events_of : Command → List ℕ → List Seen
events_of c bytes = judge_all (judge line_sort) c (lines_of bytes)

-- and with the ordinals of their lines, counted from the opening on
abbrev pub rules_of : Command → List ℕ → List (Numbered Seen)
rules_of c bytes = number 0 (events_of c bytes)

-- ---- the same as a machine, the ordinals left aside: what is held of the line that is coming, and the command

abbrev pub Plain : Type 0
Plain = Judging View Command

abbrev pub plain : Machine Plain Seen
plain = judged (judge line_sort) cutter

-- nothing is held, and this command is open
abbrev pub fresh : Command → Plain
fresh c = record { wire = held []; command = c }
