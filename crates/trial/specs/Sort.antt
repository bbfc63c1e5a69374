-- What a line is to a desk: refused, a response of some kind, or unsolicited (document 01, "The desk (added)").
use Rattle.std.specs.Prelude.{ℕ, List}
use Rattle.text.specs.Reading.{Reading, mapped}
use Rattle.at_command.specs.Kind.{Kind}
use Rattle.at_command.specs.Response.{kind_of}
use Rattle.trial.specs.Answer as Answer
use Rattle.trial.specs.Answer.{Said, line_said}

pub data Sort : Type 0 where
  response : Kind → Sort
  unsolicited : Sort

abbrev pub sort_of : Said → Sort
sort_of (Answer.response r) = response (kind_of r)
sort_of (Answer.unsolicited u) = unsolicited

-- the sort of a line is the sort of what it says
unfoldable pub line_sort : List ℕ → Reading Sort
line_sort l = mapped sort_of (line_said l)
