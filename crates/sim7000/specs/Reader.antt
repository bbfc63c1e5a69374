-- The readers' numbers, by which `sim7000_sort_line` and `sim7000_read_line` name the reader that takes a line (docs/DECISIONS.md 26).
use Rattle.std.specs.Prelude.{ℕ, ◌+◌, ◌≡◌, List}
use Rattle.text.specs.Reading.{Reading, read, refused}
use Rattle.at_command.specs.Kind.{place_of}
use Rattle.at_command.specs.Response.{kind_of}
use Rattle.unsolicited.specs.Urc.{Unsolicited, gnss, registration}
use Rattle.trial.specs.Answer.{Said, response, unsolicited, line_said}

-- the responses 1 to 13 in their order of trial, GnssReport 14, a registration 15
abbrev pub urc_reader : Unsolicited → ℕ
urc_reader (gnss r) = 14
urc_reader (registration r) = 15

abbrev pub reader_of : Said → ℕ
reader_of (response r) = place_of (kind_of r) + 1
reader_of (unsolicited u) = urc_reader u

-- the reader that takes the line, or 128 plus the refusal number
abbrev pub sort_number : Reading Said → ℕ
sort_number (read s) = reader_of s
sort_number (refused k) = 128 + k

-- `sim7000_sort_line`
abbrev pub SortLineKeeps : List ℕ → ℕ → Type 0
SortLineKeeps line r = r ≡ sort_number (line_said line)
