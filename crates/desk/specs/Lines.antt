-- The cutter as a machine: it tells each line that is not empty (document 01, "The desk (added)").
use Rattle.std.specs.Prelude.{ℕ, ◌≡◌, List, []}
use Rattle.std.proofs.Math.Option.{Option, none, some}
use Rattle.desk.specs.Cut as C
use Rattle.desk.specs.Cut.{View, held, Piece, nothing, blank, cut_one}
use Rattle.desk.specs.Machine.{Machine, tells, after}

-- a line past its length, or a line that is not empty
pub data Line : Type 0 where
  overlong : Line
  line : List ℕ → Line

abbrev pub line_of : Piece → Option Line
line_of nothing = none
line_of blank = none
line_of C.overlong = some overlong
line_of (C.line l) = some (line l)

unfoldable pub cutter : Machine View Line
cutter v b = record { state = (cut_one v b).view; tell = line_of (cut_one v b).piece }

-- the lines of bytes that begin at a line's start
abbrev pub lines_of : List ℕ → List Line
lines_of bytes = tells cutter (held []) bytes

-- bytes that are whole lines: nothing is held after them
abbrev pub Whole : List ℕ → Type 0
Whole bytes = after cutter (held []) bytes ≡ held []
