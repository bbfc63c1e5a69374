-- What the answers say on paper, and what the calls keep.
use Rattle.std.specs.Prelude.{ℕ, ◌≡◌, List, Result}
use Rattle.text.specs.Reading.{Reading}
use Rattle.text.specs.says.Refusal.{reading_said}
use Rattle.text.specs.declared.refusal.Refusal.{Refusal}
use Rattle.at_command.specs.says.Request.{kind_says}
use Rattle.at_command.specs.says.Response.{code_says}
use Rattle.unsolicited.specs.says.Urc.{urc_says}
use Rattle.trial.specs.Answer.{Said, response, unsolicited, line_said}
use Rattle.trial.specs.Sort as S
use Rattle.trial.specs.Sort.{sort_of, line_sort}
use Rattle.trial.specs.Taker as T
use Rattle.trial.specs.Taker.{line_taker}
use Rattle.trial.specs.declared.Line.{Line}
use Rattle.trial.specs.declared.Line.TheVariants as L
use Rattle.trial.specs.declared.Sort.{Sort}
use Rattle.trial.specs.declared.Sort.TheVariants as C
use Rattle.trial.specs.declared.Taker.{Taker}
use Rattle.trial.specs.declared.Taker.TheVariants as K

abbrev pub line_value : Line → Said
line_value (L.Response c) = response (code_says c)
line_value (L.Unsolicited u) = unsolicited (urc_says u)

abbrev pub line_says : Result Line Refusal → Reading Said
line_says = reading_said line_value

abbrev pub sort_value : Sort → S.Sort
sort_value (C.Response k) = S.response (kind_says k)
sort_value C.Unsolicited = S.unsolicited

abbrev pub sort_says : Result Sort Refusal → Reading S.Sort
sort_says = reading_said sort_value

abbrev pub taker_value : Taker → T.Taker
taker_value (K.Response k) = T.response (kind_says k)
taker_value K.GnssReport = T.gnss
taker_value K.NetworkRegistration = T.registration

abbrev pub taker_says : Result Taker Refusal → Reading T.Taker
taker_says = reading_said taker_value

-- `Line::from_line`, and the second engine's `said`
abbrev pub LineKeeps : List ℕ → Result Line Refusal → Type 0
LineKeeps line r = line_says r ≡ line_said line

-- `Line::sort`
abbrev pub SortedKeeps : Line → Sort → Type 0
SortedKeeps said r = sort_value r ≡ sort_of (line_value said)

-- `sort_of` of both engines
abbrev pub SortKeeps : List ℕ → Result Sort Refusal → Type 0
SortKeeps line r = sort_says r ≡ line_sort line

-- `taker`
abbrev pub TakerKeeps : List ℕ → Result Taker Refusal → Type 0
TakerKeeps line r = taker_says r ≡ line_taker line
