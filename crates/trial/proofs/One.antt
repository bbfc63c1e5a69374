-- No second answer meets a contract, so both engines answer alike; and the sort of a line is the sort of its answer.
use Rattle.std.specs.Prelude.{Result, Ok, Err}
use Prim.Native.Nat.{ℕ}
use mathlib.Core.Path.{◌≡◌, refl, ap, sym, ◌∙◌}
use mathlib.Core.List.{List}
use Rattle.text.specs.declared.refusal.Refusal.{Refusal}
use Rattle.text.specs.Reading.{read, mapped}
use Rattle.text.proofs.One.{one_answer, one_reading}
use Rattle.at_command.proofs.One.{code_of, code_back, one_response}
use Rattle.at_command.proofs.OneRequest.{kind, kind_back}
use Rattle.unsolicited.proofs.One.{urc, back_urc, one_urc}
use Rattle.trial.specs.Answer.{Said, response, unsolicited, line_said}
use Rattle.trial.specs.Sort as S
use Rattle.trial.specs.Sort.{sort_of, line_sort}
use Rattle.trial.specs.Taker as T
use Rattle.trial.specs.Taker.{taker_of, line_taker}
use Rattle.trial.specs.says.Engines.{EnginesAgree}
use Rattle.trial.specs.says.Line.{line_value, sort_value, taker_value, LineKeeps, SortedKeeps, SortKeeps, TakerKeeps}
use Rattle.trial.specs.declared.Line.{Line}
use Rattle.trial.specs.declared.Line.TheVariants as L
use Rattle.trial.specs.declared.Sort.{Sort}
use Rattle.trial.specs.declared.Sort.TheVariants as C
use Rattle.trial.specs.declared.Taker.{Taker}
use Rattle.trial.specs.declared.Taker.TheVariants as K

abbrev line_for : Said → Line
line_for (response r) = L.Response (code_of r)
line_for (unsolicited u) = L.Unsolicited (urc u)

line_back : (r : Line) → line_for (line_value r) ≡ r
line_back (L.Response c) = ap L.Response (code_back c)
line_back (L.Unsolicited u) = ap L.Unsolicited (back_urc u)

abbrev pub sort_for : S.Sort → Sort
sort_for (S.response k) = C.Response (kind k)
sort_for S.unsolicited = C.Unsolicited

pub sort_back : (r : Sort) → sort_for (sort_value r) ≡ r
sort_back (C.Response k) = ap C.Response (kind_back k)
sort_back C.Unsolicited = refl

abbrev taker_for : T.Taker → Taker
taker_for (T.response k) = K.Response (kind k)
taker_for T.gnss = K.GnssReport
taker_for T.registration = K.NetworkRegistration

taker_back : (r : Taker) → taker_for (taker_value r) ≡ r
taker_back (K.Response k) = ap K.Response (kind_back k)
taker_back K.GnssReport = refl
taker_back K.NetworkRegistration = refl

-- one answer: straight::taker
pub one_taker : (line : List ℕ) (a b : Result Taker Refusal) → TakerKeeps line a → TakerKeeps line b → a ≡ b
one_taker line a b = one_reading taker_value taker_for taker_back a b (line_taker line)

-- one answer: Line::from_line
pub one_line : (line : List ℕ) (a b : Result Line Refusal) → LineKeeps line a → LineKeeps line b → a ≡ b
one_line line a b = one_reading line_value line_for line_back a b (line_said line)

-- one answer: Line::sort
pub one_sorted : (said : Line) (a b : Sort) → SortedKeeps said a → SortedKeeps said b → a ≡ b
one_sorted said a b = one_answer sort_value sort_for sort_back a b (sort_of (line_value said))

-- one answer: sort_of
pub one_sort : (line : List ℕ) (a b : Result Sort Refusal) → SortKeeps line a → SortKeeps line b → a ≡ b
one_sort line a b = one_reading sort_value sort_for sort_back a b (line_sort line)

-- whatever `sort_of` answers is what `Line::sort` answers of what `Line::from_line` does
pub sort_of_answer : (line : List ℕ) (said : Line) (a : Sort) (b : Result Sort Refusal) → LineKeeps line (Ok said) → SortedKeeps said a → SortKeeps line b → Ok a ≡ b
unfolding line_sort mapped
sort_of_answer line said a b l h k = one_sort line (Ok a) b (ap read h ∙ ap (mapped sort_of) l) k

pub sort_of_refusal : (line : List ℕ) (n : Refusal) (b : Result Sort Refusal) → LineKeeps line (Err n) → SortKeeps line b → Err n ≡ b
unfolding line_sort mapped
sort_of_refusal line n b l k = one_sort line (Err n) b (ap (mapped sort_of) l) k

-- both engines
pub engines_agree : (l : List ℕ) → EnginesAgree l
unfolding line_taker
engines_agree l =
    record {
      responses = one_response l;
      urcs = one_urc l;
      lines = one_line l;
      sorts = one_sort l;
      takers = λ a b h k. k ∙ ap (mapped taker_of) (sym h);
    }
