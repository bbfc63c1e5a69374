-- What the search for a row learns on its way: the bytes in front, and a row by the letters among them.
use Rattle.std.specs.Prelude.{ℕ, ◌<◌, ◌≡◌, true, false, List, length, get_or}
use Rattle.text.specs.Class.{class_of}
use Rattle.text.specs.Condition.{Points, is_digit_class, first_byte}
use Rattle.trial.specs.Conditions.{all_conditions}

-- no reader's row: past the table's end, however many rows it has
abbrev pub no_row : ℕ
no_row = 255

-- the line has these bytes in front, with 0 for those that it lacks
abbrev pub Front : List ℕ → List ℕ → Type 0
Front bs l = (i : ℕ) → i < length bs → get_or l i 0 ≡ get_or bs i 0

-- r is the row of the line where no number stands in front, and no reader's where one does
pub record ByLetters (l : List ℕ) (r : ℕ) : Type 0 where
  pub text : is_digit_class (class_of (first_byte l)) ≡ false → Points all_conditions l r
  pub number : is_digit_class (class_of (first_byte l)) ≡ true → r ≡ no_row
