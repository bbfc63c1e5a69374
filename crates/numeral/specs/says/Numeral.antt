-- What the code's answers say on paper, and the contract of `read`.
use Rattle.std.specs.Prelude.{◌≡◌, List, ℕ, Float, Option, Some, None}
use Rattle.text.specs.Reading.{Reading, read, refused}
use Rattle.numeral.specs.Numeral.{numeral_text}
use Rattle.numeral.specs.Nearest.{Answers}

abbrev pub says : Option Float → Reading Float
says (Some x) = read x
says None = refused 3

-- the answer to the text s, as the logic rounds and over whole numbers
pub record NumeralKeeps (s : List ℕ) (r : Option Float) : Type 0 where
  pub exact : says r ≡ numeral_text s
  pub nearest : Answers s (says r)
