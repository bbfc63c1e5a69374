-- The check that every line passes before a reader sees it (document 01, "Refusal numbers": 1, then 2).
use Rattle.std.specs.Prelude.{ℕ, cond, List, length, ◌==◌, nat_lt}
use Rattle.text.specs.Reading.{Reading, refused, refusal_in}
use Rattle.text.specs.Utf8.{utf8}

-- 1 where the line has more than 256 bytes, else 2 where it is not UTF-8, else 0
unfoldable pub line_check : List ℕ → ℕ
line_check s = cond (nat_lt 256 (length s)) 1 (cond (utf8 s) 0 2)

module _ {A : Type 0} where
  -- the refusal of a line that does not pass the check, else what the reader says of it
  unfoldable pub checked : (List ℕ → Reading A) → List ℕ → Reading A
  checked reader s = cond (line_check s == 0) (reader s) (refused (line_check s))

  -- the number with which the line is refused, 0 where it is not
  abbrev pub refusal_by : (List ℕ → Reading A) → List ℕ → ℕ
  refusal_by reader s = refusal_in (checked reader s)
