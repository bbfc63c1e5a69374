-- What stands in a buffer after a text or a number is laid into it.
use Rattle.std.specs.Prelude.{ℕ, ◌+◌, ◌-◌, ◌≡◌, Bool, cond, List, ◌++◌, leb, ltb, length, take, drop}
use Rattle.io.specs.Digits.{last_digits, IsDigitCount}
use Rattle.text.specs.Bytes.{bytes}

-- whether a text has room at an index of a buffer
unfoldable pub has_room : List ℕ → ℕ → List ℕ → Bool
has_room s at before = leb (at + length s) (length before)

-- the text laid at the index, and where it ends; where it has no room, the buffer as it was, and the index
pub record Puts (s : List ℕ) (at : ℕ) (before : List ℕ) (end : ℕ) (after : List ℕ) : Type 0 where
  pub ends : end ≡ cond (has_room s at before) (at + length s) at
  pub holds : after ≡ cond (has_room s at before) (take at before ++ s ++ drop (at + length s) before) before

-- the fewest digits of a number, and no fewer than `least`
pub record PutsNumber (base least n at : ℕ) (before : List ℕ) (end : ℕ) (after : List ℕ) : Type 0 where
  pub places : ℕ
  pub fewest : IsDigitCount base least n places
  pub puts : Puts (last_digits base places n) at before end after

-- a number in decimal, and in eight hexadecimal digits or more, as the 32 bits of a float are printed
abbrev pub PutsDecimal : ℕ → ℕ → List ℕ → ℕ → List ℕ → Type 0
PutsDecimal n at before end after = PutsNumber 10 1 n at before end after

abbrev pub PutsHex : ℕ → ℕ → List ℕ → ℕ → List ℕ → Type 0
PutsHex n at before end after = PutsNumber 16 8 n at before end after

-- an LF, and the place of the next line: the buffer's start where fewer than 1024 bytes are left, since all is then written
pub record EndsLine (at : ℕ) (before : List ℕ) (next : ℕ) (after : List ℕ) : Type 0 where
  pub end : ℕ
  pub puts : Puts (bytes "\n") at before end after
  pub begins : next ≡ cond (ltb (length before - 1024) end) 0 end

-- what an LF leaves in the buffer, whether or not it could then be written
abbrev pub LaysLineEnd : ℕ → List ℕ → List ℕ → Type 0
LaysLineEnd at before after = (end : ℕ) × Puts (bytes "\n") at before end after
