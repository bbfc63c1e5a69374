-- A reader of fields stands at a place of the line that it is lent (document 01, "The readers": "Fields come from a field reader that stands on the lent line").
use Rattle.std.specs.Prelude.{◌≡◌, ℕ, zero, suc, ◌+◌, ◌<◌, Bool, cond, List, length, drop, nat_lt, slice_index}
use Rattle.text.specs.Bytes.{index_of, has}
use Rattle.text.specs.Part.{before}
use Rattle.text.specs.Field.{fields, place_of}

-- the field that begins there: all up to the next comma, or up to the line's end
abbrev pub field_at : List ℕ → ℕ → List ℕ
field_at s at = before 44 (drop at s)

-- where the next field begins: behind that comma; one past the line's end where there is none
unfoldable pub next_at : List ℕ → ℕ → ℕ
next_at s at = cond (has 44 (drop at s)) (at + index_of 44 (drop at s) + 1) (length s + 1)

-- a reader that stands there has passed the last field
abbrev pub ended_at : List ℕ → ℕ → Bool
ended_at s at = nat_lt (length s) at

-- where a reader stands that has gone n fields on from a place, and from the line's start
unfoldable pub stands_from : ℕ → ℕ → List ℕ → ℕ
stands_from at zero s = at
stands_from at (suc n) s = next_at s (stands_from at n s)

abbrev pub stands_at : ℕ → List ℕ → ℕ
stands_at n s = stands_from 0 n s

-- the places of a reader and of those behind it, 22 in all: those of +UGNSINF's 21 fields, and where a next one would begin
pub record Starts (s : List ℕ) (at : ℕ) (ps : List ℕ) : Type 0 where
  pub size : length ps ≡ 22
  pub place : (n : ℕ) → n < 22 → slice_index ps n ≡ stands_from at n s

-- the places of a line's first 22 fields
pub record FieldStartsKeeps (s ps : List ℕ) : Type 0 where
  pub size : length ps ≡ 22
  pub place : (n : ℕ) → n < 22 → slice_index ps n ≡ place_of n (fields 44 s)
