-- The lines that are refused with 13 (document 02, CR 8).
use Rattle.std.specs.Prelude.{ℕ, ◌≡◌, true, List, length, drop}
use Rattle.text.specs.Bytes.{bytes, starts_with, same}
use Rattle.text.specs.Field.{fields, nth}
use Rattle.unsolicited.specs.Date.{Date}
use Rattle.unsolicited.specs.Written.{Says}

-- a field of what follows "+UGNSINF: ", counted from 0
abbrev pub field_of : ℕ → List ℕ → List ℕ
field_of n l = nth n (fields 44 (drop 10 l))

-- a +UGNSINF line of 21 fields with run and fix status "1", whose third field says no date that exists
pub record Undated (l : List ℕ) : Type 0 where
  pub front : starts_with (bytes "+UGNSINF: ") l ≡ true
  pub count : length (fields 44 (drop 10 l)) ≡ 21
  pub run : same (field_of 0 l) (bytes "1") ≡ true
  pub fix : same (field_of 1 l) (bytes "1") ≡ true
  pub date : (d : Date) → Says (field_of 2 l) d → ⊥
