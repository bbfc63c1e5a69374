-- +COPS (document 01, "+COPS"; cops.rs; TS 27.007, 7.3): mode, format and name of the operator.
use Rattle.std.specs.Prelude.{◌≡◌, ℕ, ◌+◌, cond, List, [], ◌∷◌, ltb, length, drop}
use Rattle.text.specs.Bytes.{bytes, starts_with}
use Rattle.std.specs.Borrow.{Bor}
use Rattle.text.specs.Part.{Span, inside}
use Rattle.text.specs.Field.{fields, nth, place_of}
use Rattle.text.specs.Code.{Entry, is, code_in}
use Rattle.text.specs.Reading.{Reading, read, only, need}
use Rattle.at_command.specs.Unquoted.{unquoted_span, unquoted_field}

abbrev pub operator_modes : List Entry
operator_modes = is "0" 0 ∷ is "1" 1 ∷ is "2" 2 ∷ is "4" 4 ∷ []

abbrev pub operator_formats : List Entry
operator_formats = is "0" 0 ∷ is "1" 1 ∷ is "2" 2 ∷ []

-- the field, or the lent fallback text when there is none
unfoldable pub field_or : ℕ → List (List ℕ) → List ℕ → List ℕ
field_or n fs fallback = cond (ltb n (length fs)) (nth n fs) fallback

-- the text r is that, and no copy: a part of the line t, or the fallback text itself
pub record FieldOr (t fallback : Bor (List ℕ)) (n : ℕ) (r : Bor (List ℕ)) : Type 0 where
  pub bytes : r.now ≡ field_or n (fields 44 t.now) fallback.now
  pub place : r.ref_ptr ≡ cond (ltb n (length (fields 44 t.now))) (t.ref_ptr.0, inside t.now (place_of n (fields 44 t.now)) + t.ref_ptr.1) fallback.ref_ptr

-- a name stands in the line or in the fallback text
pub data Name : Type 0 where
  in_line : Span → Name
  in_fallback : Span → Name

-- all quotes at both ends of the name go
unfoldable pub name_of : List (List ℕ) → List ℕ → Name
name_of fs fallback = cond (ltb 2 (length fs)) (in_line (unquoted_field 2 fs)) (in_fallback (unquoted_span 0 fallback))

pub record Operator : Type 0 where
  pub mode : ℕ
  pub format : ℕ
  pub name : Name

-- what stands behind a third comma is not read
unfoldable pub cops_fields : List ℕ → List ℕ → List (List ℕ) → Reading Operator
cops_fields format_fallback name_fallback fs =
    need (code_in operator_modes (nth 0 fs)) (λ m.
    need (code_in operator_formats (field_or 1 fs format_fallback)) (λ f.
    read (record { mode = m; format = f; name = name_of fs name_fallback })))

unfoldable pub cops_text : List ℕ → List ℕ → List ℕ → Reading Operator
cops_text format_fallback name_fallback s = only (starts_with (bytes "+COPS: ") s) (cops_fields format_fallback name_fallback (fields 44 (drop 7 s)))
