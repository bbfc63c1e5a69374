-- A field of which all quotes at both ends go.
use Rattle.std.specs.Prelude.{ℕ, ◌+◌, List}
use Rattle.text.specs.Bytes.{bytes}
use Rattle.text.specs.Part.{Span, span_of, trimmed, trim_place}
use Rattle.text.specs.Field.{nth, place_of}

abbrev pub unquoted : List ℕ → List ℕ
unquoted t = trimmed (bytes "\"") t

-- where what is left of the text t stands, if t begins at a
abbrev pub unquoted_span : ℕ → List ℕ → Span
unquoted_span a t = span_of (a + trim_place (bytes "\"") t) (unquoted t)

-- the same of field n, in a line whose fields begin behind a prefix of seven bytes
abbrev pub unquoted_field : ℕ → List (List ℕ) → Span
unquoted_field n fs = unquoted_span (7 + place_of n fs) (nth n fs)
