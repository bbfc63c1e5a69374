-- +CMGR (document 01, "+CMGF, +CMGR"; cmgr.rs; TS 27.005, 3.4.3): the sender is the second of three or more fields, its quotes stripped.
use Rattle.std.specs.Prelude.{ℕ, List, leb, length, drop}
use Rattle.text.specs.Bytes.{bytes, starts_with}
use Rattle.text.specs.Part.{Span}
use Rattle.text.specs.Field.{fields, nth}
use Rattle.text.specs.Reading.{Reading, read, only, fitting}
use Rattle.at_command.specs.Unquoted.{unquoted, unquoted_field}

-- a sender of more than 20 bytes is refused with 4, in a line otherwise good
unfoldable pub cmgr_fields : List (List ℕ) → Reading Span
cmgr_fields fs =
    only (leb 3 (length fs))
    (fitting 20 (unquoted (nth 1 fs)) (read (unquoted_field 1 fs)))

unfoldable pub cmgr_text : List ℕ → Reading Span
cmgr_text s = only (starts_with (bytes "+CMGR: ") s) (cmgr_fields (fields 44 (drop 7 s)))
