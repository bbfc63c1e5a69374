-- +CMGF (document 01, "+CMGF, +CMGR"; cmgf.rs; TS 27.005, 3.2.3): the message format, 0 or 1.
use Rattle.std.specs.Prelude.{ℕ, List, [], ◌∷◌, drop}
use Rattle.text.specs.Bytes.{bytes, starts_with}
use Rattle.text.specs.Code.{Entry, is, code_in}
use Rattle.text.specs.Reading.{Reading, read, only, need}

abbrev pub message_formats : List Entry
message_formats = is "0" 0 ∷ is "1" 1 ∷ []

unfoldable pub cmgf_text : List ℕ → Reading ℕ
cmgf_text s = only (starts_with (bytes "+CMGF: ") s) (need (code_in message_formats (drop 7 s)) (λ f. read f))
