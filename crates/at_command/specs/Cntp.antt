-- +CNTP (document 01, "+CNTP, +HTTPTOFS"; cntp.rs): the code, then all after the first comma is the time.
use Rattle.std.specs.Prelude.{ℕ, ◌+◌, List, [], ◌∷◌, drop}
use Rattle.std.proofs.Math.Option.{Option, none, some}
use Rattle.text.specs.Bytes.{bytes, starts_with, has, index_of}
use Rattle.text.specs.Part.{Span, span_of, before, after}
use Rattle.text.specs.Code.{Entry, is, code_in}
use Rattle.text.specs.Reading.{Reading, read, only, either, need, fitting}

abbrev pub ntp_codes : List Entry
ntp_codes = is "1" 1 ∷ is "61" 61 ∷ is "62" 62 ∷ is "63" 63 ∷ is "64" 64 ∷ is "65" 65 ∷ []

pub record NetTime : Type 0 where
  pub code : ℕ
  pub time : Option Span

-- a time of more than 32 bytes is refused with 4, in a line otherwise good
unfoldable pub cntp_rest : List ℕ → Reading NetTime
cntp_rest t =
    need (code_in ntp_codes (before 44 t)) (λ c.
    either (has 44 t)
    (fitting 32 (after 44 t) (read (record { code = c; time = some (span_of (7 + (index_of 44 t + 1)) (after 44 t)) })))
    (read (record { code = c; time = none })))

unfoldable pub cntp_text : List ℕ → Reading NetTime
cntp_text s = only (starts_with (bytes "+CNTP: ") s) (cntp_rest (drop 7 s))
