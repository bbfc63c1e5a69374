-- +HTTPTOFS (document 01, "+CNTP, +HTTPTOFS"; httptofs.rs): the status code, then all after the first comma is the length.
use Rattle.std.specs.Prelude.{ℕ, List, [], ◌∷◌, drop}
use Rattle.std.proofs.Math.Option.{Option, none, some}
use Rattle.text.specs.Bytes.{bytes, starts_with}
use Rattle.text.specs.Part.{before, after}
use Rattle.text.specs.Number.{unsigned}
use Rattle.text.specs.Code.{Entry, is, code_in}
use Rattle.text.specs.Reading.{Reading, read, only}

abbrev pub http_codes : List Entry
http_codes =
    is "100" 100
    ∷ is "200" 200
    ∷ is "206" 206
    ∷ is "400" 400
    ∷ is "404" 404
    ∷ is "408" 408
    ∷ is "500" 500
    ∷ is "600" 600
    ∷ is "601" 601
    ∷ is "602" 602
    ∷ is "603" 603
    ∷ is "604" 604
    ∷ is "620" 620
    ∷ []

-- what is missing or bad is 0: an unknown code is OtherErrors, which has that number
abbrev pub or_zero : Option ℕ → ℕ
or_zero none = 0
or_zero (some n) = n

pub record Download : Type 0 where
  pub status : ℕ
  pub size : ℕ

unfoldable pub download_of : List ℕ → Download
download_of t = record { status = or_zero (code_in http_codes (before 44 t)); size = or_zero (unsigned 10 18446744073709551615 (after 44 t)) }

unfoldable pub httptofs_text : List ℕ → Reading Download
httptofs_text s = only (starts_with (bytes "+HTTPTOFS: ") s) (read (download_of (drop 11 s)))
