-- +CPSI (document 01, "+CPSI"; cpsi.rs): the system mode and the operation mode, the first two of at least nine fields.
use Rattle.std.specs.Prelude.{ℕ, List, [], ◌∷◌, leb, length, drop}
use Rattle.text.specs.Bytes.{bytes, starts_with}
use Rattle.text.specs.Field.{fields, nth}
use Rattle.text.specs.Code.{Entry, is, code_in}
use Rattle.text.specs.Reading.{Reading, read, only, need}

-- the Rust's lists, in its order
abbrev pub system_modes : List Entry
system_modes = is "NO SERVICE" 0 ∷ is "GSM" 1 ∷ is "LTE CAT-M1" 2 ∷ is "LTE NB-IOT" 3 ∷ []

abbrev pub operation_modes : List Entry
operation_modes = is "Online" 0 ∷ is "Offline" 1 ∷ is "Factory Test Mode" 2 ∷ is "Reset" 3 ∷ is "Low Power Mode" 4 ∷ []

pub record System : Type 0 where
  pub system_mode : ℕ
  pub operation_mode : ℕ

unfoldable pub cpsi_fields : List (List ℕ) → Reading System
cpsi_fields fs =
    only (leb 9 (length fs))
    (need (code_in system_modes (nth 0 fs)) (λ m.
    need (code_in operation_modes (nth 1 fs)) (λ o.
    read (record { system_mode = m; operation_mode = o }))))

unfoldable pub cpsi_text : List ℕ → Reading System
cpsi_text s = only (starts_with (bytes "+CPSI: ") s) (cpsi_fields (fields 44 (drop 7 s)))
