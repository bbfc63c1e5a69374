-- The registration in the network: +CREG, +CGREG and +CEREG (document 01, "+CREG, +CGREG", "+CEREG" and "Status"; creg.rs, cgreg.rs, cereg.rs and
-- network_registration.rs; TS 27.007, 7.2, 10.1.20 and 10.1.22).
use Rattle.std.specs.Prelude.{ℕ, ◌+◌, cond, ◌&&◌, List, [], ◌∷◌, ltb, ℤ, pos, negsuc, length, drop}
use Rattle.std.proofs.Math.Option.{Option, none}
use Rattle.text.specs.Bytes.{bytes, within, starts_with, all_digits}
use Rattle.text.specs.Part.{among, trimmed}
use Rattle.text.specs.Field.{fields, nth}
use Rattle.text.specs.Number.{unsigned, signed}
use Rattle.text.specs.Reading.{Reading, read, only, either, need, first_of}

-- 0 not registered, 1 home, 2 searching, 3 denied, 4 unknown, 5 roaming; every other number is 0
unfoldable pub status_of : ℤ → ℕ
status_of (pos n) = cond (within 1 5 n) n 0
status_of (negsuc n) = 0

pub record Registration : Type 0 where
  pub status : ℕ
  pub lac : Option ℕ
  pub ci : Option ℕ

-- a number of at most max in hexadecimal, its quotes stripped; none where the text is unreadable, or the field is absent and so empty
unfoldable pub hex_in : ℕ → List ℕ → Option ℕ
hex_in max t = unsigned 16 max (trimmed (bytes "\"") t)

-- the status is field n, then come lac, a u16, and ci, a u32
unfoldable pub registration_at : ℕ → List (List ℕ) → Reading Registration
registration_at n fs =
    need (signed 10 2147483647 (nth n fs)) (λ z.
    read (record { status = status_of z; lac = hex_in 65535 (nth (n + 1) fs); ci = hex_in 4294967295 (nth (n + 2) fs) }))

-- of 1 or 4 fields the status is the first; of so many as are listed one is skipped
unfoldable pub registration_fields : List ℕ → List (List ℕ) → Reading Registration
registration_fields skipping fs =
    either (among (1 ∷ 4 ∷ []) (length fs)) (registration_at 0 fs)
    (only (among skipping (length fs)) (registration_at 1 fs))

unfoldable pub creg_text : List ℕ → Reading Registration
creg_text s = only (starts_with (bytes "+CREG: ") s) (registration_fields (2 ∷ 5 ∷ []) (fields 44 (drop 7 s)))

unfoldable pub cgreg_text : List ℕ → Reading Registration
cgreg_text s = only (starts_with (bytes "+CGREG: ") s) (registration_fields (2 ∷ 5 ∷ 8 ∷ []) (fields 44 (drop 8 s)))

-- one field is the status; of more it is the second if all its bytes are digits, as those of an empty field are, else the first
unfoldable pub cereg_status : List (List ℕ) → List ℕ
cereg_status fs = cond (ltb 1 (length fs) && all_digits (nth 1 fs)) (nth 1 fs) (nth 0 fs)

-- the status alone is read
unfoldable pub cereg_fields : List (List ℕ) → Reading Registration
cereg_fields fs = need (signed 10 2147483647 (cereg_status fs)) (λ z. read (record { status = status_of z; lac = none; ci = none }))

unfoldable pub cereg_text : List ℕ → Reading Registration
cereg_text s = only (starts_with (bytes "+CEREG: ") s) (cereg_fields (fields 44 (drop 8 s)))

-- CReg, CGReg, CEReg, in order of trial
abbrev pub registration_readings : List ℕ → List (Reading Registration)
registration_readings s = creg_text s ∷ cgreg_text s ∷ cereg_text s ∷ []

unfoldable pub registration_text : List ℕ → Reading Registration
registration_text s = first_of 3 (registration_readings s)
