-- +CSQ (document 01, "+CSQ"; csq.rs; TS 27.007, 8.5): the strength and the quality of the signal, each a percentage where it is known.
use Rattle.std.specs.Prelude.{◌≡◌, ℕ, ◌-◌, ◌*◌, ◌≤◌, ◌<◌, false, cond, List, [], ◌∷◌, eqb, leb, drop, get_or, ℤ, pos, ◌+ℤ◌, Float}
use Rattle.std.proofs.Math.Option.{Option, none, some}
use Rattle.std.specs.Float.{binary32}
use Rattle.std.specs.Float.Ieee.{of_int, round, mul, div, sub}
use Rattle.std.specs.Float.Ieee.Exact.{HasValue}
use Rattle.text.specs.Bytes.{bytes, starts_with, has}
use Rattle.text.specs.Part.{before, after}
use Rattle.text.specs.Number.{unsigned, negative}
use Rattle.text.specs.Reading.{Reading, read, only, need}

-- the power in dBm at an rssi of 0 to 31: document 01's figures and the Rust's, which are not the standard's (docs/DIFFERENCES.md, D18)
unfoldable pub dbm_of : ℕ → ℤ
dbm_of r = cond (eqb r 0) (negative 115) (cond (eqb r 1) (negative 111) (negative 110 +ℤ pos (2 * (r - 2))))

-- a whole number as an f32
abbrev pub f32 : ℕ → Float
f32 n = of_int binary32 (pos n)

-- 100 times (dBm + 115) / 63, each step rounded once to f32, the division first
unfoldable pub strength_of : ℕ → Float
strength_of r = mul binary32 (f32 100) (div binary32 (of_int binary32 (dbm_of r +ℤ pos 115)) (f32 63))

-- the Rust's table, the bit error rates at a ber of 0 to 7 (TS 45.008, 8.2.4), in hundredths of a percent
abbrev pub rates : List ℕ
rates = 14 ∷ 28 ∷ 57 ∷ 113 ∷ 226 ∷ 453 ∷ 905 ∷ 1810 ∷ []

-- the f32 nearest to the rate
abbrev pub rate_of : ℕ → Float
rate_of b = round binary32 false (get_or rates b 0) 100

-- 100.0 less the f32 of the table
unfoldable pub quality_of : ℕ → Float
quality_of b = sub binary32 (f32 100) (rate_of b)

-- what a code says: a level at 0 to max, no level at 99; the others are refused
unfoldable pub level_of : ℕ → (ℕ → Float) → ℕ → Option (Option Float)
level_of max f n = cond (leb n max) (some (some (f n))) (cond (eqb n 99) (some none) none)

pub record Signal : Type 0 where
  pub strength : Option Float
  pub quality : Option Float

unfoldable pub csq_codes : ℕ → ℕ → Reading Signal
csq_codes rssi ber =
    need (level_of 31 strength_of rssi) (λ s.
    need (level_of 7 quality_of ber) (λ q.
    read (record { strength = s; quality = q })))

-- split at the first comma; two u8
unfoldable pub csq_rest : List ℕ → Reading Signal
csq_rest t =
    only (has 44 t)
    (need (unsigned 10 255 (before 44 t)) (λ rssi.
    need (unsigned 10 255 (after 44 t)) (λ ber.
    csq_codes rssi ber)))

unfoldable pub csq_text : List ℕ → Reading Signal
csq_text s = only (starts_with (bytes "+CSQ: ") s) (csq_rest (drop 6 s))

-- Proved of the strengths besides, over whole numbers, in proofs/csq/Percentage.antt: each at an rssi of 0 to 31 is a `Percent`, that at a lower rssi is
-- `Less` than that at a higher one, and every strength that a line is read with is a `Strength`.

-- x is n / d, lies from 0 to 100, and is at most 1 / 100000 above or below the exact percentage, 100 * over / 63 where over is dBm + 115
pub record Percent (rssi : ℕ) (x : Float) : Type 0 where
  pub n : ℕ
  pub d : ℕ
  pub over : ℕ
  pub positive : 0 < d
  pub value : HasValue x false n d
  pub most : n ≤ 100 * d
  pub above : dbm_of rssi +ℤ pos 115 ≡ pos over
  pub high : 100000 * (63 * n - 100 * over * d) ≤ 63 * d
  pub low : 100000 * (100 * over * d - 63 * n) ≤ 63 * d

-- x is n / d, y is m / e, and x is less than y
pub record Less (x y : Float) : Type 0 where
  pub n : ℕ
  pub d : ℕ
  pub m : ℕ
  pub e : ℕ
  pub positive : (0 < d) × (0 < e)
  pub left : HasValue x false n d
  pub right : HasValue y false m e
  pub less : n * e < m * d

-- x is the strength at an rssi of 0 to 31
pub record Strength (x : Float) : Type 0 where
  pub rssi : ℕ
  pub most : rssi ≤ 31
  pub is : x ≡ strength_of rssi
  pub percent : Percent rssi x
