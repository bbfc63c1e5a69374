-- +UGNSINF (document 01, "+UGNSINF", as document 02, CR 8, changes it; ugnsinf.rs): the report of the satellite receiver, in exactly 21 fields, counted here from 0.
use Rattle.std.specs.Prelude.{ℕ, false, cond, List, eqb, Float, pos, length, drop}
use Rattle.std.proofs.Math.Option.{Option, some}
use Rattle.std.specs.Float.{fin}
use Rattle.text.specs.Bytes.{bytes, same, starts_with}
use Rattle.text.specs.Field.{fields, nth}
use Rattle.text.specs.Number.{unsigned}
use Rattle.text.specs.Reading.{Reading, read, only, either, need, need_else}
use Rattle.numeral.specs.Numeral.{float_of}
use Rattle.unsolicited.specs.Date.{Date, date_of}

-- a fix: the dilutions of precision are horizontal, of the position and vertical
pub record Fix : Type 0 where
  pub date_time : Date
  pub latitude : Float
  pub longitude : Float
  pub altitude : Float
  pub hdop : Float
  pub pdop : Float
  pub vdop : Float
  pub speed_over_ground : Float
  pub course_over_ground : Float
  pub sat_gps_in_view : ℕ
  pub sat_gnss_used : ℕ
  pub sat_glonass_used : ℕ
  pub signal_noise_ratio : ℕ

pub data Report : Type 0 where
  not_enabled : Report
  no_fix : Option ℕ → Report
  fix : Fix → Report

-- what a field says that may be empty, which is zero
unfoldable pub or_zero : {A : Type 0} → A → (List ℕ → Option A) → List ℕ → Option A
or_zero zero reads t = cond (eqb (length t) 0) (some zero) (reads t)

-- an f32, positive zero where the field is empty; and a u32
unfoldable pub float_or_zero : List ℕ → Option Float
float_or_zero = or_zero (fin false 0 (pos 0)) float_of

unfoldable pub count_or_zero : List ℕ → Option ℕ
count_or_zero = or_zero 0 (unsigned 10 4294967295)

-- what follows the date: three that are required, then the rest, where empty is zero
unfoldable pub fix_on : Date → List (List ℕ) → Reading Report
fix_on date fs =
    need (float_of (nth 3 fs)) (λ latitude.
    need (float_of (nth 4 fs)) (λ longitude.
    need (float_of (nth 5 fs)) (λ altitude.
    need (float_or_zero (nth 6 fs)) (λ speed.
    need (float_or_zero (nth 7 fs)) (λ course.
    need (float_or_zero (nth 10 fs)) (λ hdop.
    need (float_or_zero (nth 11 fs)) (λ pdop.
    need (float_or_zero (nth 12 fs)) (λ vdop.
    need (count_or_zero (nth 14 fs)) (λ in_view.
    need (count_or_zero (nth 15 fs)) (λ gnss.
    need (count_or_zero (nth 16 fs)) (λ glonass.
    need (count_or_zero (nth 18 fs)) (λ ratio.
    read (fix (record {
      date_time = date;
      latitude = latitude;
      longitude = longitude;
      altitude = altitude;
      hdop = hdop;
      pdop = pdop;
      vdop = vdop;
      speed_over_ground = speed;
      course_over_ground = course;
      sat_gps_in_view = in_view;
      sat_gnss_used = gnss;
      sat_glonass_used = glonass;
      signal_noise_ratio = ratio;
    }))))))))))))))

-- the date first: without one the line is refused with 13, whatever the others are (document 02, CR 8)
unfoldable pub fix_of : List (List ℕ) → Reading Report
fix_of fs = need_else 13 (date_of (nth 2 fs)) (λ date. fix_on date fs)

-- run status "1" is enabled, and fix status "1" a fix; without one, satellites in view are none if unreadable
unfoldable pub ugnsinf_fields : List (List ℕ) → Reading Report
ugnsinf_fields fs =
    only (eqb (length fs) 21)
    (either (same (nth 0 fs) (bytes "1"))
    (either (same (nth 1 fs) (bytes "1")) (fix_of fs) (read (no_fix (unsigned 10 4294967295 (nth 14 fs)))))
    (read not_enabled))

unfoldable pub ugnsinf_text : List ℕ → Reading Report
ugnsinf_text s = only (starts_with (bytes "+UGNSINF: ") s) (ugnsinf_fields (fields 44 (drop 10 s)))
