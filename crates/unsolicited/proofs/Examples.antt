-- Reports of the satellite receiver, computed over the definition that the contract of `Urc::from_line` cites.
use mathlib.Core.Path.{◌≡◌, refl}
use mathlib.Core.List.{List, [], ◌∷◌, map}
use mathlib.Core.Bool.{true, false}
use mathlib.Core.Option.{Option, none, some}
use Prim.Native.Nat.{ℕ}
use Prim.Native.String.{String}
use lib.Ieee.{fin, round}
use lib.IntN.{pos, negsuc}
use lib.ListN.{replicate}
use Rattle.text.specs.Bytes.{bytes, starts_with, same}
use Rattle.text.specs.Line.{line_check, checked}
use Rattle.text.specs.Number.{digit_value, digits_of, value_of, magnitude, unsigned}
use Rattle.text.specs.Reading.{Reading, read, refused, only, either, need_else, mapped, first_of}
use Rattle.text.specs.Utf8.{char_size, behind, utf8}
use Rattle.text.specs.Part.{part_of}
use Rattle.numeral.specs.Numeral.{float_of, decimal_of, behind_sign}
use Rattle.numeral.specs.Numeral.{unsigned as behind_the_sign}
use Rattle.unsolicited.specs.Date.{Date, is_fraction, figures, date_in, is_date, existing, date_of}
use Rattle.unsolicited.specs.Calendar.{is_leap, days_in}
use Rattle.unsolicited.specs.Gnss.{not_enabled, no_fix, fix, or_zero, float_or_zero, count_or_zero, fix_on, fix_of, ugnsinf_fields, ugnsinf_text}
use Rattle.unsolicited.specs.Registration.{creg_text, cgreg_text, cereg_text}
use Rattle.unsolicited.specs.Urc.{Unsolicited, gnss, urc_readings, urc_text}

-- the line is answered so
abbrev Says : List ℕ → Reading Unsolicited → Type 0
Says s r = checked urc_text s ≡ r

-- a fix in which every field that is read differs from its neighbours, three of them empty; one without a date, and with a bad latitude too; a bad latitude alone;
-- and no fix, the date unread: with satellites in view that are readable, with some that are not, and where the receiver is off
pub reports :
    Says (bytes "+UGNSINF: 1,1,20240102030405.000,57.5,-11.25,3,,90,1,,1.5,2,,,7,5,,,42,,") (read (gnss (fix (record {
      date_time = record { year = 2024; month = 1; day = 2; hour = 3; minute = 4; second = 5 };
      latitude = fin false 115 (negsuc 0);
      longitude = fin true 45 (negsuc 1);
      altitude = fin false 3 (pos 0);
      hdop = fin false 3 (negsuc 0);
      pdop = fin false 1 (pos 1);
      vdop = fin false 0 (pos 0);
      speed_over_ground = fin false 0 (pos 0);
      course_over_ground = fin false 45 (pos 1);
      sat_gps_in_view = 7;
      sat_gnss_used = 5;
      sat_glonass_used = 0;
      signal_noise_ratio = 42;
    }))))
    × Says (bytes "+UGNSINF: 1,1,20230229030405.000,57.5,-11.25,3,,90,1,,1.5,2,,,7,5,,,42,,") (refused 13)
    × Says (bytes "+UGNSINF: 1,1,20230229030405.000,x,-11.25,3,,90,1,,1.5,2,,,7,5,,,42,,") (refused 13)
    × Says (bytes "+UGNSINF: 1,1,20240229030405.000,x,-11.25,3,,90,1,,1.5,2,,,7,5,,,42,,") (refused 3)
    × Says (bytes "+UGNSINF: 1,0,20230229030405.000,x,,,,,,,,,,,7,,,,,,") (read (gnss (no_fix (some 7))))
    × Says (bytes "+UGNSINF: 1,0,,,,,,,,,,,,,-0,,,,,,") (read (gnss (no_fix none)))
    × Says (bytes "+UGNSINF: 0,1,20230229030405.000,,,,,,,,,,,,,,,,,,") (read (gnss not_enabled))
unfolding creg_text cgreg_text cereg_text checked line_check utf8 behind char_size urc_text urc_readings first_of mapped only either need_else starts_with same unsigned magnitude digits_of digit_value value_of ugnsinf_text ugnsinf_fields fix_of fix_on float_or_zero count_or_zero or_zero date_of is_fraction figures date_in is_date existing is_leap days_in part_of float_of decimal_of behind_sign behind_the_sign round
reports = (refl, refl, refl, refl, refl, refl, refl)

-- document 02's CR 8: texts that are no date, however they fail, and some that are one
pub no_dates :
    map (λ (s : String). date_of (bytes s))
    ("" ∷ "2024010203040" ∷ "202401020304050" ∷ "20240102030405." ∷ "20240102030405.0.0" ∷ "20240102030405.x" ∷ "20240102030405,0" ∷ "+2024010203040" ∷ "20240102 30405" ∷ "2024-1-2 3:4:5"
    ∷ "19791231235959" ∷ "21000101000000" ∷ "20240002030405" ∷ "20241302030405" ∷ "20240100030405" ∷ "20240431030405" ∷ "20230229030405" ∷ "20240230030405" ∷ "20240102240405" ∷ "20240102036005"
    ∷ "20161231235960" ∷ "00000000000000" ∷ [])
    ≡ replicate 22 none
unfolding date_of is_fraction figures date_in is_date existing is_leap days_in part_of value_of
no_dates = refl

abbrev on : ℕ → ℕ → ℕ → Option Date
on year month day = some (record { year = year; month = month; day = day; hour = 23; minute = 59; second = 58 })

pub dates :
    map (λ (s : String). date_of (bytes s)) ("19800101235958" ∷ "20000229235958" ∷ "20240229235958.0" ∷ "20991231235958.123456789" ∷ [])
    ≡ on 1980 1 1 ∷ on 2000 2 29 ∷ on 2024 2 29 ∷ on 2099 12 31 ∷ []
unfolding date_of is_fraction figures date_in is_date existing is_leap days_in part_of value_of
dates = refl
