-- What the answers of ugnsinf say on paper, and its contracts.
use Rattle.std.specs.Prelude.{◌≡◌, List, ℕ, Option, Result}
use Rattle.std.proofs.Math.Option as paper-option
use Rattle.text.specs.Line.{checked}
use Rattle.text.specs.Reading.{Reading}
use Rattle.text.specs.declared.refusal.Refusal.{Refusal}
use Rattle.text.specs.says.Refusal.{option_said, option_mapped, reading_said}
use Rattle.unsolicited.specs.Date.{Date, date_of}
use Rattle.unsolicited.specs.Gnss as paper
use Rattle.unsolicited.specs.declared.ugnsinf.DateTime.{DateTime}
use Rattle.unsolicited.specs.declared.ugnsinf.GnssFix.{GnssFix}
use Rattle.unsolicited.specs.declared.ugnsinf.GnssReport.{GnssReport}
use Rattle.unsolicited.specs.declared.ugnsinf.GnssReport.TheVariants.{NotEnabled, NoFix, Fix}

abbrev pub date_says : DateTime → Date
date_says d = record { year = d.year; month = d.month; day = d.day; hour = d.hour; minute = d.minute; second = d.second }

abbrev pub date_option_says : Option DateTime → paper-option.Option Date
date_option_says r = option_mapped date_says r

abbrev pub fix_says : GnssFix → paper.Fix
fix_says f =
    record {
      date_time = date_says f.date_time;
      latitude = f.latitude;
      longitude = f.longitude;
      altitude = f.altitude;
      hdop = f.hdop;
      pdop = f.pdop;
      vdop = f.vdop;
      speed_over_ground = f.speed_over_ground;
      course_over_ground = f.course_over_ground;
      sat_gps_in_view = f.sat_gps_in_view;
      sat_gnss_used = f.sat_gnss_used;
      sat_glonass_used = f.sat_glonass_used;
      signal_noise_ratio = f.signal_noise_ratio;
    }

abbrev pub report_says : GnssReport → paper.Report
report_says NotEnabled = paper.not_enabled
report_says (NoFix n) = paper.no_fix (option_said n)
report_says (Fix f) = paper.fix (fix_says f)

abbrev pub says : Result GnssReport Refusal → Reading paper.Report
says r = reading_said report_says r

abbrev pub DateKeeps : List ℕ → Option DateTime → Type 0
DateKeeps text r = date_option_says r ≡ date_of text

abbrev pub GnssReportKeeps : List ℕ → Result GnssReport Refusal → Type 0
GnssReportKeeps line r = says r ≡ checked paper.ugnsinf_text line
