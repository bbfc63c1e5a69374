-- No second answer meets a contract of this crate: what an answer says can be taken back.
use mathlib.Core.Path.{◌≡◌, refl, ap}
use mathlib.Core.List.{List, [], ◌∷◌}
use Prim.Native.Nat.{ℕ}
use Rattle.std.proofs.Common.{Option, Some, None, Result, ℤ}
use Rattle.text.specs.declared.refusal.Refusal.{Refusal}
use lib.ListN.{get_or}
use Rattle.text.specs.Reading.{Reading}
use Rattle.text.specs.Line.{checked}
use Rattle.text.proofs.One.{one_answer, option, back_option, one_reading}
use Rattle.unsolicited.specs.Date.{Date, date_of}
use Rattle.unsolicited.specs.Gnss as G
use Rattle.unsolicited.specs.Registration.{Registration, status_of}
use Rattle.unsolicited.specs.Urc as U
use Rattle.unsolicited.specs.says.Gnss.{date_option_says, report_says, DateKeeps, GnssReportKeeps}
use Rattle.unsolicited.specs.says.Registration.{status_number, registration_says, RegistrationKeeps, StatusKeeps}
use Rattle.unsolicited.specs.says.Urc.{urc_says, UrcKeeps, UrcAtKeeps}
use Rattle.unsolicited.specs.declared.network_registration.RegistrationStatus.{RegistrationStatus}
use Rattle.unsolicited.specs.declared.network_registration.RegistrationStatus.TheVariants.{NotRegistered, RegisteredHome, Searching, RegistrationDenied, Unknown, RegisteredRoaming}
use Rattle.unsolicited.specs.declared.network_registration.NetworkRegistration.{NetworkRegistration}
use Rattle.unsolicited.specs.declared.ugnsinf.DateTime.{DateTime}
use Rattle.unsolicited.specs.declared.ugnsinf.GnssFix.{GnssFix}
use Rattle.unsolicited.specs.declared.ugnsinf.GnssReport.{GnssReport}
use Rattle.unsolicited.specs.declared.ugnsinf.GnssReport.TheVariants.{NotEnabled, NoFix, Fix}
use Rattle.unsolicited.specs.declared.Urc.{Urc}
use Rattle.unsolicited.specs.declared.Urc.TheVariants as C

-- registrations
abbrev status : ℕ → RegistrationStatus
status n = get_or (NotRegistered ∷ RegisteredHome ∷ Searching ∷ RegistrationDenied ∷ Unknown ∷ RegisteredRoaming ∷ []) n NotRegistered

back_status : (s : RegistrationStatus) → status (status_number s) ≡ s
back_status NotRegistered = refl
back_status RegisteredHome = refl
back_status Searching = refl
back_status RegistrationDenied = refl
back_status Unknown = refl
back_status RegisteredRoaming = refl

-- one answer: network_registration::<RegistrationStatus as From<i32>>::from
pub one_status : (n : ℤ) (a b : RegistrationStatus) → StatusKeeps n a → StatusKeeps n b → a ≡ b
one_status n a b = one_answer status_number status back_status a b (status_of n)

abbrev network : Registration → NetworkRegistration
network r = record { status = status r.status; lac = option Some None (λ n. n) r.lac; ci = option Some None (λ n. n) r.ci }

back_network : (r : NetworkRegistration) → network (registration_says r) ≡ r
back_network r = rw (back_status r.status, back_option r.lac, back_option r.ci)

-- one answer: creg::CReg::from_line, cgreg::CGReg::from_line, cereg::CEReg::from_line, network_registration::NetworkRegistration::from_line
pub one_registration : (text : List ℕ → Reading Registration) (line : List ℕ) (a b : Result NetworkRegistration Refusal) → RegistrationKeeps text line a → RegistrationKeeps text line b → a ≡ b
one_registration text line a b = one_reading registration_says network back_network a b (checked text line)

-- dates
abbrev date_time : Date → DateTime
date_time d = record { year = d.year; month = d.month; day = d.day; hour = d.hour; minute = d.minute; second = d.second }

back_date : (r : Option DateTime) → option Some None date_time (date_option_says r) ≡ r
back_date (Some d) = refl
back_date None = refl

-- one answer: ugnsinf::DateTime::new
pub one_date : (text : List ℕ) (a b : Option DateTime) → DateKeeps text a → DateKeeps text b → a ≡ b
one_date text a b = one_answer date_option_says (option Some None date_time) back_date a b (date_of text)

-- reports
abbrev gnss_fix : G.Fix → GnssFix
gnss_fix f =
    record {
      date_time = date_time f.date_time;
      latitude = f.latitude;
      longitude = f.longitude;
      altitude = f.altitude;
      hdop = f.hdop;
      pdop = f.pdop;
      vdop = f.vdop;
      speed_over_ground = f.speed_over_ground;
      course_over_ground = f.course_over_ground;
      sat_gps_in_view = f.sat_gps_in_view;
      sat_gnss_used = f.sat_gnss_used;
      sat_glonass_used = f.sat_glonass_used;
      signal_noise_ratio = f.signal_noise_ratio;
    }

abbrev report : G.Report → GnssReport
report G.not_enabled = NotEnabled
report (G.no_fix n) = NoFix (option Some None (λ n. n) n)
report (G.fix f) = Fix (gnss_fix f)

back_report : (r : GnssReport) → report (report_says r) ≡ r
back_report NotEnabled = refl
back_report (NoFix n) = ap NoFix (back_option n)
back_report (Fix f) = refl

-- one answer: ugnsinf::GnssReport::from_line
pub one_report : (line : List ℕ) (a b : Result GnssReport Refusal) → GnssReportKeeps line a → GnssReportKeeps line b → a ≡ b
one_report line a b = one_reading report_says report back_report a b (checked G.ugnsinf_text line)

-- the trial
abbrev pub urc : U.Unsolicited → Urc
urc (U.gnss r) = C.GnssReport (report r)
urc (U.registration r) = C.NetworkRegistration (network r)

pub back_urc : (u : Urc) → urc (urc_says u) ≡ u
back_urc (C.GnssReport r) = ap C.GnssReport (back_report r)
back_urc (C.NetworkRegistration r) = ap C.NetworkRegistration (back_network r)

-- one answer: Urc::from_line
pub one_urc : (line : List ℕ) (a b : Result Urc Refusal) → UrcKeeps line a → UrcKeeps line b → a ≡ b
one_urc line a b = one_reading urc_says urc back_urc a b (checked U.urc_text line)

-- one answer: straight::read_at
pub one_urc_at : (place : ℕ) (line : List ℕ) (a b : Result Urc Refusal) → UrcAtKeeps place line a → UrcAtKeeps place line b → a ≡ b
one_urc_at place line a b = one_reading urc_says urc back_urc a b (checked (U.urc_reading_at place) line)
