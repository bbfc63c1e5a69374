-- The date of a fix that is read, and the lines that are refused with 13, by the reader and by the trial.
use mathlib.Core.Logic.{◌↔◌}
use mathlib.Core.Path.{◌≡◌, refl, ap, sym, ◌∙◌}
use mathlib.Core.Bool.{true}
use mathlib.Core.List.{List, [], ◌∷◌}
use mathlib.Core.Option.{Option, none, some}
use Prim.Native.Nat.{ℕ}
use native.Mathlib.Omega.{arith}
use lib.ListN.{length, drop}
use borrow.Author.Tests.{eq-eqb}
use Rattle.text.specs.Bytes.{bytes, starts_with}
use Rattle.text.specs.Field.{fields}
use Rattle.text.specs.Line.{line_check, checked}
use Rattle.text.specs.Reading.{Reading, read, refused, only, either, need_else, mapped, each, first_of}
use Rattle.std.proofs.Common.{Ok}
use Rattle.text.proofs.Begins.{begins_with}
use Rattle.text.proofs.LineLaws.{line_good, own_refusal}
use Rattle.text.proofs.Tests.{never}
use Rattle.text.proofs.Yields.{Yields, yields_read, yields_checked}
use Rattle.unsolicited.specs.Date.{Date, date_of}
use Rattle.unsolicited.specs.Gnss.{Report, fix, fix_of, ugnsinf_fields, ugnsinf_text}
use Rattle.unsolicited.specs.Registration.{Registration, creg_text, cgreg_text, cereg_text, registration_readings}
use Rattle.unsolicited.specs.Undated.{field_of, Undated}
use Rattle.unsolicited.specs.Urc.{gnss, registration, urc_readings, urc_text, begins}
use Rattle.unsolicited.specs.says.Dates.{FixesDated}
use Rattle.unsolicited.specs.says.Gnss as Gnss
use Rattle.unsolicited.specs.says.Urc as Urc
use Rattle.unsolicited.proofs.Written.{said}
use Rattle.unsolicited.proofs.Reports.{Dated, Refusal, plain, undated, reports_so}
use Rattle.unsolicited.proofs.Prefixes.{DatedUrc, urc_so}

module _ (l : List ℕ) where
  -- what is read behind the check has what the reader gives it
  pub checked_so : {A : Type 0} (Q : A → Type 0) (reader : List ℕ → Reading A) → Yields Q (Refusal l) (reader l) → (a : A) (r : Reading A) → r ≡ checked reader l → r ≡ read a → Q a
  checked_so {A = A} Q reader h a r k e = yields_read Q (λ (n : ℕ). Unit {0}) (checked reader l) a (yields_checked Q _ reader l (λ z. tt) (weaker (reader l) h)) (sym k ∙ e)
    where
      weaker : (x : Reading A) → Yields Q (Refusal l) x → Yields Q (λ (n : ℕ). Unit {0}) x
      weaker (read a) h = h
      weaker (refused n) h = tt

  -- whatever refuses so refuses with 13 only what is undated
  why : {A : Type 0} (Q : A → Type 0) (r : Reading A) → Yields Q (Refusal l) r → r ≡ refused 13 → Undated l
  why Q (read a) h e = never (cc)
  why Q (refused k) h e = go k h (cc)
    where
      go : (k : ℕ) → Refusal l k → k ≡ 13 → Undated l
      go k plain e = absurd (omega arith)
      go k (undated u) e = u

  -- and an undated line it refuses with 13
  no_date : Undated l → date_of (field_of 2 l) ≡ none
  no_date u = go (date_of (field_of 2 l)) refl
    where
      go : (o : Option Date) → date_of (field_of 2 l) ≡ o → o ≡ none
      go none e = refl
      go (some d) e = absurd (u.date d (said (field_of 2 l) d e))

  report_13 : Undated l → ugnsinf_text l ≡ refused 13
  unfolding ugnsinf_text ugnsinf_fields fix_of only either need_else
  report_13 u = rw (u.front, eq-eqb (length (fields 44 (drop 10 l))) 21 u.count, u.run, u.fix, no_date u)

  -- and so does the trial, whose other readers say 3
  not_registered : starts_with (bytes "+UGNSINF: ") l ≡ true → registration_readings l ≡ refused 3 ∷ refused 3 ∷ refused 3 ∷ []
  unfolding creg_text cgreg_text cereg_text starts_with only
  not_registered = begins_with (λ (s : List ℕ). registration_readings s ≡ refused 3 ∷ refused 3 ∷ refused 3 ∷ []) (bytes "+UGNSINF: ") l (λ t. refl)

  pub trial_undated : urc_text l ≡ refused 13 → Undated l
  trial_undated = why (DatedUrc l) (urc_text l) (urc_so l)

  pub undated_begins : Undated l → begins l ≡ true
  unfolding begins
  undated_begins u = rw u.front

  pub trial_13 : Undated l → urc_text l ≡ refused 13
  unfolding urc_text urc_readings mapped first_of
  trial_13 u =
      ap (λ (g : Reading Report). first_of 3 (mapped gnss g ∷ each registration (registration_readings l))) (report_13 u)
      ∙ ap (λ (rs : List (Reading Registration)). first_of 13 (each registration rs)) (not_registered u.front)

  -- behind the check
  pub exactly : {A : Type 0} (reader : List ℕ → Reading A) → (reader l ≡ refused 13 → Undated l) → (Undated l → reader l ≡ refused 13)
      → (r : Reading A) → r ≡ checked reader l → (r ≡ refused 13) ↔ ((line_check l ≡ 0) × Undated l)
  exactly reader only_so so r k = (
    λ e. let p = own_refusal reader l 13 (omega arith) (sym k ∙ e) in (p.0, only_so p.1),
    λ h. k ∙ sym (line_good reader l (Ok tt) (sym h.0) tt (refused 13) refl (sym (so h.1))),
  )

  pub fixes_dated : FixesDated l
  fixes_dated = record {
    report_fix = λ r k f e. checked_so (Dated l) ugnsinf_text (reports_so l) (fix f) (Gnss.says r) k e;
    trial_fix = λ r k f e. checked_so (DatedUrc l) urc_text (urc_so l) (gnss (fix f)) (Urc.says r) k e;
    report = λ r k. exactly ugnsinf_text (why (Dated l) (ugnsinf_text l) (reports_so l)) report_13 (Gnss.says r) k;
    trial = λ r k. exactly urc_text trial_undated trial_13 (Urc.says r) k;
  }
