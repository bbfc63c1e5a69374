-- The exported calls hand over a fix's date, and refuse a line without one, as the trial does (specs/Dates.antt).
use Prim.Native.Nat.{ℕ, ◌+◌}
use mathlib.Core.Logic.{◌↔◌}
use mathlib.Core.Path.{◌≡◌, refl, sym, ap, ◌∙◌}
use mathlib.Core.List.{List}
use native.Mathlib.Omega.{arith}
use lib.ListN.{get_or, take, drop}
use Rattle.text.specs.Reading.{Reading, read, refused}
use Rattle.text.proofs.Tests.{never}
use Rattle.at_command.specs.Response.{kind_of}
use Rattle.unsolicited.specs.Gnss.{not_enabled, no_fix, fix}
use Rattle.unsolicited.specs.Urc.{gnss, registration}
use Rattle.trial.specs.Answer.{Said, response, unsolicited, line_said}
use Rattle.trial.proofs.Order.{refusal_some, said_dated, said_13}
use Rattle.sim7000.specs.Dates.{DateHanded, DatesExported}
use Rattle.sim7000.specs.Reader.{sort_number}
use Rattle.sim7000.specs.Values.{ReadLeft, read_left, handed_over}
use Rattle.at_command.proofs.KindPlaces.{place_few}

module _ (line : List ℕ) where
  date_handed : (s : Reading Said) → line_said line ≡ s → (before after : List ℕ) → read_left 0 after ≡ handed_over s before → get_or after 0 0 ≡ 14 → get_or after 1 0 ≡ 2 → DateHanded line after
  date_handed (refused k) e before after h a b = absurd (refusal_some line (sym e) (sym (ap (λ (x : ReadLeft). x.answer) h)))
  date_handed (read (response r)) e before after h a b =
      let v = ap (λ (x : ReadLeft). get_or x.values 0 0) h in let p = place_few (kind_of r) in absurd (omega arith)
  date_handed (read (unsolicited (registration r))) e before after h a b = let v = ap (λ (x : ReadLeft). get_or x.values 0 0) h in absurd (omega arith)
  date_handed (read (unsolicited (gnss not_enabled))) e before after h a b = let v = ap (λ (x : ReadLeft). get_or x.values 1 0) h in absurd (omega arith)
  date_handed (read (unsolicited (gnss (no_fix n)))) e before after h a b = let v = ap (λ (x : ReadLeft). get_or x.values 1 0) h in absurd (omega arith)
  date_handed (read (unsolicited (gnss (fix f)))) e before after h a b =
      record { date = f.date_time; says = said_dated line f e; is = ap (λ (x : ReadLeft). take 6 (drop 2 x.values)) h }

  -- an answer is 13 exactly where the line says so
  answer_13 : (s : Reading Said) (before after : List ℕ) (r : ℕ) → read_left r after ≡ handed_over s before → (r ≡ 13) ↔ (s ≡ refused 13)
  answer_13 (read s) before after r h = let v = ap (λ (x : ReadLeft). x.answer) h in (λ e. absurd (omega arith), λ e. never (cc))
  answer_13 (refused k) before after r h = let v = ap (λ (x : ReadLeft). x.answer) h in (λ e. ap refused (sym v ∙ e), λ e. v ∙ cc)

  number_13 : (s : Reading Said) → (sort_number s ≡ 128 + 13) ↔ (s ≡ refused 13)
  number_13 (read (response r)) = let p = place_few (kind_of r) in (λ e. absurd (omega arith), λ e. never (cc))
  number_13 (read (unsolicited (gnss r))) = (λ e. absurd (omega arith), λ e. never (cc))
  number_13 (read (unsolicited (registration r))) = (λ e. absurd (omega arith), λ e. never (cc))
  number_13 (refused k) = (λ e. let z : k ≡ 13 = omega arith in ap refused z, λ e. let z : k ≡ 13 = cc in ap (λ (n : ℕ). 128 + n) z)

  pub dates_exported : DatesExported line
  dates_exported = record {
    handed = λ before after h. date_handed (line_said line) refl before after h;
    refused = λ before after r h. let x = answer_13 (line_said line) before after r h in let y = said_13 line in (λ e. y.0 (x.0 e), λ u. x.1 (y.1 u));
    sorted = λ r h. let x = number_13 (line_said line) in let y = said_13 line in (λ e. y.0 (x.0 (sym h ∙ e)), λ u. h ∙ x.1 (y.1 u));
  }
