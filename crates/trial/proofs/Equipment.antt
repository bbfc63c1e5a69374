-- A line of digits that is too short for an ICCID: the IMEI reader's alone, so that what the trial says is what its definition does.
use Prim.Native.Nat.{ℕ, ◌-◌, ◌≤◌, ◌<◌}
use mathlib.Core.Path.{◌≡◌, refl, ap, sym, ◌∙◌}
use mathlib.Core.Bool.{Bool, true, false}
use mathlib.Core.List.{List, [], ◌∷◌}
use native.Mathlib.Omega.{arith}
use lib.Dec.{eqb}
use lib.ListN.{length, take, get_or}
use borrow.Author.Tests.{ne_eqb}
use Rattle.text.specs.Bytes.{starts_with, all_digits}
use Rattle.text.specs.Digit.{is_digit}
use Rattle.text.specs.Line.{checked}
use Rattle.text.specs.Reading.{Reading, read, refused, only, either, mapped}
use Rattle.text.proofs.Ascii.{within_wider, check_ascii}
use Rattle.text.proofs.Tests.{and_left, at_least}
use Rattle.at_command.specs.Gsn.{Identity, whole, check_digit, is_imei, imei_text}
use Rattle.at_command.specs.Kind as K
use Rattle.at_command.specs.Response.{imei}
use Rattle.at_command.proofs.ImeiAlone.{imei_alone}
use Rattle.at_command.proofs.gsn.Laws.{other_count}
use Rattle.unsolicited.specs.Urc.{begins}
use Rattle.trial.specs.Answer.{response, line_said}
use Rattle.trial.specs.Sort as S
use Rattle.trial.specs.Sort.{sort_of, line_sort}
use Rattle.trial.specs.says.Equipment.{EquipmentRead}
use Rattle.trial.proofs.Turns.{text_other}

no_urc : (l : List ℕ) → 0 < length l → all_digits l ≡ true → begins l ≡ false
unfolding begins starts_with
no_urc [] h e = absurd (omega arith)
no_urc (x ∷ l) h e = let low = at_least 48 57 x (and_left (is_digit x) _ e) in rw (ne_eqb x 43 (λ z. omega arith))

module _ (l : List ℕ) (all : all_digits l ≡ true) where
  said : 0 < length l → length l ≤ 18 → line_said l ≡ mapped response (mapped imei (imei_text l))
  unfolding line_said checked
  said some few =
      let passes = check_ascii l (omega arith) (within_wider 48 57 0 0x7F (omega arith) (omega arith) l all) in
      rw passes (text_other l (no_urc l some all) ∙ ap (mapped response) (imei_alone l all some few))

  pub version_said : length l ≡ 16 → line_said l ≡ read (response (imei (whole 16 true)))
  unfolding imei_text only either mapped
  version_said h = said (omega arith) (omega arith) ∙ rw (all, h)

  imei_said : length l ≡ 15 → line_said l ≡ only (is_imei l) (read (response (imei (whole 15 false))))
  unfolding imei_text only either mapped
  imei_said h = said (omega arith) (omega arith) ∙ rw (all, h) (go (eqb (get_or l 14 0 - 48) (check_digit (take 14 l))))
    where
      go : (t : Bool) → mapped response (mapped imei (either t (read (whole 15 false)) (refused 3))) ≡ only t (read (response (imei (whole 15 false))))
      go true = refl
      go false = refl

  other_said : 0 < length l → length l ≤ 18 → (length l ≡ 15 → ⊥) → (length l ≡ 16 → ⊥) → line_said l ≡ refused 3
  unfolding mapped
  other_said some few f g = said some few ∙ ap (λ (x : Reading Identity). mapped response (mapped imei x)) (sym (other_count l f g))

  -- and so to a desk
  pub version_sort : length l ≡ 16 → line_sort l ≡ read (S.response K.imei)
  unfolding line_sort mapped
  version_sort h = ap (mapped sort_of) (version_said h)

pub equipment_read : EquipmentRead
equipment_read l all r k = record { sixteen = λ h. k ∙ version_said l all h; fifteen = λ h. k ∙ imei_said l all h; other = λ some few f g. k ∙ other_said l all some few f g }
