-- A line of digits that is too short for an ICCID is the IMEI reader's alone: each other reader of responses refuses it, with 3.
use mathlib.Core.Path.{◌≡◌, refl, ap, sym, ◌∙◌}
use mathlib.Core.Bool.{Bool, true}
use mathlib.Core.List.{List, [], ◌∷◌, ◌++◌}
use Prim.Native.Nat.{ℕ, ◌-◌, ◌≤◌, ◌<◌}
use native.Mathlib.Omega.{arith}
use lib.ListN.{length, drop, get_or, replicate, length-take}
use Rattle.text.specs.Bytes.{bytes, ends_with, all_digits}
use Rattle.text.specs.Digit.{is_digit}
use Rattle.text.specs.Part.{trim_end}
use Rattle.text.specs.Reading.{Reading, read, refused, mapped, first_of}
use Rattle.text.proofs.Ascii.{within_parts}
use Rattle.text.proofs.Begins.{begins_with, begins_same}
use Rattle.text.proofs.Tests.{never, and_left, at_least}
use Rattle.text.proofs.Trims.{end_take}
use Rattle.text.proofs.Yields.{Yields, yields_only, yields_either, yields_sized}
use Rattle.at_command.specs.Ccid.{card_text, iccid_text}
use Rattle.at_command.specs.Generic.{close_text}
use Rattle.at_command.specs.Gsn.{Identity, imei_text}
use Rattle.at_command.specs.Response.{imei, response_text}
use Rattle.at_command.proofs.NoResponse.{Wordless, Refuses, but_imei}

-- the line begins with a digit
abbrev digit_first : List ℕ → Bool
digit_first l = is_digit (get_or l 0 0)

digit_wordless : Wordless digit_first
digit_wordless =
    record { ok = λ t. refl; shut = λ t. refl; cme = λ t. refl; cms = λ t. refl; error = λ t. refl; prompt = λ t. refl; csq = λ t. refl; cpsi = λ t. refl; cops = λ t. refl; cntp = λ t. refl; httptofs = λ t. refl; cmgf = λ t. refl; cmgr = λ t. refl }

first_digit : (l : List ℕ) → 0 < length l → all_digits l ≡ true → digit_first l ≡ true
first_digit [] h e = absurd (omega arith)
first_digit (x ∷ l) h e = and_left (is_digit x) (all_digits l) e

module _ (l : List ℕ) (all : all_digits l ≡ true) where
  close_no : Refuses (close_text l)
  unfolding close_text ends_with
  close_no =
      let k = length l - 10 in
      yields_only _ _ _ _ refl (λ e.
      let z = begins_with (λ (s : List ℕ). all_digits s ≡ true → ⊥) (bytes ", CLOSE OK") (drop k l) (λ t d. never (cc)) (begins_same (bytes ", CLOSE OK") (drop k l) e) in
      absurd (z (within_parts 48 57 k l all).1))

  iccid_no : length l ≤ 18 → Refuses (iccid_text l)
  unfolding iccid_text card_text
  iccid_no h =
      let t = trim_end (bytes "fF") l in
      yields_sized _ _ 19 20 t _ refl (λ e.
      let low = at_least 19 20 (length t) e in
      let few = sym (ap length (end_take (bytes "fF") l)) ∙ length-take (length t) l in
      absurd (omega arith))

  -- it refuses with 3 alone, so that those behind it change nothing
  imei_plain : Yields (λ (i : Identity). Unit {0}) (λ k. k ≡ 3) (imei_text l)
  unfolding imei_text
  imei_plain = yields_either _ _ _ _ _ (λ e. tt) (λ e. yields_only _ _ _ _ refl (λ e. tt))

  pub imei_alone : 0 < length l → length l ≤ 18 → response_text l ≡ mapped imei (imei_text l)
  unfolding response_text first_of mapped
  imei_alone some few = ap (first_of 3) (but_imei digit_first digit_wordless l (first_digit l some all) close_no (iccid_no few)) ∙ go (imei_text l) imei_plain
    where
      go : (r : Reading Identity) → Yields (λ (i : Identity). Unit {0}) (λ k. k ≡ 3) r → first_of 3 (replicate 10 (refused 3) ++ mapped imei r ∷ refused 3 ∷ refused 3 ∷ []) ≡ mapped imei r
      go (read i) h = refl
      go (refused k) h = rw h
