-- Each of the thirteen refuses with 3 a line that fails its condition on the line's front and end.
use mathlib.Core.Path.{◌≡◌, refl, ap, sym, ◌∙◌}
use mathlib.Core.Bool.{Bool, true, false, ◌||◌}
use mathlib.Core.List.{List, [], ◌∷◌}
use mathlib.Core.Option.{some}
use Prim.Native.Nat.{ℕ, zero, suc, ◌-◌, ◌≤◌, ◌<◌}
use native.Mathlib.Omega.{arith}
use lib.Dec.{eqb}
use lib.ListN.{length, take, drop, get_or, length-take, length-drop}
use lib.Seq.{get_or-drop}
use borrow.Author.Tests.{eqb-true, le-leb, ne_eqb}
use Rattle.text.specs.Bytes.{bytes, within, starts_with, all_digits}
use Rattle.text.specs.Class.{class_of}
use Rattle.text.specs.Condition.{beginning, begins_one, is_digit_class, is_hex_class, first_byte, last_byte, meets, row, UnmetRefused}
use Rattle.text.specs.Digit.{is_digit}
use Rattle.text.specs.Field.{nth}
use Rattle.text.specs.Number.{digit_value, below, unsigned}
use Rattle.text.specs.Part.{among, trim_end}
use Rattle.text.specs.Reading.{Reading}
use Rattle.text.proofs.Ascii.{digit_at}
use Rattle.text.proofs.Begins.{begins_same, begins_take}
use Rattle.text.proofs.Classes.{digit_class}
use Rattle.text.proofs.Conditions.{meets_beginning, ends_empty, only_front, unless_met, asked, asked_as}
use Rattle.text.proofs.Digits.{decimal_not}
use Rattle.text.proofs.NoNumbers.{no_number, unsigned_not}
use Rattle.text.proofs.Parts.{from_start}
use Rattle.text.proofs.Tests.{never, not_some, and_left, and_right, at_least}
use Rattle.text.proofs.Trims.{end_take, end_kept}
use Rattle.text.proofs.Yields.{Yields, yields_only, yields_sized, yields_either, yields_need}
use Rattle.at_command.specs.Ccid.{card_text, iccid_text}
use Rattle.at_command.specs.Cmgf.{cmgf_text}
use Rattle.at_command.specs.Cmgr.{cmgr_text}
use Rattle.at_command.specs.Cntp.{cntp_text}
use Rattle.at_command.specs.Conditions.{conditions}
use Rattle.at_command.specs.Cops.{cops_text}
use Rattle.at_command.specs.Cpsi.{cpsi_text}
use Rattle.at_command.specs.Csq.{csq_text}
use Rattle.at_command.specs.Generic.{ok_text, error_text, prompt_text, close_text}
use Rattle.at_command.specs.Gsn.{imei_text}
use Rattle.at_command.specs.Httptofs.{httptofs_text}
use Rattle.at_command.specs.Response.{readings}

-- what a reader accepts meets row i, and it refuses with 3 alone
abbrev Meets : {A : Type 0} → ℕ → List ℕ → Reading A → Type 0
Meets i l = Yields (λ a. meets (row i conditions) l ≡ true) (λ k. k ≡ 3)

-- ---- bytes of some class

hex_digit : (x : ℕ) → is_digit x ≡ true → is_hex_class (class_of x) ≡ true
hex_digit x h = rw h

hex_padding : (x : ℕ) → among (bytes "fF") x ≡ true → is_hex_class (class_of x) ≡ true
hex_padding x = go (eqb x 102) (eqb x 70) (eqb-true x 102) (eqb-true x 70)
  where
    go : (a b : Bool) → (a ≡ true → x ≡ 102) → (b ≡ true → x ≡ 70) → a || (b || false) ≡ true → is_hex_class (class_of x) ≡ true
    go true b f g e = rw (f refl)
    go false true f g e = rw (g refl)
    go false false f g e = never (cc)

first_digit : (l : List ℕ) → 0 < length l → all_digits l ≡ true → is_digit_class (class_of (first_byte l)) ≡ true
first_digit [] h e = absurd (omega arith)
first_digit (x ∷ l) h e =
    let d = and_left (is_digit x) _ e in
    rw (ne_eqb x 43 (λ z. omega (arith, at_least 48 57 x d))) (digit_class x ∙ d)

-- ---- the readers

module _ (l : List ℕ) where
  -- front k stands there
  has_front : (ps : List (List ℕ)) (k : ℕ) → k < length ps → starts_with (nth k ps) l ≡ true → begins_one ps l ≡ true
  has_front [] k h e = absurd (omega arith)
  has_front (p ∷ ps) zero h e = rw e
  has_front (p ∷ ps) (suc k) h e = go (starts_with p l) (has_front ps k (omega arith) e)
    where
      go : (t : Bool) → begins_one ps l ≡ true → t || begins_one ps l ≡ true
      go true f = refl
      go false f = f

  begun : (ps : List (List ℕ)) (k : ℕ) → k < length ps → starts_with (nth k ps) l ≡ true → meets (beginning ps) l ≡ true
  begun ps k h e = meets_beginning ps l ∙ has_front ps k h e

  ok_asked : Meets 0 l (ok_text l)
  unfolding ok_text conditions
  ok_asked =
      let ps = (row 0 conditions).begins in
      yields_either _ _ _ _ _ (λ e. begun ps 0 (omega arith) (begins_same (bytes "OK") l e))
      (λ e. yields_only _ _ _ _ refl (λ e. begun ps 1 (omega arith) (begins_same (bytes "SHUT OK") l e)))

  error_asked : Meets 1 l (error_text l)
  unfolding error_text conditions
  error_asked =
      let ps = (row 1 conditions).begins in
      yields_either _ _ _ _ _ (λ e. yields_need _ _ _ _ refl (λ n h. begun ps 0 (omega arith) e))
      (λ e. yields_either _ _ _ _ _ (λ e. yields_need _ _ _ _ refl (λ n h. begun ps 1 (omega arith) e))
      (λ e. yields_only _ _ _ _ refl (λ e. begun ps 2 (omega arith) (begins_same (bytes "ERROR") l e))))

  prompt_asked : Meets 2 l (prompt_text l)
  unfolding prompt_text conditions
  prompt_asked = yields_only _ _ _ _ refl (λ e. begun (row 2 conditions).begins 0 (omega arith) (begins_same (bytes "> ") l e))

  -- what is read as a number begins with a digit, behind a plus or not
  number_front : (max n : ℕ) {v : ℕ} → unsigned 10 max (take n l) ≡ some v → is_digit_class (class_of (first_byte l)) ≡ true
  number_front max n {v} e = go (is_digit_class (class_of (first_byte l))) refl
    where
      go : (t : Bool) → is_digit_class (class_of (first_byte l)) ≡ t → t ≡ true
      go true h = refl
      go false h = not_some (sym (unsigned_not max n l h) ∙ e)

  close_asked : Meets 3 l (close_text l)
  unfolding close_text conditions meets starts_with
  close_asked =
      yields_only _ _ _ _ refl (λ e. yields_need _ _ _ _ refl (λ n h. let d = number_front 18446744073709551615 (length l - 10) (ap (unsigned 10 18446744073709551615) (sym (from_start l (length l - 10))) ∙ h) in rw (d, e)))

  -- what is read as a number of two bytes or more up to the line's end ends with a digit
  number_end : (max k : ℕ) {v : ℕ} → suc k < length l → unsigned 10 max (drop k l) ≡ some v → is_digit (last_byte l) ≡ true
  number_end max k {v} h e = go (is_digit (last_byte l)) refl
    where
      n : ℕ
      n = length l - 1 - k

      is_last : get_or (drop k l) n 0 ≡ last_byte l
      is_last = get_or-drop k l n 0 ∙ ap (λ (i : ℕ). get_or l i 0) (omega arith)

      go : (t : Bool) → is_digit (last_byte l) ≡ t → t ≡ true
      go true p = refl
      go false p =
          let none_there = ap (λ (x : ℕ). below 10 (digit_value x)) is_last ∙ decimal_not (last_byte l) p in
          not_some (sym (no_number 10 max (drop k l) n (omega (arith, length-drop k l)) none_there (λ z q. omega arith)) ∙ e)

  -- an ICCID, its padding left out, is a number up to its end, which a digit is; what is left out are letters f and F
  iccid_last : (k : ℕ) {v : ℕ} → 8 ≤ length (trim_end (bytes "fF") l) → unsigned 10 k (drop 6 (trim_end (bytes "fF") l)) ≡ some v → is_hex_class (class_of (last_byte l)) ≡ true
  iccid_last k {v} h e = go (among (bytes "fF") (last_byte l)) refl
    where
      few : length (trim_end (bytes "fF") l) ≤ length l
      few = let z = sym (ap length (end_take (bytes "fF") l)) ∙ length-take (length (trim_end (bytes "fF") l)) l in omega arith

      go : (t : Bool) → among (bytes "fF") (last_byte l) ≡ t → is_hex_class (class_of (last_byte l)) ≡ true
      go true p = hex_padding (last_byte l) p
      go false p =
          hex_digit (last_byte l)
          (number_end k 6 (omega (arith, few)) (ap (λ (s : List ℕ). unsigned 10 k (drop 6 s)) (sym (end_kept (bytes "fF") l (omega (arith, few)) p)) ∙ e))

  iccid_ends : {v : ℕ} → within 19 20 (length (trim_end (bytes "fF") l)) ≡ true → starts_with (bytes "89") (trim_end (bytes "fF") l) ≡ true
      → unsigned 10 18446744073709551615 (drop 6 (trim_end (bytes "fF") l)) ≡ some v → meets (row 4 conditions) l ≡ true
  unfolding conditions meets
  iccid_ends n f d =
      let t = trim_end (bytes "fF") l in
      let low = at_least 19 20 (length t) n in
      let few = sym (ap length (end_take (bytes "fF") l)) ∙ length-take (length t) l in
      let long : 19 ≤ length l = omega arith in
      let many : 8 ≤ length t = omega arith in
      let front = begins_take (bytes "89") (length t) l (ap (starts_with (bytes "89")) (end_take (bytes "fF") l) ∙ f) in
      rw (front, ends_empty l, iccid_last 18446744073709551615 many d) (le-leb 19 (length l) long)

  iccid_asked : Meets 4 l (iccid_text l)
  unfolding iccid_text card_text
  iccid_asked =
      yields_sized _ _ 19 20 _ _ refl (λ n. yields_only _ _ _ _ refl (λ f. yields_need _ _ _ _ refl (λ c d. yields_need _ _ _ _ refl (λ i d. yields_need _ _ _ _ refl (λ a d. iccid_ends n f d)))))

  imei_ends : all_digits l ≡ true → within 15 16 (length l) ≡ true → meets (row 10 conditions) l ≡ true
  unfolding conditions meets starts_with
  imei_ends d n =
      let low = at_least 15 16 (length l) n in
      rw (first_digit l (omega arith) d, ends_empty l, digit_class (last_byte l), digit_at l (length l - 1) d (omega arith)) n

  imei_asked : Meets 10 l (imei_text l)
  unfolding imei_text
  imei_asked =
      yields_either _ _ _ _ _
      (λ e. imei_ends (and_left _ _ e) (ap (within 15 16) (eqb-true (length l) 15 (and_left _ _ (and_right (all_digits l) _ e)))))
      (λ e. yields_only _ _ _ _ refl (λ e. imei_ends (and_left _ _ e) (ap (within 15 16) (eqb-true (length l) 16 (and_right (all_digits l) _ e)))))

pub responses_asked : (l : List ℕ) → UnmetRefused conditions l (readings l)
unfolding conditions readings csq_text cpsi_text cops_text cntp_text httptofs_text cmgf_text cmgr_text
responses_asked l =
    asked conditions l (readings l) (
      asked_as _ _ _ (unless_met _ l _ (ok_asked l)),
      (
        asked_as _ _ _ (unless_met _ l _ (error_asked l)),
        (
          asked_as _ _ _ (unless_met _ l _ (prompt_asked l)),
          (
            asked_as _ _ _ (unless_met _ l _ (close_asked l)),
            (
              asked_as _ _ _ (unless_met _ l _ (iccid_asked l)),
              (
                asked_as _ _ _ (only_front (bytes "+CSQ: ") l _),
                (
                  asked_as _ _ _ (only_front (bytes "+CPSI: ") l _),
                  (
                    asked_as _ _ _ (only_front (bytes "+COPS: ") l _),
                    (
                      asked_as _ _ _ (only_front (bytes "+CNTP: ") l _),
                      (
                        asked_as _ _ _ (only_front (bytes "+HTTPTOFS: ") l _),
                        (
                          asked_as _ _ _ (unless_met _ l _ (imei_asked l)),
                          (
                            asked_as _ _ _ (only_front (bytes "+CMGF: ") l _),
                            (
                              asked_as _ _ _ (only_front (bytes "+CMGR: ") l _),
                              tt,
                            ),
                          ),
                        ),
                      ),
                    ),
                  ),
                ),
              ),
            ),
          ),
        ),
      ),
    )
