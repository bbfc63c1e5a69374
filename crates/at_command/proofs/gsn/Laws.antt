-- The check digit, digit by digit, and each way out of the reader. Assumes nothing.
use mathlib.Core.Path.{refl, ◌≡◌, ◌∙◌}
use mathlib.Core.Bool.{Bool, true, false, ◌&&◌}
use mathlib.Core.List.{List}
use Prim.Native.Nat.{ℕ, ◌-◌, ◌≤◌, ◌<◌}
use native.Mathlib.Omega.{arith}
use lib.ListN.{length, get_or, take, drop}
use lib.Dec.{eqb}
use borrow.Author.Tests.{ne_eqb}
use Rattle.text.specs.Bytes.{all_digits}
use Rattle.text.specs.Digit.{above_zero}
use Rattle.text.proofs.Ascii.{within_parts, is_digit_lem}
use Rattle.text.proofs.Told.{difference, to_nine as told-nine}
use Rattle.text.specs.Reading.{read, refused, only, either}
use Rattle.at_command.specs.Gsn.{whole, check_digit, is_imei, imei_text}

-- what a digit is worth, as the code has it
module _ (s : List ℕ) (i : ℕ) (inv : all_digits (drop i s) ≡ true) (h : i < length s) where
  digit_is : (d : ℕ) → d ≡ above_zero (get_or s i 0) → d ≡ get_or s i 0 - 48
  digit_is d e = e ∙ difference (get_or s i 0) (is_digit_lem s i inv h)

  pub to_nine : (d : ℕ) → d ≡ above_zero (get_or s i 0) → d ≤ 9
  to_nine d e = rw e (told-nine (get_or s i 0) (is_digit_lem s i inv h))

-- `is_imei`: the fifteenth digit against the check digit of the first fourteen
pub fifteen_is : (s : List ℕ) (v k : ℕ) → all_digits s ≡ true → length s ≡ 15 → v ≡ above_zero (get_or s 14 0) → k ≡ check_digit (take 14 s) → eqb v k ≡ is_imei s
fifteen_is s v k all fifteen value is =
    let last : v ≡ get_or s 14 0 - 48 = digit_is s 14 (within_parts 48 57 14 s all).1 (omega arith) v value in
    rw (all, fifteen, ← last, ← is)

-- no other length is a number
pub other_count : (s : List ℕ) → (length s ≡ 15 → ⊥) → (length s ≡ 16 → ⊥) → refused 3 ≡ imei_text s
unfolding imei_text only either
other_count s f g = rw (ne_eqb _ _ f, ne_eqb _ _ g) (go (all_digits s))
  where
    go : (t : Bool) → refused 3 ≡ either (t && false) (read (whole (length s) false)) (only (t && false) (read (whole (length s) true)))
    go true = refl
    go false = refl
