-- Bytes in a range: those of two texts together, and of two parts, in a wider range, and none below it; digits are printable, and each of them is a digit. A line of ASCII bytes is UTF-8, and passes the check if it is not too long. Assumes nothing.
use Rattle.std.proofs.Common.{◌≡◌, ℕ, ◌+◌, ◌<◌, ◌≤◌, Bool, true, ◌&&◌, List, [], ◌∷◌, ◌++◌, length, get_or, take, drop, sym, refl, ap, ◌∙◌, arith, take-append-drop, ne_eqb, le-leb}
use mathlib.Core.Bool.{and_assoc}
use Rattle.text.specs.Bytes.{within, count_of, all_within, all_digits}
use Rattle.text.specs.Digit.{is_digit}
use Rattle.text.specs.Line.{line_check}
use Rattle.text.specs.Utf8.{behind, utf8}
use Rattle.text.proofs.AtIndex.{at_next}
use Rattle.text.proofs.LineLaws.{check_good}
use Rattle.text.proofs.Tests.{and_left, and_right, at_least, at_most}
use Rattle.text.proofs.Utf8Laws.{utf8_ascii}

module _ (lo hi : ℕ) where
  pub within_append : (s t : List ℕ) → all_within lo hi (s ++ t) ≡ all_within lo hi s && all_within lo hi t
  within_append [] t = refl
  within_append (x ∷ s) t = ap (λ (b : Bool). within lo hi x && b) (within_append s t) ∙ sym (and_assoc (within lo hi x) (all_within lo hi s) (all_within lo hi t))

  pub within_parts : (n : ℕ) (s : List ℕ) → all_within lo hi s ≡ true → (all_within lo hi (take n s) ≡ true) × (all_within lo hi (drop n s) ≡ true)
  within_parts n s e =
      let both = sym (within_append (take n s) (drop n s)) ∙ ap (all_within lo hi) (take-append-drop n s) ∙ e in
      (and_left _ _ both, and_right (all_within lo hi (take n s)) _ both)

  pub within_wider : (a b : ℕ) → a ≤ lo → hi ≤ b → (s : List ℕ) → all_within lo hi s ≡ true → all_within a b s ≡ true
  within_wider a b l h [] e = refl
  within_wider a b l h (x ∷ s) e =
      let w = and_left (within lo hi x) _ e in
      rw (le-leb a x (omega (arith, at_least lo hi x w)), le-leb x b (omega (arith, at_most lo hi x w))) (within_wider a b l h s (and_right (within lo hi x) _ e))

  pub within_free : (b : ℕ) → b < lo → (s : List ℕ) → all_within lo hi s ≡ true → count_of b s ≡ 0
  within_free b l [] e = refl
  within_free b l (x ∷ s) e =
      let low = at_least lo hi x (and_left (within lo hi x) _ e) in
      rw (ne_eqb x b (λ z. omega arith), within_free b l s (and_right (within lo hi x) _ e))

pub digits_printable : (s : List ℕ) → all_digits s ≡ true → all_within 32 126 s ≡ true
digits_printable = within_wider 48 57 32 126 (omega arith) (omega arith)

module _ (s : List ℕ) (i : ℕ) (all : all_digits (drop i s) ≡ true) (h : i < length s) where
  split : is_digit (get_or s i 0) && all_digits (drop (i + 1) s) ≡ true
  split = ap all_digits (sym (at_next s i h)) ∙ all

  pub is_digit_lem : is_digit (get_or s i 0) ≡ true
  is_digit_lem = and_left (is_digit (get_or s i 0)) _ split

  pub digits_on : all_digits (drop (i + 1) s) ≡ true
  digits_on = and_right (is_digit (get_or s i 0)) _ split

pub digit_at : (s : List ℕ) (i : ℕ) → all_digits s ≡ true → i < length s → is_digit (get_or s i 0) ≡ true
digit_at s i all h = is_digit_lem s i (within_parts 48 57 i s all).1 h

pub ascii_utf8 : (s : List ℕ) → all_within 0 0x7F s ≡ true → utf8 s ≡ true
unfolding utf8 behind
ascii_utf8 [] e = refl
ascii_utf8 (x ∷ s) e =
    let high = at_most 0 0x7F x (and_left (within 0 0x7F x) _ e) in
    utf8_ascii (x ∷ s) 0 refl (omega arith) (omega arith) ∙ ascii_utf8 s (and_right (within 0 0x7F x) _ e)

pub check_ascii : (s : List ℕ) → length s ≤ 256 → all_within 0 0x7F s ≡ true → line_check s ≡ 0
check_ascii s h e = sym (check_good s true h (sym (ascii_utf8 s e)) refl)
