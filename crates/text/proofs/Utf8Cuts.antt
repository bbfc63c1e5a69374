-- A part that ends inside a character ends with a byte that is no digit, so it is no number.
use Rattle.std.proofs.Common.{◌≡◌, ℕ, zero, suc, ◌+◌, ◌-◌, ◌<◌, ◌≤◌, Bool, true, false, ◌||◌, leb, List, [], ◌∷◌, ◌++◌, length, get_or, take, drop, sym, refl, ap, arith, length-append, length-drop, length-take-le, get_or-drop, get_or-take, get_or-append-add, leb-true}
use mathlib.Core.Option.{none}
use lib.ListN.{get_or-append}
use Rattle.text.specs.Bytes.{within}
use Rattle.text.specs.Part.{part_of}
use Rattle.text.specs.Number.{digit_value, below, unsigned}
use Rattle.text.specs.Utf8.{Range, fits, Character, Inside}
use Rattle.text.proofs.Digits.{off_range, no_digit}
use Rattle.text.proofs.NoNumbers.{no_number}
use Rattle.text.proofs.Tests.{and_left, and_right, at_least}
use Rattle.text.proofs.Utf8Laws.{fits_length}
use Rattle.text.proofs.Utf8Grammar.{every, every_at}

-- every byte of a character of two bytes or more lies above ASCII
abbrev above : Range → Bool
above r = leb 0x80 r.low

abbrev wide : List Range → Bool
wide r = leb (length r) 1 || every above r

fit_above : (r : List Range) (c : List ℕ) → fits r c ≡ true → every above r ≡ true → (n : ℕ) → n < length c → 0x80 ≤ get_or c n 0
fit_above [] [] f e n h = absurd (omega arith)
fit_above [] (x ∷ c) f e n h = absurd (omega (arith, fits_length [] (x ∷ c) f))
fit_above (q ∷ r) [] f e n h = absurd (omega arith)
fit_above (q ∷ r) (x ∷ c) f e zero h =
    let a : 0x80 ≤ q.low = leb-true 0x80 q.low (and_left (above q) (every above r) e) in
    let b : q.low ≤ x = at_least q.low q.high x (and_left (within q.low q.high x) (fits r c) f) in
    omega arith
fit_above (q ∷ r) (x ∷ c) f e (suc n) h =
    fit_above r c (and_right (within q.low q.high x) (fits r c) f) (and_right (above q) (every above r) e) n (omega arith)

wide_above : (c : List ℕ) → Character c → 2 ≤ length c → (n : ℕ) → n < length c → 0x80 ≤ get_or c n 0
wide_above c k l n h = fit_above k.row c k.fit (go (leb (length k.row) 1) refl (every_at wide k.listed refl)) n h
  where
    go : (t : Bool) → leb (length k.row) 1 ≡ t → t || every above k.row ≡ true → every above k.row ≡ true
    go true e w = absurd (omega (arith, leb-true (length k.row) 1 e, fits_length k.row c k.fit))
    go false e w = w

-- so the byte before a place inside a character does
module _ (s : List ℕ) (at : ℕ) (i : Inside s at) where
  in_text : at ≤ length s
  in_text = rw i.text (omega (arith, length-append i.front (i.character ++ i.back), length-append i.character i.back, i.before_end))

  pub above_at : 0x80 ≤ get_or s (at - 1) 0
  above_at =
      let m = at - 1 - length i.front in
      let z : at - 1 ≡ length i.front + m = omega (arith, i.behind_first) in
      let l : m < length i.character = omega (arith, i.behind_first, i.before_end) in
      rw (i.text, z, get_or-append-add, get_or-append i.character i.back 0 m l) (wide_above i.character i.is (omega (arith, i.behind_first, i.before_end)) m l)

-- so the part is no number: that byte is no digit
above_no : (base x : ℕ) → 0x80 ≤ x → below base (digit_value x) ≡ none
above_no base x b = ap (below base) (sym (no_digit x (off_range x 48 57 (λ l k. omega arith)) (λ l k. omega arith) (λ l k. omega arith)))

pub ends_inside : (base max : ℕ) (s : List ℕ) (a at : ℕ) → a < at → Inside s at → unsigned base max (part_of s a at) ≡ none
unfolding part_of
ends_inside base max s a at h i =
    let n = at - 1 - a in
    let e : length (take (at - a) (drop a s)) ≡ at - a = length-take-le (at - a) (drop a s) (omega (arith, length-drop a s, in_text s at i)) in
    let z : a + n ≡ at - 1 = omega arith in
    let b : 0x80 ≤ get_or (take (at - a) (drop a s)) n 0 = rw (get_or-take (at - a) (drop a s) n 0 (omega arith), get_or-drop, z) (above_at s at i) in
    no_number base max (take (at - a) (drop a s)) n (omega arith) (above_no base _ b) (λ z e. omega arith)
