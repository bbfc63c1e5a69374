-- The fewest digits of a number are as many as std prints. Assumes nothing.
use mathlib.Core.Path.{◌≡◌, refl, ap, subst, ◌∙◌}
use mathlib.Core.List.{List, [], ◌∷◌, ◌++◌}
use Prim.Native.Nat.{ℕ, zero, suc, ◌+◌, ◌-◌, ◌/◌, ◌%◌, ◌^◌, ◌≤◌, ◌<◌}
use native.Mathlib.Nat.{le_trans, le_antisymm, lt_irrefl, lt_of_lt_of_le, lt_of_not-le, le_of_suc-le-suc, pow-suc, pow-le-pow_right, mod-eq_of_lt}
use native.Mathlib.Omega.{arith}
use lib.ListN.{length, length-append}
use borrow.Author.Tests.{lt-ltb}
use Rattle.std.specs.Fmt.{decimal}
use Rattle.std.proofs.lemmas.Fmt.{decimal_by_steps}
use Rattle.io.specs.Digits.{last_digits, IsDigitCount}

-- of two counts of digits that are the fewest, none is the smaller
no_fewer : (base least n k l : ℕ) → 0 < base → IsDigitCount base least n k → IsDigitCount base least n l → l ≤ k
no_fewer base least n k l b f g =
    le_of_suc-le-suc (lt_of_not-le (λ (h : k < l).
    lt_irrefl n (lt_of_lt_of_le f.1 (le_trans (pow-le-pow_right b (omega arith)) (g.2 (omega (arith, f.0)))))))

pub one_count : (base least n k l : ℕ) → 0 < base → IsDigitCount base least n k → IsDigitCount base least n l → k ≡ l
one_count base least n k l b f g = le_antisymm (no_fewer base least n l k b g f) (no_fewer base least n k l b f g)

-- the digits of a number, in as many places as it has
abbrev IsDecimal : ℕ → List ℕ → Type 0
IsDecimal n ds = (k : ℕ) → IsDigitCount 10 1 n k → last_digits 10 k n ≡ ds

below : (n k : ℕ) → n < 10 ^ suc k → n / 10 < 10 ^ k
below n k h = let p = rw pow-suc at h in omega arith

above : (n k : ℕ) → 10 ^ suc k ≤ n → 10 ^ k ≤ n / 10
above n k h = let p = rw pow-suc at h in omega arith

powers : (j k : ℕ) → j ≤ k → 10 ^ j ≤ 10 ^ k
powers j k h = let base : 0 < 10 = omega arith in pow-le-pow_right base h

one_digit : (n : ℕ) → n < 10 → IsDecimal n ((48 + n) ∷ [])
one_digit n h zero c = absurd (omega (arith, c.0))
one_digit n h (suc zero) c = rw (lt-ltb (n % 10) 10 (omega arith), mod-eq_of_lt h) refl
one_digit n h (suc (suc k)) c =
    let m : 10 ^ (suc (suc k) - 1) ≤ n = c.2 (omega arith) in
    let p : 10 ^ 1 ≤ 10 ^ (suc (suc k) - 1) = powers 1 (suc (suc k) - 1) (omega arith) in
    absurd (omega arith)

more_digits : (n : ℕ) (ds : List ℕ) → 10 ≤ n → IsDecimal (n / 10) ds → IsDecimal n (ds ++ ((48 + n % 10) ∷ []))
more_digits n ds h d zero c = absurd (omega (arith, c.0))
more_digits n ds h d (suc zero) c = absurd (omega (arith, c.1))
more_digits n ds h d (suc (suc k)) c =
    let m : 10 ^ suc k ≤ n = subst (λ (j : ℕ). 10 ^ j ≤ n) (omega arith) (c.2 (omega arith)) in
    let front : last_digits 10 (suc k) (n / 10) ≡ ds = d (suc k) (omega arith, below n (suc k) c.1, λ (l : 1 < suc k). subst (λ (j : ℕ). 10 ^ j ≤ n / 10) (omega arith) (above n k m)) in
    rw (lt-ltb (n % 10) 10 (omega arith)) (ap (λ (s : List ℕ). s ++ ((48 + n % 10) ∷ [])) front)

pub decimal_digits : (n k : ℕ) → n < 2 ^ 64 → IsDigitCount 10 1 n k → last_digits 10 k n ≡ decimal n
decimal_digits n k h = decimal_by_steps IsDecimal one_digit more_digits n h k

pub length_digits : (k n : ℕ) → length (last_digits 10 k n) ≡ k
length_digits zero n = refl
length_digits (suc k) n = length-append (last_digits 10 k (n / 10)) (_ ∷ []) ∙ ap (λ (m : ℕ). m + 1) (length_digits k (n / 10)) ∙ omega arith

pub few_digits : (n k : ℕ) → n < 2 ^ 64 → IsDigitCount 10 1 n k → k ≤ 20
few_digits n k h c = le_of_suc-le-suc (lt_of_not-le (λ (more : 21 ≤ k).
    let m : 10 ^ (k - 1) ≤ n = c.2 (omega arith) in
    let p : 10 ^ 20 ≤ 10 ^ (k - 1) = powers 20 (k - 1) (omega arith) in
    omega arith))
