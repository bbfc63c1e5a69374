-- `closest a b` is the whole number nearest to a / b, the even one at a half: what it is by the remainder, and that no other is nearer.
use mathlib.Core.Path.{◌≡◌, refl, sym, ap, ◌∙◌}
use mathlib.Core.Logic.{inl, inr}
use mathlib.Core.Bool.{Bool, true, false, cond}
use Prim.Native.Nat.{ℕ, ◌+◌, ◌*◌, ◌/◌, ◌%◌, ◌≤◌, ◌<◌, compare, Ordering}
use native.Mathlib.Nat.{le_trans, le_of_eq, eq-or-lt_of_le, add-mul, suc-mul, mul-le-mul_right, div-add-mod', mod-lt, le-div_iff_mul-le, div-lt_iff_lt-mul}
use native.Mathlib.Omega.{arith}
use lib.Dec.{is_le, compare_is_eq, leb, eqb}
use lib.Arith.{digits_div, digits_mod}
use lib.Ieee.{nearest}
use lib.Ieee.Fits.{nearest-le}
use lib.Ieee.Nearest.{closest, nearest-ge}
use borrow.Author.Tests.{eq-eqb, ne_eqb, le-leb, lt-leb, leb-true, leb-false}
use Rattle.numeral.specs.Nearest.{apart}

-- ---- by the remainder

by_tests : (q : ℕ) (o : Ordering) → nearest q o ≡ cond (compare_is_eq o) (q + q % 2) (cond (is_le o) q (q + 1))
by_tests q Ordering.lt = refl
by_tests q Ordering.eq = refl
by_tests q Ordering.gt = omega arith

module _ (a b q r : ℕ) (is : q * b + r ≡ a) (r-lt : r < b) where
  by_rest : closest a b ≡ cond (eqb (r * 2) b) (q + q % 2) (cond (leb (r * 2) b) q (q + 1))
  by_rest =
      ap (λ (x : ℕ). closest x b) (sym is)
      ∙ ap (λ (x : ℕ). nearest x (compare ((q * b + r) % b * 2) b)) (digits_div q r-lt)
      ∙ ap (λ (x : ℕ). nearest q (compare (x * 2) b)) (digits_mod q r-lt)
      ∙ by_tests q (compare (r * 2) b)

  pub closest_down : r * 2 < b → closest a b ≡ q
  closest_down h = let n : r * 2 ≡ b → ⊥ = λ e. omega arith in by_rest ∙ simp (ne_eqb (r * 2) b n, le-leb (r * 2) b (omega arith))

  pub closest_tie : r * 2 ≡ b → closest a b ≡ q + q % 2
  closest_tie h = by_rest ∙ simp (eq-eqb (r * 2) b h)

  pub closest_up : b < r * 2 → closest a b ≡ q + 1
  closest_up h = let n : r * 2 ≡ b → ⊥ = λ e. omega arith in by_rest ∙ simp (ne_eqb (r * 2) b n, lt-leb (r * 2) b h)

-- ---- it lies where the fraction does

pub closest_ge : (a b w : ℕ) → 0 < b → w * b ≤ a → w ≤ closest a b
closest_ge a b w B h = le_trans ((le-div_iff_mul-le B).1 h) (nearest-ge (a / b) (compare (a % b * 2) b))

pub closest_le : (a b w : ℕ) → 0 < b → a < w * b → closest a b ≤ w
closest_le a b w B h = le_trans (nearest-le (a / b) (compare (a % b * 2) b)) ((div-lt_iff_lt-mul B).1 h)

-- ---- within a half, and even at a half

pub record Half (a b q : ℕ) : Type 0 where
  pub over : 2 * (q * b) ≤ 2 * a + b
  pub under : 2 * a ≤ 2 * (q * b) + b
  pub over_even : 2 * (q * b) ≡ 2 * a + b → q % 2 ≡ 0
  pub under_even : 2 * a ≡ 2 * (q * b) + b → q % 2 ≡ 0

pub data Three (a b : ℕ) : Type 0 where
  less : a < b → Three a b
  same : a ≡ b → Three a b
  more : b < a → Three a b

pub three : (a b : ℕ) → Three a b
three a b = go (leb a b) (leb-true a b) (leb-false a b)
  where
    go : (t : Bool) → (t ≡ true → a ≤ b) → (t ≡ false → b < a) → Three a b
    go true l g = elim (eq-or-lt_of_le (l refl)) [
      | inl e ↦ same e
      | inr k ↦ less k
    ]
    go false l g = more (g refl)

module _ (a b : ℕ) (b-pos : 0 < b) where
  half_by : (w r : ℕ) → w * b + r ≡ a → r < b → Three (r * 2) b → Half a b (closest a b)
  half_by w r e l (less c) = rw (closest_down a b w r e l c) (record { over = omega arith; under = omega arith; over_even = λ h. absurd (omega arith); under_even = λ h. absurd (omega arith) })
  half_by w r e l (same c) =
      let s : (w + w % 2) * b ≡ w * b + w % 2 * b = add-mul w (w % 2) b in
      let o : w % 2 ≤ 1 = omega arith in
      let p : w % 2 * b ≤ 1 * b = mul-le-mul_right b o in
      rw (closest_tie a b w r e l c) (record { over = omega arith; under = omega arith; over_even = λ h. omega arith; under_even = λ h. omega arith })
  half_by w r e l (more c) =
      let s : (w + 1) * b ≡ w * b + b = add-mul w 1 b ∙ omega arith in
      rw (closest_up a b w r e l c) (record { over = omega arith; under = omega arith; over_even = λ h. absurd (omega arith); under_even = λ h. absurd (omega arith) })

  pub closest_half : Half a b (closest a b)
  closest_half = half_by (a / b) (a % b) (div-add-mod' a b) (mod-lt a b-pos) (three (a % b * 2) b)

-- ---- so no other multiple of b is nearer to a

module _ (a b q : ℕ) (h : Half a b q) where
  next : {v w : ℕ} → v < w → v * b + b ≤ w * b
  next {v} {w} l = le_trans (le_of_eq (sym (suc-mul v b))) (mul-le-mul_right b l)

  pub multiple : (v : ℕ) → apart a (q * b) ≤ apart a (v * b)
  multiple v = elim (three v q) [
    | less l ↦ omega (arith, next l)
    | same e ↦ le_of_eq (ap (λ (x : ℕ). apart a (x * b)) (sym e))
    | more l ↦ omega (arith, next l)
  ]

  pub multiple_even : (v : ℕ) → (v ≡ q → ⊥) → apart a (v * b) ≡ apart a (q * b) → q % 2 ≡ 0
  multiple_even v n e = elim (three v q) [
    | less l ↦ h.over_even (omega (arith, next l))
    | same d ↦ absurd (n d)
    | more l ↦ h.under_even (omega (arith, next l))
  ]

  -- and what lies below a multiple that is at most a is further than q * b
  pub below : (v y : ℕ) → v * b ≤ a → y < v * b → apart a (q * b) < apart a y
  below v y l g = omega (arith, multiple v)
