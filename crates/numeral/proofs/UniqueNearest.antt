-- `Nearest` leaves one value: between two f32s with even significands lies another, and it would be nearer than both.
use mathlib.Core.Path.{◌≡◌, refl, sym, ap, ◌∙◌, subst}
use mathlib.Core.Logic.{◌⊎◌, inl, inr}
use mathlib.Core.Bool.{Bool, true, false}
use Prim.Native.Nat.{ℕ, ◌+◌, ◌-◌, ◌*◌, ◌/◌, ◌%◌, ◌^◌, ◌≤◌, ◌<◌}
use native.Mathlib.Nat.{le_of_eq, lt_irrefl, lt_of_not-le, lt_of_lt_of_le, le_antisymm, eq-or-lt_of_le, mul_right_comm, mul-mod_left, mul-le-mul_right, mul-lt-mul_of_pos_right}
use native.Mathlib.Omega.{arith}
use lib.Dec.{ltb}
use lib.Pow.{pow-add, pow_pos}
use lib.Ieee.{Float}
use borrow.Author.Tests.{ltb-true, ltb-false}
use Rattle.numeral.specs.Nearest.{Nearest, apart}
use Rattle.numeral.proofs.Closest.{less, same, more, three}
use Rattle.numeral.proofs.Rounding.{scaled, shorter}

-- above p * 2 ^ j, the next is p + 1
module _ (p j r l : ℕ) (whole : (j ≡ 0) ⊎ (2 ^ 23 ≤ p)) (p-even : p % 2 ≡ 0) (small : r < 2 ^ 24) (r-even : r % 2 ≡ 0) (above : p * 2 ^ j < r * 2 ^ l) where
  coarser : j ≤ l → (p + 1) * 2 ^ j < r * 2 ^ l
  coarser g =
      let w = r * 2 ^ (l - j) in
      let e : r * 2 ^ l ≡ w * 2 ^ j = scaled r l j g in
      let twice : r ≡ r / 2 * 2 = omega arith in
      let w_even : w % 2 ≡ 0 = ap (λ (x : ℕ). x * 2 ^ (l - j) % 2) twice ∙ ap (λ (x : ℕ). x % 2) (mul_right_comm (r / 2) 2 (2 ^ (l - j))) ∙ mul-mod_left (r / 2 * 2 ^ (l - j)) 2 in
      let next : p < w = lt_of_not-le (λ (h : w ≤ p). lt_irrefl (p * 2 ^ j) (lt_of_lt_of_le (subst (λ (x : ℕ). p * 2 ^ j < x) e above) (mul-le-mul_right (2 ^ j) h))) in
      rw e (mul-lt-mul_of_pos_right {m = p + 1} {n = w} (omega arith) (pow_pos j))

  finer : l < j → ⊥
  finer g = elim whole [
    | inl z ↦ omega arith
    | inr h ↦ omega (arith, shorter r l j small g, mul-le-mul_right (2 ^ j) h)
  ]

  between : (p + 1) * 2 ^ j < r * 2 ^ l
  between = go (ltb l j) (ltb-true l j) (ltb-false l j)
    where
      go : (t : Bool) → (t ≡ true → l < j) → (t ≡ false → j ≤ l) → (p + 1) * 2 ^ j < r * 2 ^ l
      go true f g = absurd (finer (f refl))
      go false f g = coarser (g refl)

-- a nearest magnitude with the carry to a 25th digit taken into the exponent
record Normal (sig v : ℕ) : Type 0 where
  p : ℕ
  j : ℕ
  is : p * 2 ^ j ≡ v
  under : p < 2 ^ 24
  whole : (j ≡ 0) ⊎ (2 ^ 23 ≤ p)
  even : sig % 2 ≡ 0 → p % 2 ≡ 0

normal : (sig drop : ℕ) → (drop ≡ 0) ⊎ (2 ^ 23 ≤ sig) → sig ≤ 2 ^ 24 → Normal sig (sig * 2 ^ drop)
normal sig drop whole most = elim (eq-or-lt_of_le most) [
  | inl e ↦
      let d : 2 ^ (drop + 1) ≡ 2 ^ drop * 2 = pow-add 2 drop 1 in
      record { p = 2 ^ 23; j = drop + 1; is = rw (d, e) (omega arith); under = omega arith; whole = inr (omega arith); even = λ h. refl }
  | inr l ↦ record { p = sig; j = drop; is = refl; under = l; whole = whole; even = λ h. h }
]

apart_between : (N D a b c : ℕ) → 0 < D → a < c → c < b → apart N (a * D) ≡ apart N (b * D) → apart N (a * D) ≤ apart N (c * D) → ⊥
apart_between N D a b c h l g e n =
    let x : a * D < c * D = mul-lt-mul_of_pos_right l h in
    let y : c * D < b * D = mul-lt-mul_of_pos_right g h in
    omega arith

abbrev size : {s : Bool} {m D : ℕ} {x : Float} → Nearest s m D x → ℕ
size n = n.sig * 2 ^ n.drop

module _ {s : Bool} {m D : ℕ} (D-pos : 0 < D) where
  none_above : {x y : Float} (a : Nearest s m D x) (b : Nearest s m D y) → size a < size b → ⊥
  none_above a b l =
      let N = m * 2 ^ 149 in
      let u = normal a.sig a.drop a.whole a.most in
      let v = normal b.sig b.drop b.whole b.most in
      let to : apart N (size a * D) ≤ apart N (size b * D) = subst (λ (z : ℕ). apart N (size a * D) ≤ apart N (z * D)) v.is (a.nearest v.p v.j v.under) in
      let from : apart N (size b * D) ≤ apart N (size a * D) = subst (λ (z : ℕ). apart N (size b * D) ≤ apart N (z * D)) u.is (b.nearest u.p u.j u.under) in
      let e : apart N (size a * D) ≡ apart N (size b * D) = le_antisymm to from in
      let a-even = a.even v.p v.j v.under (λ q. lt_irrefl (size a) (lt_of_lt_of_le l (le_of_eq (sym v.is ∙ q)))) (ap (λ (z : ℕ). apart N (z * D)) v.is ∙ sym e) in
      let b-even = b.even u.p u.j u.under (λ q. lt_irrefl (size a) (lt_of_lt_of_le l (le_of_eq (sym q ∙ u.is)))) (ap (λ (z : ℕ). apart N (z * D)) u.is ∙ e) in
      let above : u.p * 2 ^ u.j < v.p * 2 ^ v.j = rw (u.is, v.is) l in
      let next = between u.p u.j v.p v.j u.whole (u.even a-even) v.under (v.even b-even) above in
      let after : u.p * 2 ^ u.j < (u.p + 1) * 2 ^ u.j = mul-lt-mul_of_pos_right (omega arith) (pow_pos u.j) in
      let room : u.p + 1 < 2 ^ 24 = omega (arith, u.under, u.even a-even) in
      apart_between N D (size a) (size b) ((u.p + 1) * 2 ^ u.j) D-pos (subst (λ (z : ℕ). z < (u.p + 1) * 2 ^ u.j) u.is after) (subst (λ (z : ℕ). (u.p + 1) * 2 ^ u.j < z) v.is next) e
      (a.nearest (u.p + 1) u.j room)

  pub sole : {x y : Float} (a : Nearest s m D x) (b : Nearest s m D y) → a.sig * 2 ^ a.drop ≡ b.sig * 2 ^ b.drop
  sole a b = elim (three (size a) (size b)) [
    | less l ↦ absurd (none_above a b l)
    | same e ↦ e
    | more l ↦ absurd (none_above b a l)
  ]
