-- Two divisions give the quotient and the remainder of n * 2 ^ 23 by d, and the remainder rounds.
-- What four answers repeat is the call of one lemma, `under`, with what each goal's own record has.
use mathlib.Core.Path.{◌≡◌, sym, ap, ◌∙◌}
use Prim.Native.Nat.{ℕ, ◌+◌, ◌*◌, ◌/◌, ◌%◌, ◌^◌, ◌≤◌, ◌<◌}
use native.Mathlib.Nat.{add-mul, mul_right_comm, div-add-mod', mod-lt, div-lt_iff_lt-mul}
use native.Mathlib.Numerals.{lt_of_le_of_ne}
use native.Mathlib.Omega.{arith}
use Rattle.numeral.proofs.Closest.{closest_down, closest_tie, closest_up}
use Rattle.numeral.proofs.significand.Goals as goal

abbrev left : ℕ → ℕ → ℕ
left n d = n * 4096 % d * 2048

abbrev quotient : ℕ → ℕ → ℕ
quotient n d = n * 4096 / d * 2048 + left n d / d

module _ (n d : ℕ) (h : (d ≤ n) × (n < 2 * d) × (d < 2 ^ 50)) where
  positive : 0 < d
  positive = omega arith

  left_lt : n * 4096 % d < d
  left_lt = mod-lt (n * 4096) positive

  rest_lt : left n d % d < d
  rest_lt = mod-lt (left n d) positive

  divided : quotient n d * d + left n d % d ≡ n * 2 ^ 23
  divided =
      let a : n * 4096 / d * d + n * 4096 % d ≡ n * 4096 = div-add-mod' (n * 4096) d in
      let b : left n d / d * d + left n d % d ≡ left n d = div-add-mod' (left n d) d in
      let q : quotient n d * d ≡ n * 4096 / d * d * 2048 + left n d / d * d =
      add-mul (n * 4096 / d * 2048) (left n d / d) d ∙ ap (λ (x : ℕ). x + left n d / d * d) (mul_right_comm (n * 4096 / d) 2048 d) in
      omega arith

  first-lt : n * 4096 / d < 2 ^ 13
  first-lt = (div-lt_iff_lt-mul positive).1 (omega arith)

  second_lt : left n d / d < 2 ^ 11
  second_lt = (div-lt_iff_lt-mul positive).1 (omega (arith, left_lt))

  under : quotient n d < 2 ^ 24
  under = omega (arith, first-lt, second_lt)

pub overflow_mul-b : goal.overflow_mul-b
overflow_mul-b c = omega (arith, left_lt c.args.n c.args.d c.requires)

pub overflow_mul-q : goal.overflow_mul-q
overflow_mul-q c = omega (arith, first-lt c.args.n c.args.d c.requires)

pub overflow_add-q : goal.overflow_add-q
overflow_add-q c = omega (arith, under c.args.n c.args.d c.requires)

pub overflow_cast-q : goal.overflow_cast-q
overflow_cast-q c = omega (arith, under c.args.n c.args.d c.requires)

pub overflow_mul-t : goal.overflow_mul-t
overflow_mul-t c = omega (arith, rest_lt c.args.n c.args.d c.requires)

pub returns-then-t-d : goal.returns-then-t-d
returns-then-t-d c =
    let n = c.args.n in
    let d = c.args.d in
    let h = c.requires in
    (sym (closest_down (n * 2 ^ 23) d (quotient n d) (left n d % d) (divided n d h) (rest_lt n d h) c.if-t-d.true), omega (arith, under n d h))

pub overflow_add-result : goal.overflow_add-result
overflow_add-result c = omega (arith, under c.args.n c.args.d c.requires)

pub returns-then-t-d-2 : goal.returns-then-t-d-2
returns-then-t-d-2 c =
    let n = c.args.n in
    let d = c.args.d in
    let h = c.requires in
    (sym (closest_tie (n * 2 ^ 23) d (quotient n d) (left n d % d) (divided n d h) (rest_lt n d h) c.if-t-d-2.true), omega (arith, under n d h))

pub overflow_add-result-2 : goal.overflow_add-result-2
overflow_add-result-2 c = omega (arith, under c.args.n c.args.d c.requires)

pub returns : goal.returns
returns c =
    let n = c.args.n in
    let d = c.args.d in
    let h = c.requires in
    let g = lt_of_le_of_ne c.if-t-d.false (λ e. c.if-t-d-2.false (sym e)) in
    (sym (closest_up (n * 2 ^ 23) d (quotient n d) (left n d % d) (divided n d h) (rest_lt n d h) g), omega (arith, under n d h))
