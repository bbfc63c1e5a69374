-- What stands before the digits: a plus, a minus or nothing. And that a number fits the type that holds its bound, on both sides of zero.
use Rattle.std.proofs.Common.{◌≡◌, ℕ, zero, suc, ◌+◌, ◌-◌, ◌^◌, ◌≤◌, Bool, true, false, T, ltb, List, drop, ℤ, pos, negsuc, ◌-ℤ◌, sym, refl, ◌∙◌, lt_of_le_of_lt, zero-add, arith, ltb→lt, pow_pos, to_z-of_z, SFits, to_z, of_z}
use mathlib.Core.Option.{Option, none, some, map}
use mir.Facts.{to_z_pos}
use mir.Syntax.{Width}
use mir.Val.{hbits}
use Rattle.text.specs.Bytes.{bytes, starts_with}
use Rattle.text.specs.Number.{magnitude, unsigned, negative, signed}
use Rattle.text.proofs.Numbers.{unsigned_le, negative_fits, signed_fits}

-- -m, as -1 - (m - 1)
below_zero : (w : Width) (m : ℕ) → m ≤ 2 ^ hbits w → (m ≡ 0 → ⊥) → negsuc 0 -ℤ to_z w (m - 1) ≡ negative m
below_zero w zero b h = absurd (h refl)
below_zero w (suc zero) b h = rw (to_z_pos w {n = 0} (pow_pos (hbits w)))
below_zero w (suc (suc k)) b h =
    let z : suc (suc k) - 1 ≡ suc k = omega arith in
    rw (z, to_z_pos w {n = suc k} (omega arith), zero-add)

module _ (w : Width) (m : ℕ) (b : m ≤ 2 ^ hbits w) (h : m ≡ 0 → ⊥) where
  pub minus_fits : SFits w (negsuc 0 -ℤ to_z w (m - 1))
  minus_fits = rw (below_zero w m b h) (negative_fits w m b)

  pub minus_is : to_z w (of_z w (negsuc 0 -ℤ to_z w (m - 1))) ≡ negative m
  minus_is = to_z-of_z minus_fits ∙ below_zero w m b h

-- `parse_i32`: behind a minus, as the code has the test and the part t; and without one
module _ (base max : ℕ) (s : List ℕ) (x : Bool) (first : x ≡ starts_with (bytes "-") s) where
  module _ (t : List ℕ) (rest : t ≡ drop 1 s) (minus : x ≡ true) where
    minus_says : (o : Option ℕ) → o ≡ magnitude base (max + 1) t → map negative o ≡ signed base max s
    unfolding signed
    minus_says o h = rw (sym first ∙ minus, ← rest, ← h)

    pub minus_none : none ≡ magnitude base (max + 1) t → none ≡ signed base max s
    minus_none h = minus_says none h

    pub minus_some : (w : Width) (n : ℕ) (z : ℤ) → T (ltb max (2 ^ hbits w)) → some n ≡ magnitude base (max + 1) t → z ≡ negative n → some (to_z w (of_z w z)) ≡ signed base max s
    minus_some w n z k h q =
        let g : some (negative n) ≡ signed base max s = minus_says (some n) h in
        rw (q, to_z-of_z (signed_fits w max (negative n) (ltb→lt _ _ k) base s (sym g))) g

  module _ (plain : x ≡ false) where
    plain_says : (o : Option ℕ) → o ≡ unsigned base max s → map pos o ≡ signed base max s
    unfolding signed
    plain_says o h = rw (sym first ∙ plain, ← h)

    pub plain_none : none ≡ unsigned base max s → none ≡ signed base max s
    plain_none h = plain_says none h

    pub plain_some : (w : Width) (n : ℕ) → SFits w (pos n) → some n ≡ unsigned base max s → some (to_z w n) ≡ signed base max s
    plain_some w n f h = rw (to_z_pos w f.sfits) (plain_says (some n) h)

pub plain_fits : (base max n : ℕ) (s : List ℕ) (w : Width) → some n ≡ unsigned base max s → T (ltb max (2 ^ hbits w)) → SFits w (pos n)
plain_fits base max n s w h t = record { sfits = lt_of_le_of_lt (unsigned_le base max n s (sym h)) (ltb→lt _ _ t) }
