-- Digits read one by one give the plain value of all of them, in every base up to 16 and under every bound. The loop keeps the value n of the
-- digits passed: the text's magnitude is what n gives with the digits that are left.
use Rattle.std.proofs.Common.{◌≡◌, ℕ, suc, ◌+◌, ◌-◌, ◌*◌, ◌/◌, ◌^◌, ◌<◌, ◌≤◌, Bool, true, false, cond, ◌&&◌, leb, List, [], ◌∷◌, length, get_or, drop, sym, refl, ap, ◌∙◌, mul_assoc, div-lt_iff_lt-mul, add-mul, mul-le-mul_left, le-div_iff_mul-le, zero-mul, mul-one, arith, le-ltb, lt-ltb, le-leb, leb-true}
use mathlib.Core.Option.{Option, none, some}
use native.Mathlib.Nat.{pow-zero, pow-succ', one-le-pow}
use borrow.Author.Tests.{lt-leb}
use Rattle.text.specs.Bytes.{within}
use Rattle.text.specs.Digit.{is_digit, above_zero}
use Rattle.text.specs.Number.{digit_value, below, prefixed, digits_of, value_of, up_to, worth, magnitude}
use Rattle.text.proofs.AtIndex.{at_next, at_end}
use Rattle.text.proofs.Told.{to_nine, value_is}

-- `digit_value`
module _ (x : ℕ) where
  in_range : (lo hi : ℕ) → lo ≤ x → x ≤ hi → within lo hi x ≡ true
  in_range lo hi h k = rw (le-leb _ _ h, le-leb _ _ k)

  pub off_range : (lo hi : ℕ) → (lo ≤ x → x ≤ hi → ⊥) → within lo hi x ≡ false
  off_range lo hi f = by (leb lo x) (leb x hi) (leb-true lo x) (leb-true x hi)
    where
      by : (a b : Bool) → (a ≡ true → lo ≤ x) → (b ≡ true → x ≤ hi) → a && b ≡ false
      by true true h k = absurd (f (h refl) (k refl))
      by true false h k = refl
      by false b h k = refl

  pub digit_09 : (r : ℕ) (t : Bool) → t ≡ is_digit x → t ≡ true → r ≡ above_zero x → some r ≡ digit_value x
  digit_09 r t told h e = rw (e, value_is x (sym told ∙ h))

  pub digit_capital : 65 ≤ x → x ≤ 70 → some (x - 55) ≡ digit_value x
  unfolding digit_value
  digit_capital h k = rw (off_range 48 57 (λ a b. omega arith), in_range 65 70 h k)

  pub digit_small : 97 ≤ x → x ≤ 102 → some (x - 87) ≡ digit_value x
  unfolding digit_value
  digit_small h k = rw (off_range 48 57 (λ a b. omega arith), off_range 65 70 (λ a b. omega arith), in_range 97 102 h k)

  pub told_no : (t : Bool) → t ≡ is_digit x → t ≡ false → is_digit x ≡ false
  told_no t told n = sym told ∙ n

  pub no_digit : is_digit x ≡ false → (65 ≤ x → x ≤ 70 → ⊥) → (97 ≤ x → x ≤ 102 → ⊥) → none ≡ digit_value x
  unfolding digit_value
  no_digit e g h = rw (e, off_range 65 70 g, off_range 97 102 h)

-- the digits of base 10: which bytes they are, and what each is worth
pub decimal_is : (x : ℕ) → is_digit x ≡ true → below 10 (digit_value x) ≡ some (above_zero x)
decimal_is x is = rw (value_is x is, lt-ltb (above_zero x) 10 (omega (arith, to_nine x is)))

no_letter : (lo hi k x : ℕ) (o : Option ℕ) → k + 10 ≤ lo → below 10 o ≡ none → below 10 (cond (within lo hi x) (some (x - k)) o) ≡ none
no_letter lo hi k x o h e = go (leb lo x) (leb x hi) (leb-true lo x)
  where
    go : (a b : Bool) → (a ≡ true → lo ≤ x) → below 10 (cond (a && b) (some (x - k)) o) ≡ none
    go true true l = let u : 10 ≤ x - k = omega (arith, l refl) in rw (le-ltb (x - k) 10 u)
    go true false l = e
    go false b l = e

pub decimal_not : (x : ℕ) → is_digit x ≡ false → below 10 (digit_value x) ≡ none
unfolding digit_value
decimal_not x e = rw e (no_letter 65 70 55 x _ (omega arith) (no_letter 97 102 87 x none (omega arith) refl))

-- a digit d between those worth n and those worth v, of which there are so many that the next place is worth t
pub one_more : (base n d t v : ℕ) → n * (base * t) + (d * t + v) ≡ (n * base + d) * t + v
one_more base n d t v = let e : (n * base + d) * t ≡ n * (base * t) + d * t = add-mul (n * base) d t ∙ ap (λ (x : ℕ). x + d * t) (mul_assoc n base t) in omega arith

-- digits worth n stand before these
abbrev more : ℕ → ℕ → ℕ → Option (List ℕ) → Option ℕ
more base max n none = none
more base max n (some ds) = up_to max (n * base ^ length ds + value_of base ds)

unfoldable pub rest : ℕ → ℕ → ℕ → List ℕ → Option ℕ
rest base max n s = more base max n (digits_of base s)

more_turn : (base max n d : ℕ) (o : Option (List ℕ)) → more base max n (prefixed (some d) o) ≡ more base max (n * base + d) o
unfolding value_of
more_turn base max n d none = refl
more_turn base max n d (some ds) = ap (up_to max) (rw pow-succ' (one_more base n d (base ^ length ds) (value_of base ds)))

more_past : (base max m : ℕ) (o : Option (List ℕ)) → 1 ≤ base → max < m → none ≡ more base max m o
more_past base max m none h k = refl
more_past base max m (some ds) h k =
    let p : m * 1 ≤ m * base ^ length ds = mul-le-mul_left m (one-le-pow (length ds) base h) in
    let q : max < m * base ^ length ds + value_of base ds = omega arith in
    rw (lt-leb _ _ q)

more_start : (base max : ℕ) (a : Option ℕ) (o : Option (List ℕ)) → worth base max (prefixed a o) ≡ more base max 0 (prefixed a o)
more_start base max none o = refl
more_start base max (some d) none = refl
more_start base max (some d) (some ds) =
    let p : value_of base (d ∷ ds) ≡ 0 * base ^ suc (length ds) + value_of base (d ∷ ds) = rw zero-mul (omega arith) in
    ap (up_to max) p

-- `magnitude`: before the loop
pub digits_none : (base max : ℕ) (s : List ℕ) → length s ≡ 0 → none ≡ magnitude base max s
unfolding magnitude digits_of
digits_none base max [] h = refl
digits_none base max (x ∷ s) h = absurd (omega arith)

pub digits_start : (base max : ℕ) (s : List ℕ) → (length s ≡ 0 → ⊥) → magnitude base max s ≡ rest base max 0 s
unfolding magnitude digits_of rest
digits_start base max [] h = absurd (h refl)
digits_start base max (x ∷ s) h = more_start base max (below base (digit_value x)) (digits_of base s)

-- the next value passes max neither before nor after its digit is added
pub times_le : (base max n : ℕ) → 1 ≤ base → n ≤ max / base → n * base ≤ max
times_le base max n h k = (le-div_iff_mul-le h).0 k

pub next_le : (base max n d : ℕ) → 1 ≤ base → n ≤ max / base → d ≤ max - n * base → n * base + d ≤ max
next_le base max n d h k l = let p : n * base ≤ max = times_le base max n h k in omega arith

-- a turn of the loop
module _ (base max i n : ℕ) (s : List ℕ) (inv : magnitude base max s ≡ rest base max n (drop i s)) (h : i < length s) where
  pub digits_miss : none ≡ digit_value (get_or s i 0) → none ≡ magnitude base max s
  unfolding rest digits_of
  digits_miss is = rw (inv, at_next s i h, sym is)

  module _ (d : ℕ) (b : 1 ≤ base) (is : some d ≡ digit_value (get_or s i 0)) where
    pub digits_turn : d < base → magnitude base max s ≡ rest base max (n * base + d) (drop (i + 1) s)
    unfolding rest digits_of
    digits_turn k = rw (inv, at_next s i h, sym is, lt-ltb _ _ k) (more_turn base max n d (digits_of base (drop (i + 1) s)))

    past : d < base → max < n * base + d → none ≡ magnitude base max s
    unfolding rest
    past k m = rw (digits_turn k) (more_past base max (n * base + d) (digits_of base (drop (i + 1) s)) b m)

    pub digits_bad : base ≤ d → none ≡ magnitude base max s
    unfolding rest digits_of
    digits_bad k = rw (inv, at_next s i h, sym is, le-ltb _ _ k)

    pub digits_over : d < base → max / base < n → none ≡ magnitude base max s
    digits_over k m = let p : max < n * base = (div-lt_iff_lt-mul b).0 m in past k (omega arith)

    pub digits_over' : d < base → max - n * base < d → none ≡ magnitude base max s
    digits_over' k m = past k (omega arith)

pub digits_end : (base max i n : ℕ) (s : List ℕ) → n ≤ max → magnitude base max s ≡ rest base max n (drop i s) → length s ≤ i → some n ≡ magnitude base max s
unfolding rest digits_of value_of
digits_end base max i n s k inv h =
    let p : n * base ^ 0 + 0 ≡ n = rw (pow-zero, mul-one) (omega arith) in
    rw (inv, at_end s i h, p, le-leb _ _ k)
