-- A numeral by the counts of its bytes: behind the sign stand one to fifteen digits, at most one point, and nothing else. Assumes nothing.
use mathlib.Core.Path.{◌≡◌, refl, ap, sym, ◌∙◌}
use mathlib.Core.Bool.{Bool, true, false, cond, ◌&&◌}
use mathlib.Core.List.{List, [], ◌∷◌, ◌++◌}
use mathlib.Core.Option.{Option, none, some}
use Prim.Native.Nat.{ℕ, zero, suc, ◌+◌, ◌^◌, ◌≤◌, ◌<◌}
use native.Mathlib.Nat.{zero-add}
use native.Mathlib.Numerals.{add-one}
use native.Mathlib.Omega.{arith}
use lib.Dec.{eqb, leb}
use lib.ListN.{length, take, drop, get_or}
use mir.Syntax.{w64}
use mir.Val.{Fits, bool_byte}
use borrow.Author.Tests.{eq-eqb, ne_eqb, eqb-true, eqb-false, le-leb, leb-true}
use Rattle.text.specs.Bytes.{bytes, within, starts_with, index_of, count_of, all_digits}
use Rattle.text.specs.Digit.{is_digit, above_zero}
use Rattle.text.specs.Number.{digit_value, below, prefixed, digits_of}
use Rattle.text.specs.Part.{before, after}
use Rattle.text.specs.Reading.{present}
use Rattle.text.proofs.AtIndex.{at_next, at_end}
use Rattle.text.proofs.Digits.{decimal_is, decimal_not}
use Rattle.numeral.specs.Numeral.{Decimal, point, unsigned, decimal, behind_sign, decimal_of, rounded, float_of, is_numeral}
use Rattle.numeral.proofs.Digits.{digits_length}

-- how many of the bytes are digits
abbrev pub digit_count : List ℕ → ℕ
digit_count [] = 0
digit_count (x ∷ s) = cond (is_digit x) 1 0 + digit_count s

-- ---- a byte is one thing

-- a digit is no point
pub one_thing : (x : ℕ) → cond (is_digit x) 1 0 + cond (eqb x point) 1 0 ≤ 1
one_thing x = go (eqb x point) (eqb-true x point)
  where
    small : (t : Bool) → cond t 1 0 + 0 ≤ 1
    small true = omega arith
    small false = omega arith

    go : (t : Bool) → (t ≡ true → x ≡ point) → cond (is_digit x) 1 0 + cond t 1 0 ≤ 1
    go true e = rw (e refl) (omega arith)
    go false e = small (is_digit x)

pub few : (t : List ℕ) → digit_count t + count_of point t ≤ length t
few [] = omega arith
few (x ∷ t) = omega (arith, few t, one_thing x)

next_same : (a b : ℕ) → eqb a b ≡ eqb (1 + a) (suc b)
next_same a b = go (eqb a b) (eqb-true a b) (eqb-false a b)
  where
    go : (t : Bool) → (t ≡ true → a ≡ b) → (t ≡ false → a ≡ b → ⊥) → t ≡ eqb (1 + a) (suc b)
    go true e f = let z = e refl in sym (eq-eqb (1 + a) (suc b) (omega arith))
    go false e f = sym (ne_eqb (1 + a) (suc b) (λ z. f refl (omega arith)))

-- all are digits where so many are as there are bytes
all_counted : (t : List ℕ) → all_digits t ≡ eqb (digit_count t) (length t)
all_counted [] = refl
all_counted (x ∷ t) = go (is_digit x) (all_counted t)
  where
    go : (d : Bool) → all_digits t ≡ eqb (digit_count t) (length t) → d && all_digits t ≡ eqb (cond d 1 0 + digit_count t) (suc (length t))
    go true r = r ∙ next_same (digit_count t) (length t)
    go false r = rw zero-add (sym (ne_eqb (digit_count t) (suc (length t)) (λ e. omega (arith, few t))))

-- ---- the digits are there where all bytes are digits

digits_there : (u : List ℕ) → present (digits_of 10 u) ≡ all_digits u
unfolding digits_of
digits_there [] = refl
digits_there (x ∷ u) = go (is_digit x) refl (digits_there u)
  where
    behind_one : (d : ℕ) (o : Option (List ℕ)) → present (prefixed (some d) o) ≡ present o
    behind_one d none = refl
    behind_one d (some ds) = refl

    go : (t : Bool) → is_digit x ≡ t → present (digits_of 10 u) ≡ all_digits u → present (prefixed (below 10 (digit_value x)) (digits_of 10 u)) ≡ t && all_digits u
    go true e r = rw (decimal_is x e) (behind_one (above_zero x) (digits_of 10 u) ∙ r)
    go false e r = rw (decimal_not x e)

made : (n : Bool) (p : ℕ) (u : List ℕ) → present (decimal n p (digits_of 10 u)) ≡ all_digits u && within 1 15 (length u)
made n p u = go (digits_of 10 u) refl
  where
    kept : (t : Bool) (d : Decimal) → present (cond t (some d) none) ≡ t
    kept true d = refl
    kept false d = refl

    go : (o : Option (List ℕ)) → digits_of 10 u ≡ o → present (decimal n p o) ≡ all_digits u && within 1 15 (length u)
    go none e = rw (sym (digits_there u) ∙ ap present e)
    go (some ds) e = rw (sym (digits_there u) ∙ ap present e, ← digits_length u ds e) (kept (within 1 15 (length ds)) _)

-- ---- without the first point

record Joined (t u : List ℕ) : Type 0 where
  digits : digit_count u ≡ digit_count t
  long : length u + cond (eqb (count_of point t) 0) 0 1 ≡ length t

joined : (t : List ℕ) → Joined t (before point t ++ after point t)
joined [] = record { digits = refl; long = refl }
joined (x ∷ t) = go (eqb x point) (eqb-true x point) refl (joined t)
  where
    go : (a : Bool) → (a ≡ true → x ≡ point) → eqb x point ≡ a → Joined t (before point t ++ after point t)
        → Joined (x ∷ t) (take (cond a 0 (suc (index_of point t))) (x ∷ t) ++ drop (cond a 0 (suc (index_of point t)) + 1) (x ∷ t))
    go true e q r =
        let no : is_digit x ≡ false = ap is_digit (e refl) in
        record { digits = rw (no, zero-add); long = rw (q, ne_eqb (1 + count_of point t) 0 (λ z. omega arith)) (omega arith) }
    go false e q r =
        rw add-one
        (record {
          digits = ap (λ (n : ℕ). cond (is_digit x) 1 0 + n) (rw add-one at r).digits;
          long = rw (q, zero-add) (omega (arith, (rw add-one at r).long));
        })

-- ---- the counts tell

-- one byte goes where there is a point
few_points : (p : ℕ) → cond (eqb p 0) 0 1 ≤ 1
few_points p = go (eqb p 0)
  where
    go : (t : Bool) → cond t 0 1 ≤ 1
    go true = omega arith
    go false = omega arith

only_point : (p : ℕ) → p ≤ 1 → cond (eqb p 0) 0 1 ≡ p
only_point zero h = refl
only_point (suc zero) h = refl
only_point (suc (suc p)) h = absurd (omega arith)

tell : (d p n u : ℕ) → d + p ≤ n → u + cond (eqb p 0) 0 1 ≡ n → eqb d u && within 1 15 u ≡ eqb (d + p) n && leb p 1 && leb 1 d && leb d 15
tell d p n u most long = go (eqb d u) (eqb-true d u) (eqb-false d u)
  where
    not_both : (a b : Bool) → (a ≡ true → d + p ≡ n) → (b ≡ true → p ≤ 1) → (d ≡ u → ⊥) → false ≡ a && b && leb 1 d && leb d 15
    not_both true true e f g = absurd (g (omega (arith, e refl, only_point p (f refl))))
    not_both true false e f g = refl
    not_both false b e f g = refl

    go : (t : Bool) → (t ≡ true → d ≡ u) → (t ≡ false → d ≡ u → ⊥) → t && within 1 15 u ≡ eqb (d + p) n && leb p 1 && leb 1 d && leb d 15
    go true e f =
        let is : d ≡ u = e refl in
        let one : p ≤ 1 = omega (arith, few_points p) in
        rw (eq-eqb (d + p) n (omega (arith, only_point p one)), le-leb p 1 one, is)
    go false e f = not_both (eqb (d + p) n) (leb p 1) (eqb-true (d + p) n) (leb-true p 1) (f refl)

counts_tell : (n : Bool) (t : List ℕ)
    → eqb (digit_count t + count_of point t) (length t) && leb (count_of point t) 1 && leb 1 (digit_count t) && leb (digit_count t) 15 ≡ present (behind_sign n t)
unfolding behind_sign
counts_tell n t =
    let u = before point t ++ after point t in
    let j = joined t in
    sym (made n (length (after point t)) u ∙ rw (all_counted u, j.digits) (tell (digit_count t) (count_of point t) (length t) (length u) (few t) j.long))

-- ---- the loop of `is_counted`

-- the counts so far, with those of what is left, are those of the whole
pub record Counted (t : List ℕ) (d p i : ℕ) : Type 0 where
  pub most : d + p ≤ i
  pub digits : d + digit_count (drop i t) ≡ digit_count t
  pub points : p + count_of point (drop i t) ≡ count_of point t

pub counted_none : (t : List ℕ) → Counted t 0 0 0
counted_none t = record { most = omega arith; digits = zero-add _; points = zero-add _ }

byte_of : (b : Bool) → bool_byte b ≡ cond b 1 0
byte_of true = refl
byte_of false = refl

module _ (t : List ℕ) (d p i : ℕ) (c : Counted t d p i) where
  pub digits_fit : i < length t → length t < 2 ^ 64 → (b : Bool) → Fits w64 (d + bool_byte b)
  digits_fit h m true = record { fits = omega (arith, c.most) }
  digits_fit h m false = record { fits = omega (arith, c.most) }

  pub points_fit : i < length t → length t < 2 ^ 64 → (b : Bool) → Fits w64 (p + bool_byte b)
  points_fit h m true = record { fits = omega (arith, c.most) }
  points_fit h m false = record { fits = omega (arith, c.most) }

  pub counted_more : i < length t → (b : Bool) → b ≡ is_digit (get_or t i 0) → Counted t (d + bool_byte b) (p + bool_byte (eqb (get_or t i 0) 46)) (i + 1)
  counted_more h b is =
      let x = get_or t i 0 in
      let digit : bool_byte b ≡ cond (is_digit x) 1 0 = byte_of b ∙ ap (λ (v : Bool). cond v 1 0) is in
      let dot : bool_byte (eqb x 46) ≡ cond (eqb x point) 1 0 = byte_of (eqb x 46) in
      let l = at_next t i h in
      record {
        most = omega (arith, c.most, digit, dot, one_thing x);
        digits = omega (arith, c.digits, digit, ap digit_count l);
        points = omega (arith, c.points, dot, ap (count_of point) l);
      }

  module _ (h : length t ≤ i) where
    all_digits_lem : d ≡ digit_count t
    all_digits_lem = let z = ap digit_count (at_end t i h) in omega (arith, c.digits)

    all_points : p ≡ count_of point t
    all_points = let z = ap (count_of point) (at_end t i h) in omega (arith, c.points)

    pub sum_fits : length t < 2 ^ 64 → Fits w64 (d + p)
    sum_fits m = record { fits = omega (arith, all_digits_lem, all_points, few t) }

    pub counts_told : (n : Bool) → eqb (d + p) (length t) && leb p 1 && leb 1 d && leb d 15 ≡ present (behind_sign n t)
    counts_told n = rw (all_digits_lem, all_points) (counts_tell n t)

-- ---- behind the sign

present_rounded : (o : Option Decimal) → present (rounded o) ≡ present o
present_rounded none = refl
present_rounded (some d) = refl

pub numeral_told : (s t : List ℕ) (r : Bool) → t ≡ unsigned s → ((n : Bool) → r ≡ present (behind_sign n t)) → r ≡ is_numeral s
unfolding is_numeral float_of decimal_of
numeral_told s t r e f =
    f (starts_with (bytes "-") s) ∙ ap (λ (u : List ℕ). present (behind_sign (starts_with (bytes "-") s) u)) e ∙ sym (present_rounded (decimal_of s))
