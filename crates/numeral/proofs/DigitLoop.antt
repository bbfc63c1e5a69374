-- What is still to be said of a numeral when some of its bytes were read: `rest` of the bytes that
-- follow. One law for each turn of the loop, and for each way out.
use Rattle.std.proofs.Common.{◌≡◌, ℕ, suc, ◌+◌, ◌-◌, ◌*◌, ◌^◌, ◌≤◌, ◌<◌, Bool, true, false, cond, List, [], ◌∷◌, ◌++◌, length, drop, get_or, Some, None, is_some, refl, sym, ap, ◌∙◌, arith, add-zero, add-one, zero-add, ne_eqb, le-leb, length-drop}
use Rattle.std.proofs.Common as P
use mathlib.Core.Option.{Option, none, some}
use native.Mathlib.Nat.{mul-one, zero-mul, pow-succ'}
use lib.ListN.{drop_of_length-le}
use borrow.Author.Tests.{lt-leb}
use Rattle.text.specs.Bytes.{within}
use Rattle.text.specs.Digit.{is_digit, above_zero}
use Rattle.text.specs.Part.{before, after}
use Rattle.text.specs.Number.{digit_value, below, prefixed, digits_of, value_of}
use Rattle.text.proofs.AtIndex.{at_next}
use Rattle.text.proofs.Digits.{decimal_is, decimal_not, one_more}
use Rattle.numeral.specs.Numeral.{Decimal, point, decimal, behind_sign}

-- ---- k digits make the number a; those that follow make the decimal with them, p places behind the point

abbrev joined : Bool → ℕ → ℕ → ℕ → Option (List ℕ) → Option Decimal
joined n a k p none = none
joined n a k p (some ds) =
    cond (within 1 15 (k + length ds)) (some (record { negative = n; number = a * 10 ^ length ds + value_of 10 ds; places = p })) none

joined_none : (n : Bool) (p : ℕ) (o : Option (List ℕ)) → joined n 0 0 p o ≡ decimal n p o
joined_none n p none = refl
joined_none n p (some ds) = simp (zero-add, zero-mul)

joined_digit : (n : Bool) (a k p d : ℕ) (o : Option (List ℕ)) → joined n a k p (prefixed (some d) o) ≡ joined n (a * 10 + d) (k + 1) p o
unfolding value_of
joined_digit n a k p d none = refl
joined_digit n a k p d (some ds) =
    let e : k + suc (length ds) ≡ k + 1 + length ds = omega arith in
    rw (e, pow-succ' 10 (length ds), one_more 10 a d (10 ^ length ds) (value_of 10 ds))

joined_many : (n : Bool) (a k p : ℕ) (x : Option ℕ) (o : Option (List ℕ)) → 15 ≤ k → joined n a k p (prefixed x o) ≡ none
joined_many n a k p none o h = refl
joined_many n a k p (some d) none h = refl
joined_many n a k p (some d) (some ds) h =
    let u : 15 < k + suc (length ds) = omega arith in
    let l : 1 ≤ k + suc (length ds) = omega arith in
    rw (le-leb 1 _ l, lt-leb _ 15 u)

-- ---- the digits among the bytes that follow, and how many places there are in the end: before the
-- point was read, and after it, where f of the k digits stand before it

abbrev digits : P.Option ℕ → List ℕ → List ℕ
digits None l = before point l ++ after point l
digits (Some f) l = l

abbrev places : P.Option ℕ → ℕ → List ℕ → ℕ
places None k l = length (after point l)
places (Some f) k l = k + length l - f

unfoldable pub rest : Bool → ℕ → ℕ → P.Option ℕ → List ℕ → Option Decimal
rest s a k front l = joined s a k (places front k l) (digits_of 10 (digits front l))

-- at a byte that is no point; at the end

no_point : (s : Bool) (a k c : ℕ) (l : List ℕ) (front : P.Option ℕ) → (c ≡ 46 → ⊥)
    → rest s a k front (c ∷ l) ≡ joined s a k (places front (k + 1) l) (prefixed (below 10 (digit_value c)) (digits_of 10 (digits front l)))
unfolding rest digits_of
no_point s a k c l None h = rw (ne_eqb c 46 h, add-one, add-one) refl
no_point s a k c l (Some f) h = ap (λ (p : ℕ). joined s a k p (prefixed (below 10 (digit_value c)) (digits_of 10 l))) (omega arith)

-- so many places there are where nothing follows
abbrev pub behind : P.Option ℕ → ℕ → ℕ
behind None k = 0
behind (Some f) k = k - f

at_end : (s : Bool) (a k : ℕ) (front : P.Option ℕ)
    → rest s a k front [] ≡ cond (within 1 15 k) (some (record { negative = s; number = a; places = behind front k })) none
unfolding rest digits_of value_of
at_end s a k None = simp (add-zero, mul-one)
at_end s a k (Some f) = simp (add-zero, mul-one)

-- ---- the loop over the text's bytes: at i, behind k digits that make a

abbrev pub Loop : (text : List ℕ) (s : Bool) (a k : ℕ) (front : P.Option ℕ) (i : ℕ) → Type 0
Loop text s a k front i = behind_sign s text ≡ rest s a k front (drop i text)

pub begun : (text : List ℕ) (s : Bool) → Loop text s 0 0 None 0
unfolding rest behind_sign
begun text s = rw joined_none

module _ (text : List ℕ) (s : Bool) (a k : ℕ) (front : P.Option ℕ) (i : ℕ) (inv : Loop text s a k front i) where
  module _ (h : i < length text) where
    pub second_point : is_some front ≡ true → get_or text i 0 ≡ 46 → none ≡ behind_sign s text
    unfolding rest digits_of
    second_point q e = go front inv q
      where
        go : (front : P.Option ℕ) → Loop text s a k front i → is_some front ≡ true → none ≡ behind_sign s text
        go None inv q = cc
        go (Some f) inv q = rw (inv, at_next text i h, e, decimal_not 46 refl)

    pub first_point : is_some front ≡ false → get_or text i 0 ≡ 46 → Loop text s a k (Some k) (i + 1)
    unfolding rest digits_of
    first_point q e = go front inv q
      where
        go : (front : P.Option ℕ) → Loop text s a k front i → is_some front ≡ false → Loop text s a k (Some k) (i + 1)
        go None inv q = rw (inv, at_next text i h, e) (ap (λ (p : ℕ). joined s a k p (digits_of 10 (drop (i + 1) text))) (omega arith))
        go (Some f) inv q = cc

    other : (get_or text i 0 ≡ 46 → ⊥) → (o : Option ℕ) → below 10 (digit_value (get_or text i 0)) ≡ o
        → behind_sign s text ≡ joined s a k (places front (k + 1) (drop (i + 1) text)) (prefixed o (digits_of 10 (digits front (drop (i + 1) text))))
    other e o v = rw (inv, at_next text i h, no_point s a k (get_or text i 0) (drop (i + 1) text) front e, v)

    pub other_byte : (t : Bool) → t ≡ is_digit (get_or text i 0) → (get_or text i 0 ≡ 46 → ⊥) → t ≡ false → none ≡ behind_sign s text
    other_byte t told e f = sym (other e none (decimal_not (get_or text i 0) (sym told ∙ f)))

    pub many : (get_or text i 0 ≡ 46 → ⊥) → 15 ≤ k → none ≡ behind_sign s text
    many e l = rw (other e (below 10 (digit_value (get_or text i 0))) refl, joined_many)

    pub digit : (t : Bool) (v : ℕ) → t ≡ is_digit (get_or text i 0) → v ≡ above_zero (get_or text i 0) → (get_or text i 0 ≡ 46 → ⊥) → t ≡ true
        → Loop text s (a * 10 + v) (k + 1) front (i + 1)
    unfolding rest
    digit t v told value e f =
        let is : is_digit (get_or text i 0) ≡ true = sym told ∙ f in
        rw (value, other e (some (above_zero (get_or text i 0))) (decimal_is (get_or text i 0) is), joined_digit)

  module _ (h : length text ≤ i) where
    pub no_digits : k ≡ 0 → none ≡ behind_sign s text
    no_digits e = rw (inv, drop_of_length-le text h, at_end s a k front, e)

    pub all_digits_lem : (k ≡ 0 → ⊥) → k ≤ 15 → some (record { negative = s; number = a; places = behind front k }) ≡ behind_sign s text
    all_digits_lem e l =
        let g : 1 ≤ k = omega arith in
        rw (inv, drop_of_length-le text h, at_end s a k front, le-leb 1 k g, le-leb k 15 l)
