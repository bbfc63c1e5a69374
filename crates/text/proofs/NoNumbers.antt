-- A text that is no number: a byte of it is no digit, or its first one behind a plus. Assumes nothing.
use Rattle.std.proofs.Common.{◌≡◌, ℕ, zero, suc, ◌<◌, Bool, true, false, cond, ◌&&◌, eqb, List, [], ◌∷◌, length, get_or, take, sym, refl, ◌∙◌, arith, eqb-true}
use mathlib.Core.Option.{Option, none, some}
use Rattle.text.specs.Bytes.{starts_with}
use Rattle.text.specs.Class.{class_of}
use Rattle.text.specs.Condition.{is_digit_class, first_byte}
use Rattle.text.specs.Digit.{is_digit}
use Rattle.text.specs.Number.{digit_value, below, prefixed, digits_of, worth, magnitude, unsigned}
use Rattle.text.proofs.Classes.{digit_class}
use Rattle.text.proofs.Digits.{decimal_not}

-- ---- any byte of it

prefixed_none : (o : Option ℕ) → prefixed o none ≡ none
prefixed_none none = refl
prefixed_none (some d) = refl

no_digits : (base : ℕ) (s : List ℕ) (n : ℕ) → n < length s → below base (digit_value (get_or s n 0)) ≡ none → digits_of base s ≡ none
unfolding digits_of
no_digits base [] n h b = absurd (omega arith)
no_digits base (x ∷ s) zero h b = rw b
no_digits base (x ∷ s) (suc n) h b = rw (no_digits base s n (omega arith) b) (prefixed_none (below base (digit_value x)))

pub no_number : (base max : ℕ) (s : List ℕ) (n : ℕ) → n < length s → below base (digit_value (get_or s n 0)) ≡ none → (n ≡ 0 → get_or s n 0 ≡ 43 → ⊥) → unsigned base max s ≡ none
unfolding unsigned magnitude starts_with
no_number base max [] n h b p = absurd (omega arith)
no_number base max (x ∷ s) n h b p = go (eqb x 43) (eqb-true x 43) n h b p
  where
    go : (t : Bool) → (t ≡ true → x ≡ 43) → (n : ℕ) → n < length (x ∷ s) → below base (digit_value (get_or (x ∷ s) n 0)) ≡ none → (n ≡ 0 → get_or (x ∷ s) n 0 ≡ 43 → ⊥)
        → cond (t && true) (worth base max (digits_of base s)) (worth base max (digits_of base (x ∷ s))) ≡ none
    go true e zero h b p = absurd (p refl (e refl))
    go true e (suc n) h b p = rw (no_digits base s n (omega arith) b)
    go false e n h b p = rw (no_digits base (x ∷ s) n h b)

-- ---- its front

front_not : (max n : ℕ) (s : List ℕ) → is_digit (get_or s 0 0) ≡ false → magnitude 10 max (take n s) ≡ none
unfolding magnitude digits_of
front_not max zero s h = refl
front_not max (suc n) [] h = refl
front_not max (suc n) (x ∷ s) h = rw (decimal_not x h)

pub unsigned_not : (max n : ℕ) (s : List ℕ) → is_digit_class (class_of (first_byte s)) ≡ false → unsigned 10 max (take n s) ≡ none
unfolding unsigned starts_with magnitude digits_of
unsigned_not max zero s h = refl
unsigned_not max (suc n) [] h = refl
unsigned_not max (suc n) (x ∷ s) h = go (eqb x 43) (sym (digit_class (first_byte (x ∷ s))) ∙ h)
  where
    go : (t : Bool) → is_digit (cond t (get_or s 0 0) x) ≡ false → cond (t && true) (magnitude 10 max (take n s)) (magnitude 10 max (x ∷ take n s)) ≡ none
    go true k = front_not max n s k
    go false k = front_not max (suc n) (x ∷ s) k
