-- Decimal digits taken apart, the first and those behind it; and n of them are worth less than 10 ^ n.
use mathlib.Core.Path.{◌≡◌, refl, sym, ap, ◌∙◌}
use mathlib.Core.Logic.{◌⊎◌, inl, inr}
use mathlib.Core.Bool.{Bool, true, false, cond}
use mathlib.Core.List.{List, [], ◌∷◌}
use mathlib.Core.Option.{Option, none, some}
use Prim.Native.Nat.{ℕ, suc, ◌*◌, ◌^◌, ◌≤◌, ◌<◌}
use native.Mathlib.Nat.{pow-succ', mul-le-mul_right}
use native.Mathlib.Omega.{arith}
use lib.Dec.{ltb}
use lib.ListN.{length}
use borrow.Author.Tests.{ltb-true}
use Rattle.text.specs.Digit.{is_digit}
use Rattle.text.specs.Number.{digit_value, below, prefixed, digits_of, value_of}
use Rattle.text.proofs.Digits.{decimal_not}
use Rattle.text.proofs.Tests.{not_some, both, at_least}

-- ---- a byte

below_lt : (o : Option ℕ) (v : ℕ) → below 10 o ≡ some v → v < 10
below_lt none v e = not_some e
below_lt (some w) v e = go (ltb w 10) (ltb-true w 10) e
  where
    go : (t : Bool) → (t ≡ true → w < 10) → cond t (some w) none ≡ some v → v < 10
    go true l e = let z : w ≡ v = cc in omega (arith, l refl)
    go false l e = not_some e

pub digit_ge : (x v : ℕ) → below 10 (digit_value x) ≡ some v → 48 ≤ x
digit_ge x v e = go (both (is_digit x))
  where
    go : (is_digit x ≡ true) ⊎ (is_digit x ≡ false) → 48 ≤ x
    go (inl is) = at_least 48 57 x is
    go (inr off) = not_some (sym (decimal_not x off) ∙ e)

-- ---- a text of digits

pub record First (x : ℕ) (l ds : List ℕ) : Type 0 where
  pub worth : ℕ
  pub others : List ℕ
  pub is : below 10 (digit_value x) ≡ some worth
  pub are : digits_of 10 l ≡ some others
  pub all : worth ∷ others ≡ ds

pub first : (x : ℕ) (l ds : List ℕ) → digits_of 10 (x ∷ l) ≡ some ds → First x l ds
unfolding digits_of
first x l ds e = go (below 10 (digit_value x)) (digits_of 10 l) refl refl e
  where
    go : (v : Option ℕ) (o : Option (List ℕ)) → below 10 (digit_value x) ≡ v → digits_of 10 l ≡ o → prefixed v o ≡ some ds → First x l ds
    go none o p q e = not_some e
    go (some v) none p q e = not_some e
    go (some v) (some vs) p q e = record { worth = v; others = vs; is = p; are = q; all = cc }

pub digits_length : (l ds : List ℕ) → digits_of 10 l ≡ some ds → length ds ≡ length l
unfolding digits_of
digits_length [] ds e = let z : [] ≡ ds = cc in ap length (sym z)
digits_length (x ∷ l) ds e = let f = first x l ds e in ap length (sym f.all) ∙ ap suc (digits_length l f.others f.are)

pub digits_value : (l ds : List ℕ) → digits_of 10 l ≡ some ds → value_of 10 ds < 10 ^ length ds
unfolding digits_of value_of
digits_value [] ds e = let z : [] ≡ ds = cc in rw (sym z) (omega arith)
digits_value (x ∷ l) ds e =
    let f = first x l ds e in
    let h : f.worth ≤ 9 = omega (arith, below_lt (digit_value x) f.worth f.is) in
    let p : f.worth * 10 ^ length f.others ≤ 9 * 10 ^ length f.others = mul-le-mul_right (10 ^ length f.others) h in
    rw (sym f.all, pow-succ' 10 (length f.others)) (omega (arith, digits_value l f.others f.are))
