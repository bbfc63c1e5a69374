-- The registration readers: the status by its number, which field it is, that it alone decides, and that they refuse with 3 alone. Assumes nothing.
use mathlib.Core.Path.{◌≡◌, refl, sym, ap, ◌∙◌}
use mathlib.Core.Bool.{Bool, true, false, cond, ◌&&◌, ◌||◌, or_self_left, or-false, or_assoc}
use mathlib.Core.List.{List, [], ◌∷◌}
use mathlib.Core.Option.{Option, none, some}
use Prim.Native.Nat.{ℕ, ◌≤◌, ◌<◌}
use native.Mathlib.Omega.{arith}
use lib.Dec.{eqb, leb}
use lib.IntN.{ℤ, pos, negsuc}
use lib.ListN.{length, drop}
use mir.Syntax.{w32}
use mir.Val.{of_z}
use borrow.Author.Tests.{leb-true, lt-ltb, le-ltb}
use Rattle.text.specs.Bytes.{all_digits}
use Rattle.text.specs.Part.{among}
use Rattle.text.specs.Field.{fields, nth}
use Rattle.text.specs.Number.{signed}
use Rattle.unsolicited.specs.Places.{status_place}
use Rattle.unsolicited.specs.Registration.{status_of, registration_at, registration_fields, creg_text, cgreg_text, cereg_status, cereg_fields, cereg_text}
use Rattle.text.proofs.Yields.{yields_only, yields_either, yields_need}
use Rattle.unsolicited.proofs.Trials.{Plain}

-- `status_of`: the five by their numbers, and every other
pub first : status_of (pos 1) ≡ 1
unfolding status_of
first = refl

pub second : status_of (pos 2) ≡ 2
unfolding status_of
second = refl

pub third : status_of (pos 3) ≡ 3
unfolding status_of
third = refl

pub fourth : status_of (pos 4) ≡ 4
unfolding status_of
fourth = refl

pub fifth : status_of (pos 5) ≡ 5
unfolding status_of
fifth = refl

pub status_other : (z : ℤ) → (of_z w32 z ≡ 1 → ⊥) → (of_z w32 z ≡ 2 → ⊥) → (of_z w32 z ≡ 3 → ⊥) → (of_z w32 z ≡ 4 → ⊥) → (of_z w32 z ≡ 5 → ⊥) → 0 ≡ status_of z
unfolding status_of
status_other (negsuc n) a b c d e = refl
status_other (pos n) a b c d e = go (leb 1 n) (leb n 5) (leb-true 1 n) (leb-true n 5)
  where
    go : (x y : Bool) → (x ≡ true → 1 ≤ n) → (y ≡ true → n ≤ 5) → 0 ≡ cond (x && y) n 0
    go false y l h = refl
    go true false l h = refl
    go true true l h = let i = l refl in let j = h refl in absurd (omega arith)

pub ruleset by_number = (first, second, third, fourth, fifth, status_other)

-- +CREG's longest has 5 fields
five_twice : (n : ℕ) → among (2 ∷ 5 ∷ 5 ∷ []) n ≡ among (2 ∷ 5 ∷ []) n
five_twice n = ap (λ (t : Bool). eqb n 2 || t) (or_self_left (eqb n 5) false)

pub fields_five : (fs : List (List ℕ)) → registration_fields (2 ∷ 5 ∷ 5 ∷ []) fs ≡ registration_fields (2 ∷ 5 ∷ []) fs
unfolding registration_fields
fields_five fs = rw (five_twice (length fs))

-- +CEREG: what the code has as o of the field that it chose, of k fields of which f is the first and g the second
module _ (o : Option ℤ) (k : ℕ) (t : List ℕ) (count : k ≡ length (fields 44 t)) where
  pub only_first : (f : List ℕ) → k < 2 → f ≡ nth 0 (fields 44 t) → o ≡ signed 10 2147483647 f → o ≡ signed 10 2147483647 (cereg_status (fields 44 t))
  unfolding cereg_status
  only_first f h q e = rw (sym count, le-ltb 1 k (omega arith), ← q) e

  module _ (x : Bool) (g : List ℕ) (many : 2 ≤ k) (digits : x ≡ all_digits g) (second : g ≡ nth 1 (fields 44 t)) where
    pub by_second : x ≡ true → o ≡ signed 10 2147483647 g → o ≡ signed 10 2147483647 (cereg_status (fields 44 t))
    unfolding cereg_status
    by_second h e = rw (sym count, lt-ltb 1 k (omega arith), ← second, ← digits, h) e

    pub by_first : (f : List ℕ) → x ≡ false → f ≡ nth 0 (fields 44 t) → o ≡ signed 10 2147483647 f → o ≡ signed 10 2147483647 (cereg_status (fields 44 t))
    unfolding cereg_status
    by_first f h q e = rw (sym count, lt-ltb 1 k (omega arith), ← second, ← digits, h, ← q) e

pub ruleset chosen = (only_first, by_second, by_first)

-- `status_place`
module _ (k l : ℕ) where
  pub place_first : eqb k 1 || eqb k 4 ≡ true → some 0 ≡ status_place (2 ∷ 5 ∷ l ∷ []) k
  place_first h = rw (or-false (eqb k 4), h)

  module _ (h : eqb k 1 || eqb k 4 ≡ false) where
    pub place_second : eqb k 2 || eqb k 5 || eqb k l ≡ true → some 1 ≡ status_place (2 ∷ 5 ∷ l ∷ []) k
    place_second e = rw (or-false (eqb k 4), h, or-false (eqb k l), sym (or_assoc (eqb k 2) (eqb k 5) (eqb k l)) ∙ e)

    pub place_none : eqb k 2 || eqb k 5 || eqb k l ≡ false → none ≡ status_place (2 ∷ 5 ∷ l ∷ []) k
    place_none e = rw (or-false (eqb k 4), h, or-false (eqb k l), sym (or_assoc (eqb k 2) (eqb k 5) (eqb k l)) ∙ e)

pub ruleset placing = (place_first, place_second, place_none)

-- no refusal but 3
plain_at : (n : ℕ) (fs : List (List ℕ)) → Plain (registration_at n fs)
unfolding registration_at
plain_at n fs = yields_need _ _ (signed 10 2147483647 (nth n fs)) _ refl (λ z e. tt)

plain_fields : (l : List ℕ) (fs : List (List ℕ)) → Plain (registration_fields l fs)
unfolding registration_fields
plain_fields l fs = yields_either _ _ _ _ _ (λ e. plain_at 0 fs) (λ e. yields_only _ _ _ _ refl (λ h. plain_at 1 fs))

pub plain_creg : (s : List ℕ) → Plain (creg_text s)
unfolding creg_text
plain_creg s = yields_only _ _ _ _ refl (λ e. plain_fields _ (fields 44 (drop 7 s)))

pub plain_cgreg : (s : List ℕ) → Plain (cgreg_text s)
unfolding cgreg_text
plain_cgreg s = yields_only _ _ _ _ refl (λ e. plain_fields _ (fields 44 (drop 8 s)))

pub plain_cereg : (s : List ℕ) → Plain (cereg_text s)
unfolding cereg_text cereg_fields
plain_cereg s = yields_only _ _ _ _ refl (λ e. yields_need _ _ _ _ refl (λ z h. tt))
