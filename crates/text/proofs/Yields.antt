-- A reading taken apart: Q holds of what it reads and R of the number with which it refuses, by how it is put together. With Q alone it says what an
-- accepted line is like, with R alone which refusals there are. Assumes nothing.
use Rattle.std.proofs.Common.{◌≡◌, ℕ, Bool, true, false, cond, eqb, leb, List, [], ◌∷◌, length, refl, subst}
use mathlib.Core.Option.{Option, none, some}
use Rattle.text.specs.Bytes.{within}
use Rattle.text.specs.Line.{line_check, checked}
use Rattle.text.specs.Reading.{Reading, read, refused, only, either, sized, fitting, need_else, mapped, worse, first_of}

abbrev pub Yields : {A : Type 0} → (A → Type 0) → (ℕ → Type 0) → Reading A → Type 0
Yields Q R (read a) = Q a
Yields Q R (refused k) = R k

-- the same of each of several
abbrev pub AllYield : {A : Type 0} → (A → Type 0) → (ℕ → Type 0) → List (Reading A) → Type 0
AllYield Q R [] = Unit {0}
AllYield Q R (x ∷ rs) = Yields Q R x × AllYield Q R rs

-- of one, and of those behind it
pub then : {A B : Type 0} → A → B → A × B
then a b = (a, b)

module _ {A : Type 0} (Q : A → Type 0) (R : ℕ → Type 0) where
  -- of a reading that is known
  pub yields_read : (x : Reading A) (a : A) → Yields Q R x → x ≡ read a → Q a
  yields_read x a h e = subst (Yields Q R) e h

  pub yields_cond : (t : Bool) (r q : Reading A) → (t ≡ true → Yields Q R r) → (t ≡ false → Yields Q R q) → Yields Q R (cond t r q)
  yields_cond true r q f g = f refl
  yields_cond false r q f g = g refl

  -- a test, with a refusal where it fails
  tested : (t : Bool) (r : Reading A) (k : ℕ) → R k → (t ≡ true → Yields Q R r) → Yields Q R (cond t r (refused k))
  tested t r k n h = yields_cond t r (refused k) h (λ e. n)

  pub yields_only : (t : Bool) (r : Reading A) → R 3 → (t ≡ true → Yields Q R r) → Yields Q R (only t r)
  unfolding only
  yields_only t r = tested t r 3

  pub yields_sized : (lo hi : ℕ) (s : List ℕ) (r : Reading A) → R 3 → (within lo hi (length s) ≡ true → Yields Q R r) → Yields Q R (sized lo hi s r)
  unfolding sized
  yields_sized lo hi s r = tested (within lo hi (length s)) r 3

  pub yields_fitting : (n : ℕ) (s : List ℕ) (r : Reading A) → R 4 → (leb (length s) n ≡ true → Yields Q R r) → Yields Q R (fitting n s r)
  unfolding fitting
  yields_fitting n s r = tested (leb (length s) n) r 4

  pub yields_either : (t : Bool) (r q : Reading A) → (t ≡ true → Yields Q R r) → (t ≡ false → Yields Q R q) → Yields Q R (either t r q)
  unfolding either
  yields_either = yields_cond

  pub yields_need : {B : Type 0} {k : ℕ} (o : Option B) (f : B → Reading A) → R k → ((b : B) → o ≡ some b → Yields Q R (f b)) → Yields Q R (need_else k o f)
  unfolding need_else
  yields_need none f n h = n
  yields_need (some b) f n h = h b refl

  pub yields_checked : (reader : List ℕ → Reading A) (s : List ℕ) → (eqb (line_check s) 0 ≡ false → R (line_check s)) → Yields Q R (reader s) → Yields Q R (checked reader s)
  unfolding checked
  yields_checked reader s n h = go (eqb (line_check s) 0) refl
    where
      go : (t : Bool) → eqb (line_check s) 0 ≡ t → Yields Q R (cond t (reader s) (refused (line_check s)))
      go true e = h
      go false e = n e

  -- readers in order of trial: the number that they begin with, and what each says
  pub yields_first : (j : ℕ) (rs : List (Reading A)) → R j → AllYield Q R rs → Yields Q R (first_of j rs)
  unfolding first_of
  yields_first j [] n h = n
  yields_first j (read a ∷ rs) n h = h.0
  yields_first j (refused k ∷ rs) n h = yields_first (worse j k) rs (go (eqb j 3)) h.1
    where
      go : (t : Bool) → R (cond t k j)
      go true = h.0
      go false = n

-- under another name
pub yields_mapped : {A B : Type 0} (Q : B → Type 0) (R : ℕ → Type 0) (f : A → B) (x : Reading A) → Yields (λ (a : A). Q (f a)) R x → Yields Q R (mapped f x)
unfolding mapped
yields_mapped Q R f (read a) h = h
yields_mapped Q R f (refused k) h = h
