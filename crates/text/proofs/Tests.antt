-- Tests: cases on one, what a test of two that passes, or fails, says of each, the bounds of what lies within a range, and one of several under the name that the
-- code has. And what is never equal.
use Rattle.std.proofs.Common.{◌≡◌, ℕ, ◌≤◌, Bool, true, false, ◌&&◌, ◌||◌, leb, ◌⊎◌, sym, refl, inl, inr, arith, leb-true}
use mathlib.Core.Bool.{and-eq-true_iff}
use mathlib.Core.Option.{Option, none, some}
use Rattle.text.specs.Bytes.{within}

-- two constructors are never equal: `never (cc)`
pub never : {A : Type 0} → ◌≡◌ {A = ℕ} 0 1 → A
never e = absurd (omega arith)

pub not_some : {A B : Type 0} {a : A} → ◌≡◌ {A = Option A} none (some a) → B
not_some e = never (cc)

pub both : (t : Bool) → (t ≡ true) ⊎ (t ≡ false)
both true = inl refl
both false = inr refl

module _ (a b : Bool) (h : a && b ≡ true) where
  pub and_left : a ≡ true
  and_left = ((and-eq-true_iff a b).0 h).0

  pub and_right : b ≡ true
  and_right = ((and-eq-true_iff a b).0 h).1

module _ (lo hi x : ℕ) (h : within lo hi x ≡ true) where
  pub at_least : lo ≤ x
  at_least = leb-true lo x (and_left (leb lo x) (leb x hi) h)

  pub at_most : x ≤ hi
  at_most = leb-true x hi (and_right (leb lo x) (leb x hi) h)

pub neither : (a b : Bool) → a || b ≡ false → (a ≡ false) × (b ≡ false)
neither false false h = (refl, refl)
neither false true h = never (cc)
neither true b h = never (cc)

module _ (x a b : Bool) (is : x ≡ a) where
  pub or_first : x ≡ true → true ≡ (a || b)
  or_first h = rw (sym is, h)

  pub or_later : (r : Bool) → x ≡ false → r ≡ b → r ≡ (a || b)
  or_later r h e = rw (sym is, h) e
