-- What holds of a reading wherever it accepts, whatever its tests say; what it refuses it refuses with a number above 0.
use Rattle.std.proofs.Common.{◌≡◌, ℕ, Bool, true, false, List, arith}
use mathlib.Core.Option.{Option}
use borrow.Author.Tests.{eqb-false}
use Rattle.text.specs.Handed.{Handed, handed}
use Rattle.text.specs.Line.{line_check, checked}
use Rattle.text.specs.Reading.{Reading, read, refused, only, either, fitting, need}
use Rattle.text.proofs.Yields.{Yields, yields_only, yields_fitting, yields_either, yields_need, yields_checked}

abbrev Above : ℕ → Type 0
Above k = k ≡ 0 → ⊥

module _ {A : Type 0} (Q : A → Type 0) where
  abbrev pub Accepts : Reading A → Type 0
  Accepts r = Yields Q Above r

  pub by_only : (t : Bool) (r : Reading A) → Accepts r → Accepts (only t r)
  by_only t r h = yields_only Q Above t r (λ e. omega arith) (λ e. h)

  pub by_fitting : (n : ℕ) (s : List ℕ) (r : Reading A) → Accepts r → Accepts (fitting n s r)
  by_fitting n s r h = yields_fitting Q Above n s r (λ e. omega arith) (λ e. h)

  pub by_either : (t : Bool) (r q : Reading A) → (t ≡ true → Accepts r) → (t ≡ false → Accepts q) → Accepts (either t r q)
  by_either t r q f g = yields_either Q Above t r q f g

  pub by_need : {B : Type 0} (o : Option B) (f : B → Reading A) → ((b : B) → Accepts (f b)) → Accepts (need o f)
  by_need o f h = yields_need Q Above o f (λ e. omega arith) (λ b e. h b)

  pub by_checked : (reader : List ℕ → Reading A) (s : List ℕ) → Accepts (reader s) → Accepts (checked reader s)
  by_checked reader s h = yields_checked Q Above reader s (eqb-false (line_check s) 0) h

-- so it holds of what is handed out with the number 0
pub where_0 : {A : Type 0} (P : Handed → Type 0) (text : A → Handed) (x : Reading A) → Accepts (λ (a : A). P (text a)) x → (handed text x).refusal ≡ 0 → P (handed text x)
unfolding handed
where_0 P text (read a) h e = h
where_0 P text (refused k) h e = absurd (h e)
