-- What follows a prefix, as the library strips it, and what a reader says that goes on with `?`.
use Rattle.std.proofs.Common.{◌≡◌, ℕ, Bool, ◌&&◌, eqb, List, [], ◌∷◌, length, take, refl, ap, ◌∙◌, Result, Ok, Err}
use lib.Pointwise.{pointwise}
use Rattle.text.specs.Bytes.{starts_with}
use Rattle.text.specs.Reading.{Reading, refusal_in}
use Rattle.text.specs.Line.{line_check, checked}
use Rattle.text.specs.says.Refusal.{number_of, refusal_said}
use Rattle.text.proofs.LineLaws.{line_bad, line_good}
use Rattle.text.specs.declared.refusal.Refusal.{Refusal}

pub stripped : (p s : List ℕ) → pointwise eqb (take (length p) s) p ≡ starts_with p s
unfolding starts_with
stripped [] s = refl
stripped (b ∷ p) [] = refl
stripped (b ∷ p) (x ∷ s) = ap (λ (t : Bool). eqb x b && t) (stripped p s)

-- behind the check of the line
pub passed : {A : Type 0} (reader : List ℕ → Reading A) (s : List ℕ) (r : Result Unit Refusal) → refusal_said r ≡ line_check s → r ≡ Ok tt → (q : Reading A) → q ≡ reader s → q ≡ checked reader s
passed reader s r is e q h = line_good reader s r is tt q e h

-- the same of the refusal alone
module _ {A : Type 0} (reader : List ℕ → Reading A) (s : List ℕ) (r : Result Unit Refusal) (is : refusal_said r ≡ line_check s) where
  pub bad_alone : (k : Refusal) → r ≡ Err k → number_of k ≡ refusal_in (checked reader s)
  bad_alone k e = ap refusal_in (line_bad reader s r is k e)

  pub passed_alone : r ≡ Ok tt → (n : ℕ) → n ≡ refusal_in (reader s) → n ≡ refusal_in (checked reader s)
  passed_alone e n h = h ∙ ap refusal_in (line_good reader s r is tt (reader s) e refl)

pub ruleset checks = (line_bad, passed, bad_alone, passed_alone)
