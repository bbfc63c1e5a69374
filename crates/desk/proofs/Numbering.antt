-- Laws of ordinals: one after the other up to the greatest, and left out they leave the list.
use Prim.Native.Nat.{ℕ, suc, ◌+◌, ◌≤◌}
use Rattle.std.specs.Prelude.{min, ◌-◌, ◌^◌}
use Rattle.std.proofs.lemmas.Bool.Decides.{nat_tests}
use mathlib.Core.Path.{◌≡◌, refl, sym, ap, ◌∙◌}
use mathlib.Core.Logic.{⊎_elim}
use mathlib.Core.List.{List, [], ◌∷◌}
use native.Mathlib.Omega.{arith}
use lib.Dec.{ltb}
use borrow.Author.Tests.{le-ltb, ltb-true, ltb-false}
use Rattle.text.specs.Copy.{least}
use Rattle.text.proofs.Tests.{both}
use Rattle.desk.specs.Ordinal.{greatest, capped, number, unnumbered}

pub capped_few : (n : ℕ) → n ≤ greatest → capped n ≡ n
unfolding capped least
capped_few n h = ⊎_elim (λ e. rw e) (λ e. rw e (let g = ltb-false n greatest e in omega arith)) (both (ltb n greatest))

pub capped_many : (n : ℕ) → greatest ≤ n → capped n ≡ greatest
unfolding capped least
capped_many n h = rw (le-ltb n greatest h)

-- the ordinal of the line after the n-th is the one after the n-th's
pub capped_next : (n : ℕ) → capped (suc (capped n)) ≡ capped (suc n)
capped_next n =
    ⊎_elim (λ e. let g = ltb-true n greatest e in ap (λ (k : ℕ). capped (suc k)) (capped_few n (omega arith)))
    (λ e.
    let g = ltb-false n greatest e in
    ap (λ (k : ℕ). capped (suc k)) (capped_many n g) ∙ capped_many (suc greatest) (omega arith) ∙ sym (capped_many (suc n) (omega arith)))
    (both (ltb n greatest))

pub capped_again : (n : ℕ) → capped (capped n) ≡ capped n
capped_again n =
    ⊎_elim (λ e. let g = ltb-true n greatest e in ap capped (capped_few n (omega arith))) (λ e. let g = ltb-false n greatest e in ap capped (capped_many n g) ∙ capped_few greatest (omega arith) ∙ sym (capped_many n g))
    (both (ltb n greatest))

-- as the code has it
pub next_capped : (n : ℕ) → min (n + 1) (2 ^ 32 - 1) ≡ capped (suc n)
unfolding capped least
next_capped n = grind (arith, nat_tests)

module _ {T : Type 0} where
  pub number_capped : (n : ℕ) (l : List T) → number (capped n) l ≡ number n l
  unfolding number
  number_capped n [] = refl
  number_capped n (t ∷ ts) =
      let same : number (suc (capped n)) ts ≡ number (suc n) ts = sym (number_capped (suc (capped n)) ts) ∙ ap (λ (k : ℕ). number k ts) (capped_next n) ∙ number_capped (suc n) ts in
      rw (capped_next n, same)

  pub number_out : (n : ℕ) (l : List T) → unnumbered (number n l) ≡ l
  unfolding number
  number_out n [] = refl
  number_out n (t ∷ ts) = ap (λ (l : List T). t ∷ l) (number_out (suc n) ts)
