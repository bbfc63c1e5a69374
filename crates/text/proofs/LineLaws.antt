-- The line check: what `check_line` gives, the two ways on of a reader that calls it first, and which refusals are the reader's own.
use Rattle.std.proofs.Common.{◌≡◌, ℕ, ◌<◌, ◌≤◌, Bool, true, false, cond, eqb, ltb, List, length, refl, sym, ap, ◌∙◌, arith, le-ltb, lt-ltb, ne_eqb, eqb-true, Result, Ok, Err}
use Rattle.text.specs.Line.{line_check, checked}
use Rattle.text.specs.Reading.{Reading, refused}
use Rattle.text.specs.Utf8.{utf8}
use Rattle.text.specs.says.Refusal.{number_of, refusal_said}
use Rattle.text.specs.declared.refusal.Refusal.{Refusal}
use Rattle.text.proofs.Refusals.{some_refusal}

module _ (s : List ℕ) where
  pub check_long : 256 < length s → 1 ≡ line_check s
  unfolding line_check
  check_long h = rw (lt-ltb _ _ h)

  module _ (t : Bool) (fits : length s ≤ 256) (is : t ≡ utf8 s) where
    pub check_good : t ≡ true → 0 ≡ line_check s
    unfolding line_check
    check_good h = rw (le-ltb _ _ fits, ← is, h)

    pub check_bad : t ≡ false → 2 ≡ line_check s
    unfolding line_check
    check_bad h = rw (le-ltb _ _ fits, ← is, h)

-- `check_line(s)?; bare(s)`: the check's answer r refuses the line, or the bare reader's answer q is the checked one's
module _ {A : Type 0} (reader : List ℕ → Reading A) (s : List ℕ) (r : Result Unit Refusal) (is : refusal_said r ≡ line_check s) where
  pub line_bad : (k : Refusal) → r ≡ Err k → refused (number_of k) ≡ checked reader s
  unfolding checked
  line_bad k e = let i : line_check s ≡ number_of k = sym is ∙ ap refusal_said e in rw (i, ne_eqb (number_of k) 0 (some_refusal k))

  pub line_good : (v : Unit) (q : Reading A) → r ≡ Ok v → q ≡ reader s → q ≡ checked reader s
  unfolding checked
  line_good v q e h = let i : line_check s ≡ 0 = sym is ∙ ap refusal_said e in rw i h

pub ruleset lines = (line_bad, line_good)

pub check_low : (s : List ℕ) → line_check s ≤ 2
unfolding line_check
check_low s = go (ltb 256 (length s)) (utf8 s)
  where
    go : (t v : Bool) → cond t 1 (cond v 0 2) ≤ 2
    go true v = omega arith
    go false true = omega arith
    go false false = omega arith

-- so a refusal above 2 is the reader's own
pub own_refusal : {A : Type 0} (reader : List ℕ → Reading A) (s : List ℕ) (k : ℕ) → 2 < k → checked reader s ≡ refused k → (line_check s ≡ 0) × (reader s ≡ refused k)
unfolding checked
own_refusal reader s k h = go (eqb (line_check s) 0) (eqb-true (line_check s) 0)
  where
    go : (t : Bool) → (t ≡ true → line_check s ≡ 0) → cond t (reader s) (refused (line_check s)) ≡ refused k → (line_check s ≡ 0) × (reader s ≡ refused k)
    go true f e = (f refl, e)
    go false f e = let z : line_check s ≡ k = cc in let l = check_low s in absurd (omega arith)
