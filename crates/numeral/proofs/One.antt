-- No second answer meets a contract. `says` has an inverse; and over whole numbers alone two answers of `read` to a text have one value.
use mathlib.Core.Path.{◌≡◌, refl, subst}
use mathlib.Core.Bool.{Bool}
use mathlib.Core.List.{List}
use Prim.Native.Nat.{ℕ, ◌*◌, ◌^◌}
use Rattle.std.proofs.Common.{Option, Some, None}
use lib.Ieee.{Float}
use lib.Ieee.Exact.{HasValue}
use Rattle.text.specs.Reading as R
use Rattle.text.specs.Reading.{Reading, read}
use Rattle.text.proofs.One.{one_answer}
use Rattle.numeral.specs.Numeral.{Decimal, numeral_text}
use Rattle.numeral.specs.Nearest.{Nearest, Answers}
use Rattle.numeral.specs.Nearest.{value as is-value, refused as is-refused}
use Rattle.numeral.specs.says.Numeral.{says, NumeralKeeps}
use Rattle.numeral.proofs.Pattern.{ten_pos}
use Rattle.numeral.proofs.NumeralGrammar.{single}
use Rattle.numeral.proofs.UniqueNearest.{sole}

abbrev taken : Reading Float → Option Float
taken (read x) = Some x
taken (R.refused k) = None

back : (r : Option Float) → taken (says r) ≡ r
back (Some x) = refl
back None = refl

-- one answer: read
pub one_numeral : (s : List ℕ) (a b : Option Float) → NumeralKeeps s a → NumeralKeeps s b → a ≡ b
one_numeral s a b p q = one_answer says taken back a b (numeral_text s) p.exact q.exact

-- one sign and one magnitude
abbrev Alike : Reading Float → Reading Float → Type 0
Alike (read x) (read y) = (s : Bool) × (v : ℕ) × HasValue x s v (2 ^ 149) × HasValue y s v (2 ^ 149)
Alike (read x) (R.refused k) = ⊥
Alike (R.refused k) (read y) = ⊥
Alike (R.refused k) (R.refused j) = k ≡ j

pub alike : (s : List ℕ) {o p : Reading Float} → Answers s o → Answers s p → Alike o p
alike s (is-value {d = d} m n) (is-value {d = e} {x = y} k l) =
    let h : Nearest d.negative d.number (10 ^ d.places) y = subst (λ (z : Decimal). Nearest z.negative z.number (10 ^ z.places) y) (single s e d k m) l in
    (d.negative, n.sig * 2 ^ n.drop, n.value, subst (λ (v : ℕ). HasValue y d.negative v (2 ^ 149)) (sole (ten_pos d.places) h n) h.value)
alike s (is-value {d = d} m n) (is-refused f) = f d m
alike s (is-refused f) (is-value {d = d} m n) = f d m
alike s (is-refused f) (is-refused g) = refl
