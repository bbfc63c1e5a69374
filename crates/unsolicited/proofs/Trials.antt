-- A trial of readers that refuse with 3 alone. Assumes nothing.
use mathlib.Core.Path.{◌≡◌}
use Prim.Native.Nat.{ℕ}
use Rattle.text.specs.Reading.{Reading}
use Rattle.text.proofs.Yields.{Yields}

-- it is no refusal but 3
abbrev pub Plain : {A : Type 0} → Reading A → Type 0
Plain {A} r = Yields (λ (a : A). Unit {0}) (λ (k : ℕ). k ≡ 3) r
