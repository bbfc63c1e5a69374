-- A line that ends with a text is at least as long. Assumes nothing.
use mathlib.Core.Path.{◌≡◌, sym, ◌∙◌}
use mathlib.Core.Bool.{Bool, true}
use mathlib.Core.List.{List}
use Prim.Native.Nat.{ℕ, ◌-◌, ◌≤◌}
use native.Mathlib.Omega.{arith}
use lib.Dec.{eqb}
use lib.ListN.{length, drop, length-drop}
use borrow.Author.Tests.{eqb-true}
use Rattle.text.proofs.Tests.{and_left}
use Rattle.text.specs.Bytes.{same, ends_with}

pub ends_length : (p s : List ℕ) (x : Bool) → x ≡ ends_with p s → x ≡ true → length p ≤ length s
unfolding ends_with same
ends_length p s x e h =
    let z : length (drop (length s - length p) s) ≡ length p = eqb-true _ _ (and_left (eqb (length (drop (length s - length p) s)) (length p)) _ (sym e ∙ h)) in
    omega (arith, length-drop (length s - length p) s)
