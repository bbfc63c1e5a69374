-- Whether the desk is clear: nothing is held, and nothing is being dropped.
use Prim.Native.Nat.{ℕ, ◌≤◌, ◌<◌}
use mathlib.Core.Path.{◌≡◌, refl}
use mathlib.Core.Bool.{true, false}
use mathlib.Core.Logic.{⊎_elim}
use mathlib.Core.List.{List, [], ◌∷◌}
use native.Mathlib.Omega.{arith}
use lib.ListN.{length, take}
use lib.Seq.{length-take-le}
use lib.Dec.{ltb}
use borrow.Author.Tests.{ltb-false}
use Rattle.desk.specs.Cut.{held}
use Rattle.desk.specs.Desk.{Tray, view_of, is_clear}
use Rattle.text.proofs.Tests.{both}

some_held : (l : List ℕ) → 0 < length l → is_clear (held l) ≡ false
some_held [] h = absurd (omega arith)
some_held (b ∷ bs) h = refl

pub clear_empty : (t : Tray) → t.len ≤ 0 → is_clear (view_of t) ≡ true
clear_empty t h = let e : t.len ≡ 0 = omega arith in rw e

pub clear_not : (t : Tray) → length t.bytes ≡ 257 → 0 < t.len → is_clear (view_of t) ≡ false
clear_not t full h =
    ⊎_elim (λ e. rw e)
    (λ e. rw e (some_held (take t.len t.bytes) (let k = ltb-false 257 t.len e in omega (arith, length-take-le t.len t.bytes (omega arith)))))
    (both (ltb 257 t.len))
