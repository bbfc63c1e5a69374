-- The table of the powers of ten is `tabled`'s.
use Prim.Native.Nat.{ℕ, ◌^◌}
use native.Mathlib.Omega.{arith}
use Rattle.text.proofs.Below.{entry}
use Rattle.numeral.proofs.ten_to.Goals as goal

pub returns : goal.returns
returns c = entry (λ (k : ℕ). 10 ^ k) 0 16 c.args.k (omega arith)
