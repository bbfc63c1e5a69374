use Rattle.std.proofs.Common.{arith}
-- Each return: the row by the bytes that are known there.
use mathlib.Core.Path.{subst}
use mathlib.Core.List.{[], ◌∷◌}
use Prim.Native.Nat.{ℕ}
use borrow.Author.Tests.{ne_eqb}
use Rattle.trial.specs.Row.{Front}
use Rattle.trial.proofs.Rows.{at_letter, at_none}
use Rattle.trial.proofs.row.plus_row.Goals as goal

pub returns-in-67 : goal.returns-in-67
returns-in-67 c l f = let a = c.args in c.code_row.ensures l (subst (λ (x : ℕ). Front (43 ∷ x ∷ a.c ∷ a.d ∷ a.e ∷ []) l) c.in-67.is f)

pub returns-in-85 : goal.returns-in-85
returns-in-85 c l f = at_letter 43 _ _ _ _ l f 13 (rw c.in-85.is) (rw c.in-85.is)

pub returns-in-72 : goal.returns-in-72
returns-in-72 c l f = at_letter 43 _ _ _ _ l f 9 (rw c.in-72.is) (rw c.in-72.is)

pub returns-in_default : goal.returns-in_default
returns-in_default c l f = at_none 43 _ _ _ _ l f (rw (ne_eqb c.args.b 67 (λ e. omega arith), ne_eqb c.args.b 85 (λ e. omega arith), ne_eqb c.args.b 72 (λ e. omega arith)))
