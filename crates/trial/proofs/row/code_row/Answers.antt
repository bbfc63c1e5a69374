use Rattle.std.proofs.Common.{arith}
-- Each return: the row by the bytes that are known there.
use mathlib.Core.Path.{refl, subst}
use mathlib.Core.List.{[], ◌∷◌}
use Prim.Native.Nat.{ℕ}
use borrow.Author.Tests.{ne_eqb}
use Rattle.trial.specs.Row.{Front}
use Rattle.trial.proofs.Rows.{at_letter, at_none}
use Rattle.trial.proofs.row.code_row.Goals as goal

pub returns-in-82 : goal.returns-in-82
returns-in-82 c l f = at_letter 43 67 _ _ _ l f 14 refl (rw c.in-82.is)

pub returns-in-71 : goal.returns-in-71
returns-in-71 c l f = at_letter 43 67 _ _ _ l f 15 refl (rw c.in-71.is)

pub returns-in-69 : goal.returns-in-69
returns-in-69 c l f = at_letter 43 67 _ _ _ l f 16 refl (rw c.in-69.is)

pub returns-in-83 : goal.returns-in-83
returns-in-83 c l f = at_letter 43 67 _ _ _ l f 5 refl (rw c.in-83.is)

pub returns-in-77 : goal.returns-in-77
returns-in-77 c l f = let a = c.args in c.message_row.ensures l (subst (λ (x : ℕ). Front (43 ∷ 67 ∷ x ∷ a.d ∷ a.e ∷ []) l) c.in-77.is f)

pub returns-in-80 : goal.returns-in-80
returns-in-80 c l f = at_letter 43 67 _ _ _ l f 6 refl (rw c.in-80.is)

pub returns-in-79 : goal.returns-in-79
returns-in-79 c l f = at_letter 43 67 _ _ _ l f 7 refl (rw c.in-79.is)

pub returns-in-78 : goal.returns-in-78
returns-in-78 c l f = at_letter 43 67 _ _ _ l f 8 refl (rw c.in-78.is)

pub returns-in_default : goal.returns-in_default
returns-in_default c l f = at_none 43 67 _ _ _ l f (rw (ne_eqb c.args.c 82 (λ e. omega arith), ne_eqb c.args.c 71 (λ e. omega arith), ne_eqb c.args.c 69 (λ e. omega arith), ne_eqb c.args.c 83 (λ e. omega arith), ne_eqb c.args.c 77 (λ e. omega arith), ne_eqb c.args.c 80 (λ e. omega arith), ne_eqb c.args.c 79 (λ e. omega arith), ne_eqb c.args.c 78 (λ e. omega arith)))
