use Rattle.std.proofs.Common.{arith}
-- Each return: the row by the bytes that are known there.
use mathlib.Core.Path.{subst}
use mathlib.Core.List.{[], ◌∷◌}
use Prim.Native.Nat.{ℕ}
use borrow.Author.Tests.{ne_eqb}
use Rattle.trial.specs.Row.{Front}
use Rattle.trial.proofs.Rows.{at_letter, at_none}
use Rattle.trial.proofs.row.letter_row.Goals as goal

pub returns-in-43 : goal.returns-in-43
returns-in-43 c l f = let a = c.args in c.plus_row.ensures l (subst (λ (x : ℕ). Front (x ∷ a.b ∷ a.c ∷ a.d ∷ a.e ∷ []) l) c.in-43.is f)

pub returns-in-79 : goal.returns-in-79
returns-in-79 c l f = at_letter _ _ _ _ _ l f 0 (rw c.in-79.is) (rw c.in-79.is)

pub returns-in-83 : goal.returns-in-83
returns-in-83 c l f = at_letter _ _ _ _ _ l f 0 (rw c.in-83.is) (rw c.in-83.is)

pub returns-in-69 : goal.returns-in-69
returns-in-69 c l f = at_letter _ _ _ _ _ l f 1 (rw c.in-69.is) (rw c.in-69.is)

pub returns-in-62 : goal.returns-in-62
returns-in-62 c l f = at_letter _ _ _ _ _ l f 2 (rw c.in-62.is) (rw c.in-62.is)

pub returns-in_default : goal.returns-in_default
returns-in_default c l f = at_none _ _ _ _ _ l f (rw (ne_eqb c.args.a 43 (λ e. omega arith), ne_eqb c.args.a 79 (λ e. omega arith), ne_eqb c.args.a 83 (λ e. omega arith), ne_eqb c.args.a 69 (λ e. omega arith), ne_eqb c.args.a 62 (λ e. omega arith)))
