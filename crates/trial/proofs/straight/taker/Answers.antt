use mathlib.Core.Path.{subst, ap, ◌∙◌}
use mathlib.Core.List.{List}
use Prim.Native.Nat.{ℕ}
use Rattle.std.proofs.lemmas.Result.{err_from_is_err_and}
use Rattle.text.specs.Condition.{Points}
use Rattle.text.specs.Reading.{read}
use Rattle.text.proofs.Refusals.{some_refusal}
use Rattle.trial.specs.Conditions.{all_conditions}
use Rattle.trial.proofs.OneReader.{taker_refused, taker_taken}
use Rattle.trial.proofs.straight.taker.Goals as goal

-- the row is that of the line, which was put together anew
pub check-requires : goal.check-requires
check-requires c = subst (λ (l : List ℕ). Points all_conditions l c.row_of-row.result) c.skip.ensures.bytes c.row_of-row.ensures

pub returns-in_err-check : goal.returns-in_err-check
returns-in_err-check c =
    let p = err_from_is_err_and c.from_residual.result c.from_residual.ensures.1 in
    rw (p.1, p.2) (taker_refused _ _ c.in_err-check.ensures (some_refusal _))

pub returns : goal.returns
returns c =
    let row = subst (λ (l : List ℕ). Points all_conditions l c.row_of-row.result) c.skip.ensures.bytes c.row_of-row.ensures in
    ap read c.taker_at.ensures ∙ taker_taken _ _ row c.in_ok-check.ensures
