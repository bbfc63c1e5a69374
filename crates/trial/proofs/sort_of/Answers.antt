use mathlib.Core.Path.{ap, ◌∙◌}
use Rattle.std.proofs.lemmas.Result.{err_from_is_err_and}
use Rattle.text.specs.Reading.{read, mapped}
use Rattle.trial.specs.Sort.{sort_of, line_sort}
use Rattle.trial.proofs.sort_of.Goals as goal

pub returns-in_err-from_line : goal.returns-in_err-from_line
unfolding line_sort mapped
returns-in_err-from_line c =
    let p = err_from_is_err_and c.from_residual.result c.from_residual.ensures.1 in
    rw (p.1, p.2) (ap (mapped sort_of) c.in_err-from_line.ensures)

pub returns : goal.returns
unfolding line_sort mapped
returns c = ap read c.sort.ensures ∙ ap (mapped sort_of) c.in_ok-from_line.ensures
