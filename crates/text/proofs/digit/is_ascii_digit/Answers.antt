use Rattle.std.proofs.Common.{rules}
use Rattle.text.proofs.Told.{told_by}
use Rattle.text.proofs.digit.is_ascii_digit.Goals as goal

pub returns : goal.returns
returns c = search (rules, told_by)
