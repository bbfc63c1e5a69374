use Rattle.std.proofs.Common.{sym, ◌∙◌}
use borrow.Author.Tests.{eqb-true}
use Rattle.at_command.proofs.Pieces.{none_marked}
use Rattle.at_command.proofs.write.is_plain.Goals as goal

pub returns-then-count_byte-eq0 : goal.returns-then-count_byte-eq0
returns-then-count_byte-eq0 c =
    λ e. none_marked c.args.piece.now (sym c.count_byte.ensures ∙ c.if-count_byte-eq0.true) (sym c.count_byte-then-count_byte-eq0.ensures ∙ eqb-true _ 0 e)
