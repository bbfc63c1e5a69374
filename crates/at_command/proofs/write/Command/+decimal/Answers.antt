use Rattle.at_command.proofs.Pieces.{last_digit, only_digit}
use Rattle.at_command.proofs.write.Command.+decimal.Goals as goal
use Rattle.at_command.proofs.write.Command.+decimal.Goals.{then-n-ge10, else-n-ge10}

pub returns : goal.returns
returns t c =
    elim c.if-n-ge10.branch [
      | then-n-ge10 w ↦ rw (c.byte.ensures, w.self-is, w.decimal.ensures) (last_digit c.args.self.now c.args.n _ c.digit.ensures w.if-n-ge10.true)
      | else-n-ge10 w ↦ rw (c.byte.ensures, w.self-is) (only_digit c.args.self.now c.args.n _ c.digit.ensures w.if-n-ge10.false)
    ]
