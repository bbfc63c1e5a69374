use Rattle.at_command.proofs.Pieces.{kept_size, kept}
use Rattle.at_command.proofs.write.Command.text.Goals as goal

pub invariant_of-self : goal.invariant_of-self
invariant_of-self c = kept_size 210 _ _ _ _ _ c.self.told c.self.invariant c.lay-self-inside.ensures

pub returns : goal.returns
returns c = rw (← c.self.view_is) (kept 210 _ _ _ _ _ c.self.told c.self.invariant c.lay-self-inside.ensures)
