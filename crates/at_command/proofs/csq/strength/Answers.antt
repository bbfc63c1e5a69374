use Rattle.at_command.specs.Csq.{strength_of}
use Rattle.at_command.proofs.csq.Laws.{shifted_fits, shifted_is, shifted_in, hundred, sixty_three}
use Rattle.at_command.proofs.csq.strength.Goals as goal

pub overflow_add-result : goal.overflow_add-result
overflow_add-result c = rw c.dbm.ensures (shifted_fits c.args.rssi c.requires)

pub int_to_float-result : goal.int_to_float-result
int_to_float-result c = rw (c.dbm.ensures, shifted_is c.args.rssi c.requires) (shifted_in c.args.rssi c.requires)

pub returns : goal.returns
unfolding strength_of
returns c = rw (c.dbm.ensures, shifted_is c.args.rssi c.requires, hundred, sixty_three)
