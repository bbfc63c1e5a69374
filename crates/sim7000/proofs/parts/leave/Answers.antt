-- `leave` meets its contract: the numbers of the state after an open that is answered.
use Rattle.sim7000.proofs.parts.leave.Goals as goal

pub returns : goal.returns
returns c = λ line sent out. rw (c.in_ok-size.was, c.numbers_of.ensures line sent)
