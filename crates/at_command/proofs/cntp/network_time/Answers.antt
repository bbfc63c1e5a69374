use Rattle.std.proofs.Common.{arith}
use Rattle.text.proofs.Readings.{ok_or_some}
use Rattle.at_command.specs.says.Cntp.{code_number}
use Rattle.at_command.proofs.cntp.Laws.{start_fits, time_read}
use Rattle.at_command.proofs.cntp.network_time.Goals as goal

pub overflow_add-start : goal.overflow_add-start
overflow_add-start c = omega (arith, start_fits c.args.line.now _ _ c.skip-rest.ensures.bytes c.has_byte.ensures c.if-not-has_byte.false _ c.find-start.ensures)

pub returns : goal.returns
returns c =
    let code = ok_or_some code_number _ c.code_of.result _ _ c.code_of.ensures c.in_ok-code.ensures.value in
    time_read c.args.line.now _ _ _ _ _ _ c.skip-rest.ensures.bytes c.has_byte.ensures c.if-not-has_byte.false code c.before_byte.ensures.bytes c.after_byte.ensures.bytes c.if-after_byte-gt32.false c.find-start.ensures
