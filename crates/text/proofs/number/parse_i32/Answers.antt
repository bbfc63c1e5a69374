use Rattle.std.proofs.Common.{sym, w32}
use Rattle.text.proofs.Numbers.{magnitude_le}
use Rattle.text.proofs.Signs.{minus_none, minus_some, plain_none, plain_some, plain_fits}
use Rattle.text.proofs.number.parse_i32.Goals as goal

pub returns-in_err-magnitude : goal.returns-in_err-magnitude
returns-in_err-magnitude c = rw c.from_residual.ensures (minus_none 10 2147483647 c.args.s.now _ c.starts_with.ensures _ c.skip.ensures.bytes c.if-starts_with.true c.in_err-magnitude.ensures)

pub negative-requires : goal.negative-requires
negative-requires c = magnitude_le 10 2147483648 _ _ (sym c.in_ok-magnitude.ensures)

pub returns-then-starts_with : goal.returns-then-starts_with
returns-then-starts_with c = minus_some 10 2147483647 c.args.s.now _ c.starts_with.ensures _ c.skip.ensures.bytes c.if-starts_with.true w32 _ _ tt c.in_ok-magnitude.ensures c.negative.ensures

pub returns-in_err-unsigned : goal.returns-in_err-unsigned
returns-in_err-unsigned c = rw c.from_residual-in_err-unsigned.ensures (plain_none 10 2147483647 c.args.s.now _ c.starts_with.ensures c.if-starts_with.false c.in_err-unsigned.ensures)

pub overflow_cast-result : goal.overflow_cast-result
overflow_cast-result c = plain_fits 10 2147483647 _ c.args.s.now w32 c.in_ok-unsigned.ensures tt

pub returns : goal.returns
returns c =
    let f = plain_fits 10 2147483647 _ c.args.s.now w32 c.in_ok-unsigned.ensures tt in
    plain_some 10 2147483647 c.args.s.now _ c.starts_with.ensures c.if-starts_with.false w32 _ f c.in_ok-unsigned.ensures
