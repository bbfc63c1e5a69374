-- The loop's invariant: the count so far and that of the rest make the whole. Assumes nothing.
use Rattle.std.proofs.Common.{◌≡◌, ◌+◌}
use Rattle.std.specs.Slice.Iter.{chunks_rest, chunks_size}
use Rattle.text.specs.Bytes.{count_of}
use Rattle.text.proofs.bytes.count_byte.Given as goal

abbrev pub invariant-loop-few : goal.invariant-loop-few
invariant-loop-few l = record {
  size : chunks_size l.few-iterator ≡ 255;
  count : l.n + count_of l.b (chunks_rest l.few-iterator) ≡ count_of l.b l.s;
}
