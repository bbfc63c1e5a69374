use Rattle.text.proofs.ReaderStarts.{found_none, fits_more, found_more, found_full, found_last}
use Rattle.text.proofs.reader.starts_at.Goals as goal

pub loop-i-init : goal.loop-i-init
loop-i-init c = search found_none

pub returns-then-k-ge22 : goal.returns-then-k-ge22
returns-then-k-ge22 c = search found_full

pub overflow_add-k : goal.overflow_add-k
overflow_add-k c = rw c.from-k.ensures (search fits_more)

pub loop-i-preserved : goal.loop-i-preserved
loop-i-preserved c = rw c.from-k.ensures (search found_more)

pub returns-then-k-lt22 : goal.returns-then-k-lt22
returns-then-k-lt22 c = search found_last

pub returns-else-k-lt22 : goal.returns-else-k-lt22
returns-else-k-lt22 c = search found_full
