use Rattle.std.proofs.Common.{ℕ, ◌<◌, get_or, sym, subst, arith, rules}
use Rattle.text.proofs.Below.{tabled, entry}
use Rattle.text.proofs.Utf8Walk.{row, at_begin, letter, letter_least, letter_few, at_more, at_last}
use Rattle.text.proofs.utf8.all_chars.Goals as goal

pub loop-x-init : goal.loop-x-init
loop-x-init c = at_begin c.args.s.now

pub overflow_sub-letter : goal.overflow_sub-letter
overflow_sub-letter c =
    let small : c.from.result < 256 = omega (arith, c.type_inv.s c.loop-x.x-index) in
    letter_least c.from.result _ small (entry letter 0 256 c.from.result small)

pub bounds-rows-from : goal.bounds-rows-from
bounds-rows-from c =
    let small : c.from.result < 256 = omega (arith, c.type_inv.s c.loop-x.x-index) in
    subst (λ (n : ℕ). n < 12) (sym c.from-in-loop-x.ensures) (letter_few c.from.result _ small (entry letter 0 256 c.from.result small))

pub loop-x-preserved : goal.loop-x-preserved
unfolding row
loop-x-preserved c =
    let small : c.from.result < 256 = omega (arith, c.type_inv.s c.loop-x.x-index) in
    rw c.from-in-loop-x.ensures
    (at_more c.args.s.now c.loop-x.state c.loop-x.x-index c.loop-x.invariant c.from.result (get_or (tabled letter 0 256) c.from.result 0) c.loop-x-test.true c.from.ensures small
    (entry letter 0 256 c.from.result small))

pub returns : goal.returns
returns c = search (rules, at_last)
