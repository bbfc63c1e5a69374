use Rattle.std.proofs.Common.{◌≡◌, ◌-◌, length, take, drop, arith}
use Rattle.std.proofs.lemmas.Grind.{common_steps}
use Rattle.unsolicited.proofs.Dates.{behind_point}
use Rattle.unsolicited.proofs.ugnsinf.is_fraction.Goals as goal

pub returns-then-not-is_empty : goal.returns-then-not-is_empty
returns-then-not-is_empty c =
    let s = c.args.s.now in
    let e : take (length s - 1) (drop 1 s) ≡ drop 1 s = grind (arith, common_steps) in
    grind (arith, common_steps, behind_point)
