-- The 20 numbers of a reader: its own laid over zeros.
use Prim.Native.Nat.{ℕ, ◌+◌, ◌-◌, ◌≤◌}
use mathlib.Core.Path.{◌≡◌, sym, ap, ◌∙◌}
use mathlib.Core.List.{List, ◌++◌}
use native.Mathlib.Omega.{arith}
use lib.ListN.{length, take, drop, replicate}
use Rattle.std.proofs.Math.Seq.{take-append-add}
use Rattle.std.proofs.lemmas.List.{drop-replicate, take-replicate}
use Rattle.sim7000.specs.Values.{padded}

pub laid : (l m : List ℕ) → m ≡ l → length l ≤ 20 → m ++ drop (length l) (replicate 20 0) ≡ padded l
laid l m e h = let zeros = replicate 20 0 in
    let rest = 20 - length l in
    let all : length l + rest ≡ 20 = omega arith in
    let few : rest ≤ 20 = omega arith in
    rw e
    (ap (λ (t : List ℕ). l ++ t) (drop-replicate (length l) 20 0 ∙ sym (take-replicate rest 20 0 few))
    ∙ sym (take-append-add l zeros rest)
    ∙ ap (λ (n : ℕ). take n (l ++ zeros)) all)
