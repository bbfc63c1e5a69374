-- How many bytes a text takes in quotes. Assumes nothing.
use mathlib.Core.Path.{◌≡◌}
use mathlib.Core.Bool.{Bool, true, false, cond}
use mathlib.Core.List.{List, [], ◌∷◌, ◌++◌}
use Prim.Native.Nat.{ℕ, ◌+◌, ◌*◌, ◌≤◌}
use native.Mathlib.Omega.{arith}
use lib.ListN.{length, length-append}
use Rattle.text.specs.Bytes.{bytes}
use Rattle.at_command.specs.Piece.{marked, escape, escaped, quoted}

quoted_adds : (t : List ℕ) → length (quoted t) ≡ 2 + length (escaped t)
unfolding quoted
quoted_adds t =
    let z = length-append (bytes "\"" ++ escaped t) (bytes "\"") in
    let y = length-append (bytes "\"") (escaped t) in
    omega arith

-- at most twice its bytes, and the quotes around it
escape_most : (x : ℕ) → length (escape x) ≤ 2
escape_most x = go (marked x)
  where
    go : (b : Bool) → length (cond b (92 ∷ x ∷ []) (x ∷ [])) ≤ 2
    go true = omega arith
    go false = omega arith

escaped_most : (t : List ℕ) → length (escaped t) ≤ 2 * length t
escaped_most [] = omega arith
escaped_most (x ∷ t) =
    let e = escape_most x in
    let r = escaped_most t in
    let z = length-append (escape x) (escaped t) in
    omega arith

pub quoted_most : (t : List ℕ) → length (quoted t) ≤ 2 + 2 * length t
quoted_most t =
    let e = escaped_most t in
    let z = quoted_adds t in
    omega arith
