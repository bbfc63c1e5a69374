-- No second answer keeps the contract of an exported call that reads a line, and no second content of `values`.
use Prim.Native.Nat.{ℕ}
use mathlib.Core.Path.{◌≡◌, sym, ap, ◌∙◌}
use mathlib.Core.List.{List}
use Rattle.sim7000.specs.Reader.{SortLineKeeps}
use Rattle.sim7000.specs.Values.{ReadLeft, ReadLineKeeps}

-- one answer: sim7000_sort_line
pub one_sort_line : (line : List ℕ) (r q : ℕ) → SortLineKeeps line r → SortLineKeeps line q → r ≡ q
one_sort_line line r q e f = e ∙ sym f

-- one answer: sim7000_read_line
pub one_read_line : (line before : List ℕ) (r q : ℕ) (after after' : List ℕ) → ReadLineKeeps line before r after → ReadLineKeeps line before q after' → (r ≡ q) × (after ≡ after')
one_read_line line before r q after after' e f = let g = e ∙ sym f in
    (ap (λ (x : ReadLeft). x.answer) g, ap (λ (x : ReadLeft). x.values) g)
