-- No second answer keeps the contract, and no second content of a lent part.
use Prim.Native.Nat.{ℕ}
use mathlib.Core.Path.{◌≡◌, sym, ap, ◌∙◌}
use mathlib.Core.List.{List}
use Rattle.bench.specs.Bench.{Left, BenchFeedKeeps}
use Rattle.bench.specs.Sort.{SortInOrderKeeps}

-- with `line`, `len`, `text` and `told`
-- one answer: bench_feed
pub one_feed : (line : List ℕ) (len : ℕ) (chunk text told : List ℕ) (r q : ℕ) (line' line'' : List ℕ) (len' len'' : ℕ) (text' text'' told' told'' : List ℕ)
    → BenchFeedKeeps line len chunk text told r line' len' text' told' → BenchFeedKeeps line len chunk text told q line'' len'' text'' told''
    → (r ≡ q) × (line' ≡ line'') × (len' ≡ len'') × (text' ≡ text'') × (told' ≡ told'')
one_feed line len chunk text told r q line' line'' len' len'' text' text'' told' told'' e f =
    let g = e ∙ sym f in
    (ap (λ (x : Left). x.answer) g, ap (λ (x : Left). x.line) g, ap (λ (x : Left). x.len) g, ap (λ (x : Left). x.text) g, ap (λ (x : Left). x.told) g)

-- one answer: bench_sort_in_order
pub one_sort_in_order : (line : List ℕ) (r q : ℕ) → SortInOrderKeeps line r → SortInOrderKeeps line q → r ≡ q
one_sort_in_order line r q e f = e ∙ sym f
