-- The sort of a line as one number, for the benchmark.
use Rattle.std.specs.Prelude.{ℕ, ◌+◌, ◌≡◌, List}
use Rattle.text.specs.Reading.{Reading, read, refused}
use Rattle.at_command.specs.Kind.{place_of}
use Rattle.trial.specs.Sort.{Sort, response, unsolicited, line_sort}

-- the responses 1 to 13 in their order of trial, 14 for an unsolicited line, or 128 plus the refusal number
abbrev pub ordered_number : Reading Sort → ℕ
ordered_number (read (response k)) = place_of k + 1
ordered_number (read unsolicited) = 14
ordered_number (refused k) = 128 + k

-- the contract of `bench_sort_in_order`, which the second engine would keep too: that it is the ordered trial is in its body alone
abbrev pub SortInOrderKeeps : List ℕ → ℕ → Type 0
SortInOrderKeeps line r = r ≡ ordered_number (line_sort line)
