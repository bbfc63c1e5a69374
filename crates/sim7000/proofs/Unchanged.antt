-- An exported call that refuses leaves all that it was lent as it was.
use Prim.Native.Nat.{ℕ}
use mathlib.Core.Path.{◌≡◌, ap}
use mathlib.Core.List.{List}
use mathlib.Core.Option.{Option, none, some}
use lib.ListN.{length}
use Rattle.text.specs.Reading.{Reading, read, refused}
use Rattle.at_command.specs.Request.{Asked, encode_reading}
use Rattle.trial.specs.Answer.{Said, line_said}
use Rattle.desk.specs.Desk.{Heard, fed}
use Rattle.desk.specs.Rules.{Mode}
use Rattle.sim7000.specs.Values.{ReadLeft, read_left, handed_over, ReadLineKeeps}
use Rattle.sim7000.specs.Parts.{desk_in, FeedLeft, left_by, feed_left, feeds, ExportFeedKeeps}
use Rattle.sim7000.specs.Command.{asked_by, WriteLeft, write_left, write_leaves, writes, ExportWriteKeeps, OpenLeft, open_left, open_leaves, opened_on, opens}

module _ (r : ℕ) (refuses : r ≡ 0 → ⊥) where
  pub read_line_refused : (line values values' : List ℕ) → ReadLineKeeps line values r values' → values' ≡ values
  read_line_refused line values values' = go (line_said line)
    where
      go : (a : Reading Said) → read_left r values' ≡ handed_over a values → values' ≡ values
      go (read s) k = absurd (refuses (ap (λ (x : ReadLeft). x.answer) k))
      go (refused n) k = ap (λ (x : ReadLeft). x.values) k

  pub write_refused : (request number code : ℕ) (first second out : List ℕ) (size : ℕ) (out' : List ℕ) (size' : ℕ) → ExportWriteKeeps request number code first second out size r out' size'
      → (out' ≡ out) × (size' ≡ size)
  unfolding writes
  write_refused request number code first second out size out' size' = go (asked_by request number code first second)
    where
      by : (w : Reading (List ℕ)) → write_left r out' size' ≡ write_leaves w out size → (out' ≡ out) × (size' ≡ size)
      by (read c) k = absurd (refuses (ap (λ (x : WriteLeft). x.answer) k))
      by (refused n) k = (ap (λ (x : WriteLeft). x.out) k, ap (λ (x : WriteLeft). x.size) k)

      go : (o : Option Asked) → write_left r out' size' ≡ writes o out size → (out' ≡ out) × (size' ≡ size)
      go none k = (ap (λ (x : WriteLeft). x.out) k, ap (λ (x : WriteLeft). x.size) k)
      go (some a) k = by (encode_reading a (length out)) k

  -- of both opens: the state with its count, what was sent, the output buffer and the size
  pub open_refused : (mode : Mode) (o : Option Asked) (line state sent out : List ℕ) (size : ℕ) (state' sent' out' : List ℕ) (size' : ℕ)
      → open_left r state' sent' out' size' ≡ opens mode o line state sent out size → (state' ≡ state) × (sent' ≡ sent) × (out' ≡ out) × (size' ≡ size)
  unfolding opens
  open_refused mode o line state sent out size state' sent' out' size' = go o
    where
      as_it_was : (n : ℕ) → open_left r state' sent' out' size' ≡ open_left n state sent out size → (state' ≡ state) × (sent' ≡ sent) × (out' ≡ out) × (size' ≡ size)
      as_it_was n k = (ap (λ (x : OpenLeft). x.state) k, ap (λ (x : OpenLeft). x.sent) k, ap (λ (x : OpenLeft). x.out) k, ap (λ (x : OpenLeft). x.size) k)

      by : (a : Asked) (y : Reading ℕ) → open_left r state' sent' out' size' ≡ open_leaves y (opened_on mode a line state sent out) state sent out size
          → (state' ≡ state) × (sent' ≡ sent) × (out' ≡ out) × (size' ≡ size)
      by a (read n) k = absurd (refuses (ap (λ (x : OpenLeft). x.answer) k))
      by a (refused n) k = as_it_was n k

      go : (p : Option Asked) → open_left r state' sent' out' size' ≡ opens mode p line state sent out size → (state' ≡ state) × (sent' ≡ sent) × (out' ≡ out) × (size' ≡ size)
      go none k = as_it_was 3 k
      go (some a) k = by a (opened_on mode a line state sent out).answer k

  pub feed_refused : (line state sent chunk text told line' state' text' told' : List ℕ) → ExportFeedKeeps line state sent chunk text told r line' state' text' told'
      → (line' ≡ line) × (state' ≡ state) × (text' ≡ text) × (told' ≡ told)
  unfolding feeds
  feed_refused line state sent chunk text told line' state' text' told' = go (fed (desk_in line state sent) chunk text).answer
    where
      go : (a : Reading Heard) → feed_left r line' state' text' told' ≡ left_by a (fed (desk_in line state sent) chunk text) (feed_left 0 line state text told)
          → (line' ≡ line) × (state' ≡ state) × (text' ≡ text) × (told' ≡ told)
      go (read h) k = absurd (refuses (ap (λ (x : FeedLeft). x.answer) k))
      go (refused n) k = (ap (λ (x : FeedLeft). x.line) k, ap (λ (x : FeedLeft). x.state) k, ap (λ (x : FeedLeft). x.text) k, ap (λ (x : FeedLeft). x.told) k)
