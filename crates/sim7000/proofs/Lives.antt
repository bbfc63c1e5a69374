-- Demand 3 is not empty: in both modes there are sessions that are made of exported calls alone, and they take any bytes.
use Prim.Native.Nat.{ℕ, ◌≤◌}
use mathlib.Core.Path.{◌≡◌, refl, sym, subst}
use mathlib.Core.Bool.{true}
use mathlib.Core.List.{List, [], ◌∷◌}
use mathlib.Core.Option.{Option, some}
use lib.ListN.{length, get_or}
use Rattle.text.specs.Reading.{Reading, read, refused}
use Rattle.at_command.specs.Request.{Asked, encode_reading, written}
use Rattle.desk.specs.Desk.{sent_in, size_in, State, Heard, Fed, fed, opened}
use Rattle.desk.specs.Rules.{Mode, plain_mode, echo_mode, command_for}
use Rattle.desk.specs.Demand.{accepts, Lives}
use Rattle.text.proofs.Tests.{never}
use Rattle.desk.proofs.Lives.{Served, lives, fed_accepts}
use Rattle.sim7000.specs.Parts.{awaited_in, number_of, desk_in, FeedLeft, left_by, feed_left, feeds}
use Rattle.sim7000.specs.Command.{asked_by, open_left, opens}
use Rattle.sim7000.specs.Calls.{turn_in, ExportOpens, ExportFeeds}
use Rattle.sim7000.specs.Calls as By
use Rattle.sim7000.proofs.Demand.{export_sound}

-- the desk of some lent parts
record Parts (s : State) : Type 0 where
  pub line : List ℕ
  pub state : List ℕ
  pub sent : List ℕ
  pub is : desk_in line state sent ≡ s

-- an answer that is not refused is 0
left_fine : (a : Reading Heard) (f : Fed) (before : FeedLeft) → accepts a ≡ true → (left_by a f before).answer ≡ 0
left_fine (read h) f before e = refl
left_fine (refused k) f before e = never (cc)

serve : (text told : List ℕ) → 256 ≤ length text → (line state sent chunk : List ℕ) → Served ExportFeeds Parts (desk_in line state sent) chunk
unfolding feeds
serve text told room line state sent chunk =
    let f = feeds line state sent chunk text told in
    let s = desk_in line state sent in
    record {
      turn = turn_in chunk f.told f.text;
      next = desk_in f.line f.state sent;
      call =
          By.exported line state sent chunk text told f.answer f.line f.state f.text f.told refl
          (left_fine (fed s chunk text).answer (fed s chunk text) (feed_left 0 line state text told) (fed_accepts s chunk text room));
      whole = refl;
      good = record { line = f.line; state = f.state; sent = sent; is = refl };
    }

module _ (state : List ℕ) (a : Asked) (out command : List ℕ) (size : ℕ) (clear : get_or state 0 0 ≡ 0) (closed : awaited_in (get_or state 1 0) ≡ []) (given : encode_reading a (length out) ≡ read command) where
  -- what an open leaves, whatever the line's bytes are and what was sent
  abbrev state_left : Mode → List ℕ
  state_left mode = 0 ∷ number_of (command_for mode a).awaited ∷ size_in (command_for mode a).echo ∷ 0 ∷ []

  abbrev sent_left : Mode → List ℕ → List ℕ
  sent_left mode sent = sent_in (command_for mode a).echo sent

  open_left_lem : (mode : Mode) (o : Option Asked) (line sent : List ℕ) → some a ≡ o
      → open_left 0 (state_left mode) (sent_left mode sent) (written (read command) out) (length command) ≡ opens mode o line state sent out size
  unfolding opens opened
  open_left_lem mode o line sent e = rw (sym e, given, clear, closed)

  module _ (line sent : List ℕ) (full : length line ≡ 257) (request number code : ℕ) (first second : List ℕ) (asks : asked_by request number code first second ≡ some a) where
    begin : (mode : Mode) → ExportOpens (desk_in line state sent) (command_for mode a) (desk_in line (state_left mode) (sent_left mode sent))
    begin plain_mode =
        By.exported line state sent request number code first second out size 0 (state_left plain_mode) (written (read command) out) (length command) a full asks
        (λ line' sent' h. open_left_lem plain_mode _ line' sent' (sym asks)) refl
    begin echo_mode =
        By.echo_exported line state sent request number code first second out size 0 (state_left echo_mode) (sent_left echo_mode sent) (written (read command) out) (length command) a full asks
        (λ line' h. open_left_lem echo_mode _ line' sent (sym asks)) refl

    pub export_lives : (mode : Mode) (text told : List ℕ) → 256 ≤ length text → Lives ExportOpens ExportFeeds (desk_in line state sent) (command_for mode a)
    export_lives mode text told room =
        lives ExportOpens ExportFeeds export_sound Parts
        (λ s chunk g. subst (λ (x : State). Served ExportFeeds Parts x chunk) g.is (serve text told room g.line g.state g.sent chunk))
        (desk_in line state sent) (desk_in line (state_left mode) (sent_left mode sent)) (command_for mode a) (begin mode)
        (record { line = line; state = state_left mode; sent = sent_left mode sent; is = refl })
