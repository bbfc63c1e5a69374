-- Laws of the requests by number, of a command that is written, and of an open on lent parts.
use Prim.Native.Nat.{ℕ, ◌≤◌}
use mathlib.Core.Path.{◌≡◌, refl, sym}
use mathlib.Core.List.{List}
use mathlib.Core.Option.{Option, none, some}
use lib.ListN.{length, get_or-eq_default}
use borrow.Author.Tests.{lt-leb}
use Rattle.text.specs.Reading.{Reading, read, refused, mapped}
use Rattle.at_command.specs.Request.{Asked, encode_reading, written}
use Rattle.desk.specs.Desk.{Opened}
use Rattle.desk.specs.Rules.{Mode}
use Rattle.text.proofs.Tests.{never}
use Rattle.desk.proofs.Opening.{opened_same}
use Rattle.sim7000.specs.Command.{format_asked, requests, asked_by, write_left, write_leaves, writes, open_left, open_leaves, opened_on, opens}

-- ---- no request has that number

pub asked_none : (request number code : ℕ) (first second : List ℕ) → 13 ≤ request → none ≡ asked_by request number code first second
unfolding asked_by
asked_none request number code first second h = sym (get_or-eq_default (requests number code first second) none h)

-- no format has that code
pub format_none : (code : ℕ) → 2 ≤ code → none ≡ format_asked code
unfolding format_asked
format_none code h = rw (lt-leb code 1 h)

-- ---- write

module _ (o : Option Asked) (out : List ℕ) (size : ℕ) where
  pub writes_none : none ≡ o → write_left 3 out size ≡ writes o out size
  unfolding writes
  writes_none e = rw (sym e)

  module _ {a : Asked} (is : some a ≡ o) {after : List ℕ} (holds : after ≡ written (encode_reading a (length out)) out) where
    pub writes_refused : {k : ℕ} → refused k ≡ mapped length (encode_reading a (length out)) → write_left k after size ≡ writes o out size
    unfolding writes mapped
    writes_refused {k} e = rw (sym is, holds) (go (encode_reading a (length out)) e)
      where
        go : (w : Reading (List ℕ)) → refused k ≡ mapped length w → write_left k (written w out) size ≡ write_leaves w out size
        go (read command) f = never (cc)
        go (refused j) f = cc

    pub writes_size : {n : ℕ} → read n ≡ mapped length (encode_reading a (length out)) → write_left 0 after n ≡ writes o out size
    unfolding writes mapped
    writes_size {n} e = rw (sym is, holds) (go (encode_reading a (length out)) e)
      where
        go : (w : Reading (List ℕ)) → read n ≡ mapped length w → write_left 0 (written w out) n ≡ write_leaves w out size
        go (read command) f = cc
        go (refused j) f = never (cc)

-- ---- open, in both modes

module _ (mode : Mode) (o : Option Asked) (line state sent out : List ℕ) (size : ℕ) where
  pub opens_none : none ≡ o → open_left 3 state sent out size ≡ opens mode o line state sent out size
  unfolding opens
  opens_none e = rw (sym e)

  -- what the desk's own open leaves in its parts; a refusal leaves them
  pub opens_left : {a : Asked} → some a ≡ o → (x : Opened) → x ≡ opened_on mode a line state sent out
      → open_leaves x.answer x state x.state.command.sent x.out size ≡ opens mode o line state sent out size
  unfolding opens
  opens_left is x made = rw (sym is, sym made) (go x.answer refl)
    where
      go : (y : Reading ℕ) → x.answer ≡ y → open_leaves y x state x.state.command.sent x.out size ≡ open_leaves y x state sent out size
      go (read n) e = refl
      go (refused k) e = let s = opened_same _ out _ _ made e in rw (s.0, s.1)
