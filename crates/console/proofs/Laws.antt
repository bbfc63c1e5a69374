-- A number's digits, laid; a part within its whole; the end of a line. Assumes nothing.
use mathlib.Core.Path.{◌≡◌, subst}
use mathlib.Core.List.{List}
use Prim.Native.Nat.{ℕ, ◌+◌, ◌-◌, ◌≤◌, ◌<◌}
use native.Mathlib.Omega.{arith}
use lib.ListN.{length, take, length-take, length-drop}
use denote.Ref.{Bor}
use borrow.Author.Tests.{lt-leb, le-leb, lt-ltb, le-ltb}
use Rattle.io.specs.Digits.{last_digits, IsDigitCount}
use Rattle.text.specs.Bytes.{bytes}
use Rattle.text.specs.Copy.{LayKeeps}
use Rattle.text.specs.Part.{part_of, IsPart}
use Rattle.text.proofs.Copying.{whole_ends, whole_holds}
use Rattle.console.specs.Output.{Puts, PutsNumber, EndsLine, has_room}

-- a text that has no room, and one that has, laid by `lay`
module _ (s : List ℕ) (at : ℕ) (b : List ℕ) where
  pub left_out : length b < at + length s → Puts s at b at b
  unfolding has_room
  left_out h = record { ends = rw (lt-leb _ _ h); holds = rw (lt-leb _ _ h) }

  pub laid : (e : ℕ) (x : List ℕ) → at + length s ≤ length b → LayKeeps s at b e x → Puts s at b e x
  unfolding has_room
  laid e x h l = record { ends = rw (le-leb _ _ h) (whole_ends s at b e x h l); holds = rw (le-leb _ _ h) (whole_holds s at b e x h l) }

pub shown : (base least n k : ℕ) (d b x : List ℕ) (at e : ℕ) → IsDigitCount base least n k → take k d ≡ last_digits base k n → Puts (take k d) at b e x → PutsNumber base least n at b e x
shown base least n k d b x at e f s p = record { places = k; fewest = f; puts = subst (λ (t : List ℕ). Puts t at b e x) s p }

pub behind : (s t : Bor (List ℕ)) (a e : ℕ) → IsPart s t a (part_of s.now a e) → length t.now ≤ length s.now - a
unfolding part_of
behind s t a e p = rw (p.bytes, length-take, length-drop) (omega arith)

module _ (at e k : ℕ) (b x : List ℕ) (p : Puts (bytes "\n") at b e x) (w : length x ≡ length b) (h : k ≡ length x - 1024) where
  pub all_written : k < e → EndsLine at b 0 x
  all_written l = record { end = e; puts = p; begins = rw (lt-ltb (length b - 1024) e (omega arith)) }

  pub more_room : e ≤ k → EndsLine at b e x
  more_room l = record { end = e; puts = p; begins = rw (le-ltb (length b - 1024) e (omega arith)) }
