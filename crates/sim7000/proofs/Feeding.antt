-- Laws of a feed on lent parts: what the desk's own feed makes of them.
use Prim.Native.Nat.{ℕ}
use mathlib.Core.Path.{◌≡◌, sym, ap, ◌∙◌}
use mathlib.Core.List.{List}
use Rattle.text.specs.Reading.{read, refused}
use Rattle.desk.specs.Desk.{Heard, Fed, fed}
use Rattle.desk.proofs.Unchanged.{fed_same}
use Rattle.sim7000.specs.Parts.{desk_in, numbers_of, told_of, feed_left, feeds}

module _ (line state sent chunk text told : List ℕ) (f : Fed) (is : f ≡ fed (desk_in line state sent) chunk text) where
  pub feed_refused : {k : ℕ} → f.answer ≡ refused k → feed_left k f.state.wire.bytes state f.text told ≡ feeds line state sent chunk text told
  unfolding feeds
  feed_refused {k} e =
      let a : (fed (desk_in line state sent) chunk text).answer ≡ refused k = ap (λ (x : Fed). x.answer) (sym is) ∙ e in
      let s = fed_same (desk_in line state sent) chunk text f is e in
      rw (a, s.0, s.1)

  pub feed_heard : {h : Heard} → f.answer ≡ read h → feed_left 0 f.state.wire.bytes (numbers_of f.state) f.text (told_of h) ≡ feeds line state sent chunk text told
  unfolding feeds
  feed_heard e = rw (sym is, e)
