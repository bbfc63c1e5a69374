-- What the desk's own feed makes of the parts that it is lent.
use Prim.Native.Nat.{ℕ}
use mathlib.Core.Path.{◌≡◌, sym, ap, ◌∙◌}
use mathlib.Core.List.{List, [], ◌∷◌}
use Rattle.text.specs.Reading.{read, refused}
use Rattle.desk.specs.Desk.{quiet, event, Fed, fed}
use Rattle.desk.specs.Judge.{Event}
use Rattle.desk.proofs.Unchanged.{fed_same}
use Rattle.bench.specs.Bench.{left, idle, feeds}

module _ (line : List ℕ) (len : ℕ) (chunk text told : List ℕ) (f : Fed) (is : f ≡ fed (idle line len) chunk text) where
  pub fed_refused : {k : ℕ} → f.answer ≡ refused k → left k line len f.text told ≡ feeds line len chunk text told
  unfolding feeds
  fed_refused {k} e =
      let a : (fed (idle line len) chunk text).answer ≡ refused k = ap (λ (x : Fed). x.answer) (sym is) ∙ e in
      rw (a, (fed_same (idle line len) chunk text f is e).1)

  pub fed_quiet : {n : ℕ} → f.answer ≡ read (quiet n) → left 0 f.state.wire.bytes f.state.wire.len f.text (n ∷ 0 ∷ []) ≡ feeds line len chunk text told
  unfolding feeds
  fed_quiet e = rw (sym is, e)

  pub fed_heard : {h : Event} {ordinal n size : ℕ} → f.answer ≡ read (event h ordinal n size)
      → left 1 f.state.wire.bytes f.state.wire.len f.text (n ∷ size ∷ []) ≡ feeds line len chunk text told
  unfolding feeds
  fed_heard e = rw (sym is, e)
