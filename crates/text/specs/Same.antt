-- When two answers that are references, or hold one, are one answer: a program sees no more of a reference than its bytes and its place in memory.
use Rattle.std.specs.Prelude.{◌≡◌, ℕ, List, Result, Ok, Err}
use Rattle.std.specs.Borrow.{Bor}
use Rattle.text.specs.declared.refusal.Refusal.{Refusal}

abbrev pub SamePart : Bor (List ℕ) → Bor (List ℕ) → Type 0
SamePart t u = (t.now ≡ u.now) × (t.ref_ptr ≡ u.ref_ptr)

-- a text handed out, or the refusal
abbrev pub SameText : Result (Bor (List ℕ)) Refusal → Result (Bor (List ℕ)) Refusal → Type 0
SameText (Ok t) (Ok u) = SamePart t u
SameText (Err j) (Err k) = j ≡ k
SameText (Ok t) (Err k) = ⊥
SameText (Err j) (Ok u) = ⊥
