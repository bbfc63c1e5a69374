-- Laws of the command's number.
use Prim.Native.Nat.{ℕ, ◌-◌, ◌/◌, ◌%◌, ◌≤◌, ◌<◌}
use mathlib.Core.Path.{◌≡◌}
use mathlib.Core.List.{[], ◌∷◌}
use borrow.Author.Tests.{eq-eqb, ne_eqb, lt-ltb, le-ltb}
use Rattle.at_command.specs.Kind.{Kind, kind_at}
use Rattle.desk.specs.Judge.{awaiting}
use Rattle.sim7000.specs.Parts.{awaited_in}

module _ (n : ℕ) where
  pub awaited_none : n ≡ 0 → awaiting [] ≡ awaiting (awaited_in n)
  unfolding awaited_in
  awaited_none e = rw (eq-eqb n 0 e)

  module _ (some : n ≡ 0 → ⊥) where
    pub awaited_one : {a : Kind} → n < 14 → a ≡ kind_at (n - 1) → awaiting (a ∷ []) ≡ awaiting (awaited_in n)
    unfolding awaited_in
    awaited_one h e = rw (ne_eqb n 0 some, lt-ltb n 14 h, e)

    module _ (more : 14 ≤ n) where
      pub awaited_two : {a b : Kind} → n < 183 → a ≡ kind_at ((n - 14) / 13) → b ≡ kind_at ((n - 14) % 13) → awaiting (a ∷ b ∷ []) ≡ awaiting (awaited_in n)
      unfolding awaited_in
      awaited_two h e f = rw (ne_eqb n 0 some, le-ltb _ _ more, lt-ltb n 183 h, e, f)

      pub awaited_past : 183 ≤ n → awaiting [] ≡ awaiting (awaited_in n)
      unfolding awaited_in
      awaited_past h = rw (ne_eqb n 0 some, le-ltb _ _ more, le-ltb _ _ h)

pub ruleset awaits = (awaited_none, awaited_one, awaited_two, awaited_past)
