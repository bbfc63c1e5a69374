-- The numbers that an exported feed leaves (specs/Ordinals.antt), from what the desk's own feed answers and keeps.
use Prim.Native.Nat.{ℕ, suc}
use mathlib.Core.Path.{◌≡◌, refl, sym, ap, ◌∙◌}
use mathlib.Core.List.{List}
use native.Mathlib.Omega.{arith}
use lib.ListN.{get_or}
use Rattle.text.specs.Copy.{least}
use Rattle.text.specs.Reading.{read}
use Rattle.desk.specs.Ordinal.{capped}
use Rattle.desk.specs.Judge as J
use Rattle.desk.specs.Judge.{Event, event_number}
use Rattle.desk.specs.Desk.{State, Heard, quiet, event, fed, Kept}
use Rattle.desk.proofs.Numbering.{capped_next}
use Rattle.desk.proofs.Unchanged.{quiet_keeps, heard_counts}
use Rattle.sim7000.specs.Parts.{desk_in, numbers_of, told_of}
use Rattle.sim7000.specs.Ordinals.{OrdinalsTold, OrdinalsExported}
use Rattle.sim7000.proofs.Demand.{heeded}

-- no event has the number 0
some_event : (e : Event) → event_number e ≡ 0 → ⊥
some_event J.Unsolicited z = omega arith
some_event J.Taken z = omega arith
some_event J.Done z = omega arith
some_event J.Short z = omega arith
some_event J.Failed z = omega arith
some_event (J.Stray n) z = omega arith
some_event J.Overlong z = omega arith
some_event J.Echo z = omega arith

capped_is : (n : ℕ) → capped n ≡ least n 4294967295
unfolding capped
capped_is n = refl

module _ (line state sent chunk text : List ℕ) where
  abbrev Before : State
  Before = desk_in line state sent

  told_by : (h : Heard) {state' told' : List ℕ} → (fed Before chunk text).answer ≡ read h → state' ≡ numbers_of (fed Before chunk text).state → told' ≡ told_of h → OrdinalsTold state state' told'
  told_by (quiet n) a s t =
      record {
        quiet = λ z. rw (s, t) (refl, ap (λ (k : Kept). k.counted) (quiet_keeps Before chunk text a) ∙ capped_is (get_or state 3 0));
        event = λ some. absurd (some (ap (λ (l : List ℕ). get_or l 0 0) t));
      }
  told_by (event e ordinal n size) a s t =
      let next = heard_counts Before chunk text e ordinal n size a in
      record {
        quiet = λ z. absurd (some_event e (ap (λ (l : List ℕ). get_or l 0 0) (sym t) ∙ z));
        event = λ some. rw (s, t) (next.0 ∙ capped_next (get_or state 3 0) ∙ capped_is (suc (get_or state 3 0)), next.1);
      }

pub ordinals_exported : OrdinalsExported
ordinals_exported line state sent chunk text told line' state' text' told' kept =
    let left = heeded line state sent chunk text told 0 line' state' text' told' kept refl in
    told_by line state sent chunk text left.heard left.answers left.states left.tells
