use Rattle.std.proofs.Common.{◌≡◌, ◌≤◌, ℕ, true, List, Bor, refl, sym, ap, ◌∙◌, subst, add-one, arith, le_antisymm}
use Rattle.text.specs.Part.{IsPart}
use Rattle.text.specs.Field.{fields, nth, place_of}
use Rattle.text.specs.Reader.{field_at, ended_at, stands_from, stands_at}
use Rattle.text.proofs.ReaderPlaces.{stands_part, stands_past}
use Rattle.text.proofs.reader.nth_field.Goals as goal
use Rattle.text.proofs.reader.nth_field.Goals.{else-loop-k-test, then-loop-k-test+then-ended}

pub loop-k-init : goal.loop-k-init
unfolding stands_from
loop-k-init c = record { line = refl; place = c.new-r.ensures.1; most = omega arith }

pub loop-k-preserved : goal.loop-k-preserved
unfolding stands_from
loop-k-preserved c =
    let i = c.loop-k.invariant in
    record {
      line = c.next-r.ensures.0 ∙ i.line;
      place = rw (add-one c.loop-k._k, ← i.place, ← i.line) c.next-r.ensures.1;
      most = omega arith;
    }

-- the reader stands where one that has gone n fields on from the start stands, so what it reads is field n
at_nth : (n at : ℕ) (s u t : Bor (List ℕ)) → u ≡ s → at ≡ stands_at n s.now → IsPart u t at (field_at u.now at) → IsPart s t (place_of n (fields 44 s.now)) (nth n (fields 44 s.now))
at_nth n at s u t e p h = stands_part n s t (subst (λ (a : ℕ). IsPart s t a (field_at s.now a)) p (subst (λ (x : Bor (List ℕ)). IsPart x t at (field_at x.now at)) e h))

-- and it stands there where n fields are passed, or all are
stands : (n k at : ℕ) (s u : Bor (List ℕ)) → u ≡ s → at ≡ stands_at k s.now → k ≤ n → ended_at u.now at ≡ true → at ≡ stands_at n s.now
stands n k at s u e p h done = p ∙ stands_past k n s.now h (subst (λ (a : ℕ). ended_at s.now a ≡ true) p (subst (λ (x : Bor (List ℕ)). ended_at x.now at ≡ true) e done))

pub returns : goal.returns
returns c =
    let i = c.loop-k.invariant in
    let line : c.loop-k.r.line ≡ c.args.line = i.line ∙ c.new-r.ensures.0 in
    let place : c.loop-k.r.at ≡ stands_at c.loop-k._k c.args.line.now = i.place ∙ ap (λ (x : Bor (List ℕ)). stands_at c.loop-k._k x.now) c.new-r.ensures.0 in
    at_nth c.args.n _ _ _ _ line
    (elim c.loop-k-test.branch [
      | else-loop-k-test w ↦ place ∙ ap (λ (k : ℕ). stands_at k c.args.line.now) (le_antisymm i.most w.loop-k-test.false)
      | then-loop-k-test+then-ended w ↦ stands c.args.n c.loop-k._k _ _ _ line place i.most (sym w.ended.ensures ∙ w.if-ended.true)
    ])
    c.field.ensures
