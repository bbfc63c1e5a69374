-- Where a field reader stands: going n fields on from the line's start comes to field n. Assumes nothing.
use Rattle.std.proofs.Common.{◌≡◌, ℕ, zero, suc, ◌+◌, ◌-◌, ◌<◌, ◌≤◌, Bool, true, false, cond, ltb, leb, List, length, drop, sym, refl, ap, ◌∙◌, arith, length-drop, drop-drop, Bor, le-ltb, lt-ltb, leb-false, leb-true}
use Rattle.text.specs.Bytes.{index_of, has}
use Rattle.text.specs.Part.{IsPart, part_of, after}
use Rattle.text.specs.Field.{fields, nth, place_of}
use Rattle.text.specs.Reader.{field_at, next_at, ended_at, stands_from, stands_at}
use Rattle.text.proofs.AtIndex.{at_end}
use Rattle.text.proofs.Parts.{part_as}
use Rattle.text.proofs.Fields.{fields_has, fields_not, field_bytes, field_in, place_has, place_not, split}

-- from a place up to the comma that is found behind it
span_at : (s : List ℕ) (at : ℕ) → part_of s at (at + index_of 44 (drop at s)) ≡ field_at s at
unfolding part_of
span_at s at = let z : at + index_of 44 (drop at s) - at ≡ index_of 44 (drop at s) = omega arith in rw z

-- `field_at_lem` and `next_at`: e is where the comma is found
pub at_part : (s t : Bor (List ℕ)) (at e : ℕ) → e ≡ at + index_of 44 (drop at s.now) → IsPart s t at (part_of s.now at e) → IsPart s t at (field_at s.now at)
at_part s t at e found = part_as s t at at _ _ refl (ap (part_of s.now at) found ∙ span_at s.now at)

module _ (s : List ℕ) (at e : ℕ) (found : e ≡ at + index_of 44 (drop at s)) where
  pub next_in : e < length s → e + 1 ≡ next_at s at
  unfolding next_at has
  next_in h =
      let d = length-drop at s in
      let z : index_of 44 (drop at s) < length (drop at s) = omega arith in
      rw (lt-ltb _ _ z, found)

  pub next_out : length s ≤ e → length s + 1 ≡ next_at s at
  unfolding next_at has
  next_out h =
      let d = length-drop at s in
      let z : length (drop at s) ≤ index_of 44 (drop at s) = omega arith in
      rw (le-ltb _ _ z)

-- the next field of what follows k is the next field of the line
next_shift : (s : List ℕ) (k at : ℕ) → k ≤ length s → next_at s (k + at) ≡ k + next_at (drop k s) at
unfolding next_at
next_shift s k at h = rw drop-drop (go (has 44 (drop (k + at) s)) (index_of 44 (drop (k + at) s)) (length-drop k s))
  where
    go : (t : Bool) (i : ℕ) → length (drop k s) ≡ length s - k → cond t (k + at + i + 1) (length s + 1) ≡ k + cond t (at + i + 1) (length (drop k s) + 1)
    go true i d = omega arith
    go false i d = omega arith

next_none : (s : List ℕ) → next_at s (length s + 1) ≡ length s + 1
next_none s = sym (next_out s (length s + 1) (length s + 1) (rw (at_end s (length s + 1) (omega arith)) (omega arith)) (omega arith))

-- from the place of a field to that of the next
next_place : (n : ℕ) (s : List ℕ) → next_at s (place_of n (fields 44 s)) ≡ place_of (suc n) (fields 44 s)
next_place zero s =
    split 44 s
    (λ h. sym (next_in s 0 (index_of 44 s) (omega arith) h) ∙ (let z = place_has 44 s 0 h in omega arith))
    (λ h. sym (next_out s 0 (index_of 44 s) (omega arith) h) ∙ sym (place_not 44 s 0 h))
next_place (suc n) s =
    split 44 s
    (λ h.
    rw (place_has 44 s n h, place_has 44 s (suc n) h, next_shift s (index_of 44 s + 1) (place_of n (fields 44 (after 44 s))) (omega arith))
    (ap (λ (x : ℕ). index_of 44 s + 1 + x) (next_place n (after 44 s))))
    (λ h. rw (place_not 44 s n h, place_not 44 s (suc n) h) (next_none s))

pub stands_at_lem : (n : ℕ) (s : List ℕ) → stands_at n s ≡ place_of n (fields 44 s)
unfolding stands_from
stands_at_lem zero s = refl
stands_at_lem (suc n) s = ap (next_at s) (stands_at_lem n s) ∙ next_place n s

pub stands_field : (n : ℕ) (s : List ℕ) → field_at s (stands_at n s) ≡ nth n (fields 44 s)
stands_field n s = rw (stands_at_lem n s) (sym (span_at s (place_of n (fields 44 s))) ∙ field_bytes 44 n s)

-- it has passed the last field where n is none's number
past_last : (n : ℕ) (s : List ℕ) → length (fields 44 s) ≤ n → place_of n (fields 44 s) ≡ length s + 1
past_last zero s h = absurd (split 44 s (λ k. let z = ap length (fields_has 44 s k) in omega arith) (λ k. let z = ap length (fields_not 44 s k) in omega arith))
past_last (suc n) s h =
    split 44 s
    (λ k.
    let l : length (fields 44 (after 44 s)) ≤ n = let z = ap length (fields_has 44 s k) in omega arith in
    let d = length-drop (index_of 44 s + 1) s in
    rw (place_has 44 s n k, past_last n (after 44 s) l) (omega arith))
    (λ k. place_not 44 s n k)

pub stands_ended : (n : ℕ) (s : List ℕ) → ended_at s (stands_at n s) ≡ leb (length (fields 44 s)) n
stands_ended n s = rw (stands_at_lem n s) (go (leb (length (fields 44 s)) n) refl)
  where
    go : (t : Bool) → leb (length (fields 44 s)) n ≡ t → ltb (length s) (place_of n (fields 44 s)) ≡ t
    go true e = lt-ltb (length s) (place_of n (fields 44 s)) (let z = past_last n s (leb-true _ _ e) in omega arith)
    go false e = le-ltb (length s) (place_of n (fields 44 s)) (let z = field_in 44 n s (leb-false _ _ e) in omega arith)

pub stands_part : (n : ℕ) (s t : Bor (List ℕ)) → IsPart s t (stands_at n s.now) (field_at s.now (stands_at n s.now)) → IsPart s t (place_of n (fields 44 s.now)) (nth n (fields 44 s.now))
stands_part n s t = part_as s t _ _ _ _ (stands_at_lem n s.now) (stands_field n s.now)

-- and where it has passed the last field it stands where all later ones would
pub stands_past : (k n : ℕ) (s : List ℕ) → k ≤ n → ended_at s (stands_at k s) ≡ true → stands_at k s ≡ stands_at n s
stands_past k n s h e =
    let far : length (fields 44 s) ≤ k = leb-true _ _ (sym (stands_ended k s) ∙ e) in
    stands_at_lem k s ∙ past_last k s far ∙ sym (past_last n s (omega arith)) ∙ sym (stands_at_lem n s)
