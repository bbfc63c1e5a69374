-- Bytes that go at the ends of a line. Assumes nothing.
use Rattle.std.proofs.Common.{◌≡◌, ℕ, suc, ◌+◌, ◌-◌, ◌<◌, ◌≤◌, Bool, true, false, cond, eqb, List, [], ◌∷◌, ◌++◌, length, get_or, take, drop, sym, refl, ap, ◌∙◌, arith, length-drop, length-take, length-take-le, take-suc, Bor, eq-eqb, ne_eqb, eqb-true, not, ◌||◌, ltb, ltb-true, ltb-false, Some, None, unwrap_or, position}
use mathlib.Core.Bool.{or_self_left}
use lib.Seq.{take-length}
use Rattle.std.specs.List.{position_or_len}
use Rattle.std.proofs.lemmas.List.Sums.{prefix_len-le-length}
use Rattle.std.proofs.lemmas.List.Recursion.{is_position_or_len}
use borrow.Author.Tests.{eqb-false}
use Rattle.text.specs.Part.{IsPart, part_of, among, trim_front, keep, trim_end, trimmed, leading, trim_place}
use Rattle.text.proofs.Parts.{from_start, part_as}

-- a byte that is one of two, and one that is neither
pub among_first : (x a b : ℕ) → x ≡ a → among (a ∷ b ∷ []) x ≡ true
among_first x a b e = rw (eq-eqb x a e)

pub among_second : (x a b : ℕ) → (x ≡ a → ⊥) → x ≡ b → among (a ∷ b ∷ []) x ≡ true
among_second x a b n e = rw (ne_eqb x a n, eq-eqb x b e)

pub among_none : (x a b : ℕ) → (x ≡ a → ⊥) → (x ≡ b → ⊥) → among (a ∷ b ∷ []) x ≡ false
among_none x a b n m = rw (ne_eqb x a n, ne_eqb x b m)

-- the last byte goes, or it stays with all before it
module _ (bs : List ℕ) where
  goes : (l : List ℕ) (x : ℕ) → among bs x ≡ true → trim_end bs (l ++ x ∷ []) ≡ trim_end bs l
  goes [] x e = rw e
  goes (y ∷ l) x e = rw (goes l x e)

  stays : (l : List ℕ) (x : ℕ) → among bs x ≡ false → trim_end bs (l ++ x ∷ []) ≡ l ++ x ∷ []
  stays [] x e = rw e
  stays (y ∷ []) x e = rw e
  stays (y ∷ z ∷ l) x e = rw (stays (z ∷ l) x e)

  -- what is left is a front part
  pub end_take : (s : List ℕ) → take (length (trim_end bs s)) s ≡ trim_end bs s
  end_take [] = refl
  end_take (x ∷ s) = go (among bs x) (trim_end bs s) (end_take s)
    where
      go : (t : Bool) (l : List ℕ) → take (length l) s ≡ l → take (length (keep t x l)) (x ∷ s) ≡ keep t x l
      go true [] h = refl
      go false [] h = refl
      go t (y ∷ l) h = ap (λ (m : List ℕ). x ∷ m) h

take_next : (s : List ℕ) (e : ℕ) → 0 < e → e ≤ length s → take e s ≡ take (e - 1) s ++ get_or s (e - 1) 0 ∷ []
take_next s e h k =
    let z : e ≡ suc (e - 1) = omega arith in
    ap (λ (n : ℕ). take n s) z ∙ take-suc s (e - 1) 0 (omega arith)

-- nothing goes where the last byte stays
pub end_kept : (bs s : List ℕ) → 0 < length s → among bs (get_or s (length s - 1) 0) ≡ false → trim_end bs s ≡ s
end_kept bs s h e =
    let z : s ≡ take (length s - 1) s ++ get_or s (length s - 1) 0 ∷ [] = sym (take-length s) ∙ take_next s (length s) h (omega arith) in
    ap (trim_end bs) z ∙ stays bs (take (length s - 1) s) _ e ∙ sym z

-- `end_of`
pub end_begin : (s : List ℕ) (a b : ℕ) → trim_end (a ∷ b ∷ []) s ≡ trim_end (a ∷ b ∷ []) (take (length s) s)
end_begin s a b = ap (trim_end (a ∷ b ∷ [])) (sym (take-length s))

module _ (s : List ℕ) (a b e : ℕ) (k : e ≤ length s) (inv : trim_end (a ∷ b ∷ []) s ≡ trim_end (a ∷ b ∷ []) (take e s)) where
  pub end_stop : 0 < e → (get_or s (e - 1) 0 ≡ a → ⊥) → (get_or s (e - 1) 0 ≡ b → ⊥) → e ≡ length (trim_end (a ∷ b ∷ []) s)
  end_stop h n m =
      sym (length-take-le e s k)
      ∙ ap length (take_next s e h k ∙ sym (stays (a ∷ b ∷ []) (take (e - 1) s) _ (among_none _ a b n m)) ∙ ap (trim_end (a ∷ b ∷ [])) (sym (take_next s e h k)) ∙ sym inv)

  end_goes : 0 < e → among (a ∷ b ∷ []) (get_or s (e - 1) 0) ≡ true → trim_end (a ∷ b ∷ []) s ≡ trim_end (a ∷ b ∷ []) (take (e - 1) s)
  end_goes h n = inv ∙ ap (trim_end (a ∷ b ∷ [])) (take_next s e h k) ∙ goes (a ∷ b ∷ []) (take (e - 1) s) (get_or s (e - 1) 0) n

  pub end_first : 0 < e → get_or s (e - 1) 0 ≡ a → trim_end (a ∷ b ∷ []) s ≡ trim_end (a ∷ b ∷ []) (take (e - 1) s)
  end_first h n = end_goes h (among_first _ a b n)

  pub end_second : 0 < e → (get_or s (e - 1) 0 ≡ a → ⊥) → get_or s (e - 1) 0 ≡ b → trim_end (a ∷ b ∷ []) s ≡ trim_end (a ∷ b ∷ []) (take (e - 1) s)
  end_second h n m = end_goes h (among_second _ a b n m)

  pub end_none : e ≤ 0 → 0 ≡ length (trim_end (a ∷ b ∷ []) s)
  end_none h = let z : e ≡ 0 = omega arith in rw (inv, z)

pub end_part : (s t : Bor (List ℕ)) (bs : List ℕ) (e : ℕ) → e ≡ length (trim_end bs s.now) → IsPart s t 0 (part_of s.now 0 e) → IsPart s t 0 (trim_end bs s.now)
end_part s t bs e h = part_as s t 0 0 _ _ refl (from_start s.now e ∙ ap (λ (n : ℕ). take n s.now) h ∙ end_take bs s.now)

-- `trim_start`: the place of the first byte that stays, as `position` finds it
leading_is : (b : ℕ) (s : List ℕ) → leading (b ∷ []) s ≡ position_or_len (λ x. not (eqb x b)) s
leading_is b = is_position_or_len (leading (b ∷ [])) (λ x. not (eqb x b)) refl (λ x s. step (eqb x b) (leading (b ∷ []) s))
  where
    step : (t : Bool) (n : ℕ) → cond (t || false) (suc n) 0 ≡ cond (not t) 0 (1 + n)
    step true n = omega arith
    step false n = refl

pub start_is : (b : ℕ) (s : List ℕ) → unwrap_or (position (λ x. not (eqb x b)) s) 0 ≡ trim_place (b ∷ []) s
unfolding trim_place
start_is b s =
    let k = position_or_len (λ x. not (eqb x b)) s in
    rw (leading_is b s) (go k (length s) (prefix_len-le-length (λ x. not (not (eqb x b))) s) (ltb k (length s)) refl)
  where
    go : (k n : ℕ) → k ≤ n → (t : Bool) → ltb k n ≡ t → unwrap_or (cond t (Some k) None) 0 ≡ cond (eqb k n) 0 k
    go k n l true h = let m = ltb-true k n h in rw (ne_eqb k n (λ e. omega arith))
    go k n l false h = let m = ltb-false k n h in rw (eq-eqb k n (omega arith))

-- `trim`: one byte given twice is one byte
once : (b : ℕ) (s : List ℕ) → trim_end (b ∷ b ∷ []) s ≡ trim_end (b ∷ []) s
once b [] = refl
once b (x ∷ s) = rw (once b s) (ap (λ (t : Bool). keep t x (trim_end (b ∷ []) s)) (or_self_left (eqb x b) false))

module _ (bs : List ℕ) where
  -- nothing is left where every byte goes, and only there
  all_go : (s : List ℕ) → leading bs s ≡ length s → (trim_end bs s ≡ []) × (trimmed bs s ≡ [])
  all_go [] h = (refl, refl)
  all_go (x ∷ s) h = go (among bs x) refl h (all_go s)
    where
      go : (t : Bool) → among bs x ≡ t → cond t (suc (leading bs s)) 0 ≡ suc (length s) → (leading bs s ≡ length s → (trim_end bs s ≡ []) × (trimmed bs s ≡ []))
          → (trim_end bs (x ∷ s) ≡ []) × (trimmed bs (x ∷ s) ≡ [])
      go true e k f = let r = f (omega arith) in (rw (e, r.0), rw e r.1)
      go false e k f = absurd (omega arith)

  left : (s : List ℕ) → leading bs s < length s → 0 < length (trim_end bs s)
  left [] h = absurd (omega arith)
  left (x ∷ s) h = go (among bs x) (trim_end bs s) h (left s)
    where
      go : (t : Bool) (l : List ℕ) → cond t (suc (leading bs s)) 0 < suc (length s) → (leading bs s < length s → 0 < length l) → 0 < length (keep t x l)
      go true [] k f = f (omega arith)
      go false [] k f = omega arith
      go t (y ∷ l) k f = omega arith

  keep_more : (x : ℕ) (l : List ℕ) → 0 < length l → length (keep true x l) ≡ suc (length l)
  keep_more x [] h = absurd (omega arith)
  keep_more x (y ∷ l) h = refl

  part_suc : (x : ℕ) (s : List ℕ) (a e : ℕ) → part_of (x ∷ s) (suc a) (suc e) ≡ part_of s a e
  unfolding part_of
  part_suc x s a e = let z : suc e - suc a ≡ e - a = omega arith in rw z

  -- what is left stands behind the bytes that go at the front, up to those that go at the end
  some_stay : (s : List ℕ) → leading bs s < length s → part_of s (leading bs s) (length (trim_end bs s)) ≡ trimmed bs s
  some_stay [] h = absurd (omega arith)
  some_stay (x ∷ s) h = go (among bs x) refl h (some_stay s)
    where
      go : (t : Bool) → among bs x ≡ t → cond t (suc (leading bs s)) 0 < suc (length s) → (leading bs s < length s → part_of s (leading bs s) (length (trim_end bs s)) ≡ trimmed bs s)
          → part_of (x ∷ s) (leading bs (x ∷ s)) (length (trim_end bs (x ∷ s))) ≡ trimmed bs (x ∷ s)
      go true e k f = rw (e, keep_more x (trim_end bs s) (left s (omega arith)), part_suc) (f (omega arith))
      go false e k f =
          ap (λ (t : Bool). part_of (x ∷ s) (cond t (suc (leading bs s)) 0) (length (trim_end bs (x ∷ s)))) e
          ∙ from_start (x ∷ s) (length (trim_end bs (x ∷ s)))
          ∙ end_take bs (x ∷ s)
          ∙ ap (λ (t : Bool). trim_end bs (cond t (trim_front bs s) (x ∷ s))) (sym e)

  leading_le : (s : List ℕ) → leading bs s ≤ length s
  leading_le [] = omega arith
  leading_le (x ∷ s) = go (among bs x) (leading_le s)
    where
      go : (t : Bool) → leading bs s ≤ length s → cond t (suc (leading bs s)) 0 ≤ suc (length s)
      go true h = omega arith
      go false h = omega arith

  place_in : (s : List ℕ) → trim_place bs s ≤ length s
  unfolding trim_place
  place_in s = go (eqb (leading bs s) (length s)) (leading_le s)
    where
      go : (t : Bool) → leading bs s ≤ length s → cond t 0 (leading bs s) ≤ length s
      go true h = omega arith
      go false h = h

  pub trim_bytes : (s : List ℕ) → part_of s (trim_place bs s) (length (trim_end bs s)) ≡ trimmed bs s
  unfolding trim_place
  trim_bytes s = go (eqb (leading bs s) (length s)) refl
    where
      go : (t : Bool) → eqb (leading bs s) (length s) ≡ t → part_of s (cond t 0 (leading bs s)) (length (trim_end bs s)) ≡ trimmed bs s
      go true e = let r = all_go s (eqb-true _ _ e) in rw (r.0, r.1) (from_start s 0)
      go false e = some_stay s (let n : leading bs s ≡ length s → ⊥ = eqb-false _ _ e in let l = leading_le s in omega arith)

part_in : (s : List ℕ) (a e : ℕ) → length (part_of s a e) ≤ length s - a
unfolding part_of
part_in s a e = omega (arith, length-take (e - a) (drop a s), length-drop a s)

-- what is left lies in the line
pub trim_in : (bs s : List ℕ) → trim_place bs s + length (trimmed bs s) ≤ length s
trim_in bs s =
    let e = length (trim_end bs s) in
    let a = trim_place bs s in
    rw (sym (trim_bytes bs s)) (omega (arith, part_in s a e, place_in bs s))

pub trim_part : (s t : Bor (List ℕ)) (b a e : ℕ) → a ≡ trim_place (b ∷ []) s.now → e ≡ length (trim_end (b ∷ b ∷ []) s.now) → IsPart s t a (part_of s.now a e)
    → IsPart s t (trim_place (b ∷ []) s.now) (trimmed (b ∷ []) s.now)
trim_part s t b a e h q =
    part_as s t a _ _ _ h
    (ap (λ (n : ℕ). part_of s.now a n) (q ∙ ap length (once b s.now)) ∙ ap (λ (n : ℕ). part_of s.now n (length (trim_end (b ∷ []) s.now))) h ∙ trim_bytes (b ∷ []) s.now)
