-- The words of specs/Bytes.antt are std's for a slice's own methods: where a byte stands, how often, and what a line begins and ends with. Assumes nothing.
use Rattle.std.proofs.Common.{◌≡◌, ℕ, suc, ◌+◌, ◌-◌, ◌<◌, Bool, true, false, cond, ◌&&◌, ◌||◌, eqb, ltb, List, [], ◌∷◌, ◌++◌, length, take, drop, sym, refl, ap, ◌∙◌, arith, get_or, eq-eqb, ne_eqb, eqb-true, lt-ltb, ltb-false, not, Option, Some, None, unwrap_or, take_all, length-drop, ◌≤◌}
use mathlib.Core.Bool.{and-false}
use lib.Dec.{leb-suc-suc, eqb-suc-suc, eqb-zero-suc, eqb-suc-zero}
use Rattle.std.specs.Cmp.Lexicographic.{pointwise}
use Rattle.std.specs.List.{position, position_or_len, count_by, list_any, list_all}
use Rattle.std.proofs.lemmas.List.Sums.{prefix_len-le-length, sum_by-append}
use Rattle.std.proofs.lemmas.List.Recursion.{is_position_or_len, is_count_by}
use borrow.Author.Tests.{eqb-false}
use Rattle.text.proofs.AtIndex.{at_next, at_end}
use Rattle.text.specs.Bytes.{starts_with, same, ends_with, index_of, count_of, has, within, all_within}

-- what `position` finds, or the length where it finds none
pub position_is : (p : ℕ → Bool) (s : List ℕ) → unwrap_or (position p s) (length s) ≡ position_or_len p s
position_is p s = go (ltb k (length s)) (ltb-false k (length s)) (prefix_len-le-length (λ x. not (p x)) s)
  where
    k : ℕ
    k = position_or_len p s

    go : (t : Bool) → (t ≡ false → length s ≤ k) → k ≤ length s → unwrap_or (cond t (Some k) None) (length s) ≡ k
    go true h l = refl
    go false h l = let m = h refl in omega arith

module _ (b : ℕ) where
  index_is : (s : List ℕ) → index_of b s ≡ position_or_len (λ x. eqb x b) s
  index_is = is_position_or_len (index_of b) (λ x. eqb x b) refl (λ x t. ap (cond (eqb x b) 0) (omega arith))

  -- what `position` finds in the rest of a line, or the rest's length where it finds none
  pub found_in : (s : List ℕ) (from : ℕ) (o : Option ℕ) → o ≡ position (λ x. eqb x b) (take (length s - from) (drop from s))
      → unwrap_or o (length (take (length s - from) (drop from s))) ≡ index_of b (drop from s)
  found_in s from o e =
      let z = take_all (length s - from) (drop from s) (omega (arith, length-drop from s)) in
      rw (e, z) (position_is (λ x. eqb x b) (drop from s) ∙ sym (index_is (drop from s)))

  count_step : (t : Bool) (n : ℕ) → cond t 1 0 + n ≡ cond t (1 + n) n
  count_step true n = refl
  count_step false n = omega arith

  pub count_is : (s : List ℕ) → count_of b s ≡ count_by (λ x. eqb x b) s
  count_is = is_count_by (count_of b) (λ x. eqb x b) refl (λ x t. count_step (eqb x b) (count_of b t))

  count_append : (s t : List ℕ) → count_of b (s ++ t) ≡ count_of b s + count_of b t
  count_append s t = count_is (s ++ t) ∙ sum_by-append (λ x. cond (eqb x b) 1 0) s t ∙ sym (ap (λ (n : ℕ). n + count_of b t) (count_is s) ∙ ap (λ (n : ℕ). count_by (λ x. eqb x b) s + n) (count_is t))

  -- one turn of `count_byte`, which takes the front off what is left
  pub count_turn : (n c : ℕ) (s left front rest : List ℕ) → n + count_of b left ≡ count_of b s → left ≡ front ++ rest → c ≡ count_of b front → n + c + count_of b rest ≡ count_of b s
  count_turn n c s left front rest inv e q = let z = ap (count_of b) e ∙ count_append front rest in omega arith

  pub count_none : (n : ℕ) (s left : List ℕ) → n + count_of b left ≡ count_of b s → length left ≡ 0 → n ≡ count_of b s
  count_none n s [] inv e = omega arith
  count_none n s (x ∷ left) inv e = absurd (omega arith)

  pub has_is : (s : List ℕ) → has b s ≡ list_any (λ x. eqb x b) s
  unfolding has
  has_is [] = refl
  has_is (x ∷ s) = go (eqb x b) (has_is s)
    where
      go : (t : Bool) → ltb (index_of b s) (length s) ≡ list_any (λ x. eqb x b) s → ltb (cond t 0 (suc (index_of b s))) (suc (length s)) ≡ (t || list_any (λ x. eqb x b) s)
      go true h = lt-ltb 0 (suc (length s)) (omega arith)
      go false h = leb-suc-suc (suc (index_of b s)) (length s) ∙ h

pub within_is : (lo hi : ℕ) (s : List ℕ) → all_within lo hi s ≡ list_all (within lo hi) s
within_is lo hi [] = refl
within_is lo hi (x ∷ s) = ap (λ (t : Bool). within lo hi x && t) (within_is lo hi s)

-- `==` takes the two bytes the other way round
swapped : (a b : ℕ) → eqb a b ≡ eqb b a
swapped a b = go (eqb b a) (eqb-true b a) (eqb-false b a)
  where
    go : (t : Bool) → (t ≡ true → b ≡ a) → (t ≡ false → b ≡ a → ⊥) → eqb a b ≡ t
    go true h k = eq-eqb a b (sym (h refl))
    go false h k = ne_eqb a b (λ e. k refl (sym e))

-- `starts_with`: a line that is shorter, or has another byte, and one that has the same byte
pub starts_long : (p s : List ℕ) → length s < length p → false ≡ starts_with p s
unfolding starts_with
starts_long [] s h = absurd (omega arith)
starts_long (b ∷ p) [] h = refl
starts_long (b ∷ p) (x ∷ s) h = rw (← starts_long p s (omega arith)) (sym (and-false (eqb x b)))

module _ (p s : List ℕ) (i : ℕ) (room : length p ≤ length s) (inv : starts_with p s ≡ starts_with (drop i p) (drop i s)) where
  pub starts_other : i < length p → (get_or s i 0 ≡ get_or p i 0 → ⊥) → false ≡ starts_with p s
  unfolding starts_with
  starts_other h e = rw (inv, at_next p i h, at_next s i (omega arith), ne_eqb _ _ e)

  pub starts_same : i < length p → get_or s i 0 ≡ get_or p i 0 → starts_with p s ≡ starts_with (drop (i + 1) p) (drop (i + 1) s)
  unfolding starts_with
  starts_same h e = rw (inv, at_next p i h, at_next s i (omega arith), eq-eqb _ _ e)

  pub starts_end : length p ≤ i → true ≡ starts_with p s
  unfolding starts_with
  starts_end h = rw (inv, at_end p i h)

pub same_is : (s t : List ℕ) → same s t ≡ pointwise eqb s t
unfolding same starts_with
same_is [] [] = refl
same_is [] (y ∷ t) = rw eqb-zero-suc
same_is (x ∷ s) [] = rw eqb-suc-zero
same_is (x ∷ s) (y ∷ t) = rw eqb-suc-suc (go (eqb (length s) (length t)) (same_is s t))
  where
    go : (n : Bool) → n && starts_with t s ≡ pointwise eqb s t → n && (eqb x y && starts_with t s) ≡ eqb x y && pointwise eqb s t
    go true h = ap (λ (u : Bool). eqb x y && u) h
    go false h = sym (and-false (eqb x y)) ∙ ap (λ (u : Bool). eqb x y && u) h

-- `ends_with`
pub ends_short : (s p : List ℕ) → length s < length p → ends_with p s ≡ false
unfolding ends_with same
ends_short s p h = rw (ne_eqb (length (drop (length s - length p) s)) (length p) (λ e. omega (arith, length-drop (length s - length p) s)))

pub ends_is : (s p : List ℕ) → length p ≤ length s → starts_with p (take (length s - (length s - length p)) (drop (length s - length p) s)) ≡ ends_with p s
unfolding ends_with same
ends_is s p h =
    let l = length-drop (length s - length p) s in
    let z = take_all (length s - (length s - length p)) (drop (length s - length p) s) (omega arith) in
    rw (z, eq-eqb (length (drop (length s - length p) s)) (length p) (omega arith))

pub other_length : (s t : List ℕ) → (length s ≡ length t → ⊥) → false ≡ same s t
unfolding same
other_length s t h = rw (ne_eqb _ _ h)
