-- The test `utf8` passes exactly where the grammar of RFC 3629 holds; what its rows rule out; and the RFC's own texts.
use Rattle.std.proofs.Common.{◌≡◌, ℕ, zero, suc, ◌<◌, ◌≤◌, Bool, true, false, cond, not, ◌&&◌, ltb, ◌↔◌, List, [], ◌∷◌, ◌++◌, length, take, drop, sym, refl, ap, ◌∙◌, subst, append_assoc, arith, take-append-drop, take_at, drop_at, ltb-true, eqb-true}
use mathlib.Core.Bool.{false≢true, and-false}
use mathlib.Core.List.{Memᴰ}
use borrow.Author.Tests.{lt-leb}
use Rattle.text.specs.Bytes.{within}
use Rattle.text.specs.Utf8.{Range, rows, fits, Character, Octets, none, char, size_by, char_size, behind, utf8}
use Rattle.text.proofs.Tests.{and_left, and_right, at_least}
use Rattle.text.proofs.Utf8Laws.{fits_length, led_size, utf8_next, utf8_not}

-- one of the rows fits at the front, and has n bytes
abbrev Found : List (List Range) → List ℕ → ℕ → Type 0
Found rs s n = (r : List Range) × Memᴰ r rs × (fits r (take (length r) s) ≡ true) × (length r ≡ n)

found : (rs : List (List Range)) (s : List ℕ) → (size_by rs s ≡ 0 → ⊥) → Found rs s (size_by rs s)
found [] s h = absurd (h refl)
found (q ∷ rs) s h = step (fits q (take (length q) s)) refl h (found rs s)
  where
    step : (t : Bool) → fits q (take (length q) s) ≡ t → (cond t (length q) (size_by rs s) ≡ 0 → ⊥) → ((size_by rs s ≡ 0 → ⊥) → Found rs s (size_by rs s))
        → Found (q ∷ rs) s (cond t (length q) (size_by rs s))
    step true e k f = (q, Memᴰ.head refl, e, refl)
    step false e k f = let w = f k in (w.0, Memᴰ.tail w.1, w.2, w.3)

character : (s : List ℕ) → (char_size s ≡ 0 → ⊥) → Character (take (char_size s) s)
unfolding char_size
character s h =
    let w = found rows s h in
    record { row = w.0; listed = w.1; fit = rw (← w.3) w.2 }

octets_behind : (n : ℕ) (s : List ℕ) → length (behind n s) ≡ 0 → Octets s
unfolding behind
octets_behind zero [] h = none
octets_behind zero (x ∷ s) h = absurd (omega arith)
octets_behind (suc n) s h = step (char_size s) refl (octets_behind n (drop (char_size s) s) h)
  where
    step : (k : ℕ) → char_size s ≡ k → Octets (drop (char_size s) s) → Octets s
    step zero e o = rw e at o
    step (suc k) e o = subst Octets (take-append-drop (char_size s) s) (char (character s (omega arith)) o)

octets : (s : List ℕ) → utf8 s ≡ true → Octets s
unfolding utf8
octets s h = octets_behind (length s) s (eqb-true (length (behind (length s) s)) 0 h)

-- the lead bytes of a row lie below those of each later row, so no two rows fit at one place
below : List Range → List Range → Bool
below [] r = false
below (p ∷ q) [] = false
below (p ∷ q) (r ∷ rs) = ltb p.high r.low

module _ {A : Type 0} where
  abbrev pub every : (A → Bool) → List A → Bool
  every f [] = true
  every f (a ∷ l) = f a && every f l

ordered : List (List Range) → Bool
ordered [] = true
ordered (q ∷ rs) = every (below q) rs && ordered rs

pub every_at : (f : List Range → Bool) {r : List Range} {rs : List (List Range)} → Memᴰ r rs → every f rs ≡ true → f r ≡ true
every_at f (Memᴰ.head {x = q} {xs = rs} e) h = rw e (and_left (f q) (every f rs) h)
every_at f (Memᴰ.tail {x = q} {xs = rs} m) h = every_at f m (and_right (f q) (every f rs) h)

misfit : (q r : List Range) (c s : List ℕ) → below q r ≡ true → fits r c ≡ true → fits q (take (length q) (c ++ s)) ≡ false
unfolding below
misfit [] r c s b h = absurd (false≢true b)
misfit (p ∷ q) [] c s b h = absurd (false≢true b)
misfit (p ∷ q) (r ∷ rs) [] s b h = absurd (false≢true h)
misfit (p ∷ q) (r ∷ rs) (x ∷ c) s b h =
    let a : p.high < r.low = ltb-true p.high r.low b in
    let k : r.low ≤ x = at_least r.low r.high x (and_left (within r.low r.high x) (fits rs c) h) in
    rw (lt-leb x p.high (omega arith), and-false)

row_size : {r : List Range} {rs : List (List Range)} (c s : List ℕ) → Memᴰ r rs → ordered rs ≡ true → fits r c ≡ true → size_by rs (c ++ s) ≡ length c
unfolding ordered
row_size {r} c s (Memᴰ.head {x = q} {xs = rs} e) o h =
    let f : fits q c ≡ true = rw e at h in
    let n : length q ≡ length c = fits_length q c f in
    rw (take_at c s (length q) (sym n), f) n
row_size {r} c s (Memᴰ.tail {x = q} {xs = rs} m) o h =
    rw (misfit q r c s (every_at (below q) m (and_left (every (below q) rs) (ordered rs) o)) h)
    (row_size c s m (and_right (every (below q) rs) (ordered rs) o) h)

-- a character at the front is passed whole
passed : (c s : List ℕ) → Character c → utf8 (c ++ s) ≡ utf8 s
unfolding char_size ordered below
passed c s k =
    let n : char_size (c ++ s) ≡ length c = row_size c s k.listed refl k.fit in
    utf8_next (c ++ s) ∙ rw n (ap utf8 (drop_at c s (length c) refl))

octets_only : {s : List ℕ} → Octets s → utf8 s ≡ true
unfolding utf8 behind
octets_only none = refl
octets_only (char {c = c} {s = s} k o) = passed c s k ∙ octets_only o

pub utf8_octets : (s : List ℕ) → (utf8 s ≡ true) ↔ Octets s
utf8_octets s = (octets s, octets_only)

-- What the rows rule out, wherever the characters before it end.
utf8_after : {p : List ℕ} (s : List ℕ) → Octets p → utf8 (p ++ s) ≡ utf8 s
utf8_after s none = refl
utf8_after s (char {c = c} {s = q} k o) = rw append_assoc (passed c (q ++ s) k ∙ utf8_after s o)

module _ (p : List ℕ) (good : utf8 p ≡ true) where
  ruled_out : (x : ℕ) (s : List ℕ) → char_size (x ∷ s) ≡ 0 → utf8 (p ++ (x ∷ s)) ≡ false
  ruled_out x s h = utf8_after (x ∷ s) (octets p good) ∙ utf8_not (x ∷ s) h (omega arith)

  module _ (x : ℕ) (s : List ℕ) where
    -- a tail byte, or C0 or C1, which only overlong forms begin with
    pub no_lead : 0x80 ≤ x → x < 0xC2 → utf8 (p ++ (x ∷ s)) ≡ false
    unfolding char_size
    no_lead h k = ruled_out x s (led_size 0x80 0xC2 rows x s refl h k)

    -- F5 to FF: above U+10FFFF, or no byte of UTF-8
    pub no_lead_above : 0xF5 ≤ x → utf8 (p ++ (x ∷ s)) ≡ false
    unfolding char_size
    no_lead_above h = ruled_out x s (led_size 0xF5 (suc x) rows x s refl h (omega arith))

    -- the overlong forms of three and of four bytes
    pub no_overlong_3 : x < 0xA0 → utf8 (p ++ (0xE0 ∷ x ∷ s)) ≡ false
    unfolding char_size
    no_overlong_3 h = ruled_out 0xE0 (x ∷ s) (rw (lt-leb 0xA0 x h))

    pub no_overlong_4 : x < 0x90 → utf8 (p ++ (0xF0 ∷ x ∷ s)) ≡ false
    unfolding char_size
    no_overlong_4 h = ruled_out 0xF0 (x ∷ s) (rw (lt-leb 0x90 x h))

    -- U+D800 to U+DFFF
    pub no_surrogate : 0xA0 ≤ x → utf8 (p ++ (0xED ∷ x ∷ s)) ≡ false
    unfolding char_size
    no_surrogate h = ruled_out 0xED (x ∷ s) (rw (lt-leb x 0x9F h, and-false))

    -- F4 90 and more: above U+10FFFF
    pub no_above : 0x90 ≤ x → utf8 (p ++ (0xF4 ∷ x ∷ s)) ≡ false
    unfolding char_size
    no_above h = ruled_out 0xF4 (x ∷ s) (rw (lt-leb x 0x8F h, and-false))

-- the texts of section 7; and what is no UTF-8: those of sections 3 and 10 first
abbrev pub good_texts : List (List ℕ)
good_texts =
    (0x41 ∷ 0xE2 ∷ 0x89 ∷ 0xA2 ∷ 0xCE ∷ 0x91 ∷ 0x2E ∷ [])
    ∷ (0xED ∷ 0x95 ∷ 0x9C ∷ 0xEA ∷ 0xB5 ∷ 0xAD ∷ 0xEC ∷ 0x96 ∷ 0xB4 ∷ [])
    ∷ (0xE6 ∷ 0x97 ∷ 0xA5 ∷ 0xE6 ∷ 0x9C ∷ 0xAC ∷ 0xE8 ∷ 0xAA ∷ 0x9E ∷ [])
    ∷ (0xEF ∷ 0xBB ∷ 0xBF ∷ 0xF0 ∷ 0xA3 ∷ 0x8E ∷ 0xB4 ∷ [])
    ∷ []

abbrev pub bad_texts : List (List ℕ)
bad_texts =
    (0xED ∷ 0xA1 ∷ 0x8C ∷ 0xED ∷ 0xBE ∷ 0xB4 ∷ [])
    ∷ (0xC0 ∷ 0x80 ∷ [])
    ∷ (0x2F ∷ 0xC0 ∷ 0xAE ∷ 0x2E ∷ 0x2F ∷ [])
    ∷ (0xE0 ∷ 0x80 ∷ 0x80 ∷ [])
    ∷ (0xED ∷ 0xA0 ∷ 0x80 ∷ [])
    ∷ (0xF4 ∷ 0x90 ∷ 0x80 ∷ 0x80 ∷ [])
    ∷ (0xF5 ∷ 0x80 ∷ 0x80 ∷ 0x80 ∷ [])
    ∷ (0xFF ∷ [])
    ∷ (0x41 ∷ 0xE2 ∷ 0x89 ∷ [])
    ∷ []

pub good_texts_lem : every utf8 good_texts ≡ true
unfolding utf8 behind char_size
good_texts_lem = refl

pub bad_texts_lem : every (λ s. not (utf8 s)) bad_texts ≡ true
unfolding utf8 behind char_size
bad_texts_lem = refl
