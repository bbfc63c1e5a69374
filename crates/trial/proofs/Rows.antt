-- The row that the code finds for a line: no other condition of the table is met. So no line meets two of them.
use Prim.Native.Nat.{ℕ, zero, suc, ◌+◌, ◌-◌, ◌≤◌, ◌<◌}
use mathlib.Core.Path.{◌≡◌, refl, ap, sym, ◌∙◌, subst}
use mathlib.Core.Bool.{Bool, true, false, cond}
use mathlib.Core.List.{List, [], ◌∷◌}
use native.Mathlib.Omega.{arith}
use lib.Dec.{eqb, ltb}
use lib.ListN.{length, drop, get_or, length-drop}
use lib.Seq.{get_or-drop}
use borrow.Author.Tests.{lt-ltb, le-ltb, leb-true, ne_eqb}
use Rattle.text.specs.Bytes.{bytes, starts_with, same, ends_with}
use Rattle.text.specs.Class.{Class, digit, hex_letter, quote, comma, other, class_of, number_of, class_number, Two, class_numbers}
use Rattle.text.specs.Condition.{beginning, is_digit_class, is_hex_class, first_byte, last_byte, meets, row, Points}
use Rattle.text.proofs.Begins.{same_is}
use Rattle.text.proofs.Classes.{number_digit}
use Rattle.text.proofs.Conditions.{meets_front, by_front, met_begins, met_first, met_ends, met_last, met_size, points, no_two}
use Rattle.text.proofs.Tests.{never, at_most}
use Rattle.at_command.specs.Conditions.{conditions}
use Rattle.unsolicited.specs.Conditions.{urc_conditions}
use Rattle.trial.specs.Conditions.{all_conditions, ConditionsApart, EndsTell}
use Rattle.trial.specs.Row.{no_row, Front, ByLetters}

-- whether it begins with a digit, behind a plus or not
abbrev pub numbered : List ℕ → Bool
numbered l = is_digit_class (class_of (first_byte l))

-- ---- texts: the row by the first five bytes

abbrev message_row : ℕ → ℕ → ℕ
message_row d e = cond (eqb d 71) (cond (eqb e 70) 11 12) 1

abbrev code_row : ℕ → ℕ → ℕ → ℕ
code_row c d e =
    cond (eqb c 82) 14
    (cond (eqb c 71) 15
    (cond (eqb c 69) 16
    (cond (eqb c 83) 5
    (cond (eqb c 77) (message_row d e)
    (cond (eqb c 80) 6
    (cond (eqb c 79) 7
    (cond (eqb c 78) 8
    no_row)))))))

abbrev plus_row : ℕ → ℕ → ℕ → ℕ → ℕ
plus_row b c d e = cond (eqb b 67) (code_row c d e) (cond (eqb b 85) 13 (cond (eqb b 72) 9 no_row))

abbrev pub text_row : List ℕ → ℕ
text_row l =
    cond (eqb (get_or l 0 0) 43) (plus_row (get_or l 1 0) (get_or l 2 0) (get_or l 3 0) (get_or l 4 0))
    (cond (eqb (get_or l 0 0) 79) 0
    (cond (eqb (get_or l 0 0) 83) 0
    (cond (eqb (get_or l 0 0) 69) 1
    (cond (eqb (get_or l 0 0) 62) 2
    no_row))))

module _ (l : List ℕ) (h : numbered l ≡ false) where
  -- a condition that a number in front is asked for
  no_number : {A : Type 0} → numbered l ≡ true → A
  no_number e = never (cc)

  pub text_points : Points all_conditions l (text_row l)
  unfolding all_conditions conditions urc_conditions
  text_points =
      points all_conditions l (text_row l) (
        meets_front (λ (s : List ℕ). 0 ≡ text_row s) _ l (λ t. refl, (λ t. refl, tt)),
        (
          meets_front (λ (s : List ℕ). 1 ≡ text_row s) _ l (λ t. refl, (λ t. refl, (λ t. refl, tt))),
          (
            meets_front (λ (s : List ℕ). 2 ≡ text_row s) _ l (λ t. refl, tt),
            (
              λ e. no_number (met_first (row 3 all_conditions) l e),
              (
                λ e. no_number (by_front (λ (s : List ℕ). numbered s ≡ true) (bytes "89" ∷ []) l (λ t. refl, tt) (met_begins (row 4 all_conditions) l e)),
                (
                  meets_front (λ (s : List ℕ). 5 ≡ text_row s) _ l (λ t. refl, tt),
                  (
                    meets_front (λ (s : List ℕ). 6 ≡ text_row s) _ l (λ t. refl, tt),
                    (
                      meets_front (λ (s : List ℕ). 7 ≡ text_row s) _ l (λ t. refl, tt),
                      (
                        meets_front (λ (s : List ℕ). 8 ≡ text_row s) _ l (λ t. refl, tt),
                        (
                          meets_front (λ (s : List ℕ). 9 ≡ text_row s) _ l (λ t. refl, tt),
                          (
                            λ e. no_number (met_first (row 10 all_conditions) l e),
                            (
                              meets_front (λ (s : List ℕ). 11 ≡ text_row s) _ l (λ t. refl, tt),
                              (
                                meets_front (λ (s : List ℕ). 12 ≡ text_row s) _ l (λ t. refl, tt),
                                (
                                  meets_front (λ (s : List ℕ). 13 ≡ text_row s) _ l (λ t. refl, tt),
                                  (
                                    meets_front (λ (s : List ℕ). 14 ≡ text_row s) _ l (λ t. refl, tt),
                                    (
                                      meets_front (λ (s : List ℕ). 15 ≡ text_row s) _ l (λ t. refl, tt),
                                      (
                                        meets_front (λ (s : List ℕ). 16 ≡ text_row s) _ l (λ t. refl, tt),
                                        tt,
                                      ),
                                    ),
                                  ),
                                ),
                              ),
                            ),
                          ),
                        ),
                      ),
                    ),
                  ),
                ),
              ),
            ),
          ),
        ),
      )

-- ---- numbers: the row by the class of the last byte, and by where the line ends

abbrev pub number_row : ℕ → ℕ → ℕ
number_row k n = cond (eqb k 4) 3 (cond (eqb k 0) (cond (ltb n 17) 10 4) 4)

-- the last byte of a line that ends with a text is the text's
ends_last : (p l : List ℕ) → 0 < length p → ends_with p l ≡ true → last_byte l ≡ last_byte p
unfolding ends_with
ends_last p l h e =
    let k = length l - length p in
    let z = same_is (drop k l) p e in
    let n = sym (length-drop k l) ∙ ap length z in
    let at : k + (length p - 1) ≡ length l - 1 = omega arith in
    ap (λ (i : ℕ). get_or l i 0) (sym at) ∙ sym (get_or-drop k l (length p - 1) 0) ∙ ap (λ (s : List ℕ). get_or s (length p - 1) 0) z

hex_row : (c : Class) (n : ℕ) → is_hex_class c ≡ true → 17 ≤ n → 4 ≡ number_row (number_of c) n
hex_row digit n e h = rw (le-ltb n 17 h)
hex_row hex_letter n e h = refl
hex_row quote n e h = never (cc)
hex_row comma n e h = never (cc)
hex_row other n e h = never (cc)

digit_row : (c : Class) (n : ℕ) → is_digit_class c ≡ true → n < 17 → 10 ≡ number_row (number_of c) n
digit_row digit n e h = rw (lt-ltb n 17 h)
digit_row hex_letter n e h = never (cc)
digit_row quote n e h = never (cc)
digit_row comma n e h = never (cc)
digit_row other n e h = never (cc)

module _ (l : List ℕ) (h : numbered l ≡ true) where
  -- a front that is no number's
  no_text : {A : Type 0} (ps : List (List ℕ)) → meets (beginning ps) l ≡ true → (meets (beginning ps) l ≡ true → numbered l ≡ false) → A
  no_text ps e f = let z = f e in never (cc)

  abbrev last_row : ℕ
  last_row = number_row (class_number (last_byte l)) (length l)

  close_row : ends_with (bytes ", CLOSE OK") l ≡ true → 3 ≡ last_row
  unfolding class_number
  close_row e = ap (λ (x : ℕ). number_row (class_number x) (length l)) (sym (ends_last (bytes ", CLOSE OK") l (omega arith) e))

  pub number_points : Points all_conditions l last_row
  unfolding all_conditions conditions urc_conditions class_number
  number_points =
      let P : List ℕ → Type 0 = λ s. numbered s ≡ false in
      points all_conditions l last_row (
        λ e. no_text _ e (meets_front P _ l (λ t. refl, (λ t. refl, tt))),
        (
          λ e. no_text _ e (meets_front P _ l (λ t. refl, (λ t. refl, (λ t. refl, tt)))),
          (
            λ e. no_text _ e (meets_front P _ l (λ t. refl, tt)),
            (
              λ e. close_row (met_ends (row 3 all_conditions) l e),
              (
                λ e. hex_row (class_of (last_byte l)) (length l) (met_last (row 4 all_conditions) l e) (let z = leb-true 19 (length l) (met_size (row 4 all_conditions) l e) in omega arith),
                (
                  λ e. no_text _ e (meets_front P _ l (λ t. refl, tt)),
                  (
                    λ e. no_text _ e (meets_front P _ l (λ t. refl, tt)),
                    (
                      λ e. no_text _ e (meets_front P _ l (λ t. refl, tt)),
                      (
                        λ e. no_text _ e (meets_front P _ l (λ t. refl, tt)),
                        (
                          λ e. no_text _ e (meets_front P _ l (λ t. refl, tt)),
                          (
                            λ e. digit_row (class_of (last_byte l)) (length l) (met_last (row 10 all_conditions) l e) (let z = at_most 15 16 (length l) (met_size (row 10 all_conditions) l e) in omega arith),
                            (
                              λ e. no_text _ e (meets_front P _ l (λ t. refl, tt)),
                              (
                                λ e. no_text _ e (meets_front P _ l (λ t. refl, tt)),
                                (
                                  λ e. no_text _ e (meets_front P _ l (λ t. refl, tt)),
                                  (
                                    λ e. no_text _ e (meets_front P _ l (λ t. refl, tt)),
                                    (
                                      λ e. no_text _ e (meets_front P _ l (λ t. refl, tt)),
                                      (
                                        λ e. no_text _ e (meets_front P _ l (λ t. refl, tt)),
                                        tt,
                                      ),
                                    ),
                                  ),
                                ),
                              ),
                            ),
                          ),
                        ),
                      ),
                    ),
                  ),
                ),
              ),
            ),
          ),
        ),
      )

-- ---- both

pub conditions_apart : ConditionsApart
conditions_apart l = go (numbered l) refl
  where
    go : (t : Bool) → numbered l ≡ t → (i j : ℕ) → meets (row i all_conditions) l ≡ true → meets (row j all_conditions) l ≡ true → i ≡ j
    go true h = no_two all_conditions l _ (number_points l h)
    go false h = no_two all_conditions l _ (text_points l h)

pub ends_tell : EndsTell
unfolding all_conditions conditions urc_conditions meets starts_with ends_with same
ends_tell = record { imei = refl; iccid = refl; operator = refl; no_close = refl }

-- ---- as the code has it: the bytes and classes under its names

module _ (l : List ℕ) (a : ℕ) (is : a ≡ get_or l 0 0) where
  pub first_plus : (b : ℕ) → a ≡ 43 → b ≡ get_or l 1 0 → b ≡ first_byte l
  first_plus b e f = f ∙ rw (sym is ∙ e)

  pub first_plain : (a ≡ 43 → ⊥) → a ≡ first_byte l
  first_plain n = is ∙ rw (ne_eqb (get_or l 0 0) 43 (λ z. n (is ∙ z)))

pub last_none : (l : List ℕ) → length l ≡ 0 → 0 ≡ last_byte l
last_none [] e = refl
last_none (x ∷ l) e = absurd (omega arith)

-- the classes t of the bytes x and y that the code has
module _ (l : List ℕ) (x y : ℕ) (t : Two) (told : t ≡ class_numbers x y) where
  pub first_classed : x ≡ first_byte l → t.first ≡ class_number (first_byte l)
  unfolding class_numbers
  first_classed e = ap (λ (t : Two). t.first) told ∙ ap class_number e

  pub last_classed : y ≡ last_byte l → t.last ≡ class_number (last_byte l)
  unfolding class_numbers
  last_classed e = ap (λ (t : Two). t.last) told ∙ ap class_number e

-- the class of the first byte tells whether a number stands in front
class_numbered : (l : List ℕ) (k : ℕ) → k ≡ class_number (first_byte l) → numbered l ≡ eqb k 0
unfolding class_number
class_numbered l k e = sym (number_digit (class_of (first_byte l))) ∙ ap (λ (n : ℕ). eqb n 0) (sym e)

pub is_numbered : (l : List ℕ) (k : ℕ) → k ≡ class_number (first_byte l) → k ≡ 0 → numbered l ≡ true
is_numbered l k e z = class_numbered l k e ∙ rw z

not_numbered : (l : List ℕ) (k : ℕ) → k ≡ class_number (first_byte l) → (k ≡ 0 → ⊥) → numbered l ≡ false
not_numbered l k e n = class_numbered l k e ∙ ne_eqb k 0 n

module _ (l : List ℕ) (h : numbered l ≡ true) (k : ℕ) (is : k ≡ class_number (last_byte l)) where
  at_row : (r : ℕ) → number_row k (length l) ≡ r → Points all_conditions l r
  at_row r e = subst (Points all_conditions l) (ap (λ (n : ℕ). number_row n (length l)) (sym is) ∙ e) (number_points l h)

  pub row_close : k ≡ 4 → Points all_conditions l 3
  row_close e = at_row 3 (rw e)

  pub row_letter : (k ≡ 4 → ⊥) → (k ≡ 0 → ⊥) → Points all_conditions l 4
  row_letter n m = at_row 4 (rw (ne_eqb k 4 n, ne_eqb k 0 m))

  pub row_short : k ≡ 0 → length l < 17 → Points all_conditions l 10
  row_short e f = at_row 10 (rw (e, lt-ltb (length l) 17 f))

  pub row_long : k ≡ 0 → 17 ≤ length l → Points all_conditions l 4
  row_long e f = at_row 4 (rw (e, le-ltb (length l) 17 f))

-- the row of a text, by the bytes that are known
text_at : (l : List ℕ) (r : ℕ) → text_row l ≡ r → numbered l ≡ false → Points all_conditions l r
text_at l r e h = subst (Points all_conditions l) e (text_points l h)

-- no number stands in front
pub by_text : (l : List ℕ) (r : ℕ) → numbered l ≡ false → text_row l ≡ r → ByLetters l r
by_text l r h e = record { text = text_at l r e; number = λ n. never (cc) }

-- no letter that a reader asks for does
pub by_none : (l : List ℕ) → text_row l ≡ no_row → ByLetters l no_row
by_none l e = record { text = text_at l no_row e; number = λ n. refl }

-- the bytes that the code has are the line's
pub front_of : (l : List ℕ) (a b c d e : ℕ) → a ≡ get_or l 0 0 → b ≡ get_or l 1 0 → c ≡ get_or l 2 0 → d ≡ get_or l 3 0 → e ≡ get_or l 4 0 → Front (a ∷ b ∷ c ∷ d ∷ e ∷ []) l
front_of l a b c d e p q r s t zero h = sym p
front_of l a b c d e p q r s t (suc zero) h = sym q
front_of l a b c d e p q r s t (suc (suc zero)) h = sym r
front_of l a b c d e p q r s t (suc (suc (suc zero))) h = sym s
front_of l a b c d e p q r s t (suc (suc (suc (suc zero)))) h = sym t
front_of l a b c d e p q r s t (suc (suc (suc (suc (suc i))))) h = absurd (omega arith)

-- the row, and the class of the first byte, from the bytes in front
abbrev pub row_by : ℕ → ℕ → ℕ → ℕ → ℕ → ℕ
row_by a b c d e = text_row (a ∷ b ∷ c ∷ d ∷ e ∷ [])

abbrev pub numbered_by : ℕ → ℕ → Bool
numbered_by a b = is_digit_class (class_of (cond (eqb a 43) b a))

module _ (a b c d e : ℕ) (l : List ℕ) (f : Front (a ∷ b ∷ c ∷ d ∷ e ∷ []) l) where
  pub front_row : text_row l ≡ row_by a b c d e
  front_row = rw (f 0 (omega arith), f 1 (omega arith), f 2 (omega arith), f 3 (omega arith), f 4 (omega arith))

  front_numbered : numbered l ≡ numbered_by a b
  front_numbered = rw (f 0 (omega arith), f 1 (omega arith))

  pub at_letter : (r : ℕ) → numbered_by a b ≡ false → row_by a b c d e ≡ r → ByLetters l r
  at_letter r h k = by_text l r (front_numbered ∙ h) (front_row ∙ k)

  pub at_none : row_by a b c d e ≡ no_row → ByLetters l no_row
  at_none k = by_none l (front_row ∙ k)

pub letters_text : (l : List ℕ) (r : ℕ) → ByLetters l r → (r ≡ no_row → ⊥) → Points all_conditions l r
letters_text l r h n = go (numbered l) refl
  where
    go : (t : Bool) → numbered l ≡ t → Points all_conditions l r
    go true e = absurd (n (h.number e))
    go false e = h.text e

pub other_none : (l : List ℕ) (k : ℕ) → ByLetters l no_row → k ≡ class_number (first_byte l) → (k ≡ 0 → ⊥) → Points all_conditions l no_row
other_none l k w e n = w.text (not_numbered l k e n)

pub letters_none : (l : List ℕ) (r : ℕ) → ByLetters l r → r ≡ no_row → ByLetters l no_row
letters_none l r h e = subst (ByLetters l) e h
