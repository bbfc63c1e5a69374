-- A walk over the bytes of a text from state to state tells whether it is UTF-8. Assumes nothing.
use Rattle.std.proofs.Common.{◌≡◌, ℕ, zero, suc, ◌+◌, ◌-◌, ◌*◌, ◌/◌, ◌^◌, ◌<◌, ◌≤◌, Bool, true, false, cond, ◌&&◌, eqb, ltb, leb, List, [], ◌∷◌, length, get_or, take, drop, sym, refl, ap, ◌∙◌, arith, eqb→eq, ltb→lt, leb-false, leb-true}
use mathlib.Core.Bool.{and-false}
use lib.Bits.{bit_and}
use borrow.Author.Tests.{lt-leb}
use Rattle.text.specs.Bytes.{within}
use Rattle.text.specs.Utf8.{Range, to, tail, rows, fits, char_size, behind, utf8}
use Rattle.text.proofs.AtIndex.{at_next, at_end}
use Rattle.text.proofs.Below.{below}
use Rattle.text.proofs.Utf8Laws.{whole, led, led_size, utf8_next, utf8_not}

pub data State : Type 0 where
  start : State
  one : State
  two : State
  three : State
  behind_e0 : State
  behind_ed : State
  behind_f0 : State
  behind_f4 : State
  never : State

-- what must follow before the next character; behind a byte that no text has there, a byte that is none
abbrev waits : State → List Range
waits start = []
waits one = tail ∷ []
waits two = tail ∷ tail ∷ []
waits three = tail ∷ tail ∷ tail ∷ []
waits behind_e0 = to 0xA0 0xBF ∷ tail ∷ []
waits behind_ed = to 0x80 0x9F ∷ tail ∷ []
waits behind_f0 = to 0x90 0xBF ∷ tail ∷ tail ∷ []
waits behind_f4 = to 0x80 0x8F ∷ tail ∷ tail ∷ []
waits never = to 1 0 ∷ []

-- the state behind a byte
abbrev goes : State → ℕ → State
goes start x =
    cond (leb x 0x7F) start (cond (leb x 0xC1) never (cond (leb x 0xDF) one (cond (leb x 0xE0) behind_e0 (cond (leb x 0xEC) two (cond (leb x 0xED) behind_ed
    (cond (leb x 0xEF) two (cond (leb x 0xF0) behind_f0 (cond (leb x 0xF3) three (cond (leb x 0xF4) behind_f4 never)))))))))
goes one x = cond (within 0x80 0xBF x) start never
goes two x = cond (within 0x80 0xBF x) one never
goes three x = cond (within 0x80 0xBF x) two never
goes behind_e0 x = cond (within 0xA0 0xBF x) one never
goes behind_ed x = cond (within 0x80 0x9F x) one never
goes behind_f0 x = cond (within 0x90 0xBF x) two never
goes behind_f4 x = cond (within 0x80 0x8F x) two never
goes never x = never

abbrev number : State → ℕ
number start = 0
number one = 6
number two = 12
number three = 18
number behind_e0 = 24
number behind_ed = 30
number behind_f0 = 36
number behind_f4 = 42
number never = 48

-- a byte's row: the states behind it, that of each state at the bit that is its number
unfoldable pub row : ℕ → ℕ
row x =
    number (goes start x)
    + 64
    * (number (goes one x)
    + 64
    * (number (goes two x)
    + 64
    * (number (goes three x)
    + 64
    * (number (goes behind_e0 x)
    + 64
    * (number (goes behind_ed x)
    + 64
    * (number (goes behind_f0 x)
    + 64
    * (number (goes behind_f4 x)
    + 64
    * number (goes never x))))))))

-- the kinds of bytes: those of one kind have one row
abbrev kind_of : ℕ → ℕ
kind_of x =
    cond (leb x 0x7F) 0 (cond (leb x 0x8F) 1 (cond (leb x 0x9F) 2 (cond (leb x 0xBF) 3 (cond (leb x 0xC1) 11 (cond (leb x 0xDF) 4 (cond (leb x 0xE0) 5
    (cond (leb x 0xEC) 6 (cond (leb x 0xED) 7 (cond (leb x 0xEF) 6 (cond (leb x 0xF0) 8 (cond (leb x 0xF3) 9 (cond (leb x 0xF4) 10 11))))))))))))

-- what the state waits for stands at the front, and UTF-8 behind it
abbrev goes_on : State → List ℕ → Bool
goes_on st t = fits (waits st) (take (length (waits st)) t) && utf8 (drop (length (waits st)) t)

none_within : (x : ℕ) → within 1 0 x ≡ false
none_within zero = refl
none_within (suc x) = rw (lt-leb (suc x) 0 (omega arith), and-false)

not_on : (t : List ℕ) → goes_on never t ≡ false
not_on [] = refl
not_on (x ∷ t) = rw (none_within x)

-- a byte that begins a character
module _ (x : ℕ) (t : List ℕ) where
  lead_size : (a b : ℕ) → a ≤ x → x < b → whole a b rows ≡ true → char_size (x ∷ t) ≡ led a b rows t
  unfolding char_size
  lead_size a b l h w = led_size a b rows x t w l h

  sized : (st : State) → char_size (x ∷ t) ≡ cond (fits (waits st) (take (length (waits st)) t)) (suc (length (waits st))) 0 → utf8 (x ∷ t) ≡ goes_on st t
  sized st e = go (fits (waits st) (take (length (waits st)) t)) e
    where
      go : (f : Bool) → char_size (x ∷ t) ≡ cond f (suc (length (waits st))) 0 → utf8 (x ∷ t) ≡ f && utf8 (drop (length (waits st)) t)
      go true q = utf8_next (x ∷ t) ∙ ap (λ (n : ℕ). utf8 (drop n (x ∷ t))) q
      go false q = utf8_not (x ∷ t) q (λ z. omega arith)

  leads : (a b : ℕ) (st : State) → a ≤ x → x < b → whole a b rows ≡ true
      → led a b rows t ≡ cond (fits (waits st) (take (length (waits st)) t)) (suc (length (waits st))) 0 → utf8 (x ∷ t) ≡ goes_on st t
  leads a b st l h w e = sized st (lead_size a b l h w ∙ e)

  leads_not : (a b : ℕ) → a ≤ x → x < b → whole a b rows ≡ true → led a b rows t ≡ 0 → utf8 (x ∷ t) ≡ goes_on never t
  leads_not a b l h w e = utf8_not (x ∷ t) (lead_size a b l h w ∙ e) (λ z. omega arith) ∙ sym (not_on t)

  up_to : (n : ℕ) (p q : State) → (x ≤ n → utf8 (x ∷ t) ≡ goes_on p t) → (n < x → utf8 (x ∷ t) ≡ goes_on q t) → utf8 (x ∷ t) ≡ goes_on (cond (leb x n) p q) t
  up_to n p q f g = go (leb x n) (leb-true x n) (leb-false x n)
    where
      go : (b : Bool) → (b ≡ true → x ≤ n) → (b ≡ false → n < x) → utf8 (x ∷ t) ≡ goes_on (cond b p q) t
      go true h k = f (h refl)
      go false h k = g (k refl)

  begins : utf8 (x ∷ t) ≡ goes_on (goes start x) t
  begins =
      up_to 0x7F _ _ (λ h. leads 0 0x80 start (omega arith) (omega arith) refl refl)
      (λ l. up_to 0xC1 _ _ (λ h. leads_not 0x80 0xC2 (omega arith) (omega arith) refl refl)
      (λ l. up_to 0xDF _ _ (λ h. leads 0xC2 0xE0 one (omega arith) (omega arith) refl refl)
      (λ l. up_to 0xE0 _ _ (λ h. leads 0xE0 0xE1 behind_e0 (omega arith) (omega arith) refl refl)
      (λ l. up_to 0xEC _ _ (λ h. leads 0xE1 0xED two (omega arith) (omega arith) refl refl)
      (λ l. up_to 0xED _ _ (λ h. leads 0xED 0xEE behind_ed (omega arith) (omega arith) refl refl)
      (λ l. up_to 0xEF _ _ (λ h. leads 0xEE 0xF0 two (omega arith) (omega arith) refl refl)
      (λ l. up_to 0xF0 _ _ (λ h. leads 0xF0 0xF1 behind_f0 (omega arith) (omega arith) refl refl)
      (λ l. up_to 0xF3 _ _ (λ h. leads 0xF1 0xF4 three (omega arith) (omega arith) refl refl)
      (λ l. up_to 0xF4 _ _ (λ h. leads 0xF4 0xF5 behind_f4 (omega arith) (omega arith) refl refl)
      (λ l. leads_not 0xF5 (suc x) (omega arith) (omega arith) refl refl))))))))))

  -- a byte within a character
  within_one : (w : Bool) (st : State) → (w && fits (waits st) (take (length (waits st)) t)) && utf8 (drop (length (waits st)) t) ≡ goes_on (cond w st never) t
  within_one true st = refl
  within_one false st = sym (not_on t)

  steps : (st : State) → goes_on st (x ∷ t) ≡ goes_on (goes st x) t
  steps start = begins
  steps one = within_one (within 0x80 0xBF x) start
  steps two = within_one (within 0x80 0xBF x) one
  steps three = within_one (within 0x80 0xBF x) two
  steps behind_e0 = within_one (within 0xA0 0xBF x) one
  steps behind_ed = within_one (within 0x80 0x9F x) one
  steps behind_f0 = within_one (within 0x90 0xBF x) two
  steps behind_f4 = within_one (within 0x80 0x8F x) two
  steps never = not_on (x ∷ t) ∙ sym (not_on t)

ends : (st : State) → eqb (number st) 0 ≡ goes_on st []
unfolding utf8 behind
ends start = refl
ends one = refl
ends two = refl
ends three = refl
ends behind_e0 = refl
ends behind_ed = refl
ends behind_f0 = refl
ends behind_f4 = refl
ends never = refl

-- the row of a byte, shifted by a state's number, has the number of the state behind it
shifted : (st : State) (x : ℕ) → x < 256 → bit_and (row x / 2 ^ number st) 63 ≡ number (goes st x)
unfolding row
shifted start x h = eqb→eq _ _ (below 256 (λ x. eqb (bit_and (row x / 2 ^ number start) 63) (number (goes start x))) tt x h)
shifted one x h = eqb→eq _ _ (below 256 (λ x. eqb (bit_and (row x / 2 ^ number one) 63) (number (goes one x))) tt x h)
shifted two x h = eqb→eq _ _ (below 256 (λ x. eqb (bit_and (row x / 2 ^ number two) 63) (number (goes two x))) tt x h)
shifted three x h = eqb→eq _ _ (below 256 (λ x. eqb (bit_and (row x / 2 ^ number three) 63) (number (goes three x))) tt x h)
shifted behind_e0 x h = eqb→eq _ _ (below 256 (λ x. eqb (bit_and (row x / 2 ^ number behind_e0) 63) (number (goes behind_e0 x))) tt x h)
shifted behind_ed x h = eqb→eq _ _ (below 256 (λ x. eqb (bit_and (row x / 2 ^ number behind_ed) 63) (number (goes behind_ed x))) tt x h)
shifted behind_f0 x h = eqb→eq _ _ (below 256 (λ x. eqb (bit_and (row x / 2 ^ number behind_f0) 63) (number (goes behind_f0 x))) tt x h)
shifted behind_f4 x h = eqb→eq _ _ (below 256 (λ x. eqb (bit_and (row x / 2 ^ number behind_f4) 63) (number (goes behind_f4 x))) tt x h)
shifted never x h = eqb→eq _ _ (below 256 (λ x. eqb (bit_and (row x / 2 ^ number never) 63) (number (goes never x))) tt x h)

-- the kinds of bytes by letters, from 'a' on
abbrev pub letter : ℕ → ℕ
letter x = kind_of x + 97

module _ (x n : ℕ) (h : x < 256) (is : n ≡ letter x) where
  few : kind_of x < 12
  few = ltb→lt (kind_of x) 12 (below 256 (λ x. ltb (kind_of x) 12) tt x h)

  pub letter_least : 97 ≤ n
  letter_least = omega arith

  pub letter_few : n - 97 < 12
  letter_few = omega (arith, few)

-- the rows of the kinds, each by a byte that is of it
abbrev pub kind_rows : List ℕ
kind_rows = row 0x00 ∷ row 0x80 ∷ row 0x90 ∷ row 0xA0 ∷ row 0xC2 ∷ row 0xE0 ∷ row 0xE1 ∷ row 0xED ∷ row 0xF0 ∷ row 0xF1 ∷ row 0xF4 ∷ row 0xC0 ∷ []

row_at : (k x : ℕ) → k ≡ kind_of x → x < 256 → get_or kind_rows k 0 ≡ row x
unfolding row
row_at k x e h = ap (λ (k : ℕ). get_or kind_rows k 0) e ∙ eqb→eq _ _ (below 256 (λ x. eqb (get_or kind_rows (kind_of x) 0) (row x)) tt x h)

-- `all_chars` at byte i, with the number n that has its state's in the lowest six bits
pub record At (s : List ℕ) (n i : ℕ) : Type 0 where
  pub state : State
  pub is : bit_and n 63 ≡ number state
  pub rest : utf8 s ≡ goes_on state (drop i s)

pub at_begin : (s : List ℕ) → At s 0 0
at_begin s = record { state = start; is = refl; rest = refl }

module _ (s : List ℕ) (n i : ℕ) (a : At s n i) where
  pub at_more : (x m : ℕ) → i < length s → x ≡ get_or s i 0 → x < 256 → m ≡ letter x → At s (get_or kind_rows (m - 97) 0 / 2 ^ bit_and n 63) (i + 1)
  at_more x m h e l q = record {
    state = goes a.state x;
    is = rw (row_at (m - 97) x (omega arith) l, a.is) (shifted a.state x l);
    rest = a.rest ∙ rw (at_next s i h, ← e) (steps x (drop (i + 1) s) a.state);
  }

  pub at_last : length s ≤ i → eqb (bit_and n 63) 0 ≡ utf8 s
  at_last h = rw (a.is, a.rest, at_end s i h) (ends a.state)
