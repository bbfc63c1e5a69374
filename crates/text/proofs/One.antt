-- No second answer meets a contract.
use Rattle.std.proofs.Common.{◌≡◌, ℕ, ◌<◌, List, sym, refl, ap, ◌∙◌, arith, ext_get_or, Bor, Result, Ok, Err}
use Rattle.std.specs.Prelude as Std
use mathlib.Core.Option.{Option, none, some}
use Rattle.text.specs.Copy.{LayKeeps}
use Rattle.text.specs.Gives.{Gives}
use Rattle.text.specs.Part.{IsPart, part_of}
use Rattle.text.specs.Handed.{Handed, lent, IsHanded}
use Rattle.text.specs.Reader.{FieldStartsKeeps}
use Rattle.text.specs.Reading.{Reading, read, refused, worse}
use Rattle.text.specs.Same.{SamePart, SameText}
use Rattle.text.specs.says.Handed.{TextKeeps}
use Rattle.text.specs.says.Reader.{ReaderKeeps}
use Rattle.text.specs.says.Refusal.{number_of, option_said, reading_said, refusal_said, WorseKeeps, ChecksKeep}
use Rattle.text.specs.declared.refusal.Refusal.{Refusal}
use Rattle.text.proofs.Refusals.{check_at, back_check, some_refusal}
use Rattle.text.specs.declared.reader.FieldReader.{FieldReader}

-- two answers that say the same are the same, where what is said can be taken back
pub one_answer : {R P : Type 0} (f : R → P) (g : P → R) → ((r : R) → g (f r) ≡ r) → (a b : R) (p : P) → f a ≡ p → f b ≡ p → a ≡ b
one_answer f g back a b p h k = sym (back a) ∙ ap g (h ∙ sym k) ∙ back b

-- the answer that says an option, given the value that says what is there
abbrev pub option : {R W P : Type 0} → (W → R) → R → (P → W) → Option P → R
option is not back (some p) = is (back p)
option is not back none = not

pub back_option : {A : Type 0} (r : Std.Option A) → option Std.Some Std.None (λ (a : A). a) (option_said r) ≡ r
back_option (Std.Some a) = refl
back_option Std.None = refl

-- a contract that says what the answer is equal to
-- one answer: bytes::find, bytes::has_byte, bytes::count_byte, bytes::starts_with, bytes::is_text, bytes::ends_with, bytes::all_within, bytes::all_digits
-- one answer: copy::least, digit::value, digit::is_ascii_digit, field::field_start, field::field_count, part::trim_start, refusal::Refusal::number
-- one answer: reader::FieldReader::ended, utf8::is_utf8
pub one_equal : {R : Type 0} (a b p : R) → Gives p a → Gives p b → a ≡ b
one_equal a b p h k = h ∙ sym k

-- two parts of a line at one place, with the same bytes, are one: they begin at the same byte of memory
-- one answer: part::part, part::skip, part::before_byte, part::after_byte, part::trim_end, part::trim, field::field
-- one answer: reader::FieldReader::field, reader::nth_field
pub one_part : (s t u : Bor (List ℕ)) (a : ℕ) (x : List ℕ) → IsPart s t a x → IsPart s u a x → SamePart t u
one_part s t u a x p q = (p.bytes ∙ sym q.bytes, p.place ∙ sym q.place)

-- two readers on one line, at one position
-- one answer: reader::FieldReader::new, reader::FieldReader::next
pub one_reader : (s : Bor (List ℕ)) (n : ℕ) (r q : FieldReader) → ReaderKeeps s n r → ReaderKeeps s n q → r ≡ q
one_reader s n r q h k i = record { line = (h.0 ∙ sym k.0) i; at = (h.1 ∙ sym k.1) i }

-- the places of a line's fields
-- one answer: reader::field_starts
pub one_starts : (s ps qs : List ℕ) → FieldStartsKeeps s ps → FieldStartsKeeps s qs → ps ≡ qs
one_starts s ps qs p q = ext_get_or 0 ps qs (p.size ∙ sym q.size) (λ n h. let l : n < 22 = omega (arith, p.size) in p.place n l ∙ sym (q.place n l))

-- bytes laid into a buffer
-- one answer: copy::lay
pub one_lay : (piece : List ℕ) (at : ℕ) (before : List ℕ) (e f : ℕ) (x y : List ℕ) → LayKeeps piece at before e x → LayKeeps piece at before f y → (e ≡ f) × (x ≡ y)
one_lay piece at before e f x y p q = (p.ends ∙ sym q.ends, p.holds ∙ sym q.holds)

-- two texts that are handed out
-- one answer: handed::cut
pub one_handed : (line fallback t u : Bor (List ℕ)) (h : Handed) → IsHanded line fallback h t → IsHanded line fallback h u → SamePart t u
unfolding IsHanded
one_handed line fallback t u h p q = one_part (lent line fallback h) t u h.span.start (part_of (lent line fallback h).now h.span.start h.span.end) p q

-- a check that passes, and one that refuses
-- one answer: line::check_line
pub one_check : (a b : Result Unit Refusal) (k : ℕ) → ChecksKeep k a → ChecksKeep k b → a ≡ b
one_check = one_answer refusal_said check_at back_check

pub one_refusal : (j k : Refusal) (n : ℕ) → number_of j ≡ n → number_of k ≡ n → j ≡ k
one_refusal j k n h i = let e : ◌≡◌ {A = Result Unit Refusal} (Err j) (Err k) = one_check (Err j) (Err k) n h i in cc

-- one answer: refusal::Refusal::worse
pub one_worse : (j k a b : Refusal) → WorseKeeps j k a → WorseKeeps j k b → a ≡ b
one_worse j k a b = one_refusal a b (worse (number_of j) (number_of k))

-- two answers that say a reading, where a value can be taken back from what it says
module _ {V A : Type 0} (f : V → A) (g : A → V) (back : (v : V) → g (f v) ≡ v) where
  -- the value of a reading, and its refusal
  pub one_reading : (a b : Result V Refusal) (p : Reading A) → reading_said f a ≡ p → reading_said f b ≡ p → a ≡ b
  one_reading (Ok v) (Ok w) p h k =
      let e : ◌≡◌ {A = Reading A} (read (f v)) (read (f w)) = h ∙ sym k in
      let i : f v ≡ f w = cc in
      ap Ok (sym (back v) ∙ ap g i ∙ back w)
  one_reading (Ok v) (Err k) p h i = let e : ◌≡◌ {A = Reading A} (read (f v)) (refused (number_of k)) = h ∙ sym i in cc
  one_reading (Err k) (Ok v) p h i = let e : ◌≡◌ {A = Reading A} (read (f v)) (refused (number_of k)) = i ∙ sym h in cc
  one_reading (Err j) (Err k) p h i =
      let e : ◌≡◌ {A = Reading A} (refused (number_of j)) (refused (number_of k)) = h ∙ sym i in
      let n : number_of j ≡ number_of k = cc in
      ap Err (one_refusal j k (number_of k) n refl)

-- two answers that hand a text out, or refuse the line
pub one_text : (line fallback : Bor (List ℕ)) (h : Handed) (r q : Result (Bor (List ℕ)) Refusal) → TextKeeps line fallback h r → TextKeeps line fallback h q → SameText r q
one_text line fallback h (Ok t) (Ok u) a b = one_handed line fallback t u h a.part b.part
one_text line fallback h (Err j) (Err k) a b = one_refusal j k h.refusal a b
one_text line fallback h (Ok t) (Err k) a b = some_refusal k (b ∙ sym a.number)
one_text line fallback h (Err j) (Ok u) a b = some_refusal j (a ∙ sym b.number)
