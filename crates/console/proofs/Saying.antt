-- What is printed of a number and of an event, laid piece by piece. Assumes nothing.
use mathlib.Core.Path.{◌≡◌, refl, sym, ap, subst, ◌∙◌}
use mathlib.Core.List.{List, [], ◌++◌, append-nil, append_assoc}
use Prim.Native.Nat.{ℕ, ◌+◌, ◌^◌, ◌≤◌, ◌<◌}
use native.Mathlib.Omega.{arith}
use lib.Chars.{codes}
use lib.ListN.{length, take, drop, length-append, length-drop}
use borrow.Author.Tests.{le-leb}
use Rattle.std.specs.Fmt.{decimal}
use Rattle.std.proofs.lemmas.Fmt.{length-decimal-le}
use Rattle.std.proofs.lemmas.List.{take_at}
use Rattle.text.specs.Part.{part_of}
use Rattle.text.proofs.Parts.{from_start}
use Rattle.desk.specs.Judge.{Event, Unsolicited, Taken, Done, Short, Failed, Stray, Overlong, Echo}
use Rattle.console.specs.Output.{Puts, PutsDecimal, has_room}
use Rattle.console.specs.Said.{word_of, number_behind}
use Rattle.console.proofs.Digits.{decimal_digits, length_digits, few_digits}

-- a buffer of so many bytes that begins with a text, and where the text ends
pub record Begun (t : List ℕ) (room at : ℕ) (b : List ℕ) : Type 0 where
  pub holds : take at b ≡ t
  pub ends : at ≡ length t
  pub size : length b ≡ room

pub begun_none : (b : List ℕ) (room : ℕ) → length b ≡ room → Begun [] room 0 b
begun_none b room h = record { holds = refl; ends = refl; size = h }

pub begun_more : (t s b x : List ℕ) (room at e : ℕ) → Begun t room at b → length t + length s ≤ room → Puts s at b e x → Begun (t ++ s) room e x
unfolding has_room
begun_more t s b x room at e g h p =
    let fits : at + length s ≤ length b = omega (arith, g.ends, g.size) in
    let ends : e ≡ at + length s = p.ends ∙ rw (le-leb _ _ fits) refl in
    let laid : x ≡ take at b ++ s ++ drop (at + length s) b = p.holds ∙ rw (le-leb _ _ fits) refl in
    let whole : x ≡ t ++ s ++ drop (at + length s) b = laid ∙ ap (λ (u : List ℕ). u ++ s ++ drop (at + length s) b) g.holds in
    let long : length (t ++ s) ≡ e = omega (arith, length-append t s, g.ends, ends) in
    record {
      holds = rw whole (take_at (t ++ s) (drop (at + length s) b) e long);
      ends = sym long;
      size = ap length whole ∙ length-append (t ++ s) (drop (at + length s) b) ∙ omega (arith, length-drop (at + length s) b, long, ends, fits, g.size);
    }

pub begun_decimal : (t b x : List ℕ) (room n at e : ℕ) → n < 2 ^ 64 → Begun t room at b → length t + 20 ≤ room → PutsDecimal n at b e x → Begun (t ++ decimal n) room e x
begun_decimal t b x room n at e l g h p =
    let few : p.places ≤ 20 = few_digits n p.places l p.fewest in
    subst (λ (s : List ℕ). Begun (t ++ s) room e x) (decimal_digits n p.places l p.fewest)
    (begun_more t _ b x room at e g (omega (arith, length_digits p.places n)) p.puts)

-- a number that is laid alone, in as much room as any number needs
pub laid_decimal : (n e : ℕ) (b x : List ℕ) → n < 2 ^ 64 → length b ≡ 20 → PutsDecimal n 0 b e x → part_of x 0 e ≡ decimal n
laid_decimal n e b x l h p = from_start x e ∙ (begun_decimal [] b x 20 n 0 e l (begun_none b 20 h) (omega arith) p).holds

few_letters : (e : Event) → length (word_of e) ≤ 11
few_letters Overlong = omega arith
few_letters (Stray n) = omega arith
few_letters Failed = omega arith
few_letters Taken = omega arith
few_letters Done = omega arith
few_letters Short = omega arith
few_letters Unsolicited = omega arith
few_letters Echo = omega arith

-- the word, and the ordinal
pub laid_front : (event : Event) (w b b1 b2 b3 : List ℕ) (n e1 e2 e3 : ℕ) → w ≡ word_of event → n < 2 ^ 64 → length b ≡ 64 → Puts w 0 b e1 b1 → Puts (codes " ") e1 b1 e2 b2 → PutsDecimal n e2 b2 e3 b3 → Begun (word_of event ++ codes " " ++ decimal n) 64 e3 b3
laid_front event w b b1 b2 b3 n e1 e2 e3 q l h p1 p2 p3 =
    let few : length (word_of event) ≤ 11 = few_letters event in
    let g1 : Begun (word_of event) 64 e1 b1 = begun_more [] (word_of event) b b1 64 0 e1 (begun_none b 64 h) (omega arith) (subst (λ (s : List ℕ). Puts s 0 b e1 b1) q p1) in
    let g2 : Begun (word_of event ++ codes " ") 64 e2 b2 = begun_more (word_of event) (codes " ") b1 b2 64 e1 e2 g1 (omega arith) p2 in
    let two : length (word_of event ++ codes " ") ≡ length (word_of event) + 1 = length-append (word_of event) (codes " ") in
    begun_decimal (word_of event ++ codes " ") b2 b3 64 n e2 e3 l g2 (omega (arith, two)) p3

-- and a stray's number behind them
pub laid_number : (t b b1 b2 : List ℕ) (m e e1 e2 : ℕ) → m < 2 ^ 64 → length t ≤ 32 → Begun t 64 e b → Puts (codes " ") e b e1 b1 → PutsDecimal m e1 b1 e2 b2 → Begun (t ++ codes " " ++ decimal m) 64 e2 b2
laid_number t b b1 b2 m e e1 e2 l few g p1 p2 =
    let one : length (t ++ codes " ") ≡ length t + 1 = length-append t (codes " ") in
    begun_decimal (t ++ codes " ") b1 b2 64 m e1 e2 l (begun_more t (codes " ") b b1 64 e e1 g (omega arith) p1) (omega (arith, one)) p2

few_before : (event : Event) (n : ℕ) → n < 2 ^ 64 → length (word_of event ++ codes " " ++ decimal n) ≤ 32
few_before event n l =
    omega (arith, length-append (word_of event ++ codes " ") (decimal n), length-append (word_of event) (codes " "), few_letters event, length-decimal-le 20 n (omega arith) (omega arith) l)

pub said_alone : (event : Event) (n e : ℕ) (b : List ℕ) → number_behind event ≡ [] → Begun (word_of event ++ codes " " ++ decimal n) 64 e b → part_of b 0 e ≡ word_of event ++ codes " " ++ decimal n ++ number_behind event
said_alone event n e b none g =
    from_start b e ∙ g.holds ∙ sym (append-nil (word_of event ++ codes " " ++ decimal n)) ∙ ap (λ (s : List ℕ). word_of event ++ codes " " ++ decimal n ++ s) (sym none)

pub said_numbered : (event : Event) (n m e e1 e2 : ℕ) (b b1 b2 : List ℕ) → n < 2 ^ 64 → m < 2 ^ 64 → number_behind event ≡ codes " " ++ decimal m → Begun (word_of event ++ codes " " ++ decimal n) 64 e b → Puts (codes " ") e b e1 b1 → PutsDecimal m e1 b1 e2 b2 → part_of b2 0 e2 ≡ word_of event ++ codes " " ++ decimal n ++ number_behind event
said_numbered event n m e e1 e2 b b1 b2 l k behind g p1 p2 =
    let last : Begun (word_of event ++ codes " " ++ decimal n ++ codes " " ++ decimal m) 64 e2 b2 = laid_number _ b b1 b2 m e e1 e2 k (few_before event n l) g p1 p2 in
    from_start b2 e2 ∙ last.holds ∙ append_assoc (word_of event ++ codes " " ++ decimal n) (codes " ") (decimal m)
    ∙ ap (λ (s : List ℕ). word_of event ++ codes " " ++ decimal n ++ s) (sym behind)
