-- The ends of a writer: each refusal, and the command that was laid. Assumes nothing.
use mathlib.Core.Path.{◌≡◌, refl, ap, sym, ◌∙◌}
use mathlib.Core.Bool.{Bool, true, false, cond, not}
use mathlib.Core.List.{List, [], ◌∷◌, ◌++◌}
use Prim.Native.Nat.{ℕ, ◌≤◌, ◌<◌}
use native.Mathlib.Nat.{zero-add}
use native.Mathlib.Omega.{arith}
use lib.ListN.{length, drop}
use lib.Dec.{ltb}
use borrow.Author.Tests.{lt-ltb, le-ltb, ltb-false, le-leb, ne_eqb, not-false}
use Rattle.text.specs.Bytes.{all_within, all_digits}
use Rattle.text.specs.Copy.{LayKeeps}
use Rattle.text.specs.Reading.{Reading, read, refused, mapped}
use Rattle.text.proofs.Copying.{whole_ends, whole_holds}
use Rattle.text.proofs.Ascii.{digits_printable}
use Rattle.text.specs.says.Refusal.{number_of}
use Rattle.text.specs.declared.refusal.Refusal.{Refusal}
use Rattle.text.proofs.Refusals.{some_refusal}
use Rattle.text.proofs.Tests.{neither}
use Rattle.at_command.specs.Request.{Asked, set_manual_operator, command_of, operator_number, Text, operator_up_to, texts_of, any_long, any_bad_operator, any_unfit, refusal_of, fitting, LeavesWritten, Writes}

-- a command that does not fit, and one that was laid
pub no_room : (c b : List ℕ) (n : ℕ) → n ≡ length c → length b < n → LeavesWritten (fitting c (length b)) b (refused 7) b
unfolding mapped
no_room c b n e h = rw (lt-ltb (length b) (length c) (omega arith)) (record { says = refl; holds = refl })

pub laid : (c b x : List ℕ) (e : ℕ) → length c ≤ length b → LayKeeps c 0 b e x → LeavesWritten (fitting c (length b)) b (read e) x
unfolding mapped
laid c b x e h l =
    rw (le-ltb (length b) (length c) h)
    (record {
      says = ap read (whole_ends c 0 b e x (omega arith) l ∙ zero-add (length c));
      holds = whole_holds c 0 b e x (omega arith) l ∙ ap (λ (n : ℕ). c ++ drop n b) (zero-add (length c));
    })

-- the texts of a request
module _ (t : Text) (ts : List Text) where
  short : (v : Bool) → length t.text ≤ t.most → any_long ts ≡ v → any_long (t ∷ ts) ≡ v
  short v h e = rw (le-ltb t.most (length t.text) h) e

  -- and back: where no text is too long or has another byte, neither this one nor those behind it
  pub limited : any_long (t ∷ ts) ≡ false → (length t.text ≤ t.most) × (any_long ts ≡ false)
  limited h = let l = neither (ltb t.most (length t.text)) (any_long ts) h in (ltb-false t.most (length t.text) l.0, l.1)

  pub fitted : any_unfit (t ∷ ts) ≡ false → (all_within 32 126 t.text ≡ true) × (any_unfit ts ≡ false)
  fitted h = let l = neither (not (all_within 32 126 t.text)) (any_unfit ts) h in (not-false _ l.0, l.1)

module _ (ts : List Text) where
  says_0 : any_long ts ≡ false → any_bad_operator ts ≡ false → any_unfit ts ≡ false → 0 ≡ refusal_of ts
  says_0 l m u = rw (l, m, u)

  -- and back: where the refusal is 0, no text has a fault
  pub record Faultless : Type 0 where
    pub short : any_long ts ≡ false
    pub numbered : any_bad_operator ts ≡ false
    pub fit : any_unfit ts ≡ false

  pub no_fault : refusal_of ts ≡ 0 → Faultless
  no_fault = go (any_long ts) (any_bad_operator ts) (any_unfit ts) refl refl refl
    where
      go : (l m u : Bool) → any_long ts ≡ l → any_bad_operator ts ≡ m → any_unfit ts ≡ u → ◌≡◌ {A = ℕ} (cond l 5 (cond m 12 (cond u 6 0))) 0 → Faultless
      go true m u p q r e = absurd (omega arith)
      go false true u p q r e = absurd (omega arith)
      go false false true p q r e = absurd (omega arith)
      go false false false p q r e = record { short = p; numbered = q; fit = r }

-- `cops::check_number`
module _ (p : List ℕ) where
  abbrev number : List Text
  number = texts_of (set_manual_operator p)

  module _ (h : length p ≤ 6) where
    not_long : any_long number ≡ false
    not_long = short (operator_up_to 6 p) [] false h refl

    module _ (k : 5 ≤ length p) (x : Bool) (is : x ≡ all_digits p) where
      number_is : operator_number p ≡ x
      number_is = rw (le-leb 5 (length p) k, le-leb (length p) 6 h, is)

      pub number_good : not x ≡ false → 0 ≡ refusal_of number
      number_good z = let d = not-false x z in says_0 number not_long (rw (number_is, d)) (rw (digits_printable p (sym is ∙ d)))

-- a request's writer: the texts come first
module _ (a : Asked) (b : List ℕ) where
  pub refuses : (k : Refusal) → number_of k ≡ refusal_of (texts_of a) → Writes a b (refused (number_of k)) b
  unfolding mapped
  refuses k is = rw (sym is, ne_eqb (number_of k) 0 (some_refusal k)) (record { says = refl; holds = refl })

  pub past_texts : 0 ≡ refusal_of (texts_of a) → (w : Reading ℕ) (x : List ℕ) → LeavesWritten (fitting (command_of a) (length b)) b w x → Writes a b w x
  past_texts is w x p = rw (sym is) p
