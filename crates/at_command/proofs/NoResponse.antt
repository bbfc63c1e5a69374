-- A line that begins as an unsolicited one or a command does is no response: every reader of responses refuses it, with 3.
use mathlib.Core.Path.{◌≡◌, refl, ap, sym, ◌∙◌}
use mathlib.Core.Bool.{Bool, true, false, ◌&&◌, ◌||◌}
use mathlib.Core.List.{List, [], ◌∷◌, ◌++◌}
use mathlib.Core.Option.{none}
use Prim.Native.Nat.{ℕ, zero, suc, ◌-◌}
use native.Mathlib.Omega.{arith}
use lib.Dec.{eqb}
use lib.ListN.{length, take, get_or, replicate}
use borrow.Author.Tests.{eqb-true, ne_eqb}
use Rattle.text.specs.Bytes.{bytes, starts_with, same, all_digits}
use Rattle.text.specs.Digit.{is_digit}
use Rattle.text.specs.Number.{digit_value, below, digits_of, magnitude, unsigned}
use Rattle.text.specs.Part.{among, trim_end}
use Rattle.text.specs.Reading.{Reading, read, refused, only, mapped}
use Rattle.text.proofs.Begins.{begins_with, begins_same}
use Rattle.text.proofs.Parts.{from_start}
use Rattle.text.proofs.Tests.{never, not_some, and_left, and_right, at_least, at_most}
use Rattle.text.proofs.Trims.{end_take}
use Rattle.text.proofs.Yields.{Yields, yields_only, yields_sized, yields_either, yields_need, yields_mapped}
use Rattle.at_command.specs.Ccid.{card_text, iccid_text}
use Rattle.at_command.specs.Cmgf.{cmgf_text}
use Rattle.at_command.specs.Cmgr.{cmgr_text}
use Rattle.at_command.specs.Cntp.{cntp_text}
use Rattle.at_command.specs.Cops.{cops_text}
use Rattle.at_command.specs.Cpsi.{cpsi_text}
use Rattle.at_command.specs.Csq.{csq_text}
use Rattle.at_command.specs.Generic.{ok_text, error_text, prompt_text, close_text}
use Rattle.at_command.specs.Gsn.{imei_text}
use Rattle.at_command.specs.Httptofs.{httptofs_text}
use Rattle.at_command.specs.Response.{Response, imei, readings}

-- the line begins with "A", as commands do, or with "+U", or "+C" and one of these letters, as unsolicited lines do
unfoldable pub reserved : List ℕ → Bool
reserved l = eqb (get_or l 0 0) 65 || (eqb (get_or l 0 0) 43 && (eqb (get_or l 1 0) 85 || (eqb (get_or l 1 0) 67 && among (bytes "RGE") (get_or l 2 0))))

-- ---- numbers and digits

take_first : (b n : ℕ) (p s : List ℕ) → starts_with (b ∷ p) (take n s) ≡ true → get_or s 0 0 ≡ b
unfolding starts_with
take_first b zero p s e = never (cc)
take_first b (suc n) p [] e = never (cc)
take_first b (suc n) p (x ∷ s) e = eqb-true x b (and_left _ _ e)

-- an "A", or a plus and no digit behind it: so no number
data Wordy (l : List ℕ) : Type 0 where
  letter : get_or l 0 0 ≡ 65 → Wordy l
  plus : get_or l 0 0 ≡ 43 → below 10 (digit_value (get_or l 1 0)) ≡ none → Wordy l

reserved_wordy : (l : List ℕ) → reserved l ≡ true → Wordy l
unfolding reserved digit_value
reserved_wordy l = by (eqb (get_or l 0 0) 65) (eqb (get_or l 1 0) 85) (eqb-true _ 65) (eqb-true _ 85)
  where
    by : (a t : Bool) → (a ≡ true → get_or l 0 0 ≡ 65) → (t ≡ true → get_or l 1 0 ≡ 85)
        → a || (eqb (get_or l 0 0) 43 && (t || (eqb (get_or l 1 0) 67 && among (bytes "RGE") (get_or l 2 0)))) ≡ true → Wordy l
    by true t f g e = letter (f refl)
    by false true f g e = plus (eqb-true _ 43 (and_left _ _ e)) (rw (g refl))
    by false false f g e = plus (eqb-true _ 43 (and_left _ _ e)) (rw (eqb-true (get_or l 1 0) 67 (and_left _ _ (and_right (eqb (get_or l 0 0) 43) _ e))))

magnitude_not : (max n : ℕ) (s : List ℕ) → below 10 (digit_value (get_or s 0 0)) ≡ none → magnitude 10 max (take n s) ≡ none
unfolding magnitude digits_of
magnitude_not max zero s h = refl
magnitude_not max (suc n) [] h = refl
magnitude_not max (suc n) (x ∷ s) h = rw h

unsigned_not : (max n : ℕ) (s : List ℕ) → Wordy s → unsigned 10 max (take n s) ≡ none
unfolding unsigned starts_with magnitude digits_of digit_value
unsigned_not max zero s h = refl
unsigned_not max (suc n) [] h = refl
unsigned_not max (suc n) (x ∷ s) (letter a) = let p : x ≡ 65 = a in rw p
unsigned_not max (suc n) (x ∷ s) (plus a h) = let p : x ≡ 43 = a in rw p (magnitude_not max n s h)

digits_front : (l : List ℕ) → all_digits l ≡ true → reserved l ≡ false
unfolding reserved
digits_front [] e = refl
digits_front (x ∷ s) e =
    let w = and_left (is_digit x) (all_digits s) e in
    rw (ne_eqb x 65 (λ z. omega (arith, at_most 48 57 x w)), ne_eqb x 43 (λ z. omega (arith, at_least 48 57 x w)))

-- ---- the readers

-- it refuses with 3
abbrev pub Refuses : {A : Type 0} → Reading A → Type 0
Refuses = Yields (λ a. ⊥) (λ k. k ≡ 3)

pub refuses_3 : {A : Type 0} (x : Reading A) → Refuses x → x ≡ refused 3
refuses_3 (read a) h = absurd h
refuses_3 (refused k) h = ap refused h

unless : {A : Type 0} (t : Bool) (q : Reading A) → (t ≡ true → ⊥) → Refuses (only t q)
unless t q f = yields_only _ _ t q refl (λ e. absurd (f e))

-- `front` holds of no line that begins with one of the texts of ten readers
pub record Wordless (front : List ℕ → Bool) : Type 0 where
  pub ok : (t : List ℕ) → front (bytes "OK" ++ t) ≡ false
  pub shut : (t : List ℕ) → front (bytes "SHUT OK" ++ t) ≡ false
  pub cme : (t : List ℕ) → front (bytes "+CME ERROR: " ++ t) ≡ false
  pub cms : (t : List ℕ) → front (bytes "+CMS ERROR: " ++ t) ≡ false
  pub error : (t : List ℕ) → front (bytes "ERROR" ++ t) ≡ false
  pub prompt : (t : List ℕ) → front (bytes "> " ++ t) ≡ false
  pub csq : (t : List ℕ) → front (bytes "+CSQ: " ++ t) ≡ false
  pub cpsi : (t : List ℕ) → front (bytes "+CPSI: " ++ t) ≡ false
  pub cops : (t : List ℕ) → front (bytes "+COPS: " ++ t) ≡ false
  pub cntp : (t : List ℕ) → front (bytes "+CNTP: " ++ t) ≡ false
  pub httptofs : (t : List ℕ) → front (bytes "+HTTPTOFS: " ++ t) ≡ false
  pub cmgf : (t : List ℕ) → front (bytes "+CMGF: " ++ t) ≡ false
  pub cmgr : (t : List ℕ) → front (bytes "+CMGR: " ++ t) ≡ false

-- so where it holds of the line, these ten refuse it
module _ (front : List ℕ → Bool) (w : Wordless front) (l : List ℕ) (h : front l ≡ true) where
  begins_not : (p : List ℕ) → ((t : List ℕ) → front (p ++ t) ≡ false) → starts_with p l ≡ true → ⊥
  begins_not p f e = let z : front l ≡ false = begins_with (λ (s : List ℕ). front s ≡ false) p l f e in never (cc)

  is_not : (p : List ℕ) → ((t : List ℕ) → front (p ++ t) ≡ false) → same l p ≡ true → ⊥
  is_not p f e = begins_not p f (begins_same p l e)

  prefixed : {A : Type 0} (p : List ℕ) → ((t : List ℕ) → front (p ++ t) ≡ false) → (q : Reading A) → Refuses (only (starts_with p l) q)
  prefixed p f q = unless (starts_with p l) q (begins_not p f)

  ok_no : Refuses (ok_text l)
  unfolding ok_text
  ok_no = yields_either _ _ _ _ _ (λ e. absurd (is_not (bytes "OK") w.ok e)) (λ e. unless _ _ (is_not (bytes "SHUT OK") w.shut))

  error_no : Refuses (error_text l)
  unfolding error_text
  error_no =
      yields_either _ _ _ _ _ (λ e. absurd (begins_not (bytes "+CME ERROR: ") w.cme e))
      (λ e. yields_either _ _ _ _ _ (λ e. absurd (begins_not (bytes "+CMS ERROR: ") w.cms e)) (λ e. unless _ _ (is_not (bytes "ERROR") w.error)))

  prompt_no : Refuses (prompt_text l)
  unfolding prompt_text
  prompt_no = unless _ _ (is_not (bytes "> ") w.prompt)

  -- whatever fallbacks are lent
  operator_no : (format name : List ℕ) → Refuses (cops_text format name l)
  unfolding cops_text
  operator_no format name = prefixed (bytes "+COPS: ") w.cops _

  next : {A : Type 0} (g : A → Response) (x : Reading A) {rs qs : List (Reading Response)} → Refuses x → rs ≡ qs → mapped g x ∷ rs ≡ refused 3 ∷ qs
  next g x {rs} {qs} r e = ap (λ (y : Reading Response). y ∷ rs) (refuses_3 (mapped g x) (yields_mapped _ _ g x r)) ∙ ap (λ (ys : List (Reading Response)). refused 3 ∷ ys) e

  -- and where two more do, what is left is the IMEI's
  pub but_imei : Refuses (close_text l) → Refuses (iccid_text l) → readings l ≡ replicate 10 (refused 3) ++ mapped imei (imei_text l) ∷ refused 3 ∷ refused 3 ∷ []
  unfolding readings csq_text cpsi_text cntp_text httptofs_text cmgf_text cmgr_text
  but_imei c i =
      next _ _ ok_no
      (next _ _ error_no
      (next _ _ prompt_no
      (next _ _ c
      (next _ _ i
      (next _ _ (prefixed (bytes "+CSQ: ") w.csq _)
      (next _ _ (prefixed (bytes "+CPSI: ") w.cpsi _)
      (next _ _ (operator_no (bytes "0") (bytes ""))
      (next _ _ (prefixed (bytes "+CNTP: ") w.cntp _)
      (next _ _ (prefixed (bytes "+HTTPTOFS: ") w.httptofs _)
      (ap (λ (rs : List (Reading Response)). mapped imei (imei_text l) ∷ rs)
      (next _ _ (prefixed (bytes "+CMGF: ") w.cmgf _)
      (next _ _ (prefixed (bytes "+CMGR: ") w.cmgr _)
      refl))))))))))))

-- ---- a line that begins as a command or an unsolicited one does

reserved_wordless : Wordless reserved
unfolding reserved
reserved_wordless =
    record { ok = λ t. refl; shut = λ t. refl; cme = λ t. refl; cms = λ t. refl; error = λ t. refl; prompt = λ t. refl; csq = λ t. refl; cpsi = λ t. refl; cops = λ t. refl; cntp = λ t. refl; httptofs = λ t. refl; cmgf = λ t. refl; cmgr = λ t. refl }

module _ (l : List ℕ) (h : reserved l ≡ true) where
  other : reserved l ≡ false → ⊥
  other e = never (cc)

  close_no : Refuses (close_text l)
  unfolding close_text
  close_no =
      let z = from_start l (length l - 10) in
      let k = unsigned_not 18446744073709551615 (length l - 10) l (reserved_wordy l h) in
      yields_only _ _ _ _ refl (λ e. yields_need _ _ _ _ refl (λ n e. not_some (sym k ∙ ap (unsigned 10 18446744073709551615) (sym z) ∙ e)))

  iccid_no : Refuses (iccid_text l)
  unfolding iccid_text card_text reserved
  iccid_no =
      yields_sized _ _ 19 20 _ _ refl (λ e. unless _ _ (λ e.
      let k = take_first 56 (length (trim_end (bytes "fF") l)) (57 ∷ []) l (ap (starts_with (bytes "89")) (end_take (bytes "fF") l) ∙ e) in
      other (rw k)))

  imei_no : Refuses (imei_text l)
  unfolding imei_text
  imei_no =
      yields_either _ _ _ _ _ (λ e. absurd (other (digits_front l (and_left _ _ e)))) (λ e. unless _ _ (λ e. other (digits_front l (and_left _ _ e))))

  pub no_operator : (format name : List ℕ) → cops_text format name l ≡ refused 3
  no_operator format name = refuses_3 (cops_text format name l) (operator_no reserved reserved_wordless l h format name)

  pub no_readings : readings l ≡ replicate 13 (refused 3)
  no_readings =
      but_imei reserved reserved_wordless l h close_no iccid_no
      ∙ ap (λ (x : Reading Response). replicate 10 (refused 3) ++ x ∷ refused 3 ∷ refused 3 ∷ []) (refuses_3 (mapped imei (imei_text l)) (yields_mapped _ _ imei (imei_text l) imei_no))
