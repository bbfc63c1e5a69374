-- A line begins with a prefix p and the text d, as ": ", exactly when Rust's `split_once(d)` gives p before d, and what that gives behind it is then the rest
-- of the line: for every p in which no d begins with d behind it (`clear_of`), which is computed for each prefix. Assumes nothing.
use Rattle.std.proofs.Common.{◌≡◌, ℕ, ◌+◌, Bool, true, false, cond, not, List, [], ◌∷◌, ◌++◌, length, drop, sym, refl, ap, ◌∙◌, arith, length-append, eq-eqb}
use mathlib.Core.Option.{Option, none, some, map}
use lib.Seq.{drop-append_seam, drop-nil}
use borrow.Author.Tests.{not-true}
use Rattle.text.specs.Bytes.{bytes, starts_with}
use Rattle.text.specs.SplitOnce.{Halves, behind_byte, split_once, clear_of, all_clear, Agrees, AllAgree}
use Rattle.text.proofs.Tests.{not_some, and_left, and_right}
use Rattle.text.proofs.Begins.{begins_split, starts_in}

starts_self : (d t : List ℕ) → starts_with d (d ++ t) ≡ true
unfolding starts_with
starts_self [] t = refl
starts_self (c ∷ d) t = rw (eq-eqb c c refl) (starts_self d t)

module _ (d : List ℕ) where
  abbrev halves : List ℕ → List ℕ → Halves
  halves p t = record { before = p; after = t }

  split_here : (s : List ℕ) → starts_with d s ≡ true → split_once d s ≡ some (halves [] (drop (length d) s))
  unfolding split_once
  split_here [] e = rw e (ap (λ (t : List ℕ). some (halves [] t)) (sym (drop-nil (length d))))
  split_here (x ∷ s) e = rw e

  split_line : (p t : List ℕ) → clear_of d p ≡ true → split_once d ((p ++ d) ++ t) ≡ some (halves p t)
  unfolding split_once
  split_line [] t h = split_here (d ++ t) (starts_self d t) ∙ ap (λ (l : List ℕ). some (halves [] l)) (drop-append_seam d t)
  split_line (x ∷ p) t h =
      let far : starts_with d (x ∷ ((p ++ d) ++ t)) ≡ false = starts_in d (x ∷ (p ++ d)) t (omega (arith, length-append p d)) ∙ not-true _ (and_left _ _ h) in
      rw (far, split_line p t (and_right (not (starts_with d (x ∷ (p ++ d)))) _ h))

  -- a line that is split is its halves with d between them
  pub split_whole : (s : List ℕ) (h : Halves) → split_once d s ≡ some h → s ≡ (h.before ++ d) ++ h.after
  unfolding split_once
  split_whole [] h e = go (starts_with d []) (begins_split d []) e
    where
      go : (t : Bool) → (t ≡ true → [] ≡ d ++ drop (length d) []) → cond t (some (halves [] [])) none ≡ some h → [] ≡ (h.before ++ d) ++ h.after
      go true f i = let z : halves [] [] ≡ h = cc in rw (sym z) (f refl ∙ ap (λ (l : List ℕ). d ++ l) (drop-nil (length d)))
      go false f i = not_some i
  split_whole (x ∷ s) h e = go (starts_with d (x ∷ s)) (begins_split d (x ∷ s)) (split_once d s) (split_whole s) e
    where
      go : (t : Bool) → (t ≡ true → x ∷ s ≡ d ++ drop (length d) (x ∷ s)) → (o : Option Halves) → ((k : Halves) → o ≡ some k → s ≡ (k.before ++ d) ++ k.after)
          → cond t (some (halves [] (drop (length d) (x ∷ s)))) (map (behind_byte x) o) ≡ some h → x ∷ s ≡ (h.before ++ d) ++ h.after
      go true f o g i = let z : halves [] (drop (length d) (x ∷ s)) ≡ h = cc in rw (sym z) (f refl)
      go false f none g i = not_some i
      go false f (some k) g i = let z : behind_byte x k ≡ h = cc in rw (sym z) (ap (λ (l : List ℕ). x ∷ l) (g k refl))

  pub agrees : (p s : List ℕ) → clear_of d p ≡ true → Agrees d p s
  agrees p s h =
      record {
        gives = λ e.
            ap (split_once d) (begins_split (p ++ d) s e)
            ∙ split_line p (drop (length (p ++ d)) s) h
            ∙ ap (λ (n : ℕ). some (halves p (drop n s))) (length-append p d);
        begins = λ r e.
            let w : s ≡ (p ++ d) ++ r = split_whole s (halves p r) e in (
              ap (starts_with (p ++ d)) w ∙ starts_self (p ++ d) r,
              sym (ap (drop (length p + length d)) w ∙ ap (λ (n : ℕ). drop n ((p ++ d) ++ r)) (sym (length-append p d)) ∙ drop-append_seam (p ++ d) r),
            );
      }

  -- of several prefixes at once: `all_agree (bytes ": ") prefixes s refl`
  pub all_agree : (ps : List (List ℕ)) (s : List ℕ) → all_clear d ps ≡ true → AllAgree d ps s
  all_agree [] s h = tt
  all_agree (p ∷ ps) s h = (agrees p s (and_left (clear_of d p) (all_clear d ps) h), all_agree ps s (and_right (clear_of d p) (all_clear d ps) h))

-- so for the readers of the Rust that take a line apart by `split_once(": ")`; the others strip the whole text from its front
abbrev pub prefixes : List (List ℕ)
prefixes = bytes "+CMGF" ∷ bytes "+CMGR" ∷ bytes "+CREG" ∷ bytes "+CGREG" ∷ bytes "+CEREG" ∷ bytes "+UGNSINF" ∷ []

pub prefixes_agree : (s : List ℕ) → AllAgree (bytes ": ") prefixes s
unfolding starts_with
prefixes_agree s = all_agree (bytes ": ") prefixes s refl
