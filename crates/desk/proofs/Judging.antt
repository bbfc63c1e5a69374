-- Laws of the table and of the judge. Nothing is known of the readers.
use Prim.Native.Nat.{ℕ, ◌≤◌}
use mathlib.Core.Path.{◌≡◌, refl, sym, subst, ◌∙◌}
use mathlib.Core.Bool.{Bool, true, false, cond, ◌&&◌}
use mathlib.Core.List.{List, [], ◌∷◌}
use mathlib.Core.Option.{Option, none, some}
use native.Mathlib.Omega.{arith}
use lib.ListN.{length, drop}
use Rattle.text.specs.Reading.{Reading, read}
use denote.Enum.Declared.{tag_of}
use denote.Enum.Bare.{sameb}
use Rattle.at_command.specs.Kind.{Kind, generic_ok, sim_error, place_of}
use Rattle.at_command.specs.says.Request.{kind_says}
use Rattle.at_command.specs.contracts.request.ResponseKind.{the_type}
use Rattle.at_command.specs.declared.request.ResponseKind.{ResponseKind}
use Rattle.at_command.specs.declared.request.ResponseKind.TheVariants as K
use Rattle.trial.specs.Sort.{Sort, response, unsolicited, line_sort}
use Rattle.desk.specs.Lines.{Line, overlong, line}
use Rattle.desk.specs.Judge as J
use Rattle.desk.specs.Search.{Next}
use Rattle.desk.specs.Judge.{same_kind, Command, awaiting, echoing, idle, is_open, any_awaited, is_refused, is_response, is_next, is_unsolicited, Ruling, stays, closes, takes_next, table, is_echo, ruling, judge}
use Rattle.text.proofs.Tests.{never}

-- an unsolicited line is the command's in no case
pub table_unsolicited : (c : Command) → table c (read unsolicited) ≡ stays c J.Unsolicited
unfolding table
table_unsolicited c = by c.awaited
  where
    by : (ks : List Kind) → table (record { echo = c.echo; awaited = ks }) (read unsolicited) ≡ stays (record { echo = c.echo; awaited = ks }) J.Unsolicited
    by [] = refl
    by (k ∷ ks) = refl

-- the kinds have their places for tags, so that two are equal where they are the same
tag_place : (a : ResponseKind) → tag_of the_type a ≡ place_of (kind_says a)
tag_place K.GenericOk = refl
tag_place K.SimError = refl
tag_place K.WritePrompt = refl
tag_place K.CloseOk = refl
tag_place K.Iccid = refl
tag_place K.SignalQuality = refl
tag_place K.SystemInfo = refl
tag_place K.OperatorInfo = refl
tag_place K.NetworkTime = refl
tag_place K.DownloadInfo = refl
tag_place K.Imei = refl
tag_place K.SmsMessageFormat = refl
tag_place K.SmsMessage = refl

same_says : (a b : ResponseKind) → same_kind (kind_says a) (kind_says b) ≡ sameb the_type a b
same_says a b = rw (tag_place a, tag_place b)

-- a response, where this answer is awaited next
table_response : {ks : List Kind} {next : Kind} {taken : Ruling} (k : Kind) → Next ks next taken
    → table (awaiting ks) (read (response k))
    ≡ cond (same_kind k sim_error) (closes J.Failed) (cond (same_kind k next) taken (cond (same_kind k generic_ok) (closes J.Short) (stays (awaiting ks) (J.Stray 0))))
unfolding table
table_response {ks = []} k is = let e = is.first in never (cc)
table_response {ks = n ∷ ks} {next} k is = let e : n ≡ next = (let f = is.first in cc) in rw (is.takes, e)

-- as the code tests it
pub table_tested : {ks : List Kind} {taken : Ruling} (k next : ResponseKind) → Next ks (kind_says next) taken
    → {u v w : Bool} → u ≡ sameb the_type k K.SimError → v ≡ sameb the_type k next → w ≡ sameb the_type k K.GenericOk
    → table (awaiting ks) (read (response (kind_says k))) ≡ cond u (closes J.Failed) (cond v taken (cond w (closes J.Short) (stays (awaiting ks) (J.Stray 0))))
table_tested k next is e f g = table_response (kind_says k) is ∙ rw (same_says k K.SimError, same_says k next, same_says k K.GenericOk, e, f, g)

-- what holds of each row's ruling holds of the table's
table_cases : (P : Ruling → Type 0) (c : Command) (s : Reading Sort) → P (stays c (J.Stray (J.number_of s))) → P (closes J.Failed) → P (takes_next c.awaited) → P (closes J.Short)
    → P (stays c J.Unsolicited) → P (stays c (J.Stray 0)) → P (table c s)
unfolding table
table_cases P c s strays fails takes shorts unasked other =
    go (is_refused s) (is_open c && is_response sim_error s) (is_next c.awaited s) (is_open c && is_response generic_ok s) (is_unsolicited s)
  where
    go : (t u v w x : Bool)
        → P
        (cond t (stays c (J.Stray (J.number_of s)))
        (cond u (closes J.Failed) (cond v (takes_next c.awaited) (cond w (closes J.Short) (cond x (stays c J.Unsolicited) (stays c (J.Stray 0)))))))
    go true u v w x = strays
    go false true v w x = fails
    go false false true w x = takes
    go false false false true x = shorts
    go false false false false true = unasked
    go false false false false false = other

-- no row tells Overlong
table_event : (c : Command) (s : Reading Sort) → (table c s).event ≡ J.Overlong → ⊥
table_event c s =
    table_cases (λ r. r.event ≡ J.Overlong → ⊥) c s (λ e. never (cc)) (λ e. never (cc)) (last (any_awaited (drop 1 c.awaited))) (λ e. never (cc)) (λ e. never (cc)) (λ e. never (cc))
  where
    last : (t : Bool) → cond t J.Taken J.Done ≡ J.Overlong → ⊥
    last true e = never (cc)
    last false e = never (cc)

-- where no echo is awaited none is after a line, and an idle desk stays idle
pub table_plain : (ks : List Kind) (s : Reading Sort) → (table (awaiting ks) s).command.echo ≡ none
table_plain ks s = table_cases (λ r. r.command.echo ≡ none) (awaiting ks) s refl refl refl refl refl refl

pub table_idle : (s : Reading Sort) → (table idle s).command ≡ idle
table_idle s = table_cases (λ r. r.command ≡ idle) idle s refl refl refl refl refl refl

-- ---- a line while an echo is awaited, and while none is

module _ (sort_of : List ℕ → Reading Sort) where
  pub ruled_echo : (sent : List ℕ) (ks : List Kind) (l : List ℕ) → is_echo sent l ≡ true → ruling sort_of (some sent) ks l ≡ record { command = awaiting ks; event = J.Echo }
  unfolding ruling
  ruled_echo sent ks l e = rw e

  pub ruled_early : (sent : List ℕ) (ks : List Kind) (l : List ℕ) → is_echo sent l ≡ false → ruling sort_of (some sent) ks l ≡ stays (echoing sent ks) (table idle (sort_of l)).event
  unfolding ruling
  ruled_early sent ks l e = rw e

  -- what holds of the table's ruling, of the echo's and of those before it holds of every line's
  ruling_cases : (P : Ruling → Type 0) (o : Option (List ℕ)) (ks : List Kind) (l : List ℕ) → P (table (awaiting ks) (sort_of l)) → P (record { command = awaiting ks; event = J.Echo })
      → P (stays (record { echo = o; awaited = ks }) (table idle (sort_of l)).event) → P (ruling sort_of o ks l)
  unfolding ruling
  ruling_cases P none ks l p q r = p
  ruling_cases P (some sent) ks l p q r = by (is_echo sent l)
    where
      by : (t : Bool) → P (cond t (record { command = awaiting ks; event = J.Echo }) (stays (echoing sent ks) (table idle (sort_of l)).event))
      by true = q
      by false = r

  -- no line is Overlong
  pub ruling_event : (o : Option (List ℕ)) (ks : List Kind) (l : List ℕ) → (ruling sort_of o ks l).event ≡ J.Overlong → ⊥
  ruling_event o ks l =
      ruling_cases (λ r. r.event ≡ J.Overlong → ⊥) o ks l (table_event (awaiting ks) (sort_of l)) (λ e. never (cc)) (table_event idle (sort_of l))

  -- the echo after a line is none, or the one before it
  pub echo_after : (P : Option (List ℕ) → Type 0) → P none → (c : Command) → P c.echo → (l : Line) → P (judge sort_of c l).command.echo
  unfolding judge
  echo_after P p c h overlong = h
  echo_after P p c h (line l) =
      ruling_cases (λ r. P r.command.echo) c.echo c.awaited l (subst P (sym (table_plain c.awaited (sort_of l))) p) p h

-- ---- the command awaits at most as many answers after a line as before it

abbrev pub Few : List Kind → List Kind → Type 0
Few ks ks' = length ks' ≤ length ks

few_drop : (ks : List Kind) → Few ks (drop 1 ks)
few_drop [] = omega arith
few_drop (k ∷ ks) = omega arith

table_few : (c : Command) (s : Reading Sort) → Few c.awaited (table c s).command.awaited
table_few c s = table_cases (λ r. Few c.awaited r.command.awaited) c s (omega arith) (omega arith) (few_drop c.awaited) (omega arith) (omega arith) (omega arith)

pub judge_few : (c : Command) (l : Line) → Few c.awaited (judge line_sort c l).command.awaited
unfolding judge
judge_few c overlong = omega arith
judge_few c (line l) =
    ruling_cases line_sort (λ r. Few c.awaited r.command.awaited) c.echo c.awaited l (table_few (awaiting c.awaited) (line_sort l)) (omega arith) (omega arith)
