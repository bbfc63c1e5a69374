-- No second answer keeps the contract of an exported call, and no second content of a lent part.
use Prim.Native.Nat.{ℕ}
use mathlib.Core.Path.{◌≡◌, refl, sym, ap, ◌∙◌}
use mathlib.Core.List.{List, []}
use lib.ListN.{replicate}
use Rattle.sim7000.specs.Parts.{ExportResetKeeps, ExportIsOpenKeeps, FeedLeft, ExportFeedKeeps}
use Rattle.sim7000.specs.Command.{WriteLeft, ExportWriteKeeps, OpenLeft, ExportOpenKeeps, ExportOpenEchoKeeps}

-- with `out` and `size`
-- one answer: sim7000_write_command
pub one_write : (request number code : ℕ) (first second out : List ℕ) (size r q : ℕ) (out' out'' : List ℕ) (size' size'' : ℕ) → ExportWriteKeeps request number code first second out size r out' size'
    → ExportWriteKeeps request number code first second out size q out'' size'' → (r ≡ q) × (out' ≡ out'') × (size' ≡ size'')
one_write request number code first second out size r q out' out'' size' size'' e f = let g = e ∙ sym f in
    (ap (λ (x : WriteLeft). x.answer) g, ap (λ (x : WriteLeft). x.out) g, ap (λ (x : WriteLeft). x.size) g)

-- with `state`, `out` and `size`
-- one answer: sim7000_open
pub one_open : (state : List ℕ) (request number code : ℕ) (first second out : List ℕ) (size r q : ℕ) (state' state'' out' out'' : List ℕ) (size' size'' : ℕ)
    → ExportOpenKeeps state request number code first second out size r state' out' size' → ExportOpenKeeps state request number code first second out size q state'' out'' size''
    → (r ≡ q) × (state' ≡ state'') × (out' ≡ out'') × (size' ≡ size'')
one_open state request number code first second out size r q state' state'' out' out'' size' size'' e f = let g = e (replicate 257 0) [] refl ∙ sym (f (replicate 257 0) [] refl) in
    (ap (λ (x : OpenLeft). x.answer) g, ap (λ (x : OpenLeft). x.state) g, ap (λ (x : OpenLeft). x.out) g, ap (λ (x : OpenLeft). x.size) g)

-- with `state`, `sent`, `out` and `size`
-- one answer: sim7000_open_echo
pub one_open_echo : (state sent : List ℕ) (request number code : ℕ) (first second out : List ℕ) (size r q : ℕ) (state' state'' sent' sent'' out' out'' : List ℕ) (size' size'' : ℕ)
    → ExportOpenEchoKeeps state sent request number code first second out size r state' sent' out' size' → ExportOpenEchoKeeps state sent request number code first second out size q state'' sent'' out'' size''
    → (r ≡ q) × (state' ≡ state'') × (sent' ≡ sent'') × (out' ≡ out'') × (size' ≡ size'')
one_open_echo state sent request number code first second out size r q state' state'' sent' sent'' out' out'' size' size'' e f = let g = e (replicate 257 0) refl ∙ sym (f (replicate 257 0) refl) in
    (ap (λ (x : OpenLeft). x.answer) g, ap (λ (x : OpenLeft). x.state) g, ap (λ (x : OpenLeft). x.sent) g, ap (λ (x : OpenLeft). x.out) g, ap (λ (x : OpenLeft). x.size) g)

-- with `line`, `state`, `text` and `told`
-- one answer: sim7000_feed
pub one_feed : (line state sent chunk text told : List ℕ) (r q : ℕ) (line' line'' state' state'' text' text'' told' told'' : List ℕ)
    → ExportFeedKeeps line state sent chunk text told r line' state' text' told' → ExportFeedKeeps line state sent chunk text told q line'' state'' text'' told''
    → (r ≡ q) × (line' ≡ line'') × (state' ≡ state'') × (text' ≡ text'') × (told' ≡ told'')
one_feed line state sent chunk text told r q line' line'' state' state'' text' text'' told' told'' e f = let g = e ∙ sym f in
    (ap (λ (z : FeedLeft). z.answer) g, ap (λ (z : FeedLeft). z.line) g, ap (λ (z : FeedLeft). z.state) g, ap (λ (z : FeedLeft). z.text) g, ap (λ (z : FeedLeft). z.told) g)

-- with `state`
-- one answer: sim7000_reset
pub one_reset : (state state' state'' : List ℕ) → ExportResetKeeps state state' → ExportResetKeeps state state'' → state' ≡ state''
one_reset state state' state'' e f = e ∙ sym f

-- one answer: sim7000_is_open
pub one_is_open : (state : List ℕ) (r q : ℕ) → ExportIsOpenKeeps state r → ExportIsOpenKeeps state q → r ≡ q
one_is_open state r q e f = e ∙ sym f
