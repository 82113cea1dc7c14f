-- Document 02, L4: the share of a pass that each of a number of commits owes. What the call shows, on every store; that the shares add up;
-- and over lists, by a ledger of the commits and steps since the start, that a pass whose commits were each followed by what they owe is
-- over. k is the number of pages that the pass covers, m the number of commits. Assumes nothing.
use Rattle.std.specs.Prelude.{ℕ, suc, ◌+◌, ◌*◌, ◌≤◌, ◌<◌, ◌≡◌, false, List, [], ◌∷◌, Ok}
use Rattle.words.specs.Tests.{sum}
use Rattle.areas.specs.Areas.{Areas}
use Rattle.areas.specs.Layout.{steps_top}
use Rattle.areas.specs.Tables.{pass_runs}
use Rattle.calls.specs.PassShares.{max_commits, share_whole, share_rest, owed, pass_share_look, call_pass_share, pass_share_after}
use Rattle.calls.specs.Calls.{perform, look}
use Rattle.book.specs.Feeding.{put}
use Rattle.book.specs.Demand.{Point}
use Rattle.guarantees.specs.Ledgers.{Ledger, AlwaysKept}
use Rattle.guarantees.specs.Steps.{Part, starts, steps, stops, commits, other, part_of, covered_in}

-- the call is one of those that demand 3's lists are made of: it only looks
abbrev pub ShareIsACall : Type 0
ShareIsACall = (s : Areas) (buffer : List ℕ) (m : ℕ) → perform s (look (pass_share_look buffer m)) ≡ call_pass_share s buffer m

-- accepted: 'the whole share, 17 × P + 1 divided by n, and its remainder r', of n 'commits, 1 to 4096'
pub record ShowsShare (s : Areas) (buffer : List ℕ) (m v : ℕ) : Type 0 where
  pub some : 1 ≤ m
  pub few : m ≤ max_commits
  pub value : v ≡ share_whole (covered_in s) m
  pub shown : pass_share_after s buffer m ≡ share_whole (covered_in s) m ∷ share_rest (covered_in s) m ∷ []

abbrev pub ShareShown : Type 0
ShareShown = (s : Areas) (buffer : List ℕ) (m v : ℕ) → (call_pass_share s buffer m).answer ≡ Ok v → ShowsShare s buffer m v

-- '17 × P + 1 divided by n, and its remainder r, below n: the first r commits owe one step more': together they owe the bound, no more and
-- no less
pub record AddsUp (k m : ℕ) : Type 0 where
  pub divided : share_whole k m * m + share_rest k m ≡ steps_top k + 1
  pub below : share_rest k m < m
  pub all : sum (owed k m) m ≡ steps_top k + 1

abbrev pub SharesAddUp : Type 0
SharesAddUp = (k m : ℕ) → 1 ≤ m → AddsUp k m

-- since the start of the pass: the accepted commits, and the accepted steps while so many commits had been accepted
pub record Spread : Type 0 where
  pub made : ℕ
  pub after : ℕ → ℕ

-- at the start, and after what ended the pass early: none
abbrev pub unspread : Spread
unspread = record { made = 0; after = λ i. 0 }

-- after an accepted call: a step is one of those after the last commit
abbrev pub spreading : Spread → Part → Spread
spreading l starts = unspread
spreading l steps = record { made = l.made; after = put l.after l.made (suc (l.after l.made)) }
spreading l stops = unspread
spreading l commits = record { made = suc l.made; after = l.after }
spreading l other = l

-- kept from the list alone
abbrev pub spread : Ledger Spread
spread = record { first = unspread; enters = λ l c r. spreading l (part_of c); drops = λ l. unspread }

-- each of the first m commits was followed, before the next, by the steps that it owes
abbrev pub Paid : ℕ → ℕ → Spread → Type 0
Paid k m l = (i : ℕ) → i < m → owed k m i ≤ l.after (suc i)

-- then no pass runs
abbrev pub Shared : Point → Spread → Type 0
Shared q l = (m : ℕ) → 1 ≤ m → Paid (covered_in q.store) m l → pass_runs q.store.work ≡ false

abbrev pub AlwaysShared : Type 0
AlwaysShared = AlwaysKept Spread spread Shared
