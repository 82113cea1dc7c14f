-- Document 02, L4: how many steps a pass takes, and the share of them that each of a number of commits owes. k is the number of pages
-- that a pass covers, n that of the store, m the number of commits. Assumes nothing.
use Rattle.std.specs.Prelude.{ℕ, ◌+◌, ◌/◌, ◌%◌, ◌≡◌, refl, true, ◌&&◌, List, [], ◌∷◌, length, eqb, leb, ltb}
use Rattle.words.specs.Tests.{if}
use Rattle.pages.specs.Geometry.{object_count}
use Rattle.areas.specs.declared.Refusal.TheVariants.{CommitsOutOfRange}
use Rattle.areas.specs.Answers.{Test, need, spares}
use Rattle.areas.specs.Areas.{Areas, Out}
use Rattle.areas.specs.Tables.{pass_pages}
use Rattle.areas.specs.Entry.{pages}
use Rattle.calls.specs.Looks.{Look, call_look}
use Rattle.calls.specs.Objects.{if_accepted}

-- 'A pass ends after at most 17 × P + 1 accepted steps: 16 × P objects scanned, one turn, P pages'
abbrev pub pass_bound : ℕ → ℕ
pass_bound k = object_count k + 1 + k

-- 'We spread the steps over a stated number n of commits, 1 to 4096.'
abbrev pub max_commits : ℕ
max_commits = 4096

-- 'Give the whole share, 17 × P + 1 divided by n'
abbrev pub share_whole : ℕ → ℕ → ℕ
share_whole k m = pass_bound k / m

-- 'and its remainder r, below n'
abbrev pub share_rest : ℕ → ℕ → ℕ
share_rest k m = pass_bound k % m

-- 'the first r commits owe one step more': what commit i owes, from 0
abbrev pub owed : ℕ → ℕ → ℕ → ℕ
owed k m i = share_whole k m + if (ltb i (share_rest k m)) 1 0

-- both in their buffer
abbrev pub share_of : ℕ → ℕ → List ℕ
share_of k m = share_whole k m ∷ share_rest k m ∷ []

-- the buffer's words
abbrev pub share_words : ℕ
share_words = 2

-- 'Errors: 17, n out of range, after 2.'
unfoldable pub pass_share_tests : ℕ → List Test
pass_share_tests m = need 17 CommitsOutOfRange (leb 1 m && leb m max_commits) ∷ []

-- refusal 1 is not among them
pub pass_share_spares : (m : ℕ) → spares 1 (pass_share_tests m) ≡ true
unfolding pass_share_tests spares
pass_share_spares m = refl

-- the value is the whole share
unfoldable pub pass_share_look : List ℕ → ℕ → Look
pass_share_look buffer m = record {
  own = eqb (length buffer) share_words;
  tests = λ s n. pass_share_tests m;
  value = λ s n. share_whole (pass_pages s.work n) m;
  spares_1 = λ s n. pass_share_spares m;
}

-- it only looks at the store
unfoldable pub call_pass_share : Areas → List ℕ → ℕ → Out
call_pass_share s buffer m = call_look s (pass_share_look buffer m)

-- a refused call keeps the buffer
unfoldable pub pass_share_after : Areas → List ℕ → ℕ → List ℕ
pass_share_after s buffer m = if_accepted (call_pass_share s buffer m).answer (share_of (pass_pages s.work (pages s)) m) buffer
