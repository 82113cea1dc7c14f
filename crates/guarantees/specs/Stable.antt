-- Document 01, 'Pages and objects': 'Each call of demand 3 makes at most one stable store, whole or absent: a page, or the stable count with
-- its records.' Of every call on every lent state. Assumes nothing.
use Rattle.std.specs.Prelude.{ℕ, ◌+◌, ◌*◌, ◌≤◌, ◌<◌, ◌≡◌, length}
use Rattle.pages.specs.Geometry.{page_at, page_words}
use Rattle.records.specs.Records.{record_words}
use Rattle.areas.specs.Areas.{Areas, stable_count}
use Rattle.areas.specs.Tables.{at}
use Rattle.calls.specs.Calls.{Call, perform}

-- word i is one of page p
abbrev pub OfPage : ℕ → ℕ → Type 0
OfPage p i = (page_at p ≤ i) × (i < page_at p + page_words)

-- the stored pages are s''s where page p was stored: it is the copy's, whole, and every other word stays
pub record PageStored (s s' : Areas) (p : ℕ) : Type 0 where
  pub size : length s'.stored ≡ length s.stored
  pub whole : (i : ℕ) → OfPage p i → at s'.stored i ≡ at s.copies i
  pub others : (i : ℕ) → (OfPage p i → ⊥) → at s'.stored i ≡ at s.stored i

-- 'a page, or the stable count'
pub data OneStore (s s' : Areas) : Type 0 where
  page : (p : ℕ) → PageStored s s' p → stable_count s' ≡ stable_count s → OneStore s s'
  count : s'.stored ≡ s.stored → OneStore s s'

-- '.. with its records': what is stable in the log stays, so that the count alone decides which records are
pub record AtMostOne (s s' : Areas) : Type 0 where
  pub store : OneStore s s'
  pub kept : (i : ℕ) → i < record_words * stable_count s → at s'.log i ≡ at s.log i

-- 'Each call of demand 3 makes at most one stable store, whole or absent'
abbrev pub OneStableStore : Type 0
OneStableStore = (s : Areas) (c : Call) → AtMostOne s (perform s c).after
