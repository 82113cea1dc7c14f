-- What an accepted call must have found, by name: the lemmas that a call keeps the invariant ask for these. Assumes nothing.
use Prim.Native.Nat.{ℕ, ◌≤◌, ◌<◌}
use mathlib.Core.Path.{◌≡◌}
use mathlib.Core.Bool.{Bool, true, false}
use mathlib.Core.Logic.{◌⊎◌}
use borrow.Author.Tests.{eqb-true}
use Rattle.collector.specs.Bits.{and_l, and_r, not_true}
use Rattle.collector.specs.Objects.{Obj, is_ref, points, txns, page_of, Path}
use Rattle.collector.specs.State.{marking, sweeping, grey, is_white, St, objects, carried, holds}
use Rattle.collector.specs.Calls.{copying, owns, dead}
use Rattle.collector.proofs.Invariant.{Unwritten}

-- n bounds the book's lines after the call, m is the line that the call writes
pub record BeginFacts (s : St) (t n : ℕ) : Type 0 where
  pub small : t < txns
  pub inactive : s.locks.act t ≡ false
  pub line : s.tags.now ≤ n

pub record CommitFacts (s : St) (t n : ℕ) : Type 0 where
  pub flushed : (p : ℕ) → p < s.count → s.tables.dirty t p ≡ false
  pub line : s.tags.now ≤ n

pub record AbortFacts (s : St) (t n : ℕ) : Type 0 where
  pub line : s.tags.now ≤ n

pub record LockrFacts (s : St) (t p : ℕ) : Type 0 where
  pub active : s.locks.act t ≡ true
  pub no_writer : (u : ℕ) → u < txns → s.locks.wr u p ≡ true → u ≡ t

pub record LockwFacts (s : St) (t p : ℕ) : Type 0 where
  pub active : s.locks.act t ≡ true
  pub page : p < s.count
  pub no_writer : (u : ℕ) → u < txns → s.locks.wr u p ≡ true → u ≡ t
  pub no_reader : (u : ℕ) → u < txns → s.locks.rd u p ≡ true → u ≡ t

-- objects that t comes to know
pub record LearnFacts (s : St) (t : ℕ) (q : ℕ → Bool) : Type 0 where
  pub knows : (x : ℕ) → q x ≡ true → ((s.tables.cot t x ≡ true) × ((s.pages.rec x).occ ≡ true)) ⊎ Path s.pages.cmt (holds s.locks.wr s.locks.rd t) x

pub record ReadFacts (s : St) (t o : ℕ) : Type 0 where
  pub lock : holds s.locks.wr s.locks.rd t (page_of o) ≡ true
  pub known : s.tables.kn t o ≡ true

-- an object that is to be created
pub record EntryFacts (s : St) (t o m : ℕ) : Type 0 where
  pub ranged : o ≤ objects s
  pub own : owns s t o ≡ true
  pub out : (s.pages.cmt o).occ ≡ false
  pub line : s.tags.now ≤ m

pub record CreateFacts (s : St) (t o m : ℕ) : Type 0 where
  pub ranged : o ≤ objects s
  pub own : owns s t o ≡ true
  pub free : (s.pages.rec o).occ ≡ false
  pub line : s.tags.now ≤ m

-- references that are to be taken away
pub record CutFacts (s : St) (q : ℕ → Bool) (m : ℕ) : Type 0 where
  pub ranged : (x : ℕ) → q x ≡ true → (1 ≤ x) × (x ≤ objects s)
  pub line : s.tags.now ≤ m

pub record SetFacts (s : St) (t o f v m : ℕ) : Type 0 where
  pub own : owns s t o ≡ true
  pub known : s.tables.kn t o ≡ true
  pub target : is_ref (s.pages.rec o) f ≡ true → (v ≡ 0) ⊎ (s.tables.kn t v ≡ true)
  pub line : s.tags.now ≤ m

-- a page that t writes takes the objects of d
pub record CopyFacts (s : St) (t p : ℕ) (d : ℕ → Obj) (dirty : ℕ → ℕ → Bool) : Type 0 where
  pub own : s.locks.wr t p ≡ true
  pub ranged : (o x : ℕ) → points (d o) x ≡ true → x ≤ objects s
  pub kept : (u o x : ℕ) → s.locks.wr u (page_of o) ≡ true → points (s.pages.cmt o) x ≡ true → (points (d o) x ≡ true) ⊎ (s.tables.prt u x ≡ true)
  pub clean : (u o : ℕ) → s.locks.wr u (page_of o) ≡ true → dirty u (page_of o) ≡ false → (copying s p d dirty).pages.cop o ≡ s.pages.rec o

pub record FlushFacts (s : St) (t p : ℕ) : Type 0 where
  pub own : s.locks.wr t p ≡ true

pub record MarkFacts (s : St) (o : ℕ) : Type 0 where
  pub phase : s.pass.phase ≡ marking
  pub colour : s.pass.col o ≡ grey

pub record TurnFacts (s : St) : Type 0 where
  pub phase : s.pass.phase ≡ marking
  pub no_grey : (o : ℕ) → 1 ≤ o → o ≤ objects s → s.pass.col o ≡ grey → ⊥

pub record SkipFacts (s : St) : Type 0 where
  pub phase : s.pass.phase ≡ sweeping

-- of the locks, only that nobody writes the page
pub record SweepFacts (s : St) (m : ℕ) : Type 0 where
  pub phase : s.pass.phase ≡ sweeping
  pub free : Unwritten s.locks.wr s.pass.at
  pub line : s.tags.now ≤ m

-- what a sweep frees
pub record DeadFacts (s : St) (x : ℕ) : Type 0 where
  pub page : page_of x ≡ s.pass.at
  pub white : is_white (s.pass.col x) ≡ true
  pub free : carried s.tables.cot s.tables.cot_f x ≡ false

pub dead_facts : (s : St) (x : ℕ) → dead s x ≡ true → DeadFacts s x
dead_facts s x d = record { page = eqb-true _ _ (and_l _ _ (and_l _ _ (and_l _ _ d))); white = and_r _ _ (and_l _ _ d); free = not_true _ (and_r _ _ d) }
