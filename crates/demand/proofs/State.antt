-- The store and its book read as the collector's state and as the log's, and the invariant over both. n is the number of pages.
-- Assumes nothing.
use Prim.Native.Nat.{ℕ, suc, ◌+◌, ◌*◌, ◌-◌, ◌≤◌, ◌<◌}
use mathlib.Core.Path.{◌≡◌}
use mathlib.Core.Bool.{true, false}
use mathlib.Core.List.{List}
use lib.ListN.{length, take, drop}
use Rattle.words.specs.Bits.{bit}
use Rattle.records.specs.declared.Record.{Record}
use Rattle.records.specs.Order.{open_in, log_sound}
use Rattle.areas.specs.Areas.{Areas, received_count, stable_count}
use Rattle.areas.specs.Layout.{reopening_page_at}
use Rattle.areas.specs.Tables.{at}
use Rattle.areas.specs.Entry.{pages, reopening}
use Rattle.book.specs.Lines.{pages_after}
use Rattle.book.specs.Books.{opened, awaiting, storing, Book, counts_full, committed_lines, committed_pages, full_pages}
use Rattle.book.specs.Pointers.{Leads}
use Rattle.collector.specs.Objects.{Obj, Whole}
use Rattle.collector.specs.State.{St}
use Rattle.collector.specs.Undo.{Stacks}
use Rattle.collector.proofs.Invariant as Collector
use Rattle.collector.proofs.Worlds.{Deep}
use Rattle.machine_view.specs.View.{view}
use Rattle.machine_calls.specs.Tables.{locks_of, tables_of, pass_of}
use Rattle.recovery_proof.specs.Lines as Log
use Rattle.recovery_proof.specs.Moves as Moves
use Rattle.recovery_proof.specs.Shapes.{shapes, recs}
use Rattle.recovery_proof.proofs.Invariant as Recovery
use Rattle.recovery_proof.proofs.Decided.{SameCells}
use Rattle.book_laws.specs.Seen.{counted, committed_of, seen, seen_committed, seen_full}
use Rattle.book_laws.specs.Striking.{entries, Backs}
use Rattle.book_laws.specs.Keeping.{SoundBook, Runs, BookInv, Writers}
use Rattle.demand.proofs.Notes.{Notes}
use Rattle.pages.specs.Geometry.{page_words, object_count}
use Rattle.records.specs.Records.{txn_count}

-- the collector's state: committed and full objects with their lines by the book, copies and tables by the words
abbrev pub machine : ℕ → Areas → Book → St
machine n s b = record {
  count = n;
  pages = record { cmt = λ x. (seen_committed b x).object; rec = λ x. (seen_full b x).object; cop = view s.copies };
  tags = record { cmt_tag = λ x. (seen_committed b x).tag; rec_tag = λ x. (seen_full b x).tag; now = suc (length b.lines) };
  locks = locks_of s.work n;
  tables = tables_of s.work n;
  pass = pass_of s.work n;
}

-- the log's state: the received records over a base
abbrev pub received : Areas → List Record
received s = recs s.log (received_count s)

abbrev pub stable : Areas → List Record
stable s = recs s.log (stable_count s)

abbrev pub logged : ℕ → Areas → Book → Moves.Log
logged n s b = record {
  full = λ x. (seen_full b x).object;
  comm = λ x. (seen_committed b x).object;
  wr = (locks_of s.work n).wr;
  act = (locks_of s.work n).act;
  lines = shapes (received s);
}

-- the words of the log and the book's newest lines; base: the objects that the log started from
pub record LogInv (n : ℕ) (s : Areas) (b : Book) (base : ℕ → Obj) : Type 0 where
  pub inv : Recovery.Inv base (logged n s b)
  -- the received records are the newest lines'
  pub few : received_count s ≤ length b.lines
  pub same : entries (take (received_count s) b.lines) ≡ received s
  -- the stable ones of both
  pub stable_few : stable_count s ≤ received_count s
  pub stable_same : b.stable + (received_count s - stable_count s) ≡ length b.lines
  -- the records by themselves and in order; those begun and not ended are active
  pub order : log_sound n s.log (received_count s) ≡ true
  pub open_ones : (t : ℕ) → t < txn_count → bit (open_in s.log (received_count s)) t ≡ (locks_of s.work n).act t
  -- what each part of the log that may be stable leaves, by the book
  pub part : (j : ℕ) → j ≤ received_count s - stable_count s → (x : ℕ)
      → Log.book base x Log.nobody (shapes (drop j (received s))) ≡ (seen b.origin (counted (drop j b.lines)) (drop j b.lines) x).object
  pub leads : (j : ℕ) → j ≤ received_count s - stable_count s → Leads (pages_after b.origin (committed_of (drop j b.lines))) (committed_of (drop j b.lines))
  -- stored pages and copies show the base where no stable, no received record writes
  pub stored : SameCells (stable s) (view s.stored) base
  pub copies : SameCells (received s) (view s.copies) base

-- what going back may lead to
pub record Going (n : ℕ) (s : Areas) (b : Book) : Type 0 where
  -- by transaction, what it can take back, newest first: the collector's invariant holds however much of it is
  pub stack : Stacks
  pub deep : Deep (machine n s b) stack
  -- these are the lines left
  pub backs : (t : ℕ) → Runs b t → Backs b.origin (counts_full b) (b.running t) b.lines (stack t)
  -- and so do the words say
  pub notes : Notes n s b

-- an open store
pub record OpenInv (n : ℕ) (s : Areas) (b : Book) : Type 0 where
  pub size : pages s ≡ n
  pub stage : b.stage ≡ opened
  pub word : reopening s ≡ 2
  pub collector : Collector.Inv (machine n s b)
  pub going : Going n s b
  pub book : BookInv b
  pub sound : SoundBook n b
  -- 'the received pages equal the full pages'
  pub full : s.received ≡ full_pages b
  -- what the book says is known, the tables know; who runs is active
  pub known : (t x : ℕ) → b.known t x ≡ true → (tables_of s.work n).kn t x ≡ true
  pub active : (t : ℕ) → (locks_of s.work n).act t ≡ true → Runs b t
  pub runs : (t : ℕ) → Runs b t → (locks_of s.work n).act t ≡ true
  pub writers : Writers b (locks_of s.work n).wr
  pub base : ℕ → Obj
  pub log : LogInv n s b base

-- a store that awaits its reopening, or the steps of one
pub record Waiting (n : ℕ) (s : Areas) (b : Book) : Type 0 where
  pub book : BookInv b
  pub sound : SoundBook n b
  pub idle : (t : ℕ) → b.running t ≡ 0
  pub forgot : (t x : ℕ) → b.known t x ≡ false
  pub all_stable : b.stable ≡ length b.lines
  -- the committed state is whole
  pub whole : Whole (object_count n) (suc (length b.lines)) (λ x. (seen_committed b x).object) (λ x. (seen_committed b x).tag)
  pub leads : Leads (committed_pages b) (committed_lines b)
  -- what is stored and stable gives the committed state
  pub order : log_sound n s.log (stable_count s) ≡ true
  pub gives : (x : ℕ) → Log.undo x Log.everyone (shapes (stable s)) (Log.replay (view s.stored) x (shapes (stable s))) ≡ (seen_committed b x).object

pub record AwaitInv (n : ℕ) (s : Areas) (b : Book) : Type 0 where
  pub size : pages s ≡ n
  pub stage : b.stage ≡ awaiting
  pub word : reopening s ≡ 0
  pub waiting : Waiting n s b

pub record StoringInv (n : ℕ) (s : Areas) (b : Book) (k : ℕ) : Type 0 where
  pub size : pages s ≡ n
  pub stage : b.stage ≡ storing k
  pub word : reopening s ≡ 1
  pub page : at s.work reopening_page_at ≡ k
  pub waiting : Waiting n s b
  pub received : s.received ≡ committed_pages b
  pub copies : s.copies ≡ committed_pages b
  pub counts : received_count s ≡ stable_count s
  -- the pages stored so far
  pub stored : (i : ℕ) → i < page_words * k → at s.stored i ≡ at (committed_pages b) i
  -- nobody is at work: the tables are clear
  pub clear : (i : ℕ) → 2 ≤ i → at s.work i ≡ 0

-- the invariant of demand 3
pub data Inv3 (n : ℕ) (s : Areas) (b : Book) : Type 0 where
  open_store : OpenInv n s b → Inv3 n s b
  cut_store : AwaitInv n s b → Inv3 n s b
  reopening_store : (k : ℕ) → k ≤ n → StoringInv n s b k → Inv3 n s b
