-- What stays where changes of t are undone: n is the number of pages. Assumes nothing.
use Prim.Native.Nat.{ℕ, ◌≤◌, ◌<◌}
use native.Mathlib.Nat.{le_refl, le_trans}
use mathlib.Core.Path.{◌≡◌, refl, sym, ap, ◌∙◌}
use mathlib.Core.Bool.{Bool, true, false}
use lib.ListN.{length}
use lib.Dec.{eqb}
use Rattle.areas.specs.Areas.{Areas, received_count}
use Rattle.areas.specs.Layout.{table_words, undoing_from}
use Rattle.areas.specs.Ranges.{pages_in}
use Rattle.areas.specs.Tables.{at}
use Rattle.acceptance.specs.Lengths.{Sized}
use Rattle.book.specs.Books.{Book}
use Rattle.collector.specs.Calls.{without}
use Rattle.collector.specs.State.{Phase}
use Rattle.machine_calls.specs.Tables.{locks_of, tables_of, pass_of}
use Rattle.book_laws.specs.Keeping.{Runs, openly}
use Rattle.demand.proofs.State.{OpenInv}
use Rattle.demand.proofs.LeftRecords.{left_records}
use Rattle.demand.proofs.Notes.{left_entries}

-- areas of the same lengths
pub sized_same : (s s' : Areas) (n : ℕ) → length s'.stored ≡ length s.stored → length s'.copies ≡ length s.copies → length s'.received ≡ length s.received
    → length s'.log ≡ length s.log → length s'.counts ≡ length s.counts → length s'.work ≡ length s.work → Sized s n → Sized s' n
sized_same s s' n a b c d e f z = record {
  count = ap pages_in a ∙ z.count;
  low = z.low;
  top = z.top;
  stored_len = a ∙ z.stored_len;
  copies_len = b ∙ z.copies_len;
  received_len = c ∙ z.received_len;
  log_low = rw d z.log_low;
  log_top = rw d z.log_top;
  log_len = rw d z.log_len;
  counts_len = e ∙ z.counts_len;
  work_len = rw d (f ∙ z.work_len);
  tables = rw f z.tables;
  undoing = rw (d, f) z.undoing;
}

-- the store s and the book b after changes of t were undone, from s₀ and b₀ on
pub record Went (n t : ℕ) (s₀ : Areas) (b₀ : Book) (s : Areas) (b : Book) : Type 0 where
  pub kept : OpenInv n s b
  pub sized : Sized s n
  pub running : b.running ≡ b₀.running
  pub marked : b.marked ≡ b₀.marked
  pub opens : (u x : ℕ) → openly b u x ≡ true → openly b₀ u x ≡ true
  -- of others nothing else is left
  pub others : (c : ℕ → Bool) (u : ℕ) → eqb u t ≡ false → left_records c s.log u (received_count s) ≡ left_records c s₀.log u (received_count s₀)
  pub lines_others : (u : ℕ) → Runs b₀ u → eqb u t ≡ false → left_entries b u ≡ left_entries b₀ u
  -- the words
  pub longer : received_count s₀ ≤ received_count s
  pub locks : locks_of s.work n ≡ locks_of s₀.work n
  pub pass : pass_of s.work n ≡ pass_of s₀.work n
  pub tables : (ph : Phase) → without (tables_of s.work n) ph t ≡ without (tables_of s₀.work n) ph t
  pub marks : (j : ℕ) → table_words n ≤ j → j < undoing_from n → at s.work j ≡ at s₀.work j
  pub size : length s.log ≡ length s₀.log
  pub copies : s.copies ≡ s₀.copies

pub went_none : (n t : ℕ) (s : Areas) (b : Book) → OpenInv n s b → Sized s n → Went n t s b s b
went_none n t s b i z = record {
  kept = i;
  sized = z;
  running = refl;
  marked = refl;
  opens = λ u x e. e;
  others = λ c u e. refl;
  lines_others = λ u r e. refl;
  longer = le_refl _;
  locks = refl;
  pass = refl;
  tables = λ ph. refl;
  marks = λ j l h. refl;
  size = refl;
  copies = refl;
}

pub went_more : (n t : ℕ) (s₀ : Areas) (b₀ : Book) (s₁ : Areas) (b₁ : Book) (s : Areas) (b : Book) → Went n t s₀ b₀ s₁ b₁ → Went n t s₁ b₁ s b → Went n t s₀ b₀ s b
went_more n t s₀ b₀ s₁ b₁ s b p q = record {
  kept = q.kept;
  sized = q.sized;
  running = q.running ∙ p.running;
  marked = q.marked ∙ p.marked;
  opens = λ u x e. p.opens u x (q.opens u x e);
  others = λ c u e. q.others c u e ∙ p.others c u e;
  lines_others = λ u r e. q.lines_others u (λ z. r (sym (ap (λ (f : ℕ → ℕ). f u) p.running) ∙ z)) e ∙ p.lines_others u r e;
  longer = le_trans p.longer q.longer;
  locks = q.locks ∙ p.locks;
  pass = q.pass ∙ p.pass;
  tables = λ ph. q.tables ph ∙ p.tables ph;
  marks = λ j l h. q.marks j l h ∙ p.marks j l h;
  size = q.size ∙ p.size;
  copies = q.copies ∙ p.copies;
}
