-- What going back may lead to, after a call: where lines stay, and where one comes. n is the number of pages. Assumes nothing.
use Prim.Native.Nat.{ℕ}
use mathlib.Core.Path.{◌≡◌, refl}
use mathlib.Core.Bool.{Bool, true, false}
use mathlib.Core.List.{List, [], ◌∷◌}
use Rattle.pages.specs.Geometry as Geometry
use Rattle.records.specs.declared.Record.{Record}
use Rattle.areas.specs.Areas.{Areas, received_count}
use Rattle.book.specs.Lines.{Line, is_left}
use Rattle.book.specs.Books.{Book, runs, counts_full}
use Rattle.collector.specs.Undo.{Item}
use Rattle.collector.proofs.Worlds.{Deep}
use Rattle.machine_calls.specs.Tables.{locks_of}
use Rattle.book_laws.specs.Seen.{touches}
use Rattle.book_laws.specs.Striking.{Every, done, and, Away, Backs, past}
use Rattle.book_laws.specs.Keeping.{In, Runs, Writers}
use Rattle.book_laws.proofs.Backing.{backs_every, backs_agree}
use Rattle.book_laws.proofs.Openness.{open_intro}
use Rattle.demand.proofs.State.{machine, Going}
use Rattle.demand.proofs.Notes.{Behind, notes_quiet}

-- a record that touches nothing
pub away_all : (r : Record) (us : List Item) → ((x : ℕ) → touches r x ≡ false) → Away r us
away_all r [] h = done
away_all r (u ∷ us) h = and (h u.o) (away_all r us h)

module _ (n : ℕ) (s : Areas) (b : Book) (g : Going n s b) where
  -- what t can take back is on pages that t writes
  pub items_own : Writers b (locks_of s.work n).wr → (t : ℕ) → Runs b t → Every (λ x. (locks_of s.work n).wr t (Geometry.page_of x) ≡ true) (g.stack t)
  items_own w t r = backs_every b.origin (counts_full b) (b.running t) _ b.lines (g.stack t) (g.backs t r)
      (λ l j e. w.writes t l.entry.object (open_intro b t l.entry.object r l j e refl))

  -- lines, transactions and log stay
  pub going_quiet : (s' : Areas) (b' : Book) → s'.log ≡ s.log → received_count s' ≡ received_count s → Behind n s.work s'.work
      → b'.origin ≡ b.origin → b'.lines ≡ b.lines → b'.running ≡ b.running → b'.marked ≡ b.marked → Deep (machine n s' b') g.stack → Going n s' b'
  unfolding runs
  going_quiet s' b' log counts words origin lines running marked deep = record {
    stack = g.stack;
    deep = deep;
    backs = λ t r. rw (origin, lines, running) (g.backs t (rw running at r));
    notes = notes_quiet n s b s' b' log counts words lines running marked g.notes;
  }

-- a line comes that is not one left of i; d: the test of what counts then
pub backs_past : (a : List ℕ) (c d : Line → Bool) (i : ℕ) (l : Line) (ls : List Line) (us : List Item) → is_left i l ≡ false → (d l ≡ true → Away l.entry us)
    → ((m : Line) → In m ls → (x : ℕ) → touches m.entry x ≡ true → d m ≡ c m) → Backs a c i ls us → Backs a d i (l ∷ ls) us
backs_past a c d i l ls us e w h k = past e w (backs_agree a c d i ls us h k)
