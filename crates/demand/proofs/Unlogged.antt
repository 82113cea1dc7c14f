-- A call that appends nothing: the invariant after it, from the parts that it changes. n is the number of pages. Assumes nothing.
use Prim.Native.Nat.{ℕ}
use mathlib.Core.Path.{◌≡◌, refl, sym, ap, ◌∙◌}
use mathlib.Core.Bool.{Bool, true}
use mathlib.Core.List.{List}
use lib.ListN.{length}
use Rattle.areas.specs.Areas.{Areas, areas, with_copies, with_work}
use Rattle.areas.specs.Layout.{reopening_at}
use Rattle.areas.specs.Ranges.{pages_in}
use Rattle.areas.specs.Tables.{at}
use Rattle.book.specs.Books.{Book, runs, full_lines}
use Rattle.collector.specs.Objects.{Obj}
use Rattle.collector.specs.State.{St, Locks}
use Rattle.collector.specs.Undo.{Stacks}
use Rattle.collector.proofs.Worlds.{Deep, inv_of, deep_same}
use Rattle.machine_view.specs.View.{view}
use Rattle.machine_calls.specs.Tables.{locks_of, tables_of}
use Rattle.machine_calls.proofs.Shows.{Shows}
use Rattle.recovery_proof.proofs.Invariant as Recovery
use Rattle.recovery_proof.proofs.Decided.{SameCells}
use Rattle.book_laws.specs.Seen.{seen_committed, seen_full}
use Rattle.book_laws.specs.Keeping.{BookInv, openly}
use Rattle.demand.proofs.State.{machine, received, logged, LogInv, OpenInv}
use Rattle.demand.proofs.Notes.{Behind, Notes, notes_quiet}
use Rattle.demand.proofs.NoRecord.{log_quiet}

-- the machine's state st with copies c and working words w: its objects and tags are those of before
pub record Keeping (n : ℕ) (s : Areas) (b : Book) (base : ℕ → Obj) (us : Stacks) (c w : List ℕ) (st : St) : Type 0 where
  pub shows : Shows w n st
  pub keeps : Deep st us
  pub pages : st.pages ≡ record { cmt = λ x. (seen_committed b x).object; rec = λ x. (seen_full b x).object; cop = view c }
  pub tags : st.tags ≡ (machine n s b).tags
  pub word : at w reopening_at ≡ at s.work reopening_at
  pub knows : (t x : ℕ) → (tables_of s.work n).kn t x ≡ true → (tables_of w n).kn t x ≡ true
  pub cells : SameCells (received s) (view c) base
  pub notes : Notes n (with_work (with_copies s c) w) b

-- words behind the tables stay
pub notes_kept : (n : ℕ) (s : Areas) (b : Book) → OpenInv n s b → (c w : List ℕ) → Behind n s.work w → Notes n (with_work (with_copies s c) w) b
notes_kept n s b i c w h = notes_quiet n s b (with_work (with_copies s c) w) b refl refl h refl refl refl i.going.notes

module _ (n : ℕ) (s : Areas) (b : Book) (i : OpenInv n s b) (c w : List ℕ) (st : St) (k : Keeping n s b i.base i.going.stack c w st) where
  abbrev pub beside : Areas
  beside = with_work (with_copies s c) w

  -- there may be more write locks
  pub open_locked : ((t : ℕ) → (locks_of w n).act t ≡ (locks_of s.work n).act t)
      → ((t p : ℕ) → (locks_of s.work n).wr t p ≡ true → (locks_of w n).wr t p ≡ true)
      → Recovery.Inv i.base (logged n beside b) → OpenInv n beside b
  open_locked acts grows h =
      let d : Deep (machine n beside b) i.going.stack = deep_same st (machine n beside b) i.going.stack (sym k.shows.count) (sym k.pages) (sym k.tags)
      (sym k.shows.locks) (sym k.shows.tables) (sym k.shows.pass) k.keeps in
      let m = inv_of (d 0) in
      record {
        size = i.size;
        stage = i.stage;
        word = k.word ∙ i.word;
        collector = m;
        going = record { stack = i.going.stack; deep = d; backs = i.going.backs; notes = k.notes };
        book = i.book;
        sound = i.sound;
        full = i.full;
        known = λ t x e. k.knows t x (i.known t x e);
        active = λ t e. i.active t (sym (acts t) ∙ e);
        runs = λ t r. acts t ∙ i.runs t r;
        writers = record { writes = λ t x o. grows t _ (i.writers.writes t x o); one = m.exclusive.sole };
        base = i.base;
        log = log_quiet n s b i.base i.log beside b (record { log = refl; counts = refl; stored = refl; origin = refl; lines = refl; stable_lines = refl; running = refl }) h acts k.cells;
      }

  -- who is active and who writes stays
  pub open_beside : ((t : ℕ) → (locks_of w n).act t ≡ (locks_of s.work n).act t)
      → ((t p : ℕ) → (locks_of w n).wr t p ≡ (locks_of s.work n).wr t p) → OpenInv n beside b
  open_beside acts writes = open_locked acts (λ t p e. writes t p ∙ e)
      (Recovery.carried i.base (logged n s b) (logged n beside b) (λ o. refl) (λ o. refl) (λ t p. sym (writes t p)) (λ t. sym (acts t)) refl i.log.inv)

  pub open_unlocked : locks_of w n ≡ locks_of s.work n → OpenInv n beside b
  open_unlocked e = open_beside (λ t. ap (λ (l : Locks). l.act t) e) (λ t p. ap (λ (l : Locks). l.wr t p) e)

-- the stored pages and the counts may change, and which lines the book calls stable, which objects known and what marks it keeps
module _ (n : ℕ) (s : Areas) (b : Book) (i : OpenInv n s b) (stored counts : List ℕ) (stable : ℕ) (known : ℕ → ℕ → Bool) (marked : ℕ → ℕ → ℕ) where
  abbrev pub noted : Areas
  noted = areas stored s.copies s.received s.log counts s.work

  abbrev pub noting : Book
  noting = record { origin = b.origin; lines = b.lines; stable = stable; begun = b.begun; running = b.running; known = known; marked = marked; stage = b.stage }

  pub open_noted : length stored ≡ length s.stored → BookInv noting → ((t x : ℕ) → known t x ≡ true → (tables_of s.work n).kn t x ≡ true)
      → Notes n noted noting → (base : ℕ → Obj) → LogInv n noted noting base → OpenInv n noted noting
  unfolding runs full_lines openly
  open_noted len book knows notes base log = record {
    size = ap pages_in len ∙ i.size;
    stage = i.stage;
    word = i.word;
    collector = i.collector;
    going = record { stack = i.going.stack; deep = i.going.deep; backs = i.going.backs; notes = notes };
    book = book;
    sound = i.sound;
    full = i.full;
    known = knows;
    active = i.active;
    runs = i.runs;
    writers = record { writes = i.writers.writes; one = i.writers.one };
    base = base;
    log = log;
  }
