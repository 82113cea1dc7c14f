-- An accepted read keeps the invariant. n is the number of pages. Assumes nothing.
use Prim.Native.Nat.{ℕ, ◌≤◌}
use native.Mathlib.Omega.{arith}
use mathlib.Core.Path.{◌≡◌, refl, sym, ap, ◌∙◌, subst}
use mathlib.Core.Bool.{Bool, true, not, ◌&&◌}
use mathlib.Core.List.{List}
use mathlib.Core.Logic.{inl, inr}
use lib.ListN.{length}
use lib.Dec.{eqb}
use borrow.Author.Tests.{eqb-true, eqb-false, eq-eqb, not-true}
use Rattle.words.specs.Tests.{any, any_elim, and_split, or_cases, by_bool}
use Rattle.pages.specs.Geometry.{is_ref, is_ref_at}
use Rattle.pages.specs.Objects.{word_of}
use Rattle.areas.specs.Answers.{accepted}
use Rattle.areas.specs.Areas.{Areas, Out, with_work}
use Rattle.calls.specs.Calls.{read}
use Rattle.calls.specs.Objects.{learned, call_read}
use Rattle.acceptance.specs.Entered.{Open, opened}
use Rattle.acceptance.specs.Objects as Accepted
use Rattle.acceptance.specs.Objects.{read_outcome}
use Rattle.book.specs.Books.{Book, runs}
use Rattle.book.specs.Feeding.{fed, learns}
use Rattle.reach.specs.Reaching.{refers_to}
use Rattle.collector.specs.Bits.{or_l, or_r, and_intro}
use Rattle.collector.specs.Objects as Objects
use Rattle.collector.specs.Objects.{Obj, points}
use Rattle.collector.specs.State.{Tables}
use Rattle.collector.specs.Calls as C
use Rattle.collector.proofs.Facts.{ReadFacts}
use Rattle.collector.proofs.Depths.{deep_read}
use Rattle.collector.proofs.Known.{known_there}
use Rattle.collector.proofs.Objects.{word_edge}
use Rattle.machine_calls.specs.Tables.{tables_of}
use Rattle.machine_calls.proofs.Frames.{reopening_kept}
use Rattle.machine_calls.proofs.Facts as Facts
use Rattle.machine_calls.proofs.Learned.{read_beside, read_locks, read_tables}
use Rattle.machine_calls.proofs.Shows.{read_shows}
use Rattle.machine_view.proofs.Effects.{view_word}
use Rattle.book_laws.specs.Seen.{seen_full}
use Rattle.book_laws.proofs.Invariant.{learn_inv}
use Rattle.demand.proofs.State.{machine, OpenInv}
use Rattle.demand.proofs.NoRecord.{log_quiet}
use Rattle.demand.proofs.Change.{machine_shows, full_shown}
use Rattle.demand.proofs.Unlogged.{notes_kept, open_unlocked, open_noted}
use Rattle.demand.proofs.Notes.{notes_quiet}

-- the book learns what the tables know
pub open_learns : (n : ℕ) (s : Areas) (b : Book) (t : ℕ) (f : ℕ → Bool) → OpenInv n s b
    → ((x : ℕ) → f x ≡ true → (tables_of s.work n).kn t x ≡ true) → OpenInv n s (learns b t f)
unfolding runs
open_learns n s b t f i h = open_noted n s b i s.stored s.counts b.stable (learns b t f).known b.marked refl (learn_inv b i.book t f)
    (λ u x k. by_bool (eqb u t)
    (λ e. elim (or_cases (b.known t x) (f x) (rw e at k)) [
      | inl d ↦ i.known u x (ap (λ (v : ℕ). b.known v x) (eqb-true u t e) ∙ d)
      | inr d ↦ ap (λ (v : ℕ). (tables_of s.work n).kn v x) (eqb-true u t e) ∙ h x d
    ])
    (λ e. i.known u x (rw e at k)))
    (notes_quiet n s b s (learns b t f) refl refl (λ j l. refl) refl refl refl i.going.notes)
    i.base (log_quiet n s b i.base i.log s (learns b t f) (record { log = refl; counts = refl; stored = refl; origin = refl; lines = refl; stable_lines = refl; running = refl })
    i.log.inv (λ u. refl) i.log.copies)

module _ (n : ℕ) (some : 1 ≤ n) (s : Areas) (b : Book) (i : OpenInv n s b) (h : Open s n) (t o : ℕ) (f : Accepted.ReadFacts s n t o) where
  abbrev w : List ℕ
  w = learned s.received s.work n t o 8

  facts : ReadFacts (machine n s b) t o
  facts = Facts.read_facts s n (machine n s b) (machine_shows n s b) t o f

  -- what the tables know after it
  knows : (u x : ℕ) → (tables_of w n).kn u x ≡ (C.read_by (machine n s b) t o).tables.kn u x
  knows u x = rw (full_shown n s b i o)
      (ap (λ (a : Tables). a.kn u x) (read_tables s.received s.work n t o h.ranged.received_sound f.object.low f.object.top h.sized.tables.1 f.txn))

  -- a reference of the received object is an edge of the machine: what is known is occupied
  refers : (x : ℕ) → refers_to s.received o x ≡ true → points (seen_full b o).object x ≡ true
  unfolding is_ref_at Objects.is_ref
  refers x r =
      let p = and_split (not (eqb x 0)) (any (λ g. is_ref s.received o g && eqb (word_of s.received o g) x) 8) r in
      any_elim (λ g. is_ref s.received o g && eqb (word_of s.received o g) x) 8 p.1 (λ g l e.
      let q = and_split (is_ref s.received o g) (eqb (word_of s.received o g) x) e in
      let v : (seen_full b o).object.word g ≡ x = ap (λ (a : Obj). a.word g) (full_shown n s b i o) ∙ view_word s.received o f.object.low g l ∙ eqb-true _ _ q.1 in
      rw v at (word_edge (seen_full b o).object g q.0 (known_there (machine n s b) i.collector t o facts.known) (λ z. eqb-false x 0 (not-true (eqb x 0) p.0) (sym v ∙ z))))

  kept : OpenInv n (with_work s w) b
  kept = open_unlocked n s b i s.copies w (C.read_by (machine n s b) t o)
      (record {
        shows = read_shows s.work n h.sized.tables.1 (machine n s b) (machine_shows n s b) t o f.txn f.object.low f.object.top
            s.received h.ranged.received_sound (full_shown n s b i o);
        keeps = deep_read t o (machine n s b) i.going.stack facts i.going.deep;
        pages = refl;
        tags = refl;
        word = (reopening_kept (read_beside s.received s.work n t o h.ranged.received_sound f.object.low f.object.top) n (omega arith)).0;
        knows = λ u x k. knows u x ∙ or_l _ _ k;
        cells = i.log.copies;
        notes = notes_kept n s b i s.copies w (λ j l. (read_beside s.received s.work n t o h.ranged.received_sound f.object.low f.object.top).above j (omega arith));
      })
      (read_locks s.received s.work n t o h.ranged.received_sound f.object.low f.object.top)

  read_kept : OpenInv n (with_work s w) (learns b t (refers_to s.received o))
  read_kept = open_learns n (with_work s w) b t (refers_to s.received o) kept
      (λ x r. knows t x ∙ or_r _ _ (and_intro _ _ (eq-eqb t t refl) (refers x r)))

pub open_read : (n : ℕ) → 1 ≤ n → (s : Areas) (b : Book) → OpenInv n s b → (t o : ℕ) (buffer : List ℕ) → accepted (call_read s t o buffer).answer ≡ true
    → OpenInv n (call_read s t o buffer).after (fed n b (read t o buffer) s.received (call_read s t o buffer).after.received)
unfolding fed
open_read n some s b i t o buffer a =
    let k = (read_outcome s t o buffer).ran a in
    let h = opened (eqb (length buffer) 8) s k.n k.ready in
    let e : k.n ≡ n = sym h.sized.count ∙ i.size in
    let g : (call_read s t o buffer).after ≡ with_work s (learned s.received s.work n t o 8) =
    ap (λ (x : Out). x.after) k.gives ∙ ap (λ (q : ℕ). with_work s (learned s.received s.work q t o 8)) e in
    rw g (subst (λ (x : List ℕ). OpenInv n (with_work s (learned s.received s.work n t o 8)) (learns b t (refers_to x o))) i.full
    (read_kept n some s b i (rw e at h) t o (rw e at (Accepted.read_facts s k.n t o k.passed))))
