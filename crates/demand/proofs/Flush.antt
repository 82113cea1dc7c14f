-- An accepted flush keeps the invariant. n is the number of pages. Assumes nothing.
use Prim.Native.Nat.{ℕ, ◌≤◌}
use native.Mathlib.Omega.{arith}
use mathlib.Core.Path.{◌≡◌, refl, sym, ap, ◌∙◌}
use mathlib.Core.Bool.{Bool, true}
use mathlib.Core.List.{List}
use lib.ListN.{length}
use lib.Dec.{eqb}
use Rattle.pages.specs.Geometry.{page_words}
use Rattle.pages.specs.Objects.{copied_page}
use Rattle.areas.specs.Answers.{accepted}
use Rattle.areas.specs.Areas.{Areas, Out}
use Rattle.areas.specs.Layout.{unflushed_at}
use Rattle.areas.specs.Tables.{lose}
use Rattle.calls.specs.Calls.{flush}
use Rattle.calls.specs.Objects.{flushed, call_flush}
use Rattle.acceptance.specs.Entered.{Open, opened}
use Rattle.acceptance.specs.Objects as Accepted
use Rattle.acceptance.specs.Objects.{flush_outcome}
use Rattle.book.specs.Books.{Book}
use Rattle.book.specs.Feeding.{fed}
use Rattle.collector.specs.Objects.{Obj, page_of}
use Rattle.collector.specs.State.{Tables, mix}
use Rattle.collector.specs.Calls as C
use Rattle.collector.proofs.Depths.{deep_flush}
use Rattle.machine_view.specs.View.{view}
use Rattle.machine_calls.proofs.Frames.{reopening_kept}
use Rattle.machine_calls.proofs.Facts as Facts
use Rattle.machine_calls.proofs.Flushed.{flush_beside, flush_locks, flush_tables}
use Rattle.machine_calls.proofs.Shows.{flush_shows}
use Rattle.recovery_proof.specs.Lines.{replay}
use Rattle.recovery_proof.specs.Shapes.{shapes}
use Rattle.recovery_proof.proofs.Decided.{SameCells}
use Rattle.recovery_proof.proofs.Cells.{same_mix, same_eq, replay_cells}
use Rattle.book_laws.specs.Seen.{seen_full}
use Rattle.demand.proofs.State.{machine, received, OpenInv}
use Rattle.demand.proofs.Change.{machine_shows, full_shown}
use Rattle.demand.proofs.Unlogged.{notes_kept, open_unlocked}
use Rattle.demand.proofs.Copying.{copied_view}

-- the full objects are the base's where no received record writes
pub full_cells : (n : ℕ) (s : Areas) (b : Book) (i : OpenInv n s b) → SameCells (received s) (λ x. (seen_full b x).object) i.base
full_cells n s b i = same_eq (received s) (λ x. (seen_full b x).object) (λ x. replay i.base x (shapes (received s))) i.base (λ x. sym (i.log.inv.full x)) (replay_cells (received s) i.base)

module _ (n : ℕ) (some : 1 ≤ n) (s : Areas) (b : Book) (i : OpenInv n s b) (h : Open s n) (t p : ℕ) (image : List ℕ) (f : Accepted.FlushFacts s n t p image) where
  abbrev c : List ℕ
  c = copied_page s.received s.copies p

  abbrev here : ℕ → Bool
  here x = eqb (page_of x) p

  copies : (x : ℕ) → view c x ≡ mix here (λ y. (seen_full b y).object) (view s.copies) x
  copies x = copied_view n s.received s.copies p h.sized.received_len h.sized.copies_len f.page x
      ∙ ap (λ (v : Obj). mix here (λ y. v) (view s.copies) x) (sym (full_shown n s b i x))

  flush_kept : OpenInv n (flushed s n t p) b
  unfolding flushed
  flush_kept = open_unlocked n s b i c (lose s.work (unflushed_at n p) t) (C.flushed (machine n s b) t p)
      (record {
        shows = flush_shows s.work n h.sized.tables.1 (machine n s b) (machine_shows n s b) t p f.page;
        keeps = deep_flush t p (machine n s b) i.going.stack (Facts.flush_facts s n (machine n s b) (machine_shows n s b) t p image f) i.going.deep;
        notes = notes_kept n s b i c (lose s.work (unflushed_at n p) t) (λ j l. (flush_beside s.work n t p f.page).above j (omega arith));
        pages = λ z. record { cmt = (machine n s b).pages.cmt; rec = (machine n s b).pages.rec; cop = λ x. sym (copies x) z };
        tags = refl;
        word = (reopening_kept (flush_beside s.work n t p f.page) n (omega arith)).0;
        knows = λ u x k. ap (λ (a : Tables). a.kn u x) (flush_tables s.work n t p f.page h.sized.tables.1) ∙ k;
        cells = same_eq (received s) (view c) (mix here (λ y. (seen_full b y).object) (view s.copies)) i.base copies
            (same_mix (received s) here (λ y. (seen_full b y).object) (view s.copies) i.base (full_cells n s b i) i.log.copies);
      })
      (flush_locks s.work n t p f.page)

pub open_flush : (n : ℕ) → 1 ≤ n → (s : Areas) (b : Book) → OpenInv n s b → (t p : ℕ) (image : List ℕ) → accepted (call_flush s t p image).answer ≡ true
    → OpenInv n (call_flush s t p image).after (fed n b (flush t p image) s.received (call_flush s t p image).after.received)
unfolding fed
open_flush n some s b i t p image a =
    let k = (flush_outcome s t p image).ran a in
    let h = opened (eqb (length image) page_words) s k.n k.ready in
    let e : k.n ≡ n = sym h.sized.count ∙ i.size in
    let g : (call_flush s t p image).after ≡ flushed s n t p = ap (λ (x : Out). x.after) k.gives ∙ ap (λ (q : ℕ). flushed s q t p) e in
    rw g (flush_kept n some s b i (rw e at h) t p image (rw e at (Accepted.flush_facts s k.n t p image k.passed)))
