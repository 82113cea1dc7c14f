-- Document 02, L3: after an accepted going back each page that t had been let write at the mark is received as it was then, each that it
-- was let write since as committed, and any other as it was. n is the number of pages. Assumes nothing.
use Prim.Native.Nat.{ℕ, ◌-◌, ◌≤◌}
use native.Mathlib.Omega.{arith}
use mathlib.Core.Path.{◌≡◌, refl, sym, ap, ◌∙◌}
use mathlib.Core.Bool.{true, false}
use mathlib.Core.List.{List}
use Rattle.pages.specs.Geometry.{page_of}
use Rattle.records.specs.declared.Record.{Record}
use Rattle.areas.specs.Areas.{Areas}
use Rattle.calls.specs.Calls.{perform, back}
use Rattle.acceptance.specs.Entered.{opened}
use Rattle.acceptance.specs.Marks.{BackFacts, back_outcome, back_facts}
use Rattle.book.specs.Lines.{left}
use Rattle.book.specs.Books.{Book, committed_pages}
use Rattle.book.specs.Feeding.{fed, goes_back}
use Rattle.book.specs.Demand.{Point, accepts}
use Rattle.collector.specs.Objects.{Obj}
use Rattle.machine_view.specs.View.{view}
use Rattle.machine_view.proofs.Effects.{view_occ, view_word}
use Rattle.machine_calls.specs.Tables.{locks_of}
use Rattle.book_laws.specs.Seen.{Seen, seen_committed}
use Rattle.book_laws.specs.Keeping.{Runs}
use Rattle.book_laws.proofs.GoingBack.{went_running}
use Rattle.book_laws.proofs.Pages.{committed_view}
use Rattle.book_laws.proofs.OwnPages.{applied_all, left_of, own_view}
use Rattle.book_laws.proofs.GoneBack.{went_own, went_committed}
use Rattle.demand.proofs.State.{OpenInv}
use Rattle.demand.proofs.Finished.{accepted_open}
use Rattle.demand.proofs.Change.{full_shown}
use Rattle.demand.proofs.Marks.{open_back}
use Rattle.guarantees.specs.Restoring.{Noted, notebook, Restores, AlwaysRestores}
use Rattle.guarantees.specs.Sameness.{SameObject, SamePage}
use Rattle.guarantees.proofs.Always.{Sure, as_open}
use Rattle.guarantees.proofs.Granted.{accepted_agrees}
use Rattle.guarantees.proofs.Ledgers.{always_kept}
use Rattle.guarantees.proofs.MarkNotes.{oldest, AtMark}
use Rattle.guarantees.proofs.Untouched.{back_leaves}
use Rattle.guarantees.proofs.MarkCalls.{Restorable, keep_restorable, start_restorable, disk_restorable}

pub same_object : (x : ℕ) → 1 ≤ x → (a b : List ℕ) → view a x ≡ view b x → SameObject x a b
same_object x low a b e = record {
  slot = sym (view_occ a x low) ∙ ap (λ (o : Obj). o.occ) e ∙ view_occ b x low;
  words = λ f k. sym (view_word a x low f k) ∙ ap (λ (o : Obj). o.word f) e ∙ view_word b x low f k;
}

-- the same objects of a page
same_page : (p : ℕ) (a b : List ℕ) → ((x : ℕ) → page_of x ≡ p → view a x ≡ view b x) → SamePage p a b
same_page p a b h x low e = same_object x low a b (h x e)

-- t goes back to mark m
module _ (n : ℕ) (some : 1 ≤ n) (q : Point) (l : Noted) (u : Sure n q) (j : Restorable n q l) (t m : ℕ) (a : accepts q (back t m) ≡ true) where
  abbrev s : Areas
  s = q.store

  abbrev b : Book
  b = q.book

  i : OpenInv n s b
  i = as_open n s b u.inv (accepted_open s (back t m) refl a)

  facts : BackFacts s n t m
  unfolding perform
  facts =
      let k = (back_outcome s t m).ran a in
      let e : k.n ≡ n = sym (opened true s k.n k.ready).sized.count ∙ i.size in
      rw e at (back_facts s k.n t m k.passed)

  noted : AtMark b l t m
  noted = (j.marks t facts.txn).marks m facts.mark facts.marked

  abbrev k : ℕ
  k = left (b.running t) b.lines - b.marked t m

  abbrev b₁ : Book
  b₁ = goes_back k b t

  abbrev s₁ : Areas
  s₁ = (perform s (back t m)).after

  i₁ : OpenInv n s₁ b₁
  unfolding perform fed
  i₁ = open_back n some s b i t m a

  runs : b₁.running t ≡ b.running t
  runs = ap (λ (f : ℕ → ℕ). f t) (went_running k b t)

  run₁ : Runs b₁ t
  run₁ z = noted.runs (sym runs ∙ z)

  -- where t writes
  shows_own : (x : ℕ) → l.granted.writes t (page_of x) ≡ true → view s₁.received x ≡ applied_all (oldest b t (b.marked t m)) x (seen_committed b x).object
  shows_own x e =
      sym (full_shown n s₁ b₁ i₁ x)
      ∙ own_view b₁ i₁.book (locks_of s₁.work n).wr i₁.writers t run₁ x (sym ((accepted_agrees n some s b u.inv l.granted j.ledgered.agrees (back t m) a).writers t (page_of x)) ∙ e)
      (i₁.going.stack t) (i₁.going.backs t run₁)
      ∙ ap (λ (v : Seen). applied_all (left_of (b₁.running t) b₁.lines) x v.object) (went_committed t k b i.book noted.runs (omega arith) x)
      ∙ ap (λ (rs : List Record). applied_all rs x (seen_committed b x).object) (ap (λ (h : ℕ). left_of h b₁.lines) runs ∙ went_own t k b i.book noted.runs (omega arith))

  then_page : (p : ℕ) → l.owned t m p ≡ true → SamePage p s₁.received (l.pages t m)
  then_page p e = same_page p s₁.received (l.pages t m) (λ x d. let o : l.owned t m (page_of x) ≡ true = rw d e in shows_own x (noted.own (page_of x) o) ∙ sym (noted.was x o))

  committed_page : (p : ℕ) → l.owned t m p ≡ false → l.granted.writes t p ≡ true → SamePage p s₁.received (committed_pages b)
  committed_page p e w = same_page p s₁.received (committed_pages b) (λ x d.
      shows_own x (rw d w) ∙ noted.free x (rw d e) (seen_committed b x).object ∙ sym (committed_view n b i.sound x))

  other_page : (p : ℕ) → l.granted.writes t p ≡ false → SamePage p s₁.received s.received
  other_page p e = same_page p s₁.received s.received (λ x d. (back_leaves n some s b u.inv t m a x (sym (j.ledgered.agrees.writers t (page_of x)) ∙ rw d e)).0)

restores : (n : ℕ) → 1 ≤ n → (q : Point) (l : Noted) → Sure n q → Restorable n q l → Restores q l
restores n some q l u j = record {
  as_then = λ t m p a h e. then_page n some q l u j t m a p e;
  as_committed = λ t m p a h e w. committed_page n some q l u j t m a p e w;
  others = λ t m p a h e. other_page n some q l u j t m a p e;
}

pub always_restores : AlwaysRestores
always_restores = always_kept Noted notebook Restorable Restores keep_restorable (λ n q l u j. restores n u.fine.sized.low q l u j) start_restorable disk_restorable
