-- Whatever part of a going back is stable, reopening undoes the whole transaction. Assumes nothing.
use Prim.Native.Nat.{ℕ, ◌-◌}
use mathlib.Core.Path.{◌≡◌, refl, sym, ◌∙◌}
use mathlib.Core.Bool.{Bool, true, false, not, ◌&&◌}
use mathlib.Core.List.{List, [], ◌∷◌}
use mathlib.Core.Logic.{inl, inr}
use lib.ListN.{length}
use lib.Dec.{eqb}
use borrow.Author.Tests.{eqb-true}
use Rattle.words.specs.Tests.{by_bool, clash, and_split, or_cases}
use Rattle.records.specs.Records.{is_sweep}
use Rattle.areas.specs.Areas.{Areas}
use Rattle.book.specs.Lines.{Line, filtered, has_commit}
use Rattle.book.specs.Books.{Book, storing, committed_lines, stopped}
use Rattle.book_laws.specs.Seen.{counted, committed_of}
use Rattle.book_laws.specs.Keeping.{Each, Runs, LineOk, BookInv, here, later}
use Rattle.book_laws.proofs.Members.{each_drop}
use Rattle.book_laws.proofs.Ends.{unended, no_commit_drop}
use Rattle.book_laws.proofs.Stops.{stable_lines, stop_committed}
use Rattle.demand.proofs.State.{Inv3, open_store, cut_store, reopening_store}
use Rattle.demand.proofs.Reopen.{recovered_committed}
use Rattle.guarantees.specs.Cuts.{UndoneWhole, AlwaysUndoneWhole}
use Rattle.guarantees.proofs.Refusals.{always}

-- lines that pass one test pass no other
both_none : (c f : Line → Bool) (ls : List Line) → Each (λ l. c l ≡ true → f l ≡ false) ls → filtered f (filtered c ls) ≡ []
unfolding filtered
both_none c f [] h = refl
both_none c f (l ∷ ls) h = let on = both_none c f ls (λ m j. h m (later j)) in by_bool (c l)
    (λ e. rw (e, h l here e) on)
    (λ e. rw e on)

-- a line that counts is not a running transaction's
module _ (b : Book) (inv : BookInv b) (t : ℕ) (run : Runs b t) where
  abbrev i : ℕ
  i = b.running t

  none_stable : has_commit i (stable_lines b) ≡ false
  none_stable = no_commit_drop i (length b.lines - b.stable) b.lines (unended i b.lines (inv.unended t run))

  foreign : (l : Line) → LineOk b l → counted (stable_lines b) l ≡ true → eqb l.owner i ≡ false
  foreign l k c = by_bool (eqb l.owner i)
      (λ e. let own = eqb-true l.owner i e in elim (or_cases (is_sweep l.entry) (not l.struck && has_commit l.owner (stable_lines b)) c) [
        | inl s ↦ absurd (run (sym own ∙ k.swept s))
        | inr s ↦ clash (and_split (not l.struck) (has_commit l.owner (stable_lines b)) s).1 (rw own none_stable)
      ])
      (λ e. e)

  pub none_of : filtered (λ l. eqb l.owner i) (committed_lines (stopped (storing 0) b)) ≡ []
  unfolding committed_of
  none_of = rw (stop_committed (storing 0) b) (both_none (counted (stable_lines b)) (λ l. eqb l.owner i) (stable_lines b)
      (λ l j c. foreign l (each_drop (length b.lines - b.stable) b.lines inv.lines l j) c))

-- the book's invariant, at any stage
book_of : (n : ℕ) (s : Areas) (b : Book) → Inv3 n s b → BookInv b
book_of n s b (open_store v) = v.book
book_of n s b (cut_store v) = v.waiting.book
book_of n s b (reopening_store k l v) = v.waiting.book

pub always_undone_whole : AlwaysUndoneWhole
always_undone_whole = always UndoneWhole (λ n some q u. record {
  recovers = recovered_committed n q.store q.book u.inv u.fine.sized.stored_len u.fine.stored;
  none = λ t run. none_of q.book (book_of n q.store q.book u.inv) t run;
})
