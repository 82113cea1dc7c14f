-- What feeding a call that adds one line does to the committed state and to the full pages, object by object. Assumes nothing.
use Prim.Native.Nat.{ℕ, suc, ◌+◌, ◌<◌}
use native.Mathlib.Omega.{arith}
use mathlib.Core.Path.{◌≡◌, refl, ap, ◌∙◌}
use mathlib.Core.Bool.{Bool, false, not, ◌&&◌, ◌||◌}
use mathlib.Core.List.{List, [], ◌∷◌}
use lib.ListN.{length}
use lib.Dec.{eqb}
use Rattle.words.specs.Tests.{or_r}
use Rattle.records.specs.declared.Record.{Record}
use Rattle.records.specs.Records.{is_sweep, begin_of, sweep_of, txn_count}
use Rattle.book.specs.Lines.{Line, line, has_commit}
use Rattle.book.specs.Books.{Book, runs, counts_committed, counts_full}
use Rattle.book.specs.Feeding.{adds, begins}
use Rattle.book_laws.specs.Seen.{counted, acted, seen_committed, seen_full}
use Rattle.book_laws.specs.After.{swept_by}
use Rattle.book_laws.specs.Keeping.{In, Runs, BookInv}
use Rattle.book_laws.proofs.Members.{each_nil, each_cons}
use Rattle.book_laws.proofs.Folds.{seen_agree, seen_past, seen_on}
use Rattle.book_laws.proofs.Ends.{unended, no_end}
use Rattle.book_laws.proofs.Running.{runs_it}
use Rattle.book_laws.proofs.Committed.{Alike, Idle, alike_past}
use Rattle.book_laws.proofs.Invariant.{begin_runs}

-- one more line that does not count in the committed state
pub alike_one : (l : Line) (ls : List Line) → Idle ls l → Alike (l ∷ ls) ls
alike_one l ls h = alike_past (l ∷ []) ls (each_cons h (each_nil (Idle ls)))

module _ (b : Book) (inv : BookInv b) (t : ℕ) where
  -- begin
  module _ (small : t < txn_count) (idle : b.running t ≡ 0) where
    pub begin_committed : Alike (begins b t).lines b.lines
    begin_committed = alike_one (line (begin_of t) (b.begun + 1)) b.lines (record { uncommitted = refl; unswept = refl; out = none })
      where
        none : has_commit (b.begun + 1) b.lines ≡ false
        none = unended (b.begun + 1) b.lines (no_end (b.begun + 1) b.lines (λ l j z. let h = (inv.lines l j).owned in omega arith))

    pub begin_counts : (l : Line) → In l b.lines → counts_full (begins b t) l ≡ counts_full b l
    unfolding has_commit
    begin_counts l j = ap (λ (z : Bool). counted b.lines l || (not l.struck && z)) (begin_runs b inv t small idle l.owner (inv.lines l j).owned)

    pub begin_full : (x : ℕ) → seen_full (begins b t) x ≡ seen_full b x
    begin_full x = seen_past b.origin (counts_full (begins b t)) (line (begin_of t) (b.begun + 1)) b.lines x refl
        ∙ seen_agree b.origin (counts_full (begins b t)) (counts_full b) b.lines x (λ l j e. begin_counts l j)

  -- create and set: a record of any other kind than commit and sweep
  module _ (run : Runs b t) (r : Record) (uncommitted : eqb r.kind 4 ≡ false) (unswept : is_sweep r ≡ false) where
    pub adds_committed : Alike (adds b t r).lines b.lines
    adds_committed = alike_one (line r (b.running t)) b.lines
        (record { uncommitted = uncommitted; unswept = unswept; out = unended (b.running t) b.lines (inv.unended t run) })

    pub adds_full : (x : ℕ) → seen_full (adds b t r) x ≡ acted (suc (length b.lines)) r x (seen_full b x)
    unfolding runs has_commit
    adds_full x = seen_on b.origin (counts_full (adds b t r)) (line r (b.running t)) b.lines x
        (or_r (counts_committed (adds b t r) (line r (b.running t))) (runs (adds b t r) (b.running t)) (runs_it b inv t run))
        ∙ ap (acted (suc (length b.lines)) r x) (seen_agree b.origin (counts_full (adds b t r)) (counts_full b) b.lines x (λ l j e. rw uncommitted))

-- a sweep's line
module _ (b : Book) (p m : ℕ) where
  pub sweep_committed : (x : ℕ) → seen_committed (swept_by b p m) x ≡ acted (suc (length b.lines)) (sweep_of p m) x (seen_committed b x)
  unfolding has_commit
  sweep_committed x = seen_on b.origin (counts_committed (swept_by b p m)) (line (sweep_of p m) 0) b.lines x refl
      ∙ ap (acted (suc (length b.lines)) (sweep_of p m) x) (seen_agree b.origin (counts_committed (swept_by b p m)) (counts_committed b) b.lines x (λ l j e. refl))

  pub sweep_full : (x : ℕ) → seen_full (swept_by b p m) x ≡ acted (suc (length b.lines)) (sweep_of p m) x (seen_full b x)
  unfolding has_commit runs
  sweep_full x = seen_on b.origin (counts_full (swept_by b p m)) (line (sweep_of p m) 0) b.lines x refl
      ∙ ap (acted (suc (length b.lines)) (sweep_of p m) x) (seen_agree b.origin (counts_full (swept_by b p m)) (counts_full b) b.lines x (λ l j e. refl))
