-- The book's invariant is kept by what ends a transaction, commit and the end of an abort, and by the undoing of a change. Assumes nothing.
use Prim.Native.Nat.{ℕ, suc, ◌≤◌}
use native.Mathlib.Omega.{arith}
use mathlib.Core.Path.{◌≡◌, refl, sym, ap, ◌∙◌, subst}
use mathlib.Core.Bool.{true, false, ◌&&◌}
use mathlib.Core.List.{List, ◌∷◌}
use mathlib.Core.Logic.{inl, inr}
use native.Mathlib.Decide.{ℕ_discrete}
use lib.ListN.{length}
use lib.Dec.{eqb}
use borrow.Author.Tests.{eqb-true, eq-eqb, ne_eqb}
use Rattle.words.specs.Tests.{by_bool, clash, or_cases, or_r}
use Rattle.records.specs.declared.Record.{Record}
use Rattle.records.specs.Effects.{undoing}
use Rattle.records.specs.Records.{is_begin, is_sweep, is_end, commit_of, aborted_of}
use Rattle.book.specs.Lines.{Line, line, struck_out, is_left, left, struck_newest, has_end}
use Rattle.book.specs.Books.{Book, runs}
use Rattle.book.specs.Feeding.{with_lines, adds, ends, undoes}
use Rattle.book_laws.specs.Striking.{undoing_line, Strikes, none, stays, out}
use Rattle.book_laws.specs.After.{committed_by, aborted_by}
use Rattle.book_laws.specs.Keeping.{Each, Runs, LineOk, Since, at_begin, newer, BookInv}
use Rattle.book_laws.proofs.Members.{each_cons}
use Rattle.book_laws.proofs.Undoing.{struck_not_left, strikes_newest, strikes_length, strikes_each, Newest, newest, left_less}
use Rattle.book_laws.proofs.Ends.{end_strikes, left_facts, undoing_kind}
use Rattle.book_laws.proofs.Running.{runs_it, still, stays as Stays-on, ended_other}

-- a line that may stand once t has ended
record Kept (b : Book) (t : ℕ) (l : Line) : Type 0 where
  owned : l.owner ≤ b.begun
  swept : is_sweep l.entry ≡ true → l.owner ≡ 0
  someone : is_sweep l.entry ≡ false → l.owner ≡ 0 → ⊥
  undoes : l.entry.kind ≡ 6 → l.struck ≡ true
  ends : is_end l.entry ≡ true → l.struck ≡ false
  names : (u : ℕ) → (u ≡ t → ⊥) → Runs b u → l.owner ≡ b.running u → l.entry.txn ≡ u
  over : is_sweep l.entry ≡ false → (l.owner ≡ b.running t → ⊥) → runs b l.owner ≡ false → has_end l.owner b.lines ≡ true

kept : {b : Book} {t : ℕ} {l : Line} → LineOk b l → Kept b t l
kept k = record {
  owned = k.owned;
  swept = k.swept;
  someone = k.someone;
  undoes = k.undoes;
  ends = k.ends;
  names = λ u n. k.names u;
  over = λ s n. k.over s;
}

module _ (b : Book) (inv : BookInv b) (t : ℕ) (run : Runs b t) where
  -- t ends by record e on top of the lines ls
  module _ (e : Record) (end : is_end e ≡ true) (unswept : is_sweep e ≡ false) (done : e.kind ≡ 6 → ⊥) (ls : List Line)
      (same : (i : ℕ) → has_end i ls ≡ has_end i b.lines) (each : Each (Kept b t) ls) (longer : length b.lines ≤ length ls)
      (mine : e.txn ≡ t) (old : (u : ℕ) → is_begin e u ≡ false) (order : (u : ℕ) → (u ≡ t → ⊥) → Runs b u → Since u (b.running u) ls) where
    abbrev c : Book
    c = ends (adds (with_lines b ls) t e) t

    other_end : (i : ℕ) → (i ≡ b.running t → ⊥) → has_end i c.lines ≡ has_end i b.lines
    unfolding has_end
    other_end i n = rw (ne_eqb (b.running t) i (λ z. n (sym z)), end) (same i)

    own_end : has_end (b.running t) c.lines ≡ true
    unfolding has_end
    own_end = rw (end, eq-eqb (b.running t) (b.running t) refl)

    more_ends : (i : ℕ) → has_end i b.lines ≡ true → has_end i c.lines ≡ true
    unfolding has_end
    more_ends i h = or_r (is_end e && eqb (b.running t) i) (has_end i ls) (same i ∙ h)

    away : (u : ℕ) → Runs c u → (u ≡ t → ⊥)
    away u r = still b inv t run c refl u r

    at : (u : ℕ) → Runs c u → c.running u ≡ b.running u
    at u r = Stays-on b inv t run c refl u (away u r)

    runs_on : (u : ℕ) → Runs c u → Runs b u
    runs_on u r z = r (at u r ∙ z)

    finish_inv : BookInv c
    finish_inv = record {
      distinct = λ u v r q. let s : Runs c v = λ z. r (q ∙ z) in inv.distinct u v (runs_on u r) (sym (at u r) ∙ q ∙ at v s);
      few = λ u l. by_bool (eqb u t) (λ z. rw z) (λ z. rw z (inv.few u l));
      young = λ u. by_bool (eqb u t) (λ z. rw z (omega arith)) (λ z. rw z (inv.young u));
      unended = λ u r. ap (λ (i : ℕ). has_end i c.lines) (at u r)
          ∙ other_end (b.running u) (λ z. away u r (sym (inv.distinct t u run (sym z)))) ∙ inv.unended u (runs_on u r);
      lines = each_cons last (λ l j. older l (each l j));
      since = λ u r. rw (at u r) (newer (old u) (λ s z. absurd (away u r (sym z ∙ mine))) (order u (away u r) (runs_on u r)));
      stable = let h = inv.stable in omega arith;
    }
      where
        foreign : (u : ℕ) → Runs c u → b.running t ≡ c.running u → ⊥
        foreign u r q = away u r (sym (inv.distinct t u run (q ∙ at u r)))

        last : LineOk c (line e (b.running t))
        last = record {
          owned = inv.young t;
          swept = λ z. clash z unswept;
          someone = λ z. run;
          undoes = λ z. absurd (done z);
          ends = λ z. refl;
          names = λ u r q. absurd (foreign u r q);
          over = λ z k. own_end;
        }

        older : (l : Line) → Kept b t l → LineOk c l
        older l k = record {
          owned = k.owned;
          swept = k.swept;
          someone = k.someone;
          undoes = k.undoes;
          ends = k.ends;
          names = λ u r q. k.names u (away u r) (runs_on u r) (q ∙ at u r);
          over = λ s z. elim (ℕ_discrete l.owner (b.running t)) [
            | yes q ↦ ap (λ (i : ℕ). has_end i c.lines) q ∙ own_end
            | no q ↦ more_ends l.owner (k.over s q (sym (ended_other b inv t run c refl l.owner q) ∙ z))
          ];
        }

  pub commit_inv : BookInv (committed_by b t)
  commit_inv = finish_inv (commit_of t) refl refl (λ z. omega arith) b.lines (λ i. refl) (λ l j. kept (inv.lines l j)) (omega arith)
      refl (λ u. refl) (λ u n. inv.since u)

  -- nothing of t is left
  pub abort_inv : BookInv (aborted_by b t)
  abort_inv = finish_inv (aborted_of t) refl refl (λ z. omega arith) b.lines (λ i. refl) (λ l j. kept (inv.lines l j)) (omega arith)
      refl (λ u. refl) (λ u n. inv.since u)

  -- t's newest change is undone
  module _ (k : ℕ) (some : left (b.running t) b.lines ≡ suc k) where
    abbrev i : ℕ
    i = b.running t

    abbrev l : Line
    l = (newest i b.lines k some).0

    abbrev top : Newest i b.lines l
    top = (newest i b.lines k some).1

    struck : Strikes i b.lines (struck_newest i b.lines)
    struck = strikes_newest i b.lines

    pub undo_lines : (undoes b t).lines ≡ undoing_line i l ∷ struck_newest i b.lines
    undo_lines = top.undoing (struck_newest i b.lines)

    pub undo_left : left i (undoes b t).lines ≡ k
    unfolding left
    undo_left = ap (left i) undo_lines ∙ rw (struck_not_left i (line (undoing l.entry) i)) (let h = left_less i b.lines k some in omega arith)

    pub undo_end : (j : ℕ) → has_end j (undoes b t).lines ≡ has_end j b.lines
    unfolding has_end
    undo_end j = ap (has_end j) undo_lines ∙ rw (undoing_kind l.entry).unended (end_strikes j i struck)

    line_kept : (l : Line) → LineOk b l → LineOk (undoes b t) l
    unfolding runs
    line_kept l o = record {
      owned = o.owned;
      swept = o.swept;
      someone = o.someone;
      undoes = o.undoes;
      ends = o.ends;
      names = o.names;
      over = λ s z. undo_end l.owner ∙ o.over s z;
    }

    line_struck : (l : Line) → LineOk b l → is_left i l ≡ true → LineOk (undoes b t) (struck_out l)
    unfolding runs
    line_struck l o e = record {
      owned = o.owned;
      swept = o.swept;
      someone = o.someone;
      undoes = λ z. refl;
      ends = λ z. absurd (changes z);
      names = o.names;
      over = λ s z. undo_end l.owner ∙ o.over s z;
    }
      where
        changes : is_end l.entry ≡ true → ⊥
        changes z = elim (or_cases (eqb l.entry.kind 2) (eqb l.entry.kind 3) (left_facts i l e).kind) [
          | inl q ↦ clash (rw (eqb-true l.entry.kind 2 q) at z) refl
          | inr q ↦ clash (rw (eqb-true l.entry.kind 3 q) at z) refl
        ]

    pub newest_txn : l.entry.txn ≡ t
    newest_txn = (inv.lines l top.there).names t run (left_facts i l top.is_left_law).owner

    line_new : LineOk (undoes b t) (undoing_line i l)
    unfolding runs
    line_new = let q = undoing_kind l.entry in record {
      owned = inv.young t;
      swept = λ z. clash z q.unswept;
      someone = λ z. run;
      undoes = λ z. refl;
      ends = λ z. clash z q.unended;
      names = λ u r z. q.txn ∙ newest_txn ∙ inv.distinct t u run z;
      over = λ s z. clash (runs_it b inv t run) z;
    }

    since_strikes : (u j : ℕ) {ls ms : List Line} → Strikes i ls ms → Since u j ls → Since u j ms
    since_strikes u j none x = elim x [ ]
    since_strikes u j (stays s) (at_begin p o h) = at_begin p o (strikes_each i (λ m. m.owner ≡ j → ⊥) s h (λ l n e. h l n))
    since_strikes u j (stays s) (newer p o h) = newer p o (since_strikes u j s h)
    since_strikes u j (out {l} e s) (at_begin p o h) = at_begin p o (strikes_each i (λ m. m.owner ≡ j → ⊥) s h (λ l n e. h l n))
    since_strikes u j (out {l} e s) (newer p o h) = newer p o (since_strikes u j s h)

    since_undone : (u : ℕ) → Runs b u → Since u (b.running u) (undoes b t).lines
    since_undone u r = let q = undoing_kind l.entry in rw undo_lines (newer {l = undoing_line i l} (rw q.unbegun)
        (λ s z. ap b.running (sym newest_txn ∙ sym q.txn ∙ z)) (since_strikes u (b.running u) struck (inv.since u r)))

    pub undo_inv : BookInv (undoes b t)
    undo_inv = record {
      distinct = inv.distinct;
      few = inv.few;
      young = inv.young;
      unended = λ u r. undo_end (b.running u) ∙ inv.unended u r;
      lines = subst (λ (ls : List Line). Each (LineOk (undoes b t)) ls) (sym undo_lines) (each_cons line_new (strikes_each i (LineOk (undoes b t)) struck (λ l j. line_kept l (inv.lines l j)) (λ l j e. line_struck l (inv.lines l j) e)));
      since = since_undone;
      stable = rw undo_lines (let h = inv.stable in let e = strikes_length i struck in omega arith);
    }
