-- Which objects the changes of running transactions name, as calls are fed. Assumes nothing.
use Prim.Native.Nat.{ℕ, suc, ◌+◌}
use native.Mathlib.Omega.{arith}
use mathlib.Core.Path.{◌≡◌, refl, sym}
use mathlib.Core.Bool.{true, false, not, ◌&&◌, ◌||◌}
use mathlib.Core.List.{List}
use mathlib.Core.Logic.{◌⊎◌, inl, inr}
use lib.Dec.{eqb}
use borrow.Author.Tests.{eqb-true, eqb-false, eq-eqb, ne_eqb, not-true}
use Rattle.words.specs.Tests.{clash, and_split}
use Rattle.records.specs.declared.Record.{Record}
use Rattle.records.specs.Records.{begin_of, commit_of, aborted_of, sweep_of}
use Rattle.records.specs.Effects.{undoing}
use Rattle.book.specs.Lines.{Line, line, is_left, left}
use Rattle.book.specs.Books.{Book}
use Rattle.book.specs.Feeding.{with_lines, adds, begins, ends, undoes}
use Rattle.book_laws.specs.After.{committed_by, aborted_by, swept_by}
use Rattle.book_laws.specs.Keeping.{In, Each, Runs, BookInv, any_line, openly}
use Rattle.book_laws.proofs.Members.{each_cons, any_line_law}
use Rattle.book_laws.proofs.Undoing.{newest, strikes_newest, strikes_each, struck_not_left}
use Rattle.book_laws.proofs.Finishing.{undo_lines}
use Rattle.book_laws.proofs.Ends.{any_found, left_facts}
use Rattle.book_laws.proofs.Running.{put_other, still, stays}

-- a change that is left, of what u runs, and names x
pub open_elim : {A : Type 0} (b : Book) (u x : ℕ) → openly b u x ≡ true → (Runs b u → (l : Line) → In l b.lines → is_left (b.running u) l ≡ true → l.entry.object ≡ x → A) → A
unfolding openly
open_elim b u x h k = let p = and_split (not (eqb (b.running u) 0)) (any_line (λ l. is_left (b.running u) l && eqb l.entry.object x) b.lines) h in
    any_found (λ l. is_left (b.running u) l && eqb l.entry.object x) b.lines p.1
    (λ l j e. let q = and_split (is_left (b.running u) l) (eqb l.entry.object x) e in
    k (eqb-false (b.running u) 0 (not-true (eqb (b.running u) 0) p.0)) l j q.0 (eqb-true l.entry.object x q.1))

pub open_intro : (b : Book) (u x : ℕ) → Runs b u → (l : Line) → In l b.lines → is_left (b.running u) l ≡ true → l.entry.object ≡ x → openly b u x ≡ true
unfolding openly
open_intro b u x r l j e o = rw (ne_eqb (b.running u) 0 r)
    (any_line_law (λ m. is_left (b.running u) m && eqb m.entry.object x) b.lines l j (rw (e, eq-eqb l.entry.object x o)))

-- what adds no line
module _ (b : Book) (u x : ℕ) where
  pub open_sweep : (p m : ℕ) → openly (swept_by b p m) u x ≡ true → openly b u x ≡ true
  open_sweep p m h = open_elim (swept_by b p m) u x h (λ r.
      each_cons {P = λ l. is_left (b.running u) l ≡ true → l.entry.object ≡ x → openly b u x ≡ true}
      (λ e o. clash refl (left_facts (b.running u) (line (sweep_of p m) 0) e).unswept)
      (λ l j e o. open_intro b u x r l j e o))

module _ (b : Book) (inv : BookInv b) (t : ℕ) where
  pub open_begin : (u x : ℕ) → openly (begins b t) u x ≡ true → openly b u x ≡ true
  open_begin u x h = open_elim (begins b t) u x h (λ r.
      each_cons {P = λ l. is_left ((begins b t).running u) l ≡ true → l.entry.object ≡ x → openly b u x ≡ true}
      (λ e o. clash (left_facts ((begins b t).running u) (line (begin_of t) (b.begun + 1)) e).kind refl)
      (λ l j e o. let n : u ≡ t → ⊥ = λ z. let k = (inv.lines l j).owned in let y : l.owner ≡ b.begun + 1 = rw (eq-eqb u t z) at (left_facts ((begins b t).running u) l e).owner in omega arith in
      let q = put_other b.running t (b.begun + 1) u n in open_intro b u x (rw q at r) l j (rw q at e) o))

  module _ (run : Runs b t) where
    pub open_adds : (r : Record) (u x : ℕ) → openly (adds b t r) u x ≡ true
        → (openly b u x ≡ true) ⊎ ((u ≡ t) × ((eqb r.kind 2 || eqb r.kind 3) ≡ true) × (r.object ≡ x))
    open_adds r u x h = open_elim (adds b t r) u x h (λ k.
        each_cons {P = λ l. is_left (b.running u) l ≡ true → l.entry.object ≡ x → (openly b u x ≡ true) ⊎ ((u ≡ t) × ((eqb r.kind 2 || eqb r.kind 3) ≡ true) × (r.object ≡ x))}
        (λ e o. let f = left_facts (b.running u) (line r (b.running t)) e in inr (sym (inv.distinct t u run f.owner), f.kind, o))
        (λ l j e o. inl (open_intro b u x k l j e o)))

    -- once t has ended by record e, other than a change, on top of lines of which those left of others were left before
    open_end : (e : Record) → (eqb e.kind 2 || eqb e.kind 3) ≡ false → (ls : List Line)
        → ((u : ℕ) → (u ≡ t → ⊥) → Each (λ l. is_left (b.running u) l ≡ true → In l b.lines) ls)
        → (u x : ℕ) → openly (ends (adds (with_lines b ls) t e) t) u x ≡ true → (u ≡ t → ⊥) × (openly b u x ≡ true)
    open_end e other ls old u x h = open_elim c u x h (λ r. let n = still b inv t run c refl u r in let q = stays b inv t run c refl u n in
        each_cons {P = λ l. is_left (c.running u) l ≡ true → l.entry.object ≡ x → (u ≡ t → ⊥) × (openly b u x ≡ true)}
        (λ k o. clash (left_facts (c.running u) (line e (b.running t)) k).kind other)
        (λ l j k o. let k' : is_left (b.running u) l ≡ true = rw q at k in (n, open_intro b u x (rw q at r) l (old u n l j k') k' o)))
      where
        c : Book
        c = ends (adds (with_lines b ls) t e) t

    pub open_commit : (u x : ℕ) → openly (committed_by b t) u x ≡ true → (u ≡ t → ⊥) × (openly b u x ≡ true)
    open_commit = open_end (commit_of t) refl b.lines (λ u n l j e. j)

    pub open_abort : (u x : ℕ) → openly (aborted_by b t) u x ≡ true → (u ≡ t → ⊥) × (openly b u x ≡ true)
    open_abort = open_end (aborted_of t) refl b.lines (λ u n l j e. j)

    -- a change undone is left no more
    pub open_undo : (k : ℕ) → left (b.running t) b.lines ≡ suc k → (u x : ℕ) → openly (undoes b t) u x ≡ true → openly b u x ≡ true
    open_undo k some u x h = open_elim (undoes b t) u x h (λ r. rw (undo_lines b inv t run k some)
        (each_cons {P = λ l. is_left (b.running u) l ≡ true → l.entry.object ≡ x → openly b u x ≡ true}
        (λ e o. clash e (struck_not_left (b.running u) (line (undoing (newest (b.running t) b.lines k some).0.entry) (b.running t))))
        (strikes_each (b.running t) (λ l. is_left (b.running u) l ≡ true → l.entry.object ≡ x → openly b u x ≡ true) (strikes_newest (b.running t) b.lines)
        (λ l j e o. open_intro b u x r l j e o) (λ l j d e o. clash e (struck_not_left (b.running u) l)))))
