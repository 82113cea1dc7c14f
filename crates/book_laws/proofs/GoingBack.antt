-- Going back, and what an abort undoes: several changes undone one after the other. Assumes nothing.
use Prim.Native.Nat.{ℕ, zero, suc, ◌+◌, ◌-◌, ◌≤◌}
use native.Mathlib.Omega.{arith}
use mathlib.Core.Path.{◌≡◌, refl, sym, ap, ◌∙◌}
use mathlib.Core.Bool.{Bool, false, not, ◌&&◌}
use lib.Dec.{eqb}
use Rattle.words.specs.Tests.{by_bool}
use Rattle.records.specs.Records.{aborted_of}
use Rattle.book.specs.Lines.{left, undone_lines, newest_creates}
use Rattle.book.specs.Books.{Book}
use Rattle.book.specs.Feeding.{put, with_lines, adds, ends, undoes, goes_back}
use Rattle.book_laws.specs.After.{aborted_by}
use Rattle.book_laws.specs.Keeping.{Runs, BookInv}
use Rattle.book_laws.proofs.Finishing.{abort_inv, undo_inv, undo_left}

-- the number of those left, one by one
pub some_left : (k n : ℕ) → suc k ≤ n → n ≡ suc (n - 1)
some_left k n h = omega arith

-- the same transactions run
pub went_running : (k : ℕ) (b : Book) (t : ℕ) → (goes_back k b t).running ≡ b.running
unfolding goes_back
went_running zero b t = refl
went_running (suc k) b t = went_running k (undoes b t) t

pub went_inv : (k : ℕ) (b : Book) → BookInv b → (t : ℕ) → Runs b t → k ≤ left (b.running t) b.lines → BookInv (goes_back k b t)
unfolding goes_back
went_inv zero b i t r h = i
went_inv (suc k) b i t r h = let e = some_left k (left (b.running t) b.lines) h in
    went_inv k (undoes b t) (undo_inv b i t r _ e) t r (let d = undo_left b i t r _ e in omega arith)

pub went_left : (k : ℕ) (b : Book) → BookInv b → (t : ℕ) → Runs b t → k ≤ left (b.running t) b.lines
    → left (b.running t) (goes_back k b t).lines + k ≡ left (b.running t) b.lines
unfolding goes_back
went_left zero b i t r h = omega arith
went_left (suc k) b i t r h = let e = some_left k (left (b.running t) b.lines) h in let d = undo_left b i t r _ e in
    let f = went_left k (undoes b t) (undo_inv b i t r _ e) t r (omega arith) in omega arith

-- an abort's book: going all the way back, and the end
module _ (t : ℕ) where
  -- a book that differs in what t knows
  abbrev forgetting : Book → (ℕ → Bool) → Book
  forgetting b f = record { origin = b.origin; lines = b.lines; stable = b.stable; begun = b.begun; running = b.running; known = put b.known t f; marked = b.marked; stage = b.stage }

  pub went_lines : (k : ℕ) (b : Book) → (goes_back k b t).lines ≡ undone_lines (b.running t) k b.lines
  unfolding goes_back undone_lines
  went_lines zero b = refl
  went_lines (suc k) b = went_lines k (undoes b t)

  ended : (k : ℕ) (b : Book) → aborted_by (goes_back k b t) t ≡ ends (adds (with_lines b (undone_lines (b.running t) k b.lines)) t (aborted_of t)) t
  unfolding goes_back undone_lines
  ended zero b = refl
  ended (suc k) b = ended k (undoes b t) ∙ (λ j. record {
    origin = b.origin;
    lines = (ends (adds (with_lines (undoes b t) (undone_lines (b.running t) k (undoes b t).lines)) t (aborted_of t)) t).lines;
    stable = b.stable;
    begun = b.begun;
    running = put b.running t 0;
    known = λ u x. same u x j;
    marked = b.marked;
    stage = b.stage;
  })
    where
      same : (u x : ℕ) → put (put b.known t (λ o. b.known t o && not (newest_creates (b.running t) b.lines o))) t (λ o. false) u x ≡ put b.known t (λ o. false) u x
      same u x = by_bool (eqb u t) (λ e. rw e) (λ e. rw e)

  pub aborted_book : (b : Book) → ends (adds (with_lines b (undone_lines (b.running t) (left (b.running t) b.lines) b.lines)) t (aborted_of t)) t
      ≡ aborted_by (goes_back (left (b.running t) b.lines) b t) t
  aborted_book b = sym (ended (left (b.running t) b.lines) b)

  pub abort_all_inv : (b : Book) → BookInv b → Runs b t → BookInv (ends (adds (with_lines b (undone_lines (b.running t) (left (b.running t) b.lines) b.lines)) t (aborted_of t)) t)
  abort_all_inv b i r = let k = left (b.running t) b.lines in
      rw (aborted_book b) (abort_inv (goes_back k b t) (went_inv k b i t r (omega arith)) t (λ z. r (sym (ap (λ (f : ℕ → ℕ). f t) (went_running k b t)) ∙ z)))
