-- Several changes of t undone, one after the other, as going back and an abort do. n is the number of pages. Assumes nothing.
use Prim.Native.Nat.{ℕ, suc, ◌+◌, ◌-◌, ◌≤◌, ◌<◌}
use native.Mathlib.Omega.{arith}
use mathlib.Core.Path.{◌≡◌, refl, sym, ap, ◌∙◌, subst}
use mathlib.Core.List.{List, [], ◌∷◌}
use lib.ListN.{length, take, drop, length-set}
use lib.Seq.{get_or-set_same}
use Rattle.records.specs.declared.Record.{Record}
use Rattle.records.specs.Records.{record_at, txn_count}
use Rattle.records.specs.Effects.{undoing}
use Rattle.areas.specs.Areas.{Areas, received_count, with_work, appended}
use Rattle.areas.specs.Ranges.{records_in}
use Rattle.areas.specs.Entry.{records}
use Rattle.acceptance.specs.Lengths.{Sized}
use Rattle.calls.specs.Transactions.{rolled_back}
use Rattle.calls.specs.Marks.{taken_back, went_back}
use Rattle.book.specs.Lines.{Line, is_left, left, struck_newest, filtered}
use Rattle.book.specs.Books.{Book}
use Rattle.book.specs.Feeding as Feeding
use Rattle.book_laws.specs.Striking.{entries}
use Rattle.book_laws.specs.Keeping.{Runs}
use Rattle.book_laws.proofs.Undoing.{newest}
use Rattle.book_laws.proofs.Finishing.{undo_left}
use Rattle.book_laws.proofs.GoingBack.{some_left}
use Rattle.demand.proofs.State.{OpenInv}
use Rattle.demand.proofs.LeftRecords.{records_of}
use Rattle.demand.proofs.Notes.{left_entries}
use Rattle.demand.proofs.Went.{Went, went_none, went_more}
use Rattle.demand.proofs.Undo.{undone_once, entries_own, count_more}

-- an abort's records are those of going all the way back; its words are others
pub rolled_went : (g is : List ℕ) (n t : ℕ) (s : Areas) (v : List ℕ) → rolled_back g is s ≡ with_work (went_back g is (with_work s v) n t) s.work
unfolding rolled_back went_back appended
rolled_went g [] n t s v = refl
rolled_went g (i ∷ is) n t s v = rolled_went g is n t (appended s (undoing (record_at g i))) (taken_back v n t (received_count s) (record_at g i))

pub went_count : (g is : List ℕ) (n t : ℕ) (s : Areas) → 1 ≤ length s.counts → received_count (went_back g is s n t) ≡ received_count s + length is
unfolding went_back appended
went_count g [] n t s h = omega arith
went_count g (i ∷ is) n t s h =
    let e = get_or-set_same s.counts 0 (received_count s + 1) 0 (omega arith) in
    let d = went_count g is n t (with_work (appended s (undoing (record_at g i))) (taken_back s.work n t (received_count s) (record_at g i)))
    (rw (length-set s.counts 0 (received_count s + 1)) h) in d ∙ omega arith

-- the newest change left is the first of those left
newest_entries : (i : ℕ) (ls : List Line) (k : ℕ) (more : left i ls ≡ suc k)
    → entries (filtered (is_left i) ls) ≡ (newest i ls k more).0.entry ∷ entries (filtered (is_left i) (struck_newest i ls))
unfolding entries
newest_entries i ls k more = ap entries (newest i ls k more).1.rest

first_of : (g : List ℕ) (h : ℕ) (is : List ℕ) (r : Record) (es rest : List Record) → es ≡ r ∷ rest → records_of g (h ∷ is) ≡ take (suc (length is)) es
    → record_at g h ∷ records_of g is ≡ r ∷ take (length is) (drop 1 es)
unfolding records_of
first_of g h is r es rest d e = rw d (rw d at e)

-- and what each undoing keeps beside
module _ (n : ℕ) (some : 1 ≤ n) (t : ℕ) (small : t < txn_count) (g : List ℕ) (P : Areas → Book → Type 0)
    (step : (s : Areas) (b : Book) (i : OpenInv n s b) (z : Sized s n) (run : Runs b t) (k : ℕ) (more : left (b.running t) b.lines ≡ suc k) (room : received_count s + 1 ≤ records s)
    → P s b → P (with_work (appended s (undoing (newest (b.running t) b.lines k more).0.entry)) (taken_back s.work n t (received_count s) (newest (b.running t) b.lines k more).0.entry))
    (Feeding.undoes b t)) where
  pub went_with : (is : List ℕ) (s : Areas) (b : Book) → OpenInv n s b → Sized s n → Runs b t → records_of g is ≡ take (length is) (left_entries b t)
      → length is ≤ left (b.running t) b.lines → received_count s + length is ≤ records s → P s b
      → Went n t s b (went_back g is s n t) (Feeding.goes_back (length is) b t) × P (went_back g is s n t) (Feeding.goes_back (length is) b t)
  unfolding went_back Feeding.goes_back
  went_with [] s b i z run e l room p = (went_none n t s b i z, p)
  went_with (h ∷ is) s b i z run e l room p =
      let b₁ = Feeding.undoes b t in
      let once : Went n t s b s₁ b₁ = undone_once n some s b i z t run small k more fits in
      let on = went_with is s₁ b₁ once.kept once.sized run (rest_e ∙ ap (take (length is)) (sym (entries_own n some s b i z t run small k more fits)))
      (let d = undo_left b i.book t run k more in omega arith)
      (let c = count_more n some s b i z t run small k more fits in let d : records s₁ ≡ records s = ap records_in once.size in omega arith)
      (step s b i z run k more fits p) in
      subst (λ (a : Areas). Went n t s b (went_back g is a n t) (Feeding.goes_back (length is) b₁ t) × P (went_back g is a n t) (Feeding.goes_back (length is) b₁ t)) (sym same)
      (went_more n t s b s₁ b₁ (went_back g is s₁ n t) (Feeding.goes_back (length is) b₁ t) once on.0, on.1)
    where
      k : ℕ
      k = left (b.running t) b.lines - 1

      more : left (b.running t) b.lines ≡ suc k
      more = some_left (length is) (left (b.running t) b.lines) l

      fits : received_count s + 1 ≤ records s
      fits = omega arith

      r : Record
      r = (newest (b.running t) b.lines k more).0.entry

      s₁ : Areas
      s₁ = with_work (appended s (undoing r)) (taken_back s.work n t (received_count s) r)

      head_tail : record_at g h ∷ records_of g is ≡ r ∷ take (length is) (drop 1 (left_entries b t))
      head_tail = first_of g h is r (left_entries b t) (entries (filtered (is_left (b.running t)) (struck_newest (b.running t) b.lines))) (newest_entries (b.running t) b.lines k more) e

      rest_e : records_of g is ≡ take (length is) (drop 1 (left_entries b t))
      rest_e = ap (drop 1) head_tail

      same_record : record_at g h ≡ r
      same_record = let z = head_tail in cc

      same : with_work (appended s (undoing (record_at g h))) (taken_back s.work n t (received_count s) (record_at g h)) ≡ s₁
      same = ap (λ (q : Record). with_work (appended s (undoing q)) (taken_back s.work n t (received_count s) q)) same_record

pub went : (n : ℕ) → 1 ≤ n → (t : ℕ) → t < txn_count → (g is : List ℕ) (s : Areas) (b : Book) → OpenInv n s b → Sized s n → Runs b t → records_of g is ≡ take (length is) (left_entries b t)
    → length is ≤ left (b.running t) b.lines → received_count s + length is ≤ records s → Went n t s b (went_back g is s n t) (Feeding.goes_back (length is) b t)
went n some t small g is s b i z run e l room = (went_with n some t small g (λ a c. Unit) (λ a c j y q k m f p. tt) is s b i z run e l room tt).0
