-- The words of marks and of undoing records, and the book: which changes are left, and how many were at each mark. n is the number of
-- pages. Assumes nothing.
use Prim.Native.Nat.{ℕ, ◌+◌, ◌*◌, ◌-◌, ◌≤◌, ◌<◌}
use native.Mathlib.Omega.{arith}
use native.Mathlib.Decide.{dec_le, dec_lt}
use mathlib.Core.Path.{◌≡◌, refl, ap, ◌∙◌, subst}
use mathlib.Core.Bool.{Bool, true, false, not}
use mathlib.Core.List.{List, [], ◌∷◌}
use lib.ListN.{length}
use lib.Dec.{eqb}
use Rattle.words.specs.Spans.{fill, fill_inside, fill_outside}
use Rattle.records.specs.declared.Record.{Record}
use Rattle.records.specs.Records.{record_words, txn_count, recorded, is_begin, is_change}
use Rattle.areas.specs.Areas.{Areas, received_count}
use Rattle.areas.specs.Layout.{table_words, mark_count, marked_at, order_at, clients_from, undoing_from, undoing_at}
use Rattle.areas.specs.Tables.{at, undoes}
use Rattle.calls.specs.Marks.{order_of}
use Rattle.book.specs.Books.{Book}
use Rattle.book_laws.specs.Keeping.{Runs}
use Rattle.book_laws.proofs.OwnPages.{left_of}
use Rattle.demand.proofs.LeftRecords.{left_next, left_records, left_same, left_append}

-- the records of the lines that are left
abbrev pub left_entries : Book → ℕ → List Record
left_entries b t = left_of (b.running t) b.lines

pub record Notes (n : ℕ) (s : Areas) (b : Book) : Type 0 where
  -- the log and the undoing words tell which changes are left
  pub left : (t : ℕ) → Runs b t → left_records (undoes s.work n) s.log t (received_count s) ≡ left_entries b t
  -- no record to come is noted as undoing
  pub fresh : (i : ℕ) → received_count s ≤ i → undoes s.work n i ≡ false
  -- a mark that is set has the book's number
  pub marks : (t m : ℕ) → t < txn_count → m < mark_count → (order_of s.work n t m ≡ 0 → ⊥) → at s.work (marked_at n t m) ≡ b.marked t m

-- words behind the tables that stay
abbrev pub Behind : ℕ → List ℕ → List ℕ → Type 0
Behind n w v = (j : ℕ) → table_words n ≤ j → at v j ≡ at w j

-- those of marks and of undoing records do: the words before the clients, and those behind the rights
abbrev pub NotesStay : ℕ → List ℕ → List ℕ → Type 0
NotesStay n w v = (j : ℕ) → table_words n ≤ j → (clients_from n ≤ j → undoing_from n ≤ j) → at v j ≡ at w j

pub behind_notes : (n : ℕ) (w v : List ℕ) → Behind n w v → NotesStay n w v
behind_notes n w v h j l k = h j l

pub undoes_same : (n : ℕ) (w v : List ℕ) → NotesStay n w v → (i : ℕ) → undoes v n i ≡ undoes w n i
undoes_same n w v h i = ap (λ (k : ℕ). not (eqb k 0)) (h (undoing_at n i) (omega arith) (λ z. omega arith))

pub marks_same : (n : ℕ) (w v : List ℕ) (f : ℕ → ℕ → ℕ) → NotesStay n w v
    → ((t m : ℕ) → t < txn_count → m < mark_count → (order_of w n t m ≡ 0 → ⊥) → at w (marked_at n t m) ≡ f t m)
    → (t m : ℕ) → t < txn_count → m < mark_count → (order_of v n t m ≡ 0 → ⊥) → at v (marked_at n t m) ≡ f t m
marks_same n w v f h k t m a b z = h (marked_at n t m) (omega arith) (λ x. omega arith) ∙ k t m a b (λ y. z (h (order_at n t m) (omega arith) (λ x. omega arith) ∙ y))

-- words that are 0 stay so where a run of words is cleared
pub filled_clear : (w : List ℕ) (a k j : ℕ) → a + k ≤ length w → at w j ≡ 0 → at (fill (λ i. 0) w a k) j ≡ 0
filled_clear w a k j len e = elim (dec_le a j) [
  | yes l ↦ elim (dec_lt j (a + k)) [
    | yes m ↦ (let z : a + (j - a) ≡ j = omega arith in subst (λ (i : ℕ). at (fill (λ i. 0) w a k) i ≡ 0) z (fill_inside (λ i. 0) w a k (j - a) len (omega arith)))
    | no m ↦ fill_outside (λ i. 0) w a k j 0 (λ i h z. m (omega arith)) ∙ e
  ]
  | no l ↦ fill_outside (λ i. 0) w a k j 0 (λ i h z. l (omega arith)) ∙ e
]

-- no record comes
pub notes_quiet : (n : ℕ) (s : Areas) (b : Book) (s' : Areas) (b' : Book) → s'.log ≡ s.log → received_count s' ≡ received_count s → Behind n s.work s'.work
    → b'.lines ≡ b.lines → b'.running ≡ b.running → b'.marked ≡ b.marked → Notes n s b → Notes n s' b'
notes_quiet n s b s' b' log counts words lines running marked i = let stay = behind_notes n s.work s'.work words in record {
  left = λ t r. let r' : Runs b t = rw running at r in
      rw (log, counts, lines, running) (left_same (undoes s.work n) (undoes s'.work n) s.log s.log t (received_count s) (λ j l. undoes_same n s.work s'.work stay j) (λ j l. refl) ∙ i.left t r');
  fresh = λ j l. undoes_same n s.work s'.work stay j ∙ i.fresh j (rw counts at l);
  marks = rw marked (marks_same n s.work s'.work b.marked stay i.marks);
}

-- record r comes, with line l, and is not noted as undoing
module _ (n : ℕ) (s : Areas) (b : Book) (i : Notes n s b) (v : List ℕ) (r : Record) (long : record_words * received_count s + record_words ≤ length s.log)
    (words : (j : ℕ) → undoes v n j ≡ undoes s.work n j) where
  abbrev c : ℕ
  c = received_count s

  unnoted : undoes v n c ≡ false
  unnoted = words c ∙ i.fresh c (omega arith)

  next : (t : ℕ) → left_records (undoes v n) (recorded s.log c r) t (c + 1) ≡ left_next false t r (left_records (undoes s.work n) s.log t c)
  next t = left_append (undoes s.work n) (undoes v n) s.log t c r long (λ j l. words j) ∙ ap (λ (b : Bool). left_next b t r (left_records (undoes s.work n) s.log t c)) unnoted

  -- of another transaction, which runs as before
  pub left_other : (t : ℕ) → Runs b t → is_begin r t ≡ false → is_change r t ≡ false → left_records (undoes v n) (recorded s.log c r) t (c + 1) ≡ left_entries b t
  left_other t run e d = next t ∙ rw (e, d) (i.left t run)

  -- a change of t
  pub left_own : (t : ℕ) → Runs b t → is_begin r t ≡ false → is_change r t ≡ true → left_records (undoes v n) (recorded s.log c r) t (c + 1) ≡ r ∷ left_entries b t
  left_own t run e d = next t ∙ rw (e, d) (ap (λ (rs : List Record). r ∷ rs) (i.left t run))

  -- t begins
  pub left_begun : (t : ℕ) → is_begin r t ≡ true → left_records (undoes v n) (recorded s.log c r) t (c + 1) ≡ []
  left_begun t e = next t ∙ rw e

  pub fresh_more : (k : ℕ) → k ≡ c + 1 → (j : ℕ) → k ≤ j → undoes v n j ≡ false
  fresh_more k e j l = words j ∙ i.fresh j (omega arith)
