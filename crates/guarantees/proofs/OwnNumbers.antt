-- Document 02, L8: no object comes to have its own number in a reference word. n is the number of pages. Assumes nothing.
use Prim.Native.Nat.{ℕ, ◌≤◌}
use native.Mathlib.Omega.{arith}
use mathlib.Core.Path.{◌≡◌, refl, sym, ap, ◌∙◌}
use mathlib.Core.List.{List, []}
use lib.ListN.{length, get_or}
use Rattle.words.specs.Spans.{zero_at}
use Rattle.pages.specs.Geometry.{page_of, slot_of}
use Rattle.pages.specs.Objects.{word_of, formatted_pages}
use Rattle.page_laws.specs.SoundFacts.{ref_same}
use Rattle.page_laws.specs.Tables.{row_at}
use Rattle.areas.specs.Areas.{Out}
use Rattle.areas.specs.Entry.{pages}
use Rattle.calls.specs.Calls.{perform}
use Rattle.calls.specs.Formatting.{formatted, cut}
use Rattle.calls.specs.Objects.{call_read, object_words, buffer_after}
use Rattle.acceptance.specs.Objects.{read_outcome, read_facts}
use Rattle.reach.specs.Reaching.{Refers}
use Rattle.book.specs.Demand.{Event, Point, start}
use Rattle.machine_view.specs.View.{view}
use Rattle.book_laws.proofs.Members.{each_nil}
use Rattle.demand.proofs.Formatted.{no_word}
use Rattle.guarantees.specs.Disks.{recovered_pages, from_disk}
use Rattle.guarantees.specs.Points.{AtEvery}
use Rattle.guarantees.specs.OwnNumbers.{NoOwnNumber, NeverOwnNumbers, OldNumbers, AlwaysOldNumbers}
use Rattle.guarantees.proofs.Always.{Sure, start_sure}
use Rattle.guarantees.proofs.Disks.{disk_some}
use Rattle.guarantees.proofs.Refusals.{disk_sure}
use Rattle.guarantees.proofs.OwnLines.{OwnOf, OwnLine}
use Rattle.guarantees.proofs.Recall.{shows}
use Rattle.guarantees.proofs.OwnPages.{by_words, words_by, refers_by, zeros_own, Owned, every_owned}

-- a freshly formatted store has none, wherever they may be
module _ (n : ℕ) (some : 1 ≤ n) (G : ℕ → ℕ → Type 0) where
  none_formatted : OwnOf G (view (formatted_pages n))
  none_formatted = by_words G (formatted_pages n) (λ x f low l r e. absurd (let z = no_word n some x f low l in omega arith))

  start_owned : (l : ℕ) → Owned (formatted_pages n) G G (λ x f h. h) none_formatted (start n l).store (start n l).book
  unfolding formatted
  start_owned l = record { origin = refl; lines = each_nil (OwnLine G); received = none_formatted; copies = none_formatted; stored = none_formatted }

pub never_own_numbers : NeverOwnNumbers
unfolding perform buffer_after
never_own_numbers n l some most low few es =
    let none = none_formatted n some (λ x f. ⊥) in
    every_owned (formatted_pages n) (λ x f. ⊥) (λ x f. ⊥) (λ x f h. h) none NoOwnNumber (λ q o. record {
      received = refers_by (λ x f. ⊥) q.store.received o.received;
      copies = refers_by (λ x f. ⊥) q.store.copies o.copies;
      stored = refers_by (λ x f. ⊥) q.store.stored o.stored;
      shown = λ t x f buffer a h r e.
          let k = (read_outcome q.store t x buffer).ran a in
          let low = (read_facts q.store k.n t x k.passed).object.low in
          let words : get_or (buffer_after q.store t x buffer) f 0 ≡ word_of q.store.received x f =
          ap (λ (w : List ℕ). get_or w f 0) (shows (call_read q.store t x buffer).answer _ (ap (λ (z : Out). z.answer) k.gives) (object_words q.store.received x) buffer) ∙ row_at q.store.received (page_of x) (slot_of x) f h in
          words_by (λ x f. ⊥) q.store.received o.received x f low h (ref_same q.store.received [] (page_of x) (slot_of x) f r) (sym words ∙ e);
    }) n some es (start n l) (start_sure n l some most low few) (start_owned n some (λ x f. ⊥) l)

-- the own numbers of the pages that a book starts from
module _ (g : List ℕ) where
  abbrev Old : ℕ → ℕ → Type 0
  Old x f = Refers g x f x

  old_own : OwnOf Old (view g)
  old_own = by_words Old g (λ x f low l r e. record { word = l; reference = ref_same [] g (page_of x) (slot_of x) f r; target = e; some = λ z. omega arith })

  old_numbers : (q : Point) → Owned g Old (λ x f. Unit) (λ x f h. tt) old_own q.store q.book → OldNumbers q
  old_numbers q o = record {
    received = λ x f r. rw o.origin (refers_by Old q.store.received o.received x f r);
    copies = λ x f r. rw o.origin (refers_by Old q.store.copies o.copies x f r);
  }

  every_old : (n : ℕ) → 1 ≤ n → (es : List Event) (q : Point) → Sure n q → Owned g Old (λ x f. Unit) (λ x f h. tt) old_own q.store q.book → AtEvery n OldNumbers q es
  every_old = every_owned g Old (λ x f. Unit) (λ x f h. tt) old_own OldNumbers old_numbers

pub always_old_numbers : AlwaysOldNumbers
unfolding formatted cut
always_old_numbers = record {
  formatted = λ n l some most low few es. every_old (formatted_pages n) n some es (start n l) (start_sure n l some most low few)
      (let o = none_formatted n some (Old (formatted_pages n)) in record { origin = refl; lines = each_nil (OwnLine (Old (formatted_pages n))); received = o; copies = o; stored = λ x f k r e. tt });
  disk = λ s d es. every_old (recovered_pages (cut s)) (pages s) (disk_some s d) es (from_disk s) (disk_sure s d) (record {
    origin = refl;
    lines = each_nil (OwnLine (Old (recovered_pages (cut s))));
    received = zeros_own (Old (recovered_pages (cut s))) (cut s).received (λ x f. zero_at (length s.received) _);
    copies = zeros_own (Old (recovered_pages (cut s))) (cut s).copies (λ x f. zero_at (length s.copies) _);
    stored = λ x f k r e. tt;
  });
}
