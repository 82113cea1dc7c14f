-- A call that appends one record: the log's part of the invariant after it. n is the number of pages. Assumes nothing.
use Prim.Native.Nat.{ℕ, zero, suc, ◌+◌, ◌*◌, ◌-◌, ◌≤◌, ◌<◌}
use native.Mathlib.Omega.{arith}
use native.Mathlib.Numerals.{add-one}
use mathlib.Core.Path.{◌≡◌, refl, sym, ap, ◌∙◌}
use mathlib.Core.Bool.{true}
use mathlib.Core.List.{List, [], ◌∷◌}
use lib.ListN.{length, take, drop, set}
use lib.Seq.{get_or-set_same, get_or-set_other}
use Rattle.words.specs.Bits.{bit}
use Rattle.records.specs.declared.Record.{Record}
use Rattle.records.specs.Records.{record_at, recorded, record_words, txn_count}
use Rattle.record_laws.specs.RecordLaws.{recorded_same, recorded_other, open_append}
use Rattle.records.specs.Soundness.{record_sound}
use Rattle.records.specs.Order.{open_in, open_next, in_order, log_sound}
use Rattle.areas.specs.Areas.{Areas, received_count, stable_count}
use Rattle.areas.specs.Entry.{records}
use Rattle.book.specs.Lines.{Line, pages_after}
use Rattle.book.specs.Books.{Book}
use Rattle.book.specs.Pointers.{Leads}
use Rattle.acceptance.specs.Lengths.{Sized}
use Rattle.collector.specs.Objects.{Obj}
use Rattle.collector.proofs.Invariant as Collector
use Rattle.collector.proofs.Safety.{sound}
use Rattle.machine_view.specs.View.{view}
use Rattle.machine_calls.specs.Tables.{locks_of}
use Rattle.recovery_proof.specs.Lines as Log
use Rattle.recovery_proof.specs.Shapes.{shapes, recs}
use Rattle.recovery_proof.proofs.Appending.{recs_same, recs_more, log_more}
use Rattle.recovery_proof.proofs.Decided.{SameCells}
use Rattle.recovery_proof.proofs.Invariant as Recovery
use Rattle.recovery_proof.proofs.Steps.{log_of}
use Rattle.book_laws.specs.Seen.{Seen, counted, committed_of, seen, seen_committed, seen_full}
use Rattle.book_laws.specs.Striking.{entries}
use Rattle.book_laws.specs.Keeping.{SoundBook}
use Rattle.book_laws.proofs.Committed.{Alike}
use Rattle.demand.proofs.State.{machine, received, stable, logged, LogInv}
use Rattle.demand.proofs.Pointing.{leads_out}

-- the committed pointers lead where the collector's invariant holds
pub machine_leads : (n : ℕ) (s : Areas) (b : Book) → Collector.Inv (machine n s b) → SoundBook n b → Leads (pages_after b.origin (committed_of b.lines)) (committed_of b.lines)
unfolding committed_of
machine_leads n s b i ok = leads_out n b.origin ok.origin (counted b.lines) b.lines ok.lines (sound (machine n s b) i).committed i.whole.wf

-- the records of a log with r behind the first c
module _ (g : List ℕ) (c : ℕ) (r : Record) (long : record_words * c + record_words ≤ length g) where
  older : (i : ℕ) → i < c → record_at (recorded g c r) i ≡ record_at g i
  older i l = recorded_other g c r i (λ z. omega arith)

  pub records_more : recs (recorded g c r) (c + 1) ≡ r ∷ recs g c
  records_more = ap (recs (recorded g c r)) (add-one c) ∙ recs_more g (recorded g c r) c r older (recorded_same g c r long)

  pub records_below : (k : ℕ) → k ≤ c → recs (recorded g c r) k ≡ recs g k
  records_below k l = recs_same (recorded g c r) g k (λ i m. older i (omega arith))

  pub order_more : (n : ℕ) → log_sound n g c ≡ true → record_sound n r ≡ true → in_order (open_in g c) r ≡ true → log_sound n (recorded g c r) (c + 1) ≡ true
  order_more n h k o = rw (add-one c) (log_more g (recorded g c r) c r older (recorded_same g c r long) n h k o)

pub length_entries : (ls : List Line) → length (entries ls) ≡ length ls
unfolding entries
length_entries [] = refl
length_entries (l ∷ ls) = ap suc (length_entries ls)

take_entries : (k : ℕ) (ls : List Line) → entries (take k ls) ≡ take k (entries ls)
unfolding entries
take_entries zero ls = refl
take_entries (suc k) [] = refl
take_entries (suc k) (l ∷ ls) = ap (λ (rs : List Record). l.entry ∷ rs) (take_entries k ls)

-- the areas s' and the book b' after a call that appends r, with its line l; of the older lines some may be struck out that no part of
-- them commits
pub record Appends (n : ℕ) (s : Areas) (b : Book) (r : Record) (l : Line) (s' : Areas) (b' : Book) : Type 0 where
  pub entry : l.entry ≡ r
  pub log : s'.log ≡ recorded s.log (received_count s) r
  pub counts : s'.counts ≡ set s.counts 0 (received_count s + 1)
  pub stored : s'.stored ≡ s.stored
  pub origin : b'.origin ≡ b.origin
  pub older : List Line
  pub lines : b'.lines ≡ l ∷ older
  pub entries_same : entries older ≡ entries b.lines
  pub alike : (j : ℕ) → Alike (drop j older) (drop j b.lines)
  pub stable : b'.stable ≡ b.stable
  pub room : received_count s + 1 ≤ records s
  pub ok : record_sound n r ≡ true
  pub order : in_order (open_in s.log (received_count s)) r ≡ true

module _ (n : ℕ) (s : Areas) (b : Book) (base : ℕ → Obj) (i : LogInv n s b base) (z : Sized s n) (r : Record) (l : Line) (s' : Areas) (b' : Book)
    (a : Appends n s b r l s' b') where
  long : record_words * received_count s + record_words ≤ length s.log
  long = let e = z.log_len in let q = a.room in omega arith

  count : received_count s' ≡ received_count s + 1
  count = rw a.counts (get_or-set_same s.counts 0 (received_count s + 1) 0 (let e = z.counts_len in omega arith))

  stable_count_law : stable_count s' ≡ stable_count s
  stable_count_law = rw a.counts (get_or-set_other s.counts 0 1 (received_count s + 1) 0 (λ q. omega arith))

  received_more : received s' ≡ r ∷ received s
  received_more = rw (a.log, count) (records_more s.log (received_count s) r long)

  stable_kept : stable s' ≡ stable s
  stable_kept = rw (a.log, stable_count_law) (records_below s.log (received_count s) r long (stable_count s) i.stable_few)

  entries_more : entries (take (received_count s') b'.lines) ≡ received s'
  unfolding entries
  entries_more = let e : entries (take (received_count s') b'.lines) ≡ r ∷ entries (take (received_count s) a.older) = rw (count, add-one (received_count s), a.lines, a.entry) refl in
      e ∙ ap (λ (rs : List Record). r ∷ rs) (take_entries (received_count s) a.older ∙ ap (take (received_count s)) a.entries_same ∙ sym (take_entries (received_count s) b.lines) ∙ i.same)
      ∙ sym received_more

  older_length : length a.older ≡ length b.lines
  older_length = sym (length_entries a.older) ∙ ap length a.entries_same ∙ length_entries b.lines

  parts : Recovery.Inv base (logged n s' b') → (j : ℕ) → j ≤ received_count s' - stable_count s' → (x : ℕ)
      → Log.book base x Log.nobody (shapes (drop j (received s'))) ≡ (seen b'.origin (counted (drop j b'.lines)) (drop j b'.lines) x).object
  parts h zero k x = h.booked x
  parts h (suc j) k x = rw (received_more, a.origin, a.lines) (i.part j (let e = count in let d = stable_count_law in let m = i.stable_few in omega arith) x
      ∙ sym (ap (λ (v : Seen). v.object) ((a.alike j).shows b.origin x)))

  all_lead : Collector.Inv (machine n s' b') → SoundBook n b' → (j : ℕ) → j ≤ received_count s' - stable_count s'
      → Leads (pages_after b'.origin (committed_of (drop j b'.lines))) (committed_of (drop j b'.lines))
  all_lead h ok zero k = machine_leads n s' b' h ok
  all_lead h ok (suc j) k = rw (a.origin, a.lines, (a.alike j).lines) (i.leads j (let e = count in let d = stable_count_law in let m = i.stable_few in omega arith))

  -- the log's part of the invariant after it
  pub log_after : Recovery.Inv base (log_of (λ x. (seen_full b' x).object) (λ x. (seen_committed b' x).object) (locks_of s'.work n).wr (locks_of s'.work n).act (r ∷ received s))
      → Collector.Inv (machine n s' b') → SoundBook n b'
      → ((t : ℕ) → t < txn_count → bit (open_next (open_in s.log (received_count s)) r) t ≡ (locks_of s'.work n).act t)
      → SameCells (r ∷ received s) (view s'.copies) base
      → LogInv n s' b' base
  log_after j m ok opens copies = let h : Recovery.Inv base (logged n s' b') = rw received_more j in record {
    inv = h;
    few = rw a.lines (let e = count in let f = i.few in let o = older_length in omega arith);
    same = entries_more;
    stable_few = let e = count in let d = stable_count_law in let f = i.stable_few in omega arith;
    stable_same = rw (a.lines, a.stable) (let e = count in let d = stable_count_law in let f = i.stable_few in let g = i.stable_same in let o = older_length in omega arith);
    order = rw (a.log, count) (order_more s.log (received_count s) r long n i.order a.ok a.order);
    open_ones = λ t k. rw (a.log, count, open_append s.log (received_count s) r long) (opens t k);
    part = parts h;
    leads = all_lead m ok;
    stored = rw (stable_kept, a.stored) i.stored;
    copies = rw received_more copies;
  }
