-- A store with nobody at work and an empty log, whose areas all show the committed state: after formatting, and after the last reopening
-- step. n is the number of pages. Assumes nothing.
use Prim.Native.Nat.{ℕ, suc, ◌-◌, ◌≤◌}
use native.Mathlib.Omega.{arith}
use mathlib.Core.Path.{◌≡◌, refl, sym, ap, ◌∙◌}
use mathlib.Core.Bool.{Bool, false, not}
use mathlib.Core.List.{List, []}
use lib.ListN.{length}
use lib.Dec.{eqb, ltb}
use Rattle.words.specs.Tests.{by_bool, clash, and_false, or_false}
use Rattle.words.specs.Bits.{bit, bit_none}
use Rattle.pages.specs.Geometry.{is_object, object_count}
use Rattle.records.specs.Order.{open_in}
use Rattle.areas.specs.Areas.{Areas, received_count, stable_count}
use Rattle.areas.specs.Layout.{active_at, readers_at, writers_at, unflushed_at, known_at, pruned_at, created_at, colour_at, order_at, undoing_at}
use Rattle.areas.specs.Tables.{at, has, flag}
use Rattle.areas.specs.Entry.{pages, reopening}
use Rattle.book.specs.Lines.{pages_after}
use Rattle.book.specs.Books.{opened, Book, counts_committed, counts_full, committed_lines, committed_pages}
use Rattle.book.specs.Pointers.{Leads}
use Rattle.collector.specs.Bits as Bits
use Rattle.collector.specs.Bits.{◌and◌}
use Rattle.collector.specs.Objects.{Obj, Whole}
use Rattle.collector.specs.State.{white, idle, at_rest, formatted}
use Rattle.collector.proofs.Invariant as Collector
use Rattle.collector.proofs.Worlds.{flat}
use Rattle.collector.proofs.Rest.{keep_reset, start}
use Rattle.machine_view.specs.View.{view}
use Rattle.machine_calls.specs.Tables.{page_bit, object_bit, flag_bit, colour_at_object, phase_of, locks_of, tables_of, pass_of}
use Rattle.recovery_proof.specs.Lines as Log
use Rattle.recovery_proof.specs.Shapes.{shapes, recs}
use Rattle.recovery_proof.proofs.Invariant as Recovery
use Rattle.recovery_proof.proofs.Appending.{log_intro}
use Rattle.recovery_proof.proofs.Decided.{SameCells}
use Rattle.recovery_proof.proofs.Steps.{log_of, log_fresh}
use Rattle.book_laws.specs.Seen.{Seen, committed_of, seen_committed, seen_full}
use Rattle.book_laws.specs.Striking.{entries}
use Rattle.book_laws.specs.Keeping.{SoundBook, BookInv, openly}
use Rattle.book_laws.proofs.Folds.{seen_agree}
use Rattle.book_laws.proofs.Pages.{committed_view}
use Rattle.book_laws.proofs.Running.{runs_none}
use Rattle.demand.proofs.State.{machine, received, logged, LogInv, Going, OpenInv}
use Rattle.demand.proofs.HoldsWaiting.{idle_full}
use Rattle.records.specs.Records.{txn_count}

-- clear tables are nobody's
module _ (n : ℕ) (w : List ℕ) (clear : (i : ℕ) → 2 ≤ i → at w i ≡ 0) where
  none_has : (i t : ℕ) → 2 ≤ i → has w i t ≡ false
  none_has i t l = ap (λ (m : ℕ). bit m t) (clear i l) ∙ bit_none t

  page_none : (place : ℕ → ℕ) → ((p : ℕ) → 2 ≤ place p) → (t p : ℕ) → page_bit w n place t p ≡ false
  unfolding page_bit
  page_none place h t p = ap (λ (b : Bool). ltb t txn_count and (ltb p n and b)) (none_has (place p) t (h p)) ∙ rw (Bits.and_false (ltb p n)) (Bits.and_false (ltb t txn_count))

  object_none : (place : ℕ → ℕ) → ((x : ℕ) → 2 ≤ place x) → (t x : ℕ) → object_bit w n place t x ≡ false
  unfolding object_bit
  object_none place h t x = ap (λ (b : Bool). ltb t txn_count and (is_object n x and b)) (none_has (place x) t (h x)) ∙ rw (Bits.and_false (is_object n x)) (Bits.and_false (ltb t txn_count))

  flag_none : (place : ℕ → ℕ) → ((x : ℕ) → 2 ≤ place x) → (x : ℕ) → flag_bit w n place x ≡ false
  unfolding flag_bit
  flag_none place h x = ap (λ (b : Bool). is_object n x and b) (none_has (place x) flag (h x)) ∙ Bits.and_false (is_object n x)

  colour_none : (x : ℕ) → colour_at_object w n x ≡ white
  unfolding colour_at_object
  colour_none x = rw (clear (colour_at n x) (omega arith)) (by_bool (is_object n x) (λ e. rw e refl) (λ e. rw e refl))

  act_none : (t : ℕ) → (locks_of w n).act t ≡ false
  act_none t = ap (λ (b : Bool). ltb t txn_count and b) (none_has active_at t (omega arith)) ∙ Bits.and_false (ltb t txn_count)

  wr_none : (t p : ℕ) → (locks_of w n).wr t p ≡ false
  wr_none t p = page_none (writers_at n) (λ q. omega arith) t p

  pub no_locks : locks_of w n ≡ record { act = λ t. false; rd = λ t q. false; wr = λ t q. false }
  no_locks = λ z. record { act = λ t. act_none t z; rd = λ t p. page_none (readers_at n) (λ q. omega arith) t p z; wr = λ t p. wr_none t p z }

  no_tables : tables_of w n ≡ record { kn = λ t o. false; prt = λ t o. false; cot = λ t o. false; cot_f = λ o. false; dirty = λ t q. false }
  no_tables = λ z. record {
    kn = λ t x. object_none (known_at n) (λ y. omega arith) t x z;
    prt = λ t x. object_none (pruned_at n) (λ y. omega arith) t x z;
    cot = λ t x. object_none (created_at n) (λ y. omega arith) t x z;
    cot_f = λ x. flag_none (created_at n) (λ y. omega arith) x z;
    dirty = λ t p. page_none (unflushed_at n) (λ q. omega arith) t p z;
  }

  pub no_pass : pass_of w n ≡ record { phase = idle; at = 0; steps = 0; col = λ o. white }
  no_pass = λ z. record { phase = phase_of (clear 2 (omega arith) z); at = clear 3 (omega arith) z; steps = clear 4 (omega arith) z; col = λ x. colour_none x z }

-- what is asked of such a store and its book
pub record Resting (n : ℕ) (s : Areas) (b : Book) : Type 0 where
  pub size : pages s ≡ n
  pub stage : b.stage ≡ opened
  pub word : reopening s ≡ 2
  pub clear : (i : ℕ) → 2 ≤ i → at s.work i ≡ 0
  pub received_count_law : received_count s ≡ 0
  pub stable_count_law : stable_count s ≡ 0
  pub stored : s.stored ≡ committed_pages b
  pub copies : s.copies ≡ committed_pages b
  pub received : s.received ≡ committed_pages b
  pub book : BookInv b
  pub sound : SoundBook n b
  pub idle : (t : ℕ) → b.running t ≡ 0
  pub forgot : (t x : ℕ) → b.known t x ≡ false
  pub all_stable : b.stable ≡ length b.lines
  pub whole : Whole (object_count n) (suc (length b.lines)) (λ x. (seen_committed b x).object) (λ x. (seen_committed b x).tag)
  pub leads : Leads (committed_pages b) (committed_lines b)

module _ (n : ℕ) (some : 1 ≤ n) (s : Areas) (b : Book) (r : Resting n s b) where
  abbrev base : ℕ → Obj
  base x = (seen_committed b x).object

  full_same : (x : ℕ) → seen_full b x ≡ seen_committed b x
  full_same x = seen_agree b.origin (counts_full b) (counts_committed b) b.lines x
      (λ l i e. rw (runs_none b l.owner r.idle, and_false (not l.struck)) (or_false (counts_committed b l)))

  shows : (a : List ℕ) → a ≡ committed_pages b → (x : ℕ) → view a x ≡ base x
  shows a e x = ap (λ (c : List ℕ). view c x) e ∙ committed_view n b r.sound x

  -- the collector's part
  rest_machine : Collector.Inv (machine n s b)
  unfolding formatted
  rest_machine = Collector.same (at_rest n base (λ x. (seen_committed b x).tag) (suc (length b.lines))) (machine n s b) refl
      (λ z. record { cmt = base; rec = λ x. (full_same x z).object; cop = λ x. shows s.copies r.copies x z })
      (λ z. record { cmt_tag = λ x. (seen_committed b x).tag; rec_tag = λ x. (full_same x z).tag; now = suc (length b.lines) })
      (no_locks n s.work r.clear) (no_tables n s.work r.clear) (no_pass n s.work r.clear)
      (keep_reset (formatted n) base (λ x. (seen_committed b x).tag) (suc (length b.lines)) r.whole (start n some))

  -- the log's part
  no_records : received s ≡ []
  unfolding recs
  no_records = rw r.received_count_law refl

  same_base : (a : List ℕ) → a ≡ committed_pages b → SameCells [] (view a) base
  same_base a e = record { occ = λ x h. rw (shows a e x) refl; word = λ x f h. rw (shows a e x) refl }

  rest_inv : Recovery.Inv base (logged n s b)
  rest_inv = Recovery.carried base (log_of base base (λ t p. false) (λ t. false) []) (logged n s b)
      (λ x. sym (ap (λ (v : Seen). v.object) (full_same x))) (λ x. refl)
      (λ t p. sym (wr_none n s.work r.clear t p)) (λ t. sym (act_none n s.work r.clear t)) (sym (ap shapes no_records)) (log_fresh base)

  rest_log : LogInv n s b base
  unfolding recs shapes entries open_in committed_of committed_lines Log.book
  rest_log = record {
    inv = rest_inv;
    few = rw r.received_count_law (omega arith);
    same = rw r.received_count_law refl;
    stable_few = rw r.stable_count_law (omega arith);
    stable_same = rw (r.received_count_law, r.stable_count_law) (let e = r.all_stable in omega arith);
    order = rw r.received_count_law (log_intro n s.log 0 (λ i l. absurd (omega arith)) (λ i l. absurd (omega arith)));
    open_ones = λ t l. rw r.received_count_law (bit_none t) ∙ sym (act_none n s.work r.clear t);
    part = λ j l x. let e : j ≡ 0 = first j l in rw (e, r.received_count_law) refl;
    leads = λ j l. let e : j ≡ 0 = first j l in rw e r.leads;
    stored = rw r.stable_count_law (same_base s.stored r.stored);
    copies = rw r.received_count_law (same_base s.copies r.copies);
  }
    where
      first : (j : ℕ) → j ≤ received_count s - stable_count s → j ≡ 0
      first j l = let e = r.received_count_law in omega arith

  -- nothing can be taken back, and no mark is set
  rest_going : Going n s b
  rest_going = record {
    stack = λ t. [];
    deep = λ k. flat k (machine n s b) (λ t. []) (λ t. refl) rest_machine;
    backs = λ t e. absurd (e (r.idle t));
    notes = record {
      left = λ t e. absurd (e (r.idle t));
      fresh = λ j l. ap (λ (k : ℕ). not (eqb k 0)) (r.clear (undoing_at n j) (omega arith));
      marks = λ t m a c z. absurd (z (r.clear (order_at n t m) (omega arith)));
    };
  }

  pub rest_open : OpenInv n s b
  unfolding openly
  rest_open = record {
    size = r.size;
    stage = r.stage;
    word = r.word;
    collector = rest_machine;
    going = rest_going;
    book = r.book;
    sound = r.sound;
    full = r.received ∙ sym (ap (pages_after b.origin) (idle_full b r.idle));
    known = λ t x e. clash e (r.forgot t x);
    active = λ t e. clash e (act_none n s.work r.clear t);
    runs = λ t e. absurd (e (r.idle t));
    writers = record {
      writes = λ t x e. clash e (rw (r.idle t) refl);
      one = λ t u p e d. clash e (wr_none n s.work r.clear t p);
    };
    base = base;
    log = rest_log;
  }
