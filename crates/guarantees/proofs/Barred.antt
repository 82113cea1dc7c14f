-- Whom refusal 6 tells, of every store; with the right, and the value forgotten, locks are as before, and without it they change nothing. n is the number of pages. Assumes nothing.
use Rattle.std.specs.Prelude.{Ok}
use Prim.Native.Nat.{ℕ, ◌^◌, ◌<◌, ◌≤◌}
use native.Mathlib.Omega.{arith}
use mathlib.Core.Path.{◌≡◌, refl, sym, ap, ◌∙◌}
use mathlib.Core.Bool.{Bool, true, false, not, ◌&&◌, ◌||◌}
use lib.Bits.{bit_or, or_lt}
use lib.Dec.{eqb, ltb}
use borrow.Author.Tests.{not-true, not-false, eqb-true, eqb-false, ne_eqb, ltb-true, le-leb, lt-leb}
use Rattle.words.specs.Tests.{any, lowest, by_bool, clash, and_split, and_comm, or_r, any_same, any_intro, any_elim, lowest_passes}
use Rattle.words.specs.Bits.{bit, without_bit, bit_without, without_le, none_set}
use Rattle.words.specs.Lowest.{lowest_bound, lowest_first}
use Rattle.page_laws.specs.BitLaws.{or_none, or_others}
use Rattle.records.specs.Records.{txn_count}
use Rattle.areas.specs.declared.Refusal.TheVariants.{Malformed, NotOpen, OutOfRange, WrongState, Held, RightMissing}
use Rattle.areas.specs.Answers.{unless, verdict, Check}
use Rattle.areas.specs.Areas.{Areas, Out, done, checked, with_work}
use Rattle.areas.specs.Layout.{readers_at, writers_at, reading, writing}
use Rattle.areas.specs.Tables.{at, has, is_txn, is_active, can_read}
use Rattle.areas.specs.Entry.{pages, records, well_formed, is_ready, called}
use Rattle.calls.specs.Rights.{may_lock}
use Rattle.calls.specs.Locks.{no_other, holder_of, lock_read_tests, read_locked, call_lock_read, lock_write_tests, write_locked, call_lock_write}
use Rattle.calls.specs.Calls.{perform, lock_read, lock_write}
use Rattle.acceptance.specs.Entered.{open_formed}
use Rattle.acceptance.specs.Working.{Working}
use Rattle.guarantees.specs.Holders.{Tells, Barred, Lowest, HolderTold, right_first, AsBefore, right_in, LocksAsBefore, other}

-- the six tests of a lock: refusals 1, 2, 3, 4, 19 and 6
pub record Tests : Type 0 where
  pub form : Bool
  pub ready : Bool
  pub range : Bool
  pub active : Bool
  pub right : Bool
  pub free : Bool

abbrev pub tests : Areas → ℕ → ℕ → ℕ → Bool → Tests
tests s t p right free =
    record { form = well_formed true s; ready = is_ready true s; range = is_txn t && ltb p (pages s); active = is_active s.work t; right = may_lock s.work (pages s) t p right; free = free }

abbrev pub tested : Tests → ℕ → Check
tested c h = unless c.form Malformed (unless c.ready NotOpen (unless c.range OutOfRange (unless c.active WrongState (unless c.right RightMissing (unless c.free (Held h) (Ok tt))))))

-- without 19
abbrev plainly : Tests → ℕ → Check
plainly c h = unless c.form Malformed (unless c.ready NotOpen (unless c.range OutOfRange (unless c.active WrongState (unless c.free (Held h) (Ok tt)))))

-- and of each lock
abbrev pub read_free : Areas → ℕ → ℕ → Bool
read_free s t p = no_other s.work (writers_at (pages s) p) t

abbrev pub write_free : Areas → ℕ → ℕ → Bool
write_free s t p = no_other s.work (readers_at (pages s) p) t && no_other s.work (writers_at (pages s) p) t

abbrev pub read_tests : Areas → ℕ → ℕ → Tests
read_tests s t p = tests s t p reading (read_free s t p)

abbrev pub write_tests : Areas → ℕ → ℕ → Tests
write_tests s t p = tests s t p writing (write_free s t p)

pub read_tested : (s : Areas) (t p : ℕ) → perform s (lock_read t p)
    ≡ checked (tested (read_tests s t p) (holder_of s.work (pages s) t p)) s (done 0 (with_work s (read_locked s.work (pages s) t p)))
unfolding perform call_lock_read called lock_read_tests verdict
read_tested s t p = refl

pub write_tested : (s : Areas) (t p : ℕ) → perform s (lock_write t p)
    ≡ checked (tested (write_tests s t p) (holder_of s.work (pages s) t p)) s (done 0 (with_work s (write_locked s.work (pages s) t p)))
unfolding perform call_lock_write called lock_write_tests verdict
write_tested s t p = refl

-- with the right, and the value forgotten
alike : (form ready range active free : Bool) (h : ℕ) (s : Areas) (k : Out) → let c : Tests = record { form = form; ready = ready; range = range; active = active; right = true; free = free } in
    AsBefore (checked (tested c h) s k) (checked (plainly c 0) s k)
alike false ready range active free h s k = record { number = refl; areas = refl }
alike true false range active free h s k = record { number = refl; areas = refl }
alike true true false active free h s k = record { number = refl; areas = refl }
alike true true true false free h s k = record { number = refl; areas = refl }
alike true true true true false h s k = record { number = refl; areas = refl }
alike true true true true true h s k = record { number = refl; areas = refl }

forgotten : (c : Tests) (h : ℕ) (s : Areas) (k : Out) → c.right ≡ true → AsBefore (checked (tested c h) s k) (checked (plainly c 0) s k)
forgotten c h s k e = rw e (alike c.form c.ready c.range c.active c.free h s k)

-- without it
stopping : (form ready range active free : Bool) (h v : ℕ) (s a : Areas) → let c : Tests = record { form = form; ready = ready; range = range; active = active; right = false; free = free } in
    checked (tested c h) s (done v a) ≡ record { answer = right_first (checked (plainly c 0) s (done v a)).answer; after = s }
stopping false ready range active free h v s a = refl
stopping true false range active free h v s a = refl
stopping true true false active free h v s a = refl
stopping true true true false free h v s a = refl
stopping true true true true false h v s a = refl
stopping true true true true true h v s a = refl

unright : (c : Tests) (h v : ℕ) (s a : Areas) → c.right ≡ false → checked (tested c h) s (done v a) ≡ record { answer = right_first (checked (plainly c 0) s (done v a)).answer; after = s }
unright c h v s a e = rw e (stopping c.form c.ready c.range c.active c.free h v s a)

-- the right, by the tables
has_right : (s : Areas) (t p right : ℕ) → right ≤ right_in s t p → may_lock s.work (pages s) t p right ≡ true
unfolding may_lock
has_right s t p right h = le-leb right (right_in s t p) h

lacks_right : (s : Areas) (t p right : ℕ) → right_in s t p < right → may_lock s.work (pages s) t p right ≡ false
unfolding may_lock
lacks_right s t p right h = lt-leb right (right_in s t p) h

pub locks_as_before : LocksAsBefore
unfolding called verdict
locks_as_before s = record {
  reads = λ t p r. rw (read_tested s t p) (forgotten (read_tests s t p) (holder_of s.work (pages s) t p) s (done 0 (with_work s (read_locked s.work (pages s) t p))) (has_right s t p reading r));
  writes = λ t p r. rw (write_tested s t p) (forgotten (write_tests s t p) (holder_of s.work (pages s) t p) s (done 0 (with_work s (write_locked s.work (pages s) t p))) (has_right s t p writing r));
  unread = λ t p r. read_tested s t p ∙ unright (read_tests s t p) (holder_of s.work (pages s) t p) 0 s (with_work s (read_locked s.work (pages s) t p)) (lacks_right s t p reading r);
  unwritten = λ t p r. write_tested s t p ∙ unright (write_tests s t p) (holder_of s.work (pages s) t p) 0 s (with_work s (write_locked s.work (pages s) t p)) (lacks_right s t p writing r);
}

-- what a refusal 6 that tells g says of the tests
pub record Stopped (c : Tests) (h g : ℕ) : Type 0 where
  pub formed : c.form ≡ true
  pub opens : c.ready ≡ true
  pub ranged : c.range ≡ true
  pub barred : c.free ≡ false
  pub holder : h ≡ g

stops : (form ready range active right free : Bool) (h g : ℕ) (s a : Areas) → let c : Tests = record { form = form; ready = ready; range = range; active = active; right = right; free = free } in
    Tells (checked (tested c h) s (done 0 a)) g → Stopped c h g
stops false ready range active right free h g s a e = absurd (let z : 1 ≡ 6 = e.0 in omega arith)
stops true false range active right free h g s a e = absurd (let z : 2 ≡ 6 = e.0 in omega arith)
stops true true false active right free h g s a e = absurd (let z : 3 ≡ 6 = e.0 in omega arith)
stops true true true false right free h g s a e = absurd (let z : 4 ≡ 6 = e.0 in omega arith)
stops true true true true false free h g s a e = absurd (let z : 19 ≡ 6 = e.0 in omega arith)
stops true true true true true false h g s a e = record { formed = refl; opens = refl; ranged = refl; barred = refl; holder = e.1 }
stops true true true true true true h g s a e = absurd (let z : 0 ≡ 6 = e.0 in omega arith)

stopped : (c : Tests) (h g : ℕ) (s a : Areas) → Tells (checked (tested c h) s (done 0 a)) g → Stopped c h g
stopped c = stops c.form c.ready c.range c.active c.right c.free

-- the lowest other one, where there is one
lowest_other : (has : ℕ → Bool) (t : ℕ) → any (other t has) txn_count ≡ true → Lowest has t (lowest (other t has) txn_count)
lowest_other has t e = any_elim (other t has) txn_count e (λ u l d.
    let b = lowest_bound (other t has) txn_count u d l in
    let below : lowest (other t has) txn_count < txn_count = omega arith in
    let q = and_split (not (eqb (lowest (other t has) txn_count) t)) (has (lowest (other t has) txn_count)) (lowest_passes (other t has) txn_count below) in
    record {
      txn = below;
      other = eqb-false _ t (not-true _ q.0);
      holds = q.1;
      first = λ v a c. by_bool (has v) (λ k. clash (rw (ne_eqb v t c, k)) (lowest_first (other t has) txn_count v a)) (λ k. k);
    })

-- masks without t: nobody else is in one, or in two
pub free_one : (v t : ℕ) → v < 2 ^ txn_count → eqb (without_bit v t) 0 ≡ not (any (other t (bit v)) txn_count)
free_one v t h = none_set txn_count (without_bit v t) (let l = without_le v t in omega arith)
    ∙ ap not (any_same _ _ txn_count (λ u l. bit_without v t u ∙ and_comm (bit v u) (not (eqb u t))))

pub free_both : (r v t : ℕ) → r < 2 ^ txn_count → v < 2 ^ txn_count → eqb (without_bit r t) 0 && eqb (without_bit v t) 0 ≡ not (any (other t (λ u. bit r u || bit v u)) txn_count)
free_both r v t h k =
    let x = without_le r t in let y = without_le v t in
    let l : bit_or (without_bit r t) (without_bit v t) < 2 ^ txn_count = or_lt txn_count (without_bit r t) (without_bit v t) (omega arith) (omega arith) in
    sym (or_none (without_bit r t) (without_bit v t)) ∙ none_set txn_count (bit_or (without_bit r t) (without_bit v t)) l ∙ ap not (any_same _ _ txn_count (λ u m. or_others r v t u))

wider : (f g : ℕ → Bool) (t : ℕ) → ((u : ℕ) → f u ≡ true → g u ≡ true) → any (other t f) txn_count ≡ true → any (other t g) txn_count ≡ true
wider f g t h e = any_elim (other t f) txn_count e (λ u l d. let q = and_split (not (eqb u t)) (f u) d in any_intro (other t g) txn_count u l (rw q.0 (h u q.1)))

-- of every store
module _ (s : Areas) (t p h : ℕ) where
  abbrev pub n : ℕ
  n = pages s

  abbrev pub Read : Type 0
  Read = Stopped (read_tests s t p) (holder_of s.work n t p) h

  abbrev pub Write : Type 0
  Write = Stopped (write_tests s t p) (holder_of s.work n t p) h

  pub read_stopped : Barred s (lock_read t p) h → Read
  read_stopped e = stopped (read_tests s t p) (holder_of s.work n t p) h s (with_work s (read_locked s.work n t p)) (rw (read_tested s t p) at e)

  pub write_stopped : Barred s (lock_write t p) h → Write
  write_stopped e = stopped (write_tests s t p) (holder_of s.work n t p) h s (with_work s (write_locked s.work n t p)) (rw (write_tested s t p) at e)

  pub page_in : is_txn t && ltb p n ≡ true → p < n
  page_in e = ltb-true p n (and_split (is_txn t) (ltb p n) e).1

  working : well_formed true s ≡ true → is_ready true s ≡ true → Working s.work n (records s)
  working e d = (open_formed true s e (eqb-true _ _ d)).ranged.working

  -- another writes the page
  pub read_barred : Read → any (other t (bit (at s.work (writers_at n p)))) txn_count ≡ true
  read_barred k = let w = working k.formed k.opens in
      not-false _ (sym (free_one (at s.work (writers_at n p)) t (w.writers p (page_in k.ranged))) ∙ k.barred)

  write_barred : Write → any (other t (λ u. can_read s.work n u p)) txn_count ≡ true
  write_barred k = let w = working k.formed k.opens in
      not-false _ (sym (free_both (at s.work (readers_at n p)) (at s.work (writers_at n p)) t (w.readers p (page_in k.ranged)) (w.writers p (page_in k.ranged))) ∙ k.barred)

  tells : holder_of s.work n t p ≡ h → any (other t (λ u. can_read s.work n u p)) txn_count ≡ true → Lowest (λ u. can_read s.work n u p) t h
  unfolding holder_of
  tells e a = rw (← e) (lowest_other (λ u. can_read s.work n u p) t a)

  pub read_tells : Read → Lowest (λ u. can_read s.work n u p) t h
  read_tells k = tells k.holder (wider (bit (at s.work (writers_at n p))) (λ u. can_read s.work n u p) t (λ u e. or_r (has s.work (readers_at n p) u) (has s.work (writers_at n p) u) e) (read_barred k))

  pub write_tells : Write → Lowest (λ u. can_read s.work n u p) t h
  write_tells k = tells k.holder (write_barred k)

pub holder_told : HolderTold
holder_told s = record { reading = λ t p h e. read_tells s t p h (read_stopped s t p h e); writing = λ t p h e. write_tells s t p h (write_stopped s t p h e) }
