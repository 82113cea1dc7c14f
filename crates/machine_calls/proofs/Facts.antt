-- What an accepted call knows of the working words, as the facts that the collector machine asks for: of any state of the machine that
-- shows them. n is the number of pages. Assumes nothing.
use Prim.Native.Nat.{ℕ, ◌<◌, ◌≤◌}
use mathlib.Core.Path.{◌≡◌, sym, ap, ◌∙◌}
use mathlib.Core.Bool.{true}
use mathlib.Core.List.{List}
use mathlib.Core.Logic.{inl, inr}
use lib.Dec.{eqb}
use borrow.Author.Tests.{eqb-true, eqb-false, lt-ltb}
use Rattle.words.specs.Tests.{by_bool, clash, or_cases}
use Rattle.words.specs.Bits.{bit, without_bit, bit_none, without_other}
use Rattle.pages.specs.Geometry.{page_of, is_object, is_ref_at}
use Rattle.areas.specs.Areas.{Areas}
use Rattle.areas.specs.Layout.{active_at, readers_at, writers_at, unflushed_at, known_at}
use Rattle.areas.specs.Tables.{at, has, can_write, knows}
use Rattle.acceptance.specs.Transactions as Accepted
use Rattle.acceptance.specs.Locks as AcceptedLocks
use Rattle.acceptance.specs.Objects as AcceptedObjects
use Rattle.acceptance.specs.Objects.{ObjectFacts}
use Rattle.collector.specs.Bits.{and_r, true_and, false_and, or_l, or_r}
use Rattle.collector.specs.Objects as Objects
use Rattle.collector.specs.Objects.{Obj}
use Rattle.collector.specs.State.{St, Locks, Tables}
use Rattle.collector.specs.Calls.{owns}
use Rattle.collector.proofs.Facts as Facts
use Rattle.machine_view.specs.View.{view}
use Rattle.machine_calls.specs.Tables.{page_bit, object_bit}
use Rattle.machine_calls.proofs.Frames.{page_bit_law}
use Rattle.machine_view.proofs.Effects.{view_occ}
use Rattle.machine_calls.proofs.Shows.{Shows}
use Rattle.records.specs.Records.{txn_count}

-- 'nobody but t' is in a mask
pub sole : (m t u : ℕ) → without_bit m t ≡ 0 → bit m u ≡ true → u ≡ t
sole m t u e h = by_bool (eqb u t) (eqb-true u t)
    (λ q. clash (without_other m t u (eqb-false u t q) ∙ h) (ap (λ (k : ℕ). bit k u) e ∙ bit_none u))

-- a bit of a table by page is a bit of its word
pub page_has : (w : List ℕ) (n : ℕ) (place : ℕ → ℕ) (t p : ℕ) → page_bit w n place t p ≡ true → has w (place p) t ≡ true
unfolding page_bit
page_has w n place t p h = and_r _ _ (and_r _ _ h)

-- what t knows
pub known_bit : (w : List ℕ) (n t x : ℕ) → t < txn_count → object_bit w n (known_at n) t x ≡ knows w n t x
unfolding object_bit
known_bit w n t x h = rw (lt-ltb t txn_count h, true_and) (by_bool (is_object n x) (λ e. rw e (true_and (has w (known_at n x) t))) (λ e. rw e (false_and (has w (known_at n x) t))))

module _ (a : Areas) (n : ℕ) (s : St) (e : Shows a.work n s) where
  pub act_is : (t : ℕ) → t < txn_count → s.locks.act t ≡ has a.work active_at t
  act_is t h = ap (λ (l : Locks). l.act t) e.locks ∙ rw (lt-ltb t txn_count h) (true_and (has a.work active_at t))

  pub wr_is : (t p : ℕ) → s.locks.wr t p ≡ page_bit a.work n (writers_at n) t p
  wr_is t p = ap (λ (l : Locks). l.wr t p) e.locks

  pub rd_is : (t p : ℕ) → s.locks.rd t p ≡ page_bit a.work n (readers_at n) t p
  rd_is t p = ap (λ (l : Locks). l.rd t p) e.locks

  pub kn_is : (t x : ℕ) → t < txn_count → s.tables.kn t x ≡ knows a.work n t x
  kn_is t x h = ap (λ (b : Tables). b.kn t x) e.tables ∙ known_bit a.work n t x h

  pub own_is : (t o : ℕ) → t < txn_count → ObjectFacts n o → can_write a.work n t (page_of o) ≡ true → owns s t o ≡ true
  unfolding Objects.page_of
  own_is t o h f w = wr_is t (page_of o) ∙ page_bit_law a.work n (writers_at n) t (page_of o) h f.page ∙ w

  pub begin_facts : (t c m : ℕ) → Accepted.BeginFacts a n t c → s.tags.now ≤ m → Facts.BeginFacts s t m
  unfolding Objects.txns
  begin_facts t c m f l = record { small = f.txn; inactive = act_is t f.txn ∙ f.inactive; line = l }

  pub commit_facts : (t m : ℕ) → Accepted.CommitFacts a n t → s.tags.now ≤ m → Facts.CommitFacts s t m
  commit_facts t m f l = record {
    flushed = λ p h. let k : p < n = rw e.count at h in
        ap (λ (b : Tables). b.dirty t p) e.tables ∙ page_bit_law a.work n (unflushed_at n) t p f.txn k ∙ f.flushed p k;
    line = l;
  }

  pub abort_facts : (t m : ℕ) → s.tags.now ≤ m → Facts.AbortFacts s t m
  abort_facts t m l = record { line = l }

  pub lock_read_facts : (t p : ℕ) → AcceptedLocks.LockReadFacts a n t p → Facts.LockrFacts s t p
  lock_read_facts t p f = record {
    active = act_is t f.txn ∙ f.active;
    no_writer = λ u l h. sole (at a.work (writers_at n p)) t u f.no_writer_law (page_has a.work n (writers_at n) u p (sym (wr_is u p) ∙ h));
  }

  pub lock_write_facts : (t p : ℕ) → AcceptedLocks.LockWriteFacts a n t p → Facts.LockwFacts s t p
  lock_write_facts t p f = record {
    active = act_is t f.txn ∙ f.active;
    page = rw e.count f.page;
    no_writer = λ u l h. sole (at a.work (writers_at n p)) t u f.no_writer_law (page_has a.work n (writers_at n) u p (sym (wr_is u p) ∙ h));
    no_reader = λ u l h. sole (at a.work (readers_at n p)) t u f.no_reader_law (page_has a.work n (readers_at n) u p (sym (rd_is u p) ∙ h));
  }

  pub read_facts : (t o : ℕ) → AcceptedObjects.ReadFacts a n t o → Facts.ReadFacts s t o
  unfolding Objects.page_of
  read_facts t o f = record {
    lock = elim (or_cases (has a.work (readers_at n (page_of o)) t) (can_write a.work n t (page_of o)) f.lock) [
      | inl r ↦ or_r _ _ (rd_is t (page_of o) ∙ page_bit_law a.work n (readers_at n) t (page_of o) f.txn f.object.page ∙ r)
      | inr w ↦ or_l _ _ (own_is t o f.txn f.object w)
    ];
    known = kn_is t o f.txn ∙ f.known;
  }

  pub create_facts : (t o m : ℕ) → s.pages.rec o ≡ view a.received o → AcceptedObjects.CreateFacts a n t o → s.tags.now ≤ m → Facts.CreateFacts s t o m
  create_facts t o m seen f l = record {
    ranged = rw e.count f.object.top;
    own = own_is t o f.txn f.object f.lock;
    free = ap (λ (b : Obj). b.occ) seen ∙ view_occ a.received o f.object.low ∙ f.free;
    line = l;
  }

  pub set_facts : (t o f v m : ℕ) → AcceptedObjects.SetFacts a n t o f v → s.tags.now ≤ m → Facts.SetFacts s t o f v m
  unfolding Objects.is_ref is_ref_at
  set_facts t o f v m g l = record {
    own = own_is t o g.txn g.object g.lock;
    known = kn_is t o g.txn ∙ g.known;
    target = λ r. elim (g.may r) [ inl z ↦ inl z | inr k ↦ inr (kn_is t v g.txn ∙ k) ];
    line = l;
  }

  pub flush_facts : (t p : ℕ) (image : List ℕ) → AcceptedObjects.FlushFacts a n t p image → Facts.FlushFacts s t p
  flush_facts t p image f = record { own = wr_is t p ∙ page_bit_law a.work n (writers_at n) t p f.txn f.page ∙ f.lock }
