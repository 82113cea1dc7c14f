-- Document 01, 'Calls': what an accepted read, create, set and flush know. n is the number of pages. Assumes nothing.
use Rattle.std.specs.Prelude.{ℕ, ◌<◌, ◌≤◌, ◌≡◌, refl, Bool, true, false, not, ◌&&◌, ◌||◌, ◌⊎◌, List, length, leb, ltb, eqb, Ok}
use Rattle.std.proofs.Common.{inl, inr, arith, ltb-true, leb-true, eqb-true}
use Rattle.std.proofs.lemmas.Bool.{not-true}
use Rattle.words.specs.Tests.{if, and_split, or_cases, clash}
use Rattle.pages.specs.Geometry.{page_words, page_of, is_object, is_ref, object_count, slot_words}
use Rattle.pages.specs.Objects.{occupied, word_of}
use Rattle.pages.specs.Images.{agrees}
use Rattle.records.specs.Records.{txn_count}
use Rattle.calls.specs.Room.{change_room}
use Rattle.areas.specs.Answers.{verdict, passed}
use Rattle.areas.specs.Areas.{Areas, done, received_count, with_work}
use Rattle.areas.specs.Layout.{known_at}
use Rattle.areas.specs.Tables.{has, is_txn, is_active, can_read, can_write, knows}
use Rattle.calls.specs.Objects.{read_tests, learned, call_read, create_tests, created, call_create, may_write, names_itself, set_tests, word_set, call_set, flush_tests, flushed, call_flush}
use Rattle.acceptance.specs.Room.{Room, room_facts}
use Rattle.acceptance.specs.Ran.{Outcome, outcome_done}

-- an object of the store, and its page
pub record ObjectFacts (n o : ℕ) : Type 0 where
  pub low : 1 ≤ o
  pub top : o ≤ object_count n
  pub page : page_of o < n

pub object_facts : (n o : ℕ) → is_object n o ≡ true → ObjectFacts n o
object_facts n o h =
    let p = and_split (leb 1 o) (leb o (object_count n)) h in
    let l = leb-true _ _ p.0 in
    let u = leb-true _ _ p.1 in
    record { low = l; top = u; page = omega arith }

-- 'one above 16 × P is never known'
if_both : (a b : Bool) → (if a b false) ≡ true → (a ≡ true) × (b ≡ true)
if_both true b h = (refl, h)
if_both false b h = clash h refl

pub record KnownFacts (w : List ℕ) (n t o : ℕ) : Type 0 where
  pub object : ObjectFacts n o
  pub has_bit : has w (known_at n o) t ≡ true

pub known_facts : (w : List ℕ) (n t o : ℕ) → knows w n t o ≡ true → KnownFacts w n t o
known_facts w n t o h = let p = if_both (is_object n o) (has w (known_at n o) t) h in record { object = object_facts n o p.0; has_bit = p.1 }

pub record ReadFacts (s : Areas) (n t o : ℕ) : Type 0 where
  pub txn : t < txn_count
  pub object : ObjectFacts n o
  pub active : is_active s.work t ≡ true
  pub lock : can_read s.work n t (page_of o) ≡ true
  pub known : knows s.work n t o ≡ true

pub read_facts : (s : Areas) (n t o : ℕ) → verdict (read_tests s n t o) ≡ Ok tt → ReadFacts s n t o
unfolding read_tests
read_facts s n t o h =
    let r = and_split (is_txn t) (is_object n o) (passed _ 0 h) in
    record { txn = ltb-true _ _ r.0; object = object_facts n o r.1; active = passed _ 1 h; lock = passed _ 2 h; known = passed _ 3 h }

pub read_outcome : (s : Areas) (t o : ℕ) (buffer : List ℕ) →
    Outcome true (eqb (length buffer) slot_words) s (λ n. read_tests s n t o) (call_read s t o buffer)
    (λ n. done (word_of s.received o 0) (with_work s (learned s.received s.work n t o slot_words)))
unfolding call_read
read_outcome s t o buffer = outcome_done _ _ _ _ (λ n. word_of s.received o 0) (λ n. with_work s (learned s.received s.work n t o slot_words))

pub record CreateFacts (s : Areas) (n t o : ℕ) : Type 0 where
  pub txn : t < txn_count
  pub object : ObjectFacts n o
  pub active : is_active s.work t ≡ true
  pub lock : can_write s.work n t (page_of o) ≡ true
  pub free : occupied s.received o ≡ false
  pub room : Room s n change_room

pub create_facts : (s : Areas) (n t o : ℕ) → verdict (create_tests s n t o) ≡ Ok tt → CreateFacts s n t o
unfolding create_tests
create_facts s n t o h =
    let r = and_split (is_txn t) (is_object n o) (passed _ 0 h) in
    record {
      txn = ltb-true _ _ r.0;
      object = object_facts n o r.1;
      active = passed _ 1 h;
      lock = passed _ 2 h;
      free = not-true _ (passed _ 3 h);
      room = room_facts s n change_room (passed _ 4 h);
    }

pub create_outcome : (s : Areas) (t o : ℕ) →
    Outcome true true s (λ n. create_tests s n t o) (call_create s t o) (λ n. done (received_count (created s n t o)) (created s n t o))
unfolding call_create
create_outcome s t o = outcome_done _ _ _ _ _ _

-- 'A reference written must be 0 or known (this is A2, enforced).' Document 02, L8: and not the object itself
pub record SetFacts (s : Areas) (n t o f v : ℕ) : Type 0 where
  pub txn : t < txn_count
  pub object : ObjectFacts n o
  pub field : f < slot_words
  pub active : is_active s.work t ≡ true
  pub lock : can_write s.work n t (page_of o) ≡ true
  pub known : knows s.work n t o ≡ true
  pub may : is_ref s.received o f ≡ true → (v ≡ 0) ⊎ (knows s.work n t v ≡ true)
  pub other : names_itself s.received o f v ≡ false
  pub room : Room s n change_room

may_cases : (ref : Bool) (v : ℕ) (known : Bool) → not ref || eqb v 0 || known ≡ true → ref ≡ true → (v ≡ 0) ⊎ (known ≡ true)
may_cases true v known h e = elim (or_cases (eqb v 0) known h) [ inl z ↦ inl (eqb-true v 0 z) | inr k ↦ inr k ]
may_cases false v known h e = clash e refl

pub set_facts : (s : Areas) (n t o f v : ℕ) → verdict (set_tests s n t o f v) ≡ Ok tt → SetFacts s n t o f v
unfolding set_tests
set_facts s n t o f v h =
    let r = and_split (is_txn t && is_object n o) (ltb f slot_words) (passed _ 0 h) in
    let q = and_split (is_txn t) (is_object n o) r.0 in
    let k = and_split (knows s.work n t o) (may_write s n t o f v) (passed _ 3 h) in
    record {
      txn = ltb-true _ _ q.0;
      object = object_facts n o q.1;
      field = ltb-true _ _ r.1;
      active = passed _ 1 h;
      lock = passed _ 2 h;
      known = k.0;
      may = may_cases (is_ref s.received o f) v (knows s.work n t v) k.1;
      other = not-true _ (passed _ 4 h);
      room = room_facts s n change_room (passed _ 5 h);
    }

pub set_outcome : (s : Areas) (t o f v : ℕ) →
    Outcome true true s (λ n. set_tests s n t o f v) (call_set s t o f v) (λ n. done (received_count (word_set s n t o f v)) (word_set s n t o f v))
unfolding call_set
set_outcome s t o f v = outcome_done _ _ _ _ _ _

pub record FlushFacts (s : Areas) (n t p : ℕ) (image : List ℕ) : Type 0 where
  pub txn : t < txn_count
  pub page : p < n
  pub active : is_active s.work t ≡ true
  pub lock : can_write s.work n t p ≡ true
  pub agree : agrees image s.received p ≡ true

pub flush_facts : (s : Areas) (n t p : ℕ) (image : List ℕ) → verdict (flush_tests s n t p image) ≡ Ok tt → FlushFacts s n t p image
unfolding flush_tests
flush_facts s n t p image h =
    let r = and_split _ _ (passed _ 0 h) in
    record { txn = ltb-true _ _ r.0; page = ltb-true _ _ r.1; active = passed _ 1 h; lock = passed _ 2 h; agree = passed _ 3 h }

pub flush_outcome : (s : Areas) (t p : ℕ) (image : List ℕ) →
    Outcome true (eqb (length image) page_words) s (λ n. flush_tests s n t p image) (call_flush s t p image) (λ n. done 0 (flushed s n t p))
unfolding call_flush
flush_outcome s t p image = outcome_done _ _ _ _ (λ n. 0) (λ n. flushed s n t p)
