-- Document 01, 'Room': what transactions reserve, by a walk down the log that ends where the last begin of each is met. u says of a
-- record whether going back appended it. Assumes nothing.
use Rattle.std.specs.Prelude.{ℕ, ◌+◌, ◌*◌, ◌<◌, ◌≤◌, ◌^◌, ◌≡◌, refl, Bool, true, false, not, ◌&&◌, ◌||◌, List, length, get_or, set, replicate, drop, eqb, Option, Some, None}
use Rattle.std.proofs.Common.{sym, ap, ◌∙◌, length-set, get_or-set_same, get_or-set_other, arith, eqb-true, ne_eqb}
use Rattle.std.proofs.lemmas.List.{get_or-replicate}
use Rattle.std.proofs.Math.Seq.{drop-nil}
use Rattle.std.proofs.Math.Decide.{ℕ_discrete}
use Rattle.std.proofs.lemmas.Bool.{not-true}
use Rattle.words.specs.Tests.{if, any, sum, by_bool, clash, and_true, and_false, and_split, eqb_swap, any_next, sum_next, or_false, or_true}
use Rattle.words.specs.Bits.{bit, with_bit, without_bit, bit_none, bit_without, with_same}
use Rattle.pages.specs.Geometry.{max_pages}
use Rattle.records.specs.declared.Record.{Record}
use Rattle.records.specs.Records.{record_words, max_records, txn_count, record_at, is_begin}
use Rattle.records.specs.Soundness.{records_sound}
use Rattle.records.specs.Changes.{changes_in, changes_left, reserve_of}
use Rattle.record_laws.specs.RecordLaws.{begun_in, changes_next, changes_next_law}
use Rattle.log_turns.specs.Turns.{turn_at, turned, turn_next, turn_other, left_tells, past_tells}

-- what the walk needs: c sound records of the log g, and a word for each among the words w, from word a on
pub record Walkable (g w : List ℕ) (a c : ℕ) : Type 0 where
  pub inside : record_words * c ≤ length g
  pub few : c ≤ max_records
  pub sound : records_sound max_pages g c ≡ true
  pub noted : a + c ≤ length w

-- the transactions whose last begin is sought, s before and after record r
abbrev pub sought_next : ℕ → Record → ℕ
sought_next s r = if (eqb r.kind 1) (without_bit s r.txn) s

-- how many changes were met, m before a turn; how many are undone further down, p before it
abbrev met_by : Option ℕ → ℕ → ℕ
met_by None m = m + 1
met_by (Some q) m = m

abbrev undone_by : Option ℕ → ℕ → ℕ
undone_by None p = p
undone_by (Some q) p = q

-- what a walk from record c down to record i, for the last begins of the transactions in a mask, says of t, if s are still sought, m
-- changes of t were met and p more are undone
pub record Walked (u : ℕ → Bool) (g : List ℕ) (mask c i s t m p : ℕ) : Type 0 where
  pub few : m + p + i ≤ c
  -- its begin and the rest of its changes are below
  pub sought : bit s t ≡ true → (begun_in g t i ≡ begun_in g t c) × (m + length (drop p (changes_in u g t i)) ≡ length (changes_in u g t c))
  -- its begin was met, and so were all its changes
  pub met : bit mask t ≡ true → bit s t ≡ false → (begun_in g t c ≡ true) × (m ≡ length (changes_in u g t c))

-- the same of each transaction, by the lists of changes met and undone
pub record WalkedTo (u : ℕ → Bool) (g : List ℕ) (mask c i s : ℕ) (l d : List ℕ) : Type 0 where
  pub size : length l ≡ txn_count
  pub size_undone : length d ≡ txn_count
  pub each : (t : ℕ) → t < txn_count → Walked u g mask c i s t (get_or l t 0) (get_or d t 0)

-- the walk is over: those still sought have no begin
pub record Found (u : ℕ → Bool) (g : List ℕ) (mask c s : ℕ) (l : List ℕ) : Type 0 where
  pub size : length l ≡ txn_count
  pub few : (t : ℕ) → t < txn_count → get_or l t 0 ≤ c
  pub left : (t : ℕ) → t < txn_count → bit mask t ≡ true → if (bit s t) 0 (get_or l t 0) ≡ length (changes_left u g c t)

-- laws

pub walk_start : (u : ℕ → Bool) (g : List ℕ) (mask c : ℕ) → WalkedTo u g mask c c mask (replicate txn_count 0) (replicate txn_count 0)
walk_start u g mask c = record {
  size = refl;
  size_undone = refl;
  each = λ t h. rw (get_or-replicate {A = ℕ} txn_count t 0 0 h) (record { few = omega arith; sought = λ b. (refl, omega arith); met = λ b e. clash b e });
}

-- a begin is no change
begin_turn : (b : Bool) (r : Record) (t p : ℕ) → is_begin r t ≡ true → Some p ≡ turn_at b r t p
begin_turn b r t p e =
    let k = eqb-true r.kind 1 (and_split (eqb r.kind 1) (eqb r.txn t) e).0 in
    turn_other b r t p (rw k (and_false b)) (rw k)

-- a record of another
other_turn : (b : Bool) (r : Record) (t p : ℕ) → eqb r.txn t ≡ false → Some p ≡ turn_at b r t p
other_turn b r t p e = turn_other b r t p
    (rw (e, and_false (eqb r.kind 2 || eqb r.kind 3 || eqb r.kind 6)) (and_false b))
    (rw (e, and_false (eqb r.kind 2 || eqb r.kind 3)))

-- a turn meets at most one
turn_few : (b : Bool) (r : Record) (t m p : ℕ) (x : Option ℕ) → turn_at b r t p ≡ x → met_by x m + undone_by x p ≤ m + p + 1
turn_few b r t m p None e = omega arith
turn_few b r t m p (Some q) e = let h = past_tells b r t p q e in omega arith

turn_count : (b : Bool) (r : Record) (t m p i : ℕ) (l : List ℕ) (x : Option ℕ) → turn_at b r t p ≡ x → met_by x m + length (drop (undone_by x p) l) ≡ m + length (turned x i l)
turn_count b r t m p i l None e = rw (left_tells b r t p e).1 (omega arith)
turn_count b r t m p i l (Some q) e = refl

-- one record down, for t
module _ (u : ℕ → Bool) (g : List ℕ) (mask c i s s' t m m' p p' : ℕ) (r : Record) (read : r ≡ record_at g i) where
  abbrev turn : Option ℕ
  turn = turn_at (u i) r t p

  begun_next : begun_in g t i || is_begin r t ≡ begun_in g t (i + 1)
  begun_next = rw read (any_next (λ j. is_begin (record_at g j) t) i)

  changes_by : changes_next (u i) t i r (changes_in u g t i) ≡ changes_in u g t (i + 1)
  changes_by = rw read (changes_next_law u g t i)

  step : bit s' t ≡ bit s t && not (is_begin r t) → m' ≡ if (bit s t) (met_by turn m) m → p' ≡ if (bit s t) (undone_by turn p) p
      → Walked u g mask c (i + 1) s t m p → Walked u g mask c i s' t m' p'
  step es em ep w = record {
    few = let f = w.few in let k = turn_few (u i) r t m p turn refl in rw (em, ep) (by_bool (bit s t) (λ e. rw e (omega arith)) (λ e. rw e (omega arith)));
    sought = λ b. let q = and_split (bit s t) (not (is_begin r t)) (sym es ∙ b) in further q.0 (not-true (is_begin r t) q.1);
    met = λ k b. by_bool (bit s t) (λ e. here e (by_bool (is_begin r t) (λ y. y) (λ y. clash (rw (e, y)) (sym es ∙ b)))) (λ e. let h = w.met k e in (h.0, rw (em, e) h.1));
  }
    where
      -- the begin is further down
      further : bit s t ≡ true → is_begin r t ≡ false → (begun_in g t i ≡ begun_in g t c) × (m' + length (drop p' (changes_in u g t i)) ≡ length (changes_in u g t c))
      further e n = let h = w.sought e in (
        sym (or_false (begun_in g t i)) ∙ ap (λ (b : Bool). begun_in g t i || b) (sym n) ∙ begun_next ∙ h.0,
        rw (em, ep, e) (turn_count (u i) r t m p i (changes_in u g t i) turn refl)
            ∙ ap (λ (l : List ℕ). m + length l) (sym (turn_next (u i) r t p i (changes_in u g t i) n) ∙ ap (drop p) changes_by)
            ∙ h.1,
      )

      -- r is the begin
      here : bit s t ≡ true → is_begin r t ≡ true → (begun_in g t c ≡ true) × (m' ≡ length (changes_in u g t c))
      here e y = let h = w.sought e in (
        sym h.0 ∙ sym begun_next ∙ ap (λ (b : Bool). begun_in g t i || b) y ∙ or_true (begun_in g t i),
        rw (em, e, ← begin_turn (u i) r t p y) (let k = rw (← changes_by, y, drop-nil) at h.1 in omega arith),
      )

-- the same of all, as the code takes it down: j, the record's number before the step
module _ (u : ℕ → Bool) (g : List ℕ) (mask c j i s : ℕ) (l d : List ℕ) (r : Record) (place : j ≡ i + 1) (read : r ≡ record_at g i) (w : WalkedTo u g mask c j s l d) where
  abbrev turn_of : ℕ → Option ℕ
  turn_of t = turn_at (u i) r t (get_or d t 0)

  -- a list k of numbers by transaction becomes k': only that of r's transaction, by the turn, if it is sought
  record Counted (f : Option ℕ → ℕ → ℕ) (k k' : List ℕ) : Type 0 where
    long : length k' ≡ length k
    own : get_or k' r.txn 0 ≡ if (bit s r.txn) (f (turn_of r.txn) (get_or k r.txn 0)) (get_or k r.txn 0)
    other : (t : ℕ) → (t ≡ r.txn → ⊥) → get_or k' t 0 ≡ get_or k t 0

  counted_at : (f : Option ℕ → ℕ → ℕ) (k k' : List ℕ) → ((t : ℕ) → f (Some (get_or d t 0)) (get_or k t 0) ≡ get_or k t 0) → Counted f k k'
      → (t : ℕ) → get_or k' t 0 ≡ if (bit s t) (f (turn_of t) (get_or k t 0)) (get_or k t 0)
  counted_at f k k' still e t = elim (ℕ_discrete t r.txn) [
    | yes q ↦ rw q e.own
    | no q ↦ (e.other t q ∙ by_bool (bit s t) (λ b. rw (b, ← other_turn (u i) r t (get_or d t 0) (ne_eqb r.txn t (λ z. q (sym z))), still t)) (λ b. rw b))
  ]

  walk_by : (s' : ℕ) (l' d' : List ℕ) → ((t : ℕ) → bit s' t ≡ bit s t && not (is_begin r t)) → Counted met_by l l' → Counted undone_by d d' → WalkedTo u g mask c i s' l' d'
  walk_by s' l' d' es el ed = record {
    size = el.long ∙ w.size;
    size_undone = ed.long ∙ w.size_undone;
    each = λ t h. step u g mask c i s s' t _ _ _ _ r read (es t) (counted_at met_by l l' (λ v. refl) el t) (counted_at undone_by d d' (λ v. refl) ed t) (rw place at (w.each t h));
  }

  -- a record of one that is not sought is passed over
  pub walk_past : bit s r.txn ≡ false → WalkedTo u g mask c i s l d
  walk_past past = walk_by s l d sought_same
      (record { long = refl; own = rw past; other = λ t q. refl })
      (record { long = refl; own = rw past; other = λ t q. refl })
    where
      absent : (t : ℕ) → eqb r.txn t ≡ true → bit s t ≡ false
      absent t e = rw (eqb-true r.txn t e) at past

      sought_same : (t : ℕ) → bit s t ≡ bit s t && not (is_begin r t)
      sought_same t = by_bool (eqb r.txn t) (λ e. rw (absent t e)) (λ e. rw (e, and_false (eqb r.kind 1)) (sym (and_true (bit s t))))

  -- one of a transaction that is sought: x, the turn
  module _ (inside : r.txn < txn_count) (one : bit s r.txn ≡ true) (x : Option ℕ) (ex : x ≡ turn_of r.txn) where
    sought_bit : (s' : ℕ) → s' ≡ sought_next s r → (t : ℕ) → bit s' t ≡ bit s t && not (is_begin r t)
    sought_bit s' es t = by_bool (eqb r.kind 1)
        (λ e. rw (es, e) (bit_without s r.txn t ∙ rw (eqb_swap t r.txn)))
        (λ e. rw (es, e) (sym (and_true (bit s t))))

    -- the numbers that the turn changes, and those that it keeps
    put : (f : Option ℕ → ℕ → ℕ) (k : List ℕ) (v : ℕ) → length k ≡ txn_count → v ≡ f x (get_or k r.txn 0) → Counted f k (set k r.txn v)
    put f k v n e = record {
      long = length-set k r.txn v;
      own = rw (one, ← ex) (get_or-set_same k r.txn v 0 (omega arith) ∙ e);
      other = λ t q. get_or-set_other k r.txn t v 0 q;
    }

    kept : (f : Option ℕ → ℕ → ℕ) (k : List ℕ) → get_or k r.txn 0 ≡ f x (get_or k r.txn 0) → Counted f k k
    kept f k e = record { long = refl; own = rw (one, ← ex) e; other = λ t q. refl }

    -- a change that is left is no begin
    still_sought : x ≡ None → s ≡ sought_next s r
    still_sought e =
        let h = (left_tells (u i) r r.txn (get_or d r.txn 0) (sym ex ∙ e)).0 in
        by_bool (eqb r.kind 1)
        (λ k. clash h (rw (eqb-true r.kind 1 k) refl))
        (λ k. rw k refl)

    pub walk_left : x ≡ None → WalkedTo u g mask c i s (set l r.txn (get_or l r.txn 0 + 1)) d
    walk_left e = walk_by s _ d (sought_bit s (still_sought e)) (put met_by l _ w.size (rw e)) (kept undone_by d (rw e))

    pub walk_on : (q : ℕ) → x ≡ Some q → (s' : ℕ) → s' ≡ sought_next s r → WalkedTo u g mask c i s' l (set d r.txn q)
    walk_on q e s' es = walk_by s' l _ (sought_bit s' es) (kept met_by l (rw e)) (put undone_by d q w.size_undone (rw e))

-- the changes of t that are left, of a walk to the first record
walked_left : (u : ℕ → Bool) (g : List ℕ) (mask c s t m p : ℕ) → bit mask t ≡ true → Walked u g mask c 0 s t m p → if (bit s t) 0 m ≡ length (changes_left u g c t)
unfolding changes_left any
walked_left u g mask c s t m p b k = by_bool (bit s t)
    (λ e. rw (e, sym (k.sought e).0))
    (λ e. let h = k.met b e in rw (e, h.0) h.1)

pub walk_end : (u : ℕ → Bool) (g : List ℕ) (mask c s : ℕ) (l d : List ℕ) → WalkedTo u g mask c 0 s l d → Found u g mask c s l
walk_end u g mask c s l d w = record {
  size = w.size;
  few = λ t h. let f = (w.each t h).few in omega arith;
  left = λ t h b. walked_left u g mask c s t (get_or l t 0) (get_or d t 0) b (w.each t h);
}

-- where none is sought the rest of the log does not matter
pub walk_done : (u : ℕ → Bool) (g : List ℕ) (mask c i s : ℕ) (l d : List ℕ) → s ≡ 0 → WalkedTo u g mask c i s l d → Found u g mask c s l
walk_done u g mask c i s l d e w = walk_end u g mask c s l d (record {
  size = w.size;
  size_undone = w.size_undone;
  each = λ t h. let k = w.each t h in let f = k.few in record { few = omega arith; sought = λ b. clash b (rw e (bit_none t)); met = k.met };
})

-- a mask of t alone has t
mask_bit : (t : ℕ) → bit (2 ^ t) t ≡ true
unfolding with_bit
mask_bit t = let e : 0 + 2 ^ t ≡ 2 ^ t = omega arith in rw (bit_none t, e) at (with_same 0 t)

-- what a walk for t alone found
pub one_left : (u : ℕ → Bool) (g : List ℕ) (mask c s t : ℕ) (l : List ℕ) → mask ≡ 2 ^ t → t < txn_count → Found u g mask c s l → if (bit s t) 0 (get_or l t 0) ≡ length (changes_left u g c t)
one_left u g mask c s t l e h f = f.left t h (rw e (mask_bit t))

-- the sum over the transactions, one more
pub reserved_next : (u : ℕ → Bool) (g : List ℕ) (active c s t : ℕ) (l : List ℕ) (v y : ℕ) → Found u g active c s l → t < txn_count → v ≡ sum (reserve_of u g c active) t
    → y ≡ if (bit active t) (1 + if (bit s t) 0 (get_or l t 0)) 0 → v + y ≡ sum (reserve_of u g c active) (t + 1)
reserved_next u g active c s t l v y k h f e =
    ap (λ (x : ℕ). v + x) (e ∙ by_bool (bit active t) (λ b. rw (b, k.left t h b)) (λ b. rw b))
    ∙ ap (λ (x : ℕ). x + reserve_of u g c active t) f
    ∙ sum_next (reserve_of u g c active) t
