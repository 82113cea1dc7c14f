-- Records that calls append are sound: the bounds that each kind needs. n is the number of pages. Assumes nothing.
use Rattle.std.specs.Prelude.{ℕ, ◌*◌, ◌<◌, ◌≤◌, ◌^◌, ◌≡◌, true, false, ◌&&◌, ◌||◌, eqb, leb}
use Rattle.std.proofs.Math.Decide.{dec_le}
use Rattle.std.proofs.Common.{arith, inl, inr}
use borrow.Author.Tests.{lt-ltb, le-leb, ne_eqb, eqb-true}
use Rattle.words.specs.Tests.{all, by_bool, or_cases, or_l, or_r}
use Rattle.words.specs.Bits.{bit}
use Rattle.pages.specs.Geometry.{page_of, slot_of, root, object_count, slot_words, slot_count, map_top}
use Rattle.records.specs.declared.Record.{Record}
use Rattle.records.specs.Records.{begin_of, create_of, set_of, commit_of, aborted_of, uncreate_of, sweep_of, txn_count}
use Rattle.records.specs.Soundness.{word_sound, record_sound}
use Rattle.records.specs.Effects.{undoing}
use Rattle.record_laws.specs.RecordLaws.{SoundRecord, sound_record}

-- a word that may stand in a reference
reference : (n f v : ℕ) → (f < 4 → v ≤ object_count n) → leb 4 f || leb v (object_count n) ≡ true
reference n f v h = elim (dec_le 4 f) [ yes e ↦ or_l (leb 4 f) (leb v (object_count n)) (le-leb 4 f e) | no e ↦ or_r (leb 4 f) (leb v (object_count n)) (le-leb v (object_count n) (h (omega arith))) ]

module _ (n t : ℕ) (h : t < txn_count) where
  pub begin_sound : record_sound n (begin_of t) ≡ true
  unfolding record_sound word_sound all
  begin_sound = rw (lt-ltb t txn_count h)

  pub commit_sound : record_sound n (commit_of t) ≡ true
  unfolding record_sound word_sound all
  commit_sound = rw (lt-ltb t txn_count h)

  pub aborted_sound : record_sound n (aborted_of t) ≡ true
  unfolding record_sound word_sound all
  aborted_sound = rw (lt-ltb t txn_count h)

  module _ (o : ℕ) (high : o ≤ object_count n) where
    pub create_sound : 1 < o → record_sound n (create_of t o) ≡ true
    unfolding record_sound word_sound all
    create_sound l = rw (lt-ltb t txn_count h, le-leb 1 o (omega arith), le-leb o (object_count n) high, ne_eqb o 1 (λ e. omega arith))

    pub uncreate_sound : 1 < o → record_sound n (uncreate_of t o) ≡ true
    unfolding record_sound word_sound all
    uncreate_sound l = rw (lt-ltb t txn_count h, le-leb 1 o (omega arith), le-leb o (object_count n) high, ne_eqb o 1 (λ e. omega arith))

    pub set_sound : (f a b : ℕ) → 1 ≤ o → f < slot_words → (f < 4 → a ≤ object_count n) → (f < 4 → b ≤ object_count n) → record_sound n (set_of t o f a b) ≡ true
    unfolding record_sound word_sound all
    set_sound f a b l w old new = rw (lt-ltb t txn_count h, le-leb 1 o l, le-leb o (object_count n) high, lt-ltb f slot_words w, reference n f a old, reference n f b new)

pub sweep_sound : (n p m : ℕ) → p < n → m < 2 ^ slot_count → eqb p (page_of root) && bit m (slot_of root) ≡ false → record_sound n (sweep_of p m) ≡ true
unfolding record_sound word_sound all
sweep_sound n p m page map spared = rw (lt-ltb p n page, le-leb m map_top (omega arith), spared)

-- the record that undoes a sound create or set
pub undoing_sound : (n : ℕ) (r : Record) → record_sound n r ≡ true → eqb r.kind 2 || eqb r.kind 3 ≡ true → record_sound n (undoing r) ≡ true
unfolding undoing
undoing_sound n r h k = let s = sound_record n r h in elim (or_cases (eqb r.kind 2) (eqb r.kind 3) k) [
  | inl e ↦ (let q = s.create (eqb-true _ _ e) in rw e (uncreate_sound n r.txn s.txn_below r.object q.1 q.0))
  | inr e ↦ (let d = eqb-true r.kind 3 e in let q = s.write d in
      rw d (set_sound n r.txn s.txn_below r.object q.1 r.field r.new r.old q.0 s.field_below (s.new_reference d) (s.old_reference d)))
]

-- a sound sweep spares the root
pub sweep_spares : (n : ℕ) (r : Record) → SoundRecord n r → r.kind ≡ 7 → eqb r.object (page_of root) && bit r.new (slot_of root) ≡ false
sweep_spares n r s k = by_bool (eqb r.object (page_of root)) (λ e. rw (e, s.sweep_root k (eqb-true _ _ e))) (λ e. rw e)
