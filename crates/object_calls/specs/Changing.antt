-- A create and a set: what their tests give the code, and the tables that they leave. Assumes nothing.
use Rattle.std.specs.Prelude.{ℕ, ◌*◌, ◌<◌, ◌≤◌, ◌≡◌, refl, true, false, List, [], length, Ok}
use Rattle.std.proofs.Common.{sym, ap, ◌∙◌, inl, inr, arith}
use borrow.Author.Tests.{lt-ltb}
use Rattle.words.specs.Tests.{if, clash}
use Rattle.pages.specs.Geometry.{slot_words, page_words, ref_words, page_of, object_count, is_ref_at, is_ref, root}
use Rattle.pages.specs.Objects.{occupied, word_of}
use Rattle.page_laws.specs.SoundFacts.{sound_facts, ref_in_range}
use Rattle.records.specs.Records.{txn_count, create_of, set_of}
use Rattle.areas.specs.Answers.{verdict}
use Rattle.areas.specs.Areas.{Areas, areas}
use Rattle.areas.specs.Layout.{HasTables, unflushed_at}
use Rattle.areas.specs.Tables.{gain}
use Rattle.calls.specs.Objects.{create_tests, set_tests, pruned, prunes}
use Rattle.acceptance.specs.Entered.{Open}
use Rattle.acceptance.specs.Objects.{create_facts, SetFacts, set_facts, known_facts}
use Rattle.log_ops.specs.Logs.{Fits, open_fits}
use Rattle.record_laws.specs.SoundRecords.{create_sound, set_sound}
use Rattle.object_checks.specs.Tests.{create_looks, set_looks}
use Rattle.object_changes.specs.Changing.{entered_write, entered_set}

-- of the word that the write overwrites, as the definition has it
pub set_tables : (a w : List ℕ) (n t o f v : ℕ) →
    entered_set a w n t o f v ≡ (let b = gain w (unflushed_at n (page_of o)) t in let u = pruned b n t (word_of a o f) in if (prunes a o f v) u b)
unfolding entered_write
set_tables a w n t o f v = refl

module _ (s : Areas) (n : ℕ) (h : Open s n) where
  not_root : (o : ℕ) → occupied s.received o ≡ false → o ≡ root → ⊥
  not_root o e z = clash {b = occupied s.received root} (sound_facts s.received n h.ranged.received_sound).rooted (rw z at e)

  -- 'a reference above 16 × P' is neither overwritten nor written
  old_in_range : (t o f v : ℕ) → SetFacts s n t o f v → is_ref s.received o f ≡ true → word_of s.received o f ≤ object_count n
  old_in_range t o f v p hf = ref_in_range s.received n o h.ranged.received_sound p.object.low p.object.top f p.field hf

  new_in_range : (t o f v : ℕ) → SetFacts s n t o f v → is_ref s.received o f ≡ true → v ≤ object_count n
  new_in_range t o f v p hf = elim (p.may hf) [ inl z ↦ omega arith | inr k ↦ (known_facts s.work n t v k).object.top ]

  ref_below : (o f : ℕ) → f < ref_words → is_ref s.received o f ≡ true
  unfolding is_ref_at
  ref_below o f l = lt-ltb f ref_words l

module _ (s c r g k w : List ℕ) (n t o : ℕ) (h : Open (areas s c r g k w) n) where
  pub create_ready : verdict (create_tests (areas [] [] r g k w) n t o) ≡ Ok tt →
      Fits r g k (create_of t o) × HasTables w n × (t < txn_count) × (1 ≤ o) × (o ≤ object_count n)
  create_ready p =
      let q = create_facts (areas s c r g k w) n t o (sym (ap verdict (create_looks s c r g k w n t o)) ∙ p) in
      let m = q.room in
      let d = not_root _ n h o q.free in
      let b = q.object in
      (open_fits _ n _ h (create_sound n t q.txn o b.top (omega arith)) (omega arith), h.sized.tables, q.txn, b.low, b.top)

  pub set_ready : (f v : ℕ) → verdict (set_tests (areas [] [] r g k w) n t o f v) ≡ Ok tt →
      Fits r g k (set_of t o f (word_of r o f) v) × (page_words * n ≤ length r) × HasTables w n × (t < txn_count) × (1 ≤ o) × (o ≤ object_count n)
      × (f < slot_words) × (is_ref r o f ≡ true → word_of r o f ≤ object_count n)
  set_ready f v p =
      let q = set_facts (areas s c r g k w) n t o f v (sym (ap verdict (set_looks s c r g k w n t o f v)) ∙ p) in
      let m = q.room in
      let b = q.object in
      let z = h.sized.received_len in
      let old = old_in_range _ n h t o f v q in
      let new = new_in_range _ n h t o f v q in
      let below = ref_below _ n h o f in (
        open_fits _ n _ h (set_sound n t q.txn o b.top f _ v b.low q.field (λ l. old (below l)) (λ l. new (below l))) (omega arith),
        omega arith,
        h.sized.tables,
        q.txn,
        b.low,
        b.top,
        q.field,
        old,
      )
