-- Stored pages and records that reopening accepts give sound pages. n is the number of pages. Assumes nothing.
use Prim.Native.Nat.{ℕ, ◌*◌, ◌≤◌, ◌<◌}
use native.Mathlib.Omega.{arith}
use mathlib.Core.Path.{◌≡◌, refl, sym, ◌∙◌}
use mathlib.Core.Bool.{true}
use mathlib.Core.List.{List}
use lib.ListN.{length}
use lib.Dec.{eqb}
use borrow.Author.Tests.{eqb-true, ltb-true}
use Rattle.words.specs.Tests.{by_bool, and_l, and_split, all_at}
use Rattle.pages.specs.Geometry.{object_at, is_ref_at, root, page_words, slot_count, slot_words, ref_words, object_count}
use Rattle.pages.specs.Objects.{slot_word}
use Rattle.pages.specs.Soundness.{free_zero, area_sound}
use Rattle.page_laws.specs.SoundFacts.{sound_facts, facts_sound, free_fact}
use Rattle.records.specs.declared.Record.{Record}
use Rattle.records.specs.Effects.{effect, undone}
use Rattle.records.specs.Soundness.{record_sound}
use Rattle.records.specs.Recovery.{recovered}
use Rattle.record_laws.specs.EffectLaws.{length_recovered}
use Rattle.record_laws.specs.RecordLaws.{SoundRecord, sound_record}
use Rattle.acceptance.specs.Reopening.{RecoverableFacts}
use Rattle.collector.specs.Objects.{Obj, fresh, blank, put}
use Rattle.machine_view.specs.View.{view, names, unapplied}
use Rattle.machine_view.proofs.Effects.{view_occ, view_word}
use Rattle.machine_view.proofs.Places.{page_of_at, slot_of_at}
use Rattle.machine_view.proofs.Records.{effect_view, undone_view}
use Rattle.recovery_proof.proofs.Maps.{small_sound, small_recovered}
use Rattle.recovery_proof.proofs.Reopening.{recovered_keeps}
use Rattle.book_laws.specs.Keeping.{Origin}
use Rattle.demand.proofs.Pointing.{first_range, put_range, applied_range}
use Rattle.demand.proofs.Stopping.{root_kept}

-- undoing a sound record puts references of the store back, and keeps the root
unapplied_range : {n : ℕ} (r : Record) → SoundRecord n r → (x : ℕ) (b : Obj) (f : ℕ) → f < ref_words → b.word f ≤ object_count n → (unapplied r x b).word f ≤ object_count n
unfolding unapplied fresh blank
unapplied_range {n} r h x b f l k = by_bool (names 2 r x)
    (λ e. rw e (omega arith))
    (λ e. rw e (by_bool (names 3 r x)
    (λ d. rw d (put_range b r.field r.old f (object_count n) k (λ z. h.old_reference (eqb-true r.kind 3 (and_l (eqb r.kind 3) (eqb r.object x) d)) (omega arith))))
    (λ d. rw d (by_bool (names 6 r x) (λ q. rw q (omega arith)) (λ q. rw q k)))))

root_back : {n : ℕ} (r : Record) → SoundRecord n r → (b : Obj) → b.occ ≡ true → (unapplied r root b).occ ≡ true
unfolding unapplied fresh put
root_back {n} r h b e = by_bool (names 2 r root)
    (λ q. let z = and_split (eqb r.kind 2) (eqb r.object root) q in let u = (h.create (eqb-true r.kind 2 z.0)).0 in let o = eqb-true r.object root z.1 in absurd (omega arith))
    (λ q. rw q (by_bool (names 3 r root) (λ d. rw d e) (λ d. rw d (by_bool (names 6 r root) (λ k. rw k refl) (λ k. rw k e)))))

-- references are objects of the store, and the root is there
record Fair (n : ℕ) (a : List ℕ) : Type 0 where
  range : (x f : ℕ) → f < ref_words → (view a x).word f ≤ object_count n
  rooted : (view a root).occ ≡ true

module _ (n : ℕ) (a : List ℕ) (len : length a ≡ page_words * n) (r : Record) (ok : record_sound n r ≡ true) (h : Fair n a) where
  fair_effect : Fair n (effect a r)
  fair_effect = record {
    range = λ x f l. rw (effect_view n a len r ok x) (applied_range r (sound_record n r ok) x (view a x) f l (h.range x f l));
    rooted = rw (effect_view n a len r ok root) (root_kept r (sound_record n r ok) (view a root) h.rooted);
  }

  fair_undone : Fair n (undone a r)
  fair_undone = record {
    range = λ x f l. rw (undone_view n a len r ok x) (unapplied_range r (sound_record n r ok) x (view a x) f l (h.range x f l));
    rooted = rw (undone_view n a len r ok root) (root_back r (sound_record n r ok) (view a root) h.rooted);
  }

module _ (n : ℕ) (a g : List ℕ) (c : ℕ) (len : length a ≡ page_words * n) (h : RecoverableFacts n a g c) where
  first : Origin n a
  first = record { size = len; sound = h.stored_sound }

  fair : Fair n (recovered a g c)
  fair = recovered_keeps n (Fair n) (λ b l r ok k. fair_effect n b l r ok k) (λ b l r ok k. fair_undone n b l r ok k) a g c len h.log_sound_law
      (record { range = first_range n a first; rooted = view_occ a root (omega arith) ∙ (sound_facts a n h.stored_sound).rooted })

  in_range_law : (p s f : ℕ) → s < slot_count → f < slot_words → is_ref_at (recovered a g c) p s f ≡ true → slot_word (recovered a g c) p s f ≤ object_count n
  unfolding is_ref_at
  in_range_law p s f l m r =
      let x = object_at p s in
      let k = fair.range x f (ltb-true f ref_words r) in
      rw (page_of_at p s l, slot_of_at p s l) at (rw (view_word (recovered a g c) x (omega arith) f m) at k)

  pub recovered_sound : area_sound (recovered a g c) n ≡ true
  recovered_sound = facts_sound (recovered a g c) n (record {
    map = λ p l. let z = small_recovered n a g c len (small_sound n a h.stored_sound) h.log_sound_law p l in omega arith;
    ref = λ p s f hp hs hf r. in_range_law p s f hs hf r;
    free = λ p s f hp hs hf r. free_fact (recovered a g c) p s f (all_at (free_zero (recovered a g c)) n p h.free_zero_law hp) hs hf r;
    rooted = sym (view_occ (recovered a g c) root (omega arith)) ∙ fair.rooted;
  })

  pub recovered_origin : Origin n (recovered a g c)
  recovered_origin = record { size = length_recovered a g c ∙ len; sound = recovered_sound }
