-- The objects that an area shows after a sound record took effect, and after it was undone. n is the number of pages. Assumes nothing.
use Prim.Native.Nat.{ℕ, zero, suc, ◌*◌, ◌≤◌}
use native.Mathlib.Omega.{arith}
use mathlib.Core.Path.{◌≡◌, refl, ◌∙◌}
use mathlib.Core.Bool.{Bool, true, false, ◌&&◌, ◌||◌}
use mathlib.Core.List.{List}
use lib.ListN.{length}
use lib.Dec.{eqb}
use borrow.Author.Tests.{eqb-true}
use Rattle.words.specs.Tests.{if, by_bool, eqb_swap}
use Rattle.words.specs.Bits.{bit}
use Rattle.pages.specs.Geometry.{page_of, slot_of, page_words, object_count}
use Rattle.pages.specs.Objects.{released}
use Rattle.records.specs.declared.Record.{Record}
use Rattle.records.specs.Soundness.{names_object, record_sound}
use Rattle.records.specs.Effects.{effect, undone}
use Rattle.record_laws.specs.RecordLaws.{SoundRecord, sound_record, named_object}
use Rattle.record_laws.specs.SoundRecords.{sweep_spares}
use Rattle.collector.specs.Objects.{Obj, blank, put}
use Rattle.machine_view.specs.View.{view, applied, unapplied}
use Rattle.machine_view.proofs.Effects.{occupy_view, release_view, written_view, released_view}

-- the four kinds that change pages, and the others
pub data Kind (r : Record) : Type 0 where
  creates : r.kind ≡ 2 → Kind r
  sets : r.kind ≡ 3 → Kind r
  uncreates : r.kind ≡ 6 → Kind r
  frees : r.kind ≡ 7 → Kind r
  other : eqb r.kind 2 ≡ false → eqb r.kind 3 ≡ false → eqb r.kind 6 ≡ false → eqb r.kind 7 ≡ false → Kind r

pub kind_of : (r : Record) → Kind r
kind_of r = by_bool (eqb r.kind 2) (λ e. creates (eqb-true r.kind 2 e)) (λ a. by_bool (eqb r.kind 3) (λ e. sets (eqb-true r.kind 3 e))
    (λ b. by_bool (eqb r.kind 6) (λ e. uncreates (eqb-true r.kind 6 e)) (λ c. by_bool (eqb r.kind 7) (λ e. frees (eqb-true r.kind 7 e)) (λ d. other a b c d))))

module _ (n : ℕ) (a : List ℕ) (len : length a ≡ page_words * n) (r : Record) (ok : record_sound n r ≡ true) where
  facts : SoundRecord n r
  facts = sound_record n r ok

  range : names_object r ≡ true → (1 ≤ r.object) × (r.object ≤ object_count n)
  range = named_object n r facts

  put_here : (x f v : ℕ) → if (eqb r.object x) (put (view a r.object) f v) (view a x) ≡ if (eqb r.object x) (put (view a x) f v) (view a x)
  put_here x f v = by_bool (eqb r.object x) (λ e. rw (e, eqb-true r.object x e) refl) (λ e. rw e refl)

  no_root : (x : ℕ) → r.kind ≡ 7 → x ≡ 0 → (eqb r.object (page_of x) && bit r.new (slot_of x)) ≡ false
  no_root x k z = rw z (sweep_spares n r facts k)

  swept_view : r.kind ≡ 7 → (x : ℕ) → view (released a r.object r.new) x ≡ if (eqb r.object (page_of x) && bit r.new (slot_of x)) blank (view a x)
  unfolding view
  swept_view k zero = rw (no_root 0 k refl) refl
  swept_view k (suc y) = released_view n a len r.object r.new (facts.sweep k).0 (suc y) (omega arith)

  pub effect_view : (x : ℕ) → view (effect a r) x ≡ applied r x (view a x)
  unfolding effect applied
  effect_view x = elim (kind_of r) [
    | creates k ↦ (let i = range (rw k refl) in rw k (occupy_view n a len r.object i.0 i.1 x ∙ rw (eqb_swap x r.object) refl))
    | sets k ↦ (let i = range (rw k refl) in rw k (written_view n a len r.object i.0 i.1 r.field r.new facts.field_below x ∙ rw (eqb_swap x r.object) (put_here x r.field r.new)))
    | uncreates k ↦ (let i = range (rw k refl) in rw k (release_view n a len r.object i.0 i.1 x ∙ rw (eqb_swap x r.object) (or_right (eqb r.object x) (view a x))))
    | frees k ↦ rw k (swept_view k x)
    | other p q s t ↦ rw (p, q, s, t) refl
  ]
    where
      or_right : (b : Bool) (v : Obj) → if b blank v ≡ if (b || false) blank v
      or_right true v = refl
      or_right false v = refl

  pub undone_view : (x : ℕ) → view (undone a r) x ≡ unapplied r x (view a x)
  unfolding undone unapplied
  undone_view x = elim (kind_of r) [
    | creates k ↦ (let i = range (rw k refl) in rw k (release_view n a len r.object i.0 i.1 x ∙ rw (eqb_swap x r.object) refl))
    | sets k ↦ (let i = range (rw k refl) in rw k (written_view n a len r.object i.0 i.1 r.field r.old facts.field_below x ∙ rw (eqb_swap x r.object) (put_here x r.field r.old)))
    | uncreates k ↦ (let i = range (rw k refl) in rw k (occupy_view n a len r.object i.0 i.1 x ∙ rw (eqb_swap x r.object) refl))
    | frees k ↦ rw k refl
    | other p q s t ↦ rw (p, q, s) refl
  ]
