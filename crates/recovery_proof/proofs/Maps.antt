-- Maps of occupied slots stay 16 bits wide under records and reopening, and an area is decided by the objects that it shows. n is the
-- number of pages. Assumes nothing.
use Prim.Native.Nat.{ℕ, zero, suc, ◌+◌, ◌*◌, ◌/◌, ◌%◌, ◌≤◌, ◌<◌}
use native.Mathlib.Omega.{arith}
use mathlib.Core.Path.{◌≡◌, refl, sym, ◌∙◌}
use mathlib.Core.Bool.{true}
use mathlib.Core.List.{List}
use lib.ListN.{length, get_or, set, replicate, length-replicate, get_or-replicate}
use lib.Seq.{ext_get_or}
use lib.Dec.{eqb}
use Rattle.words.specs.Tests.{by_bool}
use Rattle.words.specs.Bits.{with_bit, without_bit, with_lt, without_le, bits_same}
use Rattle.pages.specs.Geometry.{page_at, slot_at, object_at, page_of, slot_of, root, page_words, object_count, slot_count, slot_words, map_top}
use Rattle.pages.specs.Objects.{map_at, taken, slot_word, cleared, taken_slot, freed_slot, released_in, formatted_pages}
use Rattle.pages.specs.Soundness.{area_sound}
use Rattle.records.specs.declared.Record.{Record}
use Rattle.records.specs.Effects.{effect, undone}
use Rattle.records.specs.Soundness.{record_sound}
use Rattle.records.specs.Order.{log_sound}
use Rattle.records.specs.Recovery.{recovered}
use Rattle.machine_view.specs.View.{view}
use Rattle.page_laws.specs.BitLaws.{clear_le}
use Rattle.page_laws.specs.Places.{map_put, map_set, map_released_in}
use Rattle.page_laws.specs.SoundFacts.{sound_facts}
use Rattle.machine_view.proofs.Places.{map_inside, slot_small, page_small, page_of_at, slot_of_at}
use Rattle.record_laws.specs.RecordLaws.{sound_record, named_object}
use Rattle.machine_view.proofs.Effects.{view_occ, view_word}
use Rattle.machine_view.proofs.Records.{creates, sets, uncreates, frees, other, kind_of}
use Rattle.recovery_proof.proofs.Reopening.{recovered_keeps}

-- no map above 65535
abbrev pub Small : ℕ → List ℕ → Type 0
Small n a = (p : ℕ) → p < n → map_at a p ≤ map_top

pub small_sound : (n : ℕ) (a : List ℕ) → area_sound a n ≡ true → Small n a
small_sound n a h p l = let e = (sound_facts a n h).map p l in omega arith

-- one slot, with another map
module _ (n : ℕ) (a : List ℕ) (len : length a ≡ page_words * n) (p s : ℕ) (hp : p < n) (hs : s < slot_count) (h : Small n a) where
  small_remade : (v : ℕ) → v ≤ map_top → Small n (cleared (set a (page_at p) v) p s)
  small_remade v b q l = rw (map_put a p s v hs (omega arith) q) (by_bool (eqb q p) (λ e. rw e b) (λ e. rw e (h q l)))

  pub small_taken : Small n (taken_slot a p s)
  unfolding taken_slot
  small_taken = small_remade (with_bit (map_at a p) s) (let b = h p hp in let k = with_lt (map_at a p) s 16 (omega arith) hs in omega arith)

  pub small_freed : Small n (freed_slot a p s)
  unfolding freed_slot
  small_freed = small_remade (without_bit (map_at a p) s) (let b = h p hp in let k = without_le (map_at a p) s in omega arith)

pub small_released : (n : ℕ) (a : List ℕ) → length a ≡ page_words * n → (p m : ℕ) → p < n → Small n a → (k : ℕ) → k ≤ slot_count → Small n (released_in a p m k)
small_released n a len p m hp h k l q hq = rw (map_released_in a p m (omega arith) k q l) (by_bool (eqb q p)
    (λ e. rw e (let c = clear_le (map_at a p) m k in let b = h p hp in omega arith))
    (λ e. rw e (h q hq)))

pub small_formatted : (n : ℕ) → 1 ≤ n → Small n (formatted_pages n)
unfolding formatted_pages
small_formatted n h = small_taken n (replicate (page_words * n) 0) (length-replicate (page_words * n) 0) (page_of root) (slot_of root) (omega arith) (omega arith)
    (λ p l. let z : map_at (replicate (page_words * n) 0) p ≡ 0 = get_or-replicate (page_words * n) (page_at p) 0 0 (map_inside n p l) in omega arith)

-- a sound record
module _ (n : ℕ) (a : List ℕ) (len : length a ≡ page_words * n) (r : Record) (ok : record_sound n r ≡ true) (h : Small n a) where
  place : (1 ≤ r.object) × (r.object ≤ object_count n) → page_of r.object < n
  place i = page_small n r.object i.0 i.1

  written_small : (v : ℕ) → r.kind ≡ 3 → Small n (set a (slot_at (page_of r.object) (slot_of r.object) r.field) v)
  written_small v k q l = let s = sound_record n r ok in let i = named_object n r s (rw k refl) in
      rw (map_set a (page_of r.object) (slot_of r.object) r.field v (slot_small r.object) s.field_below (omega arith) q) (h q l)

  pub small_effect : Small n (effect a r)
  unfolding effect
  small_effect = elim (kind_of r) [
    | creates k ↦ (let i = named_object n r (sound_record n r ok) (rw k refl) in rw k (small_taken n a len (page_of r.object) (slot_of r.object) (place i) (slot_small r.object) h))
    | sets k ↦ rw k (written_small r.new k)
    | uncreates k ↦ (let i = named_object n r (sound_record n r ok) (rw k refl) in rw k (small_freed n a len (page_of r.object) (slot_of r.object) (place i) (slot_small r.object) h))
    | frees k ↦ rw k (small_released n a len r.object r.new ((sound_record n r ok).sweep k).0 h 16 (omega arith))
    | other p q s t ↦ rw (p, q, s, t) h
  ]

  pub small_undone : Small n (undone a r)
  unfolding undone
  small_undone = elim (kind_of r) [
    | creates k ↦ (let i = named_object n r (sound_record n r ok) (rw k refl) in rw k (small_freed n a len (page_of r.object) (slot_of r.object) (place i) (slot_small r.object) h))
    | sets k ↦ rw k (written_small r.old k)
    | uncreates k ↦ (let i = named_object n r (sound_record n r ok) (rw k refl) in rw k (small_taken n a len (page_of r.object) (slot_of r.object) (place i) (slot_small r.object) h))
    | frees k ↦ rw k h
    | other p q s t ↦ rw (p, q, s) h
  ]

-- reopening
pub small_recovered : (n : ℕ) (a g : List ℕ) (c : ℕ) → length a ≡ page_words * n → Small n a → log_sound n g c ≡ true → Small n (recovered a g c)
small_recovered n a g c len h k = recovered_keeps n (Small n) (λ a l r ok m. small_effect n a l r ok m) (λ a l r ok m. small_undone n a l r ok m) a g c len k h

-- Areas that show the same objects are the same.
module _ (n : ℕ) (a b : List ℕ) (la : length a ≡ page_words * n) (lb : length b ≡ page_words * n) (ma : Small n a) (mb : Small n b) (same : (x : ℕ) → view a x ≡ view b x) where
  same_slot : (x p s : ℕ) → 1 ≤ x → page_of x ≡ p → slot_of x ≡ s → (taken a p s ≡ taken b p s) × ((f : ℕ) → f < slot_words → slot_word a p s f ≡ slot_word b p s f)
  same_slot x p s h e d = (
    rw (← e, ← d) (sym (view_occ a x h) ∙ rw (same x) (view_occ b x h)),
    λ f l. rw (← e, ← d) (sym (view_word a x h f l) ∙ rw (same x) (view_word b x h f l)),
  )

  same_at : (p s : ℕ) → s < slot_count → (taken a p s ≡ taken b p s) × ((f : ℕ) → f < slot_words → slot_word a p s f ≡ slot_word b p s f)
  same_at p s l = same_slot (object_at p s) p s (omega arith) (page_of_at p s l) (slot_of_at p s l)

  same_map : (p : ℕ) → p < n → map_at a p ≡ map_at b p
  same_map p l = let x = ma p l in let y = mb p l in bits_same 16 (map_at a p) (map_at b p) (omega arith) (omega arith) (λ s h. (same_at p s h).0)

  same_word : (i p o : ℕ) → i < page_words * n → i ≡ page_words * p + o → o < page_words → get_or a i 0 ≡ get_or b i 0
  same_word i p zero l e h = let k : i ≡ page_at p = omega arith in rw k (same_map p (omega arith))
  same_word i p (suc o) l e h = let k : i ≡ slot_at p (o / 8) (o % 8) = omega arith in rw k ((same_at p (o / 8) (omega arith)).1 (o % 8) (omega arith))

  pub area_ext : a ≡ b
  area_ext = ext_get_or 0 a b (la ∙ sym lb) (λ i l. same_word i (i / page_words) (i % page_words) (rw (← la) l) (omega arith) (omega arith))
