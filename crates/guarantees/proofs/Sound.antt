-- Sound page areas: one that shows each object as one of two sound areas does, and the committed states of a book's lines. n is the number
-- of pages. Assumes nothing.
use Prim.Native.Nat.{ℕ, zero, suc, ◌*◌, ◌-◌, ◌≤◌, ◌<◌}
use native.Mathlib.Omega.{arith}
use mathlib.Core.Path.{◌≡◌, refl, sym, ap, ◌∙◌}
use mathlib.Core.Bool.{true, false}
use mathlib.Core.List.{List, ◌∷◌}
use mathlib.Core.Logic.{◌⊎◌, inl, inr}
use lib.ListN.{length, drop}
use lib.Dec.{eqb}
use borrow.Author.Tests.{eqb-true, ne_eqb, ltb-true}
use Rattle.words.specs.Tests.{by_bool}
use Rattle.pages.specs.Geometry.{page_of, slot_of, object_at, is_ref_at, object_count, slot_count, slot_words, page_words, ref_words}
use Rattle.pages.specs.Objects.{taken, slot_word, occupied, released, formatted_pages}
use Rattle.pages.specs.Soundness.{area_sound}
use Rattle.page_laws.specs.SoundFacts.{Sound, sound_facts, facts_sound, ref_same, occupy_sound, written_sound, released_sound}
use Rattle.records.specs.declared.Record.{Record}
use Rattle.records.specs.Records.{sweep_of}
use Rattle.records.specs.Effects.{effect}
use Rattle.records.specs.Soundness.{record_sound}
use Rattle.record_laws.specs.RecordLaws.{sound_record}
use Rattle.book.specs.Lines.{Line, line, filtered, has_commit, pages_after}
use Rattle.book.specs.Books.{Stage, Book, stopped}
use Rattle.collector.specs.Objects.{Obj}
use Rattle.machine_view.specs.View.{view, applied}
use Rattle.machine_view.proofs.Places.{page_of_at, slot_of_at}
use Rattle.machine_view.proofs.Records.{effect_view}
use Rattle.recovery_proof.proofs.Maps.{Small, small_effect}
use Rattle.machine_view.proofs.Effects.{view_occ, view_word}
use Rattle.book_laws.specs.Seen.{counted, committed_of}
use Rattle.book_laws.proofs.Committed.{filtered_same, Alike}
use Rattle.book_laws.proofs.Pages.{committed_of_law}
use Rattle.book_laws.proofs.Stops.{stop_committed}
use Rattle.demand.proofs.Formatted.{formatted_view, formatted_sound}

-- slot k of page p is as in area a
record SlotOf (c a : List ℕ) (p k : ℕ) : Type 0 where
  occ : taken c p k ≡ taken a p k
  word : (f : ℕ) → f < slot_words → slot_word c p k f ≡ slot_word a p k f

slot_same : (c a : List ℕ) (p k : ℕ) → k < slot_count → view c (object_at p k) ≡ view a (object_at p k) → SlotOf c a p k
slot_same c a p k l e =
    let x = object_at p k in
    let q : page_of x ≡ p = page_of_at p k l in
    let r : slot_of x ≡ k = slot_of_at p k l in
    record {
      occ = rw (q, r) at (sym (view_occ c x (omega arith)) ∙ ap (λ (o : Obj). o.occ) e ∙ view_occ a x (omega arith));
      word = λ f h. rw (q, r) at (sym (view_word c x (omega arith) f h) ∙ ap (λ (o : Obj). o.word f) e ∙ view_word a x (omega arith) f h);
    }

module _ (n : ℕ) (some : 1 ≤ n) (a b c : List ℕ) (sa : area_sound a n ≡ true) (sb : area_sound b n ≡ true) (small : Small n c)
    (either : (x : ℕ) → (view c x ≡ view a x) ⊎ (view c x ≡ view b x)) where
  slots : (p k : ℕ) → k < slot_count → SlotOf c a p k ⊎ SlotOf c b p k
  slots p k l = elim (either (object_at p k)) [ inl e ↦ inl (slot_same c a p k l e) | inr e ↦ inr (slot_same c b p k l e) ]

  -- one area's share of it
  ref_of : (d : List ℕ) → Sound d n → (p k f : ℕ) → p < n → k < slot_count → f < slot_words → is_ref_at c p k f ≡ true → SlotOf c d p k → slot_word c p k f ≤ object_count n
  ref_of d s p k f hp hk hf r o = rw (o.word f hf) (s.ref p k f hp hk hf (ref_same c d p k f r))

  free_of : (d : List ℕ) → Sound d n → (p k f : ℕ) → p < n → k < slot_count → f < slot_words → taken c p k ≡ false → SlotOf c d p k → slot_word c p k f ≡ 0
  free_of d s p k f hp hk hf r o = o.word f hf ∙ s.free p k f hp hk hf (sym o.occ ∙ r)

  pub either_sound : area_sound c n ≡ true
  either_sound = let x = sound_facts a n sa in let y = sound_facts b n sb in facts_sound c n (record {
    map = λ p l. let z = small p l in omega arith;
    ref = λ p k f hp hk hf r. elim (slots p k hk) [ inl o ↦ ref_of a x p k f hp hk hf r o | inr o ↦ ref_of b y p k f hp hk hf r o ];
    free = λ p k f hp hk hf r. elim (slots p k hk) [ inl o ↦ free_of a x p k f hp hk hf r o | inr o ↦ free_of b y p k f hp hk hf r o ];
    rooted = elim (slots 0 0 (omega arith)) [ inl o ↦ o.occ ∙ x.rooted | inr o ↦ o.occ ∙ y.rooted ];
  })

-- a sound record keeps an area sound, if a set names an object that is there
module _ (n : ℕ) (some : 1 ≤ n) (a : List ℕ) (len : length a ≡ page_words * n) (small : Small n a) (sound : area_sound a n ≡ true) (r : Record) (ok : record_sound n r ≡ true) where
  -- an uncreated object is as in a formatted store, others are as before
  uncreated : r.kind ≡ 6 → (x : ℕ) → (view (effect a r) x ≡ view a x) ⊎ (view (effect a r) x ≡ view (formatted_pages n) x)
  unfolding applied
  uncreated e x = let d = effect_view n a len r ok x in let k = (sound_record n r ok).uncreate e in by_bool (eqb r.object x)
      (λ c. inr (d ∙ rw (e, c) (sym (formatted_view n some x ∙ rw (ne_eqb x 1 (λ y. let z = eqb-true r.object x c in omega arith)) refl))))
      (λ c. inl (d ∙ rw (e, c) refl))

  pub effect_sound : (r.kind ≡ 3 → occupied a r.object ≡ true) → area_sound (effect a r) n ≡ true
  unfolding effect is_ref_at
  effect_sound there = let k = sound_record n r ok in by_bool (eqb r.kind 2)
      (λ e. rw e (let o = k.create (eqb-true r.kind 2 e) in occupy_sound n a len sound r.object (omega arith) o.1))
      (λ d2. by_bool (eqb r.kind 3)
      (λ e. rw (d2, e) (let y = eqb-true r.kind 3 e in let o = k.write y in
      written_sound n a len sound r.object o.0 o.1 r.field r.new k.field_below (there y) (λ z. k.new_reference y (ltb-true r.field ref_words z))))
      (λ d3. by_bool (eqb r.kind 6)
      (λ e. either_sound n some a (formatted_pages n) (effect a r) sound (formatted_sound n some) (small_effect n a len r ok small) (uncreated (eqb-true r.kind 6 e)))
      (λ d6. by_bool (eqb r.kind 7)
      (λ e. rw (d2, d3, d6, e) (let y = eqb-true r.kind 7 e in released_sound n a len sound r.object r.new (k.sweep y).0 (k.sweep_root y)))
      (λ d7. rw (d2, d3, d6, d7) sound))))

-- the committed states that a cut may leave are sound
abbrev pub Firm : ℕ → Book → Type 0
Firm n b = (j : ℕ) → j ≤ length b.lines - b.stable → area_sound (pages_after b.origin (committed_of (drop j b.lines))) n ≡ true

-- one line more
pub firm_more : (n : ℕ) (b b' : Book) (l : Line) → b'.origin ≡ b.origin → b'.lines ≡ l ∷ b.lines → b'.stable ≡ b.stable → b.stable ≤ length b.lines → area_sound (pages_after b'.origin (committed_of b'.lines)) n ≡ true
    → Firm n b → Firm n b'
firm_more n b b' l o e d h s f zero k = s
firm_more n b b' l o e d h s f (suc j) k = rw (o, e) (f j (let z : length b'.lines ≡ suc (length b.lines) = ap length e in omega arith))

-- one that commits nothing
pub firm_idle : (n : ℕ) (b b' : Book) (l : Line) → b'.origin ≡ b.origin → b'.lines ≡ l ∷ b.lines → b'.stable ≡ b.stable → b.stable ≤ length b.lines → Alike b'.lines b.lines → Firm n b → Firm n b'
firm_idle n b b' l o e d h a f = firm_more n b b' l o e d h (rw (o, a.lines) (f 0 (omega arith))) f

-- a change undone
pub firm_undo : (n : ℕ) (b b' : Book) → b'.origin ≡ b.origin → length b'.lines ≡ suc (length b.lines) → b'.stable ≡ b.stable → b.stable ≤ length b.lines
    → Alike b'.lines b.lines → ((j : ℕ) → Alike (drop (suc j) b'.lines) (drop j b.lines)) → Firm n b → Firm n b'
firm_undo n b b' o e d h first below f zero k = rw (o, first.lines) (f 0 (omega arith))
firm_undo n b b' o e d h first below f (suc j) k = rw (o, (below j).lines) (f j (omega arith))

-- a sweep's line
pub swept_lines : (a : List ℕ) (ls : List Line) (p m : ℕ) → pages_after a (committed_of (line (sweep_of p m) 0 ∷ ls)) ≡ released (pages_after a (committed_of ls)) p m
unfolding committed_of filtered has_commit pages_after effect
swept_lines a ls p m = ap (λ (k : List Line). released (pages_after a k) p m) (filtered_same (counted (line (sweep_of p m) 0 ∷ ls)) (counted ls) ls (λ l j. refl))

-- a stop leaves the stable lines' state
pub firm_stop : (n : ℕ) (g : Stage) (b : Book) → Firm n b → Firm n (stopped g b)
firm_stop n g b f j l = let z : j ≡ 0 = omega arith in
    rw z (rw (← (committed_of_law (stopped g b)), stop_committed g b) (f (length b.lines - b.stable) (omega arith)))
