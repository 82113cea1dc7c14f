-- Areas of zeros, and the formatted pages: the root alone, with no reference. n is the number of pages. Assumes nothing.
use Prim.Native.Nat.{ℕ, ◌*◌, ◌≤◌, ◌<◌}
use native.Mathlib.Omega.{arith}
use mathlib.Core.Path.{◌≡◌, refl, sym, ap, ◌∙◌}
use mathlib.Core.Bool.{true}
use mathlib.Core.List.{List}
use lib.ListN.{length, replicate, length-replicate}
use lib.Dec.{eqb, ltb}
use Rattle.words.specs.Tests.{if, by_bool}
use Rattle.words.specs.Spans.{zero_at}
use Rattle.words.specs.Bits.{bit, bit_none}
use Rattle.pages.specs.Geometry.{page_of, slot_of, object_at, page_at, slot_at, root, page_words, slot_words, slot_count}
use Rattle.pages.specs.Objects.{slot_word, word_of, formatted_pages}
use Rattle.pages.specs.Soundness.{area_sound}
use Rattle.page_laws.specs.SoundFacts.{facts_sound}
use Rattle.page_laws.specs.ViewLaws.{length_taken}
use Rattle.collector.specs.Objects.{Obj, fresh, blank}
use Rattle.machine_view.specs.View.{view}
use Rattle.machine_view.proofs.Effects.{obj_ext, view_by, view_occ, view_word, occupy_view}
use Rattle.machine_view.proofs.Places.{page_of_at, slot_of_at}
use Rattle.recovery_proof.proofs.Maps.{small_formatted}
use Rattle.book_laws.specs.Keeping.{Origin}

abbrev pub zeros : ℕ → List ℕ
zeros n = replicate n 0

zeros_view : (n x : ℕ) → view (zeros n) x ≡ blank
unfolding blank
zeros_view n x = view_by (zeros n) (λ y. blank) (λ y h. obj_ext _ _ (ap (λ (m : ℕ). bit m (slot_of y)) (zero_at n (page_at (page_of y))) ∙ bit_none (slot_of y))
    (λ f. by_bool (ltb f slot_words) (λ e. rw (e, zero_at n (slot_at (page_of y) (slot_of y) f))) (λ e. rw e))) refl x

module _ (n : ℕ) (some : 1 ≤ n) where
  zeros_length : length (zeros (page_words * n)) ≡ page_words * n
  zeros_length = length-replicate (page_words * n) 0

  pub formatted_length : length (formatted_pages n) ≡ page_words * n
  unfolding formatted_pages
  formatted_length = length_taken (zeros (page_words * n)) 0 0 ∙ zeros_length

  pub formatted_view : (x : ℕ) → view (formatted_pages n) x ≡ if (eqb x 1) fresh blank
  unfolding formatted_pages
  formatted_view x = occupy_view n (zeros (page_words * n)) zeros_length 1 (omega arith) (omega arith) x ∙ rw (zeros_view (page_words * n) x)

  no_view : (x f : ℕ) → (view (formatted_pages n) x).word f ≡ 0
  unfolding fresh blank
  no_view x f = ap (λ (b : Obj). b.word f) (formatted_view x) ∙ by_bool (eqb x 1) (λ e. rw e refl) (λ e. rw e refl)

  -- no word is a reference
  pub no_word : (x f : ℕ) → 1 ≤ x → f < slot_words → word_of (formatted_pages n) x f ≡ 0
  no_word x f h k = sym (view_word (formatted_pages n) x h f k) ∙ no_view x f

  no_slot : (p k f : ℕ) → k < slot_count → f < slot_words → slot_word (formatted_pages n) p k f ≡ 0
  no_slot p k f h m =
      let x = object_at p k in
      let q : page_of x ≡ p = page_of_at p k h in
      let r : slot_of x ≡ k = slot_of_at p k h in
      rw (q, r) at (no_word x f (omega arith) m)

  pub formatted_sound : area_sound (formatted_pages n) n ≡ true
  unfolding fresh
  formatted_sound = facts_sound (formatted_pages n) n (record {
    map = λ p h. let z = small_formatted n some p h in omega arith;
    ref = λ p k f hp hk hf r. let z = no_slot p k f hk hf in omega arith;
    free = λ p k f hp hk hf r. no_slot p k f hk hf;
    rooted = sym (view_occ (formatted_pages n) root (omega arith)) ∙ ap (λ (o : Obj). o.occ) (formatted_view root);
  })

  pub formatted_origin : Origin n (formatted_pages n)
  formatted_origin = record { size = formatted_length; sound = formatted_sound }
