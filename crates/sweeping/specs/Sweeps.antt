-- A sweeping step over the lists that it reads and writes. n is the number of pages, p the page, m the map of freed slots.
-- Assumes nothing.
use Rattle.std.specs.Prelude.{ℕ, ◌+◌, ◌*◌, ◌<◌, ◌≤◌, ◌≡◌, Bool, true, false, ◌||◌, List, [], ◌∷◌, length, get_or, set, eqb, Ok, Err}
use Rattle.std.proofs.Math.Path.{sym}
use Rattle.std.proofs.Common.{ap, ◌∙◌, arith, eq-eqb, ne_eqb}
use Rattle.words.specs.Tests.{if, count, or_l}
use Rattle.words.specs.Bits.{slots_set}
use Rattle.pages.specs.Objects.{released}
use Rattle.records.specs.Records.{record_words, max_records, recorded, sweep_of}
use Rattle.records.specs.Effects.{effect}
use Rattle.areas.specs.declared.Refusal.{Refusal}
use Rattle.areas.specs.declared.Refusal.TheVariants.{LogFull}
use Rattle.areas.specs.Answers.{need, verdict, need_holds, need_fails, all_passed}
use Rattle.areas.specs.Areas.{Areas, areas, done, refused, checked_pass, checked_refuse, with_work, appended}
use Rattle.areas.specs.Layout.{pass_page_at}
use Rattle.areas.specs.Tables.{at}
use Rattle.calls.specs.Room.{sweep_room}
use Rattle.calls.specs.Pass.{freed_map, advanced, sweep_tests, swept_page, swept}
use Rattle.acceptance.specs.Pass.{sweep_facts}
use Rattle.log_ops.specs.Logs.{room_in, room_in_law}
use Rattle.sweep_maps.specs.Freed.{freed_in, freed_in_law}

-- room for a sweep's record, of the log g, the counts k and the working tables w
abbrev pub room_for : List ℕ → List ℕ → List ℕ → Areas
room_for g k w = areas [] [] [] g k w

tests_in : (s c r g k w : List ℕ) (n m : ℕ) → sweep_tests (room_for g k w) n m ≡ sweep_tests (areas s c r g k w) n m
unfolding sweep_tests
tests_in s c r g k w n m = ap (λ (b : Bool). need 11 LogFull (eqb m 0 || b) ∷ []) (room_in_law s c r g k w n sweep_room)

module _ (g k w : List ℕ) (n m : ℕ) where
  pub needs_none : m ≡ 0 → Ok tt ≡ verdict (sweep_tests (room_for g k w) n m)
  unfolding sweep_tests
  needs_none e = all_passed ∙ need_holds _ _ _ _ (or_l _ _ (eq-eqb m 0 e))

  module _ (b : Bool) (e : b ≡ room_in g k w n sweep_room) (some : m ≡ 0 → ⊥) where
    pub needs_full : b ≡ false → Err LogFull ≡ verdict (sweep_tests (room_for g k w) n m)
    unfolding sweep_tests
    needs_full h = need_fails _ _ _ _ (rw (ne_eqb m 0 some) (sym e ∙ h))

    pub needs_room : b ≡ true → Ok tt ≡ verdict (sweep_tests (room_for g k w) n m)
    unfolding sweep_tests
    needs_room h = all_passed ∙ need_holds _ _ _ _ (rw (ne_eqb m 0 some) (sym e ∙ h))

-- a record that has room fits
pub record_fits : (g k w : List ℕ) (n m : ℕ) → length g ≤ record_words * max_records → Ok tt ≡ verdict (sweep_tests (room_for g k w) n m) → (m ≡ 0 → ⊥) →
    (get_or k 0 0 < max_records) × (record_words * get_or k 0 0 + record_words ≤ length g)
record_fits g k w n m top h some = let f = (sweep_facts (room_for g k w) n m (sym h)).room some in omega arith

-- a step that frees nothing answers 0
pub none_set : (m : ℕ) → m ≡ 0 → 0 ≡ slots_set m
unfolding slots_set count
none_set m e = rw e

-- the areas after a step
unfoldable pub swept_areas : Areas → ℕ → ℕ → ℕ → Areas
swept_areas s n p m = with_work (if (eqb m 0) s (swept_page s p m)) (advanced s.work n p)

module _ (s c r g k w : List ℕ) (n p m : ℕ) where
  pub swept_none : (w' : List ℕ) → m ≡ 0 → w' ≡ advanced w n p → areas s c r g k w' ≡ swept_areas (areas s c r g k w) n p m
  unfolding swept_areas
  swept_none w' e h = rw (eq-eqb m 0 e, h)

  pub swept_some : {c' r' g' k' w' : List ℕ} → (m ≡ 0 → ⊥) → c' ≡ released c p m → r' ≡ effect r (sweep_of p m) → g' ≡ recorded g (get_or k 0 0) (sweep_of p m)
      → k' ≡ set k 0 (get_or k 0 0 + 1) → w' ≡ advanced w n p → areas s c' r' g' k' w' ≡ swept_areas (areas s c r g k w) n p m
  unfolding swept_areas swept_page appended
  swept_some some ec er eg ek ew = rw (ne_eqb m 0 some, ec, er, eg, ek, ew)

-- a step: refused, or done
module _ (s c r g k w : List ℕ) (n p m : ℕ) (page : p ≡ at w pass_page_at) (freed : m ≡ freed_in c w n p) where
  map_freed : m ≡ freed_map (areas s c r g k w) n (at w pass_page_at)
  map_freed = freed ∙ ap (freed_in c w n) page ∙ freed_in_law s c r g k w n (at w pass_page_at)

  tests_of : verdict (sweep_tests (areas s c r g k w) n (freed_map (areas s c r g k w) n (at w pass_page_at))) ≡ verdict (sweep_tests (room_for g k w) n m)
  tests_of = ap (λ (x : ℕ). verdict (sweep_tests (areas s c r g k w) n x)) (sym map_freed) ∙ ap verdict (sym (tests_in s c r g k w n m))

  pub step_full : (x : Refusal) → Err x ≡ verdict (sweep_tests (room_for g k w) n m) → refused x (areas s c r g k w) ≡ swept (areas s c r g k w) n
  unfolding swept
  step_full x h = checked_refuse _ _ _ _ (tests_of ∙ sym h)

  pub step_sweeps : (v : ℕ) (a : Areas) → Ok tt ≡ verdict (sweep_tests (room_for g k w) n m) → v ≡ slots_set m → a ≡ swept_areas (areas s c r g k w) n p m
      → done v a ≡ swept (areas s c r g k w) n
  unfolding swept swept_areas
  step_sweeps v a h e f = rw (e, f, page, map_freed) (checked_pass _ _ _ (tests_of ∙ sym h))
