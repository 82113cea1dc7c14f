-- The slots that a sweeping step frees, by the tests in the paper's order. n is the number of pages, p the page. Assumes nothing.
use Rattle.std.specs.Prelude.{ℕ, ◌≡◌, Bool, true, false, ◌&&◌, List}
use Rattle.std.proofs.Common.{sym, ◌∙◌}
use Rattle.std.proofs.Math.Path.{ap}
use Rattle.words.specs.Tests.{if_t, if_f, by_bool, and_false}
use Rattle.words.specs.Bits.{bit, map_of, bit_none, no_bits, map_lt, map_bit, map_same}
use Rattle.pages.specs.Geometry.{slot_count}
use Rattle.pages.specs.Objects.{taken}
use Rattle.areas.specs.Areas.{Areas}
use Rattle.calls.specs.Pass.{locked, unmarked, sweep_map, freed_map}
use Rattle.sweep_order.specs.Order.{unmarked_map, occupied_of}

-- the page's slots among none
none_of : (c : List ℕ) (p : ℕ) → occupied_of c p 0 ≡ 0
unfolding occupied_of
none_of c p = no_bits slot_count (map_of (λ k. taken c p k && bit 0 k) slot_count) (map_lt (λ k. taken c p k && bit 0 k) slot_count)
    (λ j l. map_bit (λ k. taken c p k && bit 0 k) slot_count j l ∙ ap (λ (b : Bool). taken c p j && b) (bit_none j) ∙ and_false (taken c p j))

module _ (s : Areas) (n p : ℕ) where
  -- the page's slots among those of the tables' map are those that pass both tests
  pub garbage_occupied : occupied_of s.copies p (unmarked_map s.work n p) ≡ sweep_map s.copies s.work n p
  unfolding sweep_map occupied_of unmarked_map
  garbage_occupied =
      let u = map_of (unmarked s.work n p) slot_count in
      map_same (λ k. taken s.copies p k && bit u k) (λ k. taken s.copies p k && unmarked s.work n p k) slot_count
      (λ j l. ap (λ (b : Bool). taken s.copies p j && b) (map_bit (unmarked s.work n p) slot_count j l))

  -- nothing to free, by the tables alone, whatever the page has
  none_garbage : unmarked_map s.work n p ≡ 0 → sweep_map s.copies s.work n p ≡ 0
  none_garbage e = sym garbage_occupied ∙ ap (occupied_of s.copies p) e ∙ none_of s.copies p

  pub freed_skipped : locked s.work n p ≡ true → freed_map s n p ≡ 0
  unfolding freed_map
  freed_skipped h = if_t _ _ _ h

  pub freed_open : locked s.work n p ≡ false → freed_map s n p ≡ sweep_map s.copies s.work n p
  unfolding freed_map
  freed_open h = if_f _ _ _ h

  -- locked or not
  pub freed_none : unmarked_map s.work n p ≡ 0 → freed_map s n p ≡ 0
  unfolding freed_map
  freed_none z = by_bool (locked s.work n p) (λ h. if_t _ _ _ h) (λ h. freed_open h ∙ none_garbage z)
