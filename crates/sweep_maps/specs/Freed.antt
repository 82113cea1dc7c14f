-- The slots that a sweeping step frees, as the code finds them. n is the number of pages, p the page. Assumes nothing.
use Rattle.std.specs.Prelude.{ℕ, ◌≤◌, ◌≡◌, refl, true, false, not, ◌&&◌, eqb}
use Rattle.std.proofs.Math.Path.{sym, ap}
use Rattle.std.proofs.Common.{◌∙◌, arith}
use mathlib.Core.List.{List, []}
use Rattle.std.specs.Int.Bits.{bit_and}
use Rattle.words.specs.Tests.{by_bool}
use Rattle.words.specs.Bits.{map_of, map_lt, map_bits}
use Rattle.pages.specs.Geometry.{slot_count, map_top, object_at}
use Rattle.pages.specs.Objects.{map_at, taken}
use Rattle.areas.specs.Areas.{areas}
use Rattle.areas.specs.Layout.{writers_at, created_at, colour_at}
use Rattle.areas.specs.Tables.{at}
use Rattle.calls.specs.Pass.{locked, unmarked, sweep_map, freed_map}
use Rattle.sweep_order.specs.Order.{unmarked_map}
use Rattle.order_laws.specs.Freeing.{freed_skipped, freed_open, freed_none}
use Rattle.sweep_maps.specs.Maps.{map_and}

-- i and j: where the words stand
pub unmarked_at : (w : List ℕ) (n p s o i j : ℕ) → o ≡ object_at p s → i ≡ colour_at n o → j ≡ created_at n o → eqb (at w i) 0 && eqb (at w j) 0 ≡ unmarked w n p s
unmarked_at w n p s o i j e ei ej = rw (ei, ej, e)

pub locked_at : (w : List ℕ) (n p i : ℕ) → i ≡ writers_at n p → not (eqb (at w i) 0) ≡ locked w n p
locked_at w n p i e = rw e

-- of copies c and working tables w
abbrev pub freed_in : List ℕ → List ℕ → ℕ → ℕ → ℕ
freed_in c w n p = freed_map (areas [] c [] [] [] w) n p

pub freed_in_law : (s c r g k w : List ℕ) (n p : ℕ) → freed_in c w n p ≡ freed_map (areas s c r g k w) n p
unfolding freed_map
freed_in_law s c r g k w n p = refl

-- the ways out
pub lock_not_granted : (c w : List ℕ) (n p : ℕ) → locked w n p ≡ true → 0 ≡ freed_in c w n p
lock_not_granted c w n p h = sym (freed_skipped (areas [] c [] [] [] w) n p h)

-- u is what the tables tell
module _ (c w : List ℕ) (n p u : ℕ) (e : u ≡ unmarked_map w n p) where
  pub nothing_to_free : u ≡ 0 → 0 ≡ freed_in c w n p
  nothing_to_free z = sym (freed_none (areas [] c [] [] [] w) n p (sym e ∙ z))

  pub page_read : map_at c p ≤ map_top → locked w n p ≡ false → bit_and (map_at c p) u ≡ freed_in c w n p
  unfolding unmarked_map sweep_map
  page_read l h =
      ap (bit_and (map_at c p)) e ∙ ap (λ (x : ℕ). bit_and x (map_of (unmarked w n p) slot_count)) (sym (map_bits slot_count (map_at c p) (omega arith)))
      ∙ map_and (taken c p) (unmarked w n p) slot_count ∙ sym (freed_open (areas [] c [] [] [] w) n p h)

pub freed_below : (c w : List ℕ) (n p m : ℕ) → m ≡ freed_in c w n p → m ≤ map_top
unfolding sweep_map
freed_below c w n p m e = let s = areas [] c [] [] [] w in by_bool (locked w n p)
    (λ h. let z : m ≡ 0 = e ∙ freed_skipped s n p h in omega arith)
    (λ h. let z : m ≡ map_of (λ k. taken c p k && unmarked w n p k) slot_count = e ∙ freed_open s n p h in let l = map_lt (λ k. taken c p k && unmarked w n p k) slot_count in omega arith)
