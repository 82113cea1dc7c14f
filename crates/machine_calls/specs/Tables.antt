-- The working tables of a store of n pages as the collector machine's locks, tables and pass. Numbers out of range are nobody's: the
-- equations below then hold for every transaction, page and object. Assumes nothing.
use Rattle.std.specs.Prelude.{ℕ, zero, suc, List, ltb}
use mathlib.Core.Bool.{Bool}
use Rattle.pages.specs.Geometry.{is_object}
use Rattle.areas.specs.Layout.{phase_at, pass_page_at, steps_at, active_at, readers_at, writers_at, unflushed_at, known_at, pruned_at, created_at, colour_at}
use Rattle.areas.specs.Tables.{at, has, flag}
use Rattle.collector.specs.Bits.{◌and◌}
use Rattle.collector.specs.State.{Colour, white, grey, black, Phase, idle, marking, sweeping, Locks, Tables, Pass}
use Rattle.records.specs.Records.{txn_count}

-- transaction t's bit in a table by page, and in one by object; place: where a page's or an object's word is
unfoldable pub page_bit : List ℕ → ℕ → (ℕ → ℕ) → ℕ → ℕ → Bool
page_bit w n place t p = ltb t txn_count and (ltb p n and has w (place p) t)

unfoldable pub object_bit : List ℕ → ℕ → (ℕ → ℕ) → ℕ → ℕ → Bool
object_bit w n place t x = ltb t txn_count and (is_object n x and has w (place x) t)

-- the flag of an object's entry
unfoldable pub flag_bit : List ℕ → ℕ → (ℕ → ℕ) → ℕ → Bool
flag_bit w n place x = is_object n x and has w (place x) flag

abbrev pub colour_of : ℕ → Colour
colour_of zero = white
colour_of (suc zero) = grey
colour_of (suc (suc c)) = black

abbrev pub phase_of : ℕ → Phase
phase_of zero = idle
phase_of (suc zero) = marking
phase_of (suc (suc k)) = sweeping

unfoldable pub colour_at_object : List ℕ → ℕ → ℕ → Colour
colour_at_object w n x = mathlib.Core.Bool.cond (is_object n x) (colour_of (at w (colour_at n x))) white

abbrev pub locks_of : List ℕ → ℕ → Locks
locks_of w n = record {
  act = λ t. ltb t txn_count and has w active_at t;
  rd = page_bit w n (readers_at n);
  wr = page_bit w n (writers_at n);
}

abbrev pub tables_of : List ℕ → ℕ → Tables
tables_of w n = record {
  kn = object_bit w n (known_at n);
  prt = object_bit w n (pruned_at n);
  cot = object_bit w n (created_at n);
  cot_f = flag_bit w n (created_at n);
  dirty = page_bit w n (unflushed_at n);
}

abbrev pub pass_of : List ℕ → ℕ → Pass
pass_of w n = record { phase = phase_of (at w phase_at); at = at w pass_page_at; steps = at w steps_at; col = colour_at_object w n }
