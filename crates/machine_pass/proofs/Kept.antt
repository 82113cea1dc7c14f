-- Tables whose words a change leaves alone read as before. n is the number of pages. Assumes nothing.
use Prim.Native.Nat.{ℕ, ◌+◌, ◌-◌, ◌≤◌, ◌<◌}
use native.Mathlib.Omega.{arith}
use mathlib.Core.Path.{◌≡◌, ap, ◌∙◌}
use mathlib.Core.Bool.{true}
use mathlib.Core.List.{List}
use lib.ListN.{length, set}
use lib.Seq.{get_or-set_same, get_or-set_other}
use lib.Dec.{ltb}
use Rattle.words.specs.Bits.{bit}
use Rattle.pages.specs.Geometry.{is_object, object_count}
use Rattle.areas.specs.Layout.{unflushed_at, known_at, colour_at, table_words, pruned_from, active_at, writers_from, known_from, unflushed_from, colours_from, created_from}
use Rattle.areas.specs.Tables.{at, with_pass}
use Rattle.collector.specs.Bits.{◌and◌}
use Rattle.machine_calls.proofs.Frames.{locks_ext, tables_ext, by_object, page_same, object_same, flag_same, colour_same}
use Rattle.machine_calls.specs.Tables.{page_bit, object_bit, colour_at_object, locks_of, tables_of}
use Rattle.page_laws.specs.Places.{object_range}
use Rattle.records.specs.Records.{txn_count}

-- v has w's words from a up to b
abbrev pub Fixed : List ℕ → List ℕ → ℕ → ℕ → Type 0
Fixed v w a b = (i : ℕ) → a ≤ i → i < b → at v i ≡ at w i

module _ (v w : List ℕ) (n : ℕ) where
  pub colour_kept : Fixed v w (colours_from n) (table_words n) → colour_at_object v n ≡ colour_at_object w n
  colour_kept h = colour_same w v n (λ x o. let r = object_range n x o in let l = r.0 in let u = r.1 in h (colour_at n x) (omega arith) (omega arith))

  -- the active mask, the locks
  pub locks_kept : Fixed v w active_at (unflushed_from n) → locks_of v n ≡ locks_of w n
  locks_kept h = locks_ext (locks_of v n) (locks_of w n)
      (λ t. ap (λ (m : ℕ). ltb t txn_count and bit m t) (h 5 (omega arith) (omega arith)))
      (page_same w v n 6 (λ p l. h (6 + p) (omega arith) (omega arith)))
      (page_same w v n (writers_from n) (λ p l. h (6 + n + p) (omega arith) (omega arith)))

  -- a table by object that starts at word c
  by_object_law : (c : ℕ) → Fixed v w c (c + object_count n) → (x : ℕ) → is_object n x ≡ true → at v (by_object c x) ≡ at w (by_object c x)
  by_object_law c h x o = let r = object_range n x o in let l = r.0 in let u = r.1 in h (c + (x - 1)) (omega arith) (omega arith)

  pub known_kept : Fixed v w (known_from n) (pruned_from n) → object_bit v n (known_at n) ≡ object_bit w n (known_at n)
  known_kept h = object_same w v n (known_from n) (by_object_law (known_from n) (λ i l u. h i l (omega arith)))

  pub dirty_kept : Fixed v w (unflushed_from n) (known_from n) → page_bit v n (unflushed_at n) ≡ page_bit w n (unflushed_at n)
  dirty_kept h = page_same w v n (unflushed_from n) (λ p l. h (unflushed_from n + p) (omega arith) (omega arith))

  pub tables_kept : Fixed v w (unflushed_from n) (colours_from n) → tables_of v n ≡ tables_of w n
  tables_kept h = tables_ext (tables_of v n) (tables_of w n)
      (known_kept (λ k l u. h k (omega arith) (omega arith)))
      (object_same w v n (pruned_from n) (by_object_law (pruned_from n) (λ i l u. h i (omega arith) (omega arith))))
      (object_same w v n (created_from n) (by_object_law (created_from n) (λ i l u. h i (omega arith) (omega arith))))
      (flag_same w v n (created_from n) (by_object_law (created_from n) (λ i l u. h i (omega arith) (omega arith))))
      (dirty_kept (λ k l u. h k (omega arith) (omega arith)))

-- the pass record written: its three words, and all others
module _ (w : List ℕ) (phase page steps : ℕ) (long : 5 ≤ length w) where
  pub pass_other : (i : ℕ) → (i ≡ 2 → ⊥) → (i ≡ 3 → ⊥) → (i ≡ 4 → ⊥) → at (with_pass w phase page steps) i ≡ at w i
  pass_other i a b c =
      get_or-set_other (set (set w 2 phase) 3 page) 4 i steps 0 c ∙ get_or-set_other (set w 2 phase) 3 i page 0 b ∙ get_or-set_other w 2 i phase 0 a

  pub pass_phase : at (with_pass w phase page steps) 2 ≡ phase
  pass_phase = get_or-set_other (set (set w 2 phase) 3 page) 4 2 steps 0 (omega arith) ∙ get_or-set_other (set w 2 phase) 3 2 page 0 (omega arith) ∙ get_or-set_same w 2 phase 0 (omega arith)

  pub pass_page : at (with_pass w phase page steps) 3 ≡ page
  pass_page = get_or-set_other (set (set w 2 phase) 3 page) 4 3 steps 0 (omega arith) ∙ get_or-set_same (set w 2 phase) 3 page 0 (let e = lib.ListN.length-set w 2 phase in omega arith)

  pub pass_steps : at (with_pass w phase page steps) 4 ≡ steps
  pass_steps = get_or-set_same (set (set w 2 phase) 3 page) 4 steps 0 (let e = lib.ListN.length-set w 2 phase in let f = lib.ListN.length-set (set w 2 phase) 3 page in omega arith)
