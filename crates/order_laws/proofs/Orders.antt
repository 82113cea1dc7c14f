-- The sweeping step in the paper's order equals the call's: what is freed where each test ends it, and then the step. Assumes nothing.
use Prim.Native.Nat.{ℕ}
use mathlib.Core.Path.{◌≡◌, sym, ap, ◌∙◌}
use mathlib.Core.Bool.{true, false}
use lib.Dec.{eqb}
use borrow.Author.Tests.{eqb-true}
use Rattle.words.specs.Tests.{if, if_t, if_f, count, by_bool}
use Rattle.words.specs.Bits.{slots_set}
use Rattle.areas.specs.Answers.{verdict}
use Rattle.areas.specs.Areas.{Areas, Out, checked}
use Rattle.areas.specs.Layout.{pass_page_at}
use Rattle.areas.specs.Tables.{at, is_marking}
use Rattle.areas.specs.Entry.{called, pages, all_tests}
use Rattle.calls.specs.Pass.{marked, locked, freed_map, sweep_tests, swept, step_tests, call_step}
use Rattle.sweep_order.specs.Order.{unmarked_map, moved_on, occupied_of, reclaimed, swept_in_order, step_in_order}
use Rattle.order_laws.specs.Freeing.{garbage_occupied, freed_skipped, freed_open, freed_none}
use Rattle.order_laws.specs.Orders.{SweptAlike, SteppedAlike}

module _ (s : Areas) (n : ℕ) where
  abbrev page : ℕ
  page = at s.work pass_page_at

  -- where nothing is freed the page is left as it is, and no room is asked for
  moves_on : freed_map s n page ≡ 0 → moved_on s n page ≡ swept s n
  unfolding swept sweep_tests verdict slots_set count
  moves_on e = rw e

  -- else room is asked for
  reclaims : (m : ℕ) → freed_map s n page ≡ m → eqb m 0 ≡ false → reclaimed s n page m ≡ swept s n
  unfolding swept sweep_tests reclaimed
  reclaims m e z = rw (e, z)

  -- the tests, the last first: the page
  page_alike : (m : ℕ) → m ≡ freed_map s n page → if (eqb m 0) (moved_on s n page) (reclaimed s n page m) ≡ swept s n
  page_alike m e = by_bool (eqb m 0)
      (λ z. if_t _ _ _ z ∙ moves_on (sym e ∙ eqb-true m 0 z))
      (λ z. if_f _ _ _ z ∙ reclaims m (sym e) z)

  abbrev garbage : ℕ
  garbage = unmarked_map s.work n page

  abbrev there : ℕ
  there = occupied_of s.copies page garbage

  -- the lock
  lock_alike : if (locked s.work n page) (moved_on s n page) (if (eqb there 0) (moved_on s n page) (reclaimed s n page there)) ≡ swept s n
  lock_alike = by_bool (locked s.work n page)
      (λ h. if_t _ _ _ h ∙ moves_on (freed_skipped s n page h))
      (λ h. if_f _ _ _ h ∙ page_alike there (garbage_occupied s n page ∙ sym (freed_open s n page h)))

-- 'Answers and buffers do not change for any input.'
pub swept_alike : SweptAlike
unfolding swept_in_order
swept_alike s n = by_bool (eqb (garbage s n) 0)
    (λ e. if_t _ _ _ e ∙ moves_on s n (freed_none s n (page s n) (eqb-true _ _ e)))
    (λ e. if_f _ _ _ e ∙ lock_alike s n)

pub stepped_alike : SteppedAlike
unfolding step_in_order call_step called
stepped_alike s =
    ap (λ (o : Out). checked (verdict (all_tests true true s (step_tests s))) s (if (is_marking s.work) (marked s (pages s)) o)) (swept_alike s (pages s))
