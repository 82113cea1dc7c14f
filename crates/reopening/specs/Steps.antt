-- A reopening step, by the tests in the code. Assumes nothing.
use Rattle.std.specs.Prelude.{ℕ, ◌+◌, ◌<◌, ◌≤◌, ◌≡◌, true, List, [], set, Ok, Err}
use Rattle.std.proofs.Math.Path.{refl, ap}
use Rattle.std.proofs.Common.{◌∙◌}
use borrow.Author.Tests.{lt-ltb, le-ltb, eq-eqb, ne_eqb}
use Rattle.pages.specs.Objects.{copied_page}
use Rattle.areas.specs.declared.Refusal.{Refusal}
use Rattle.areas.specs.declared.Refusal.TheVariants.{WrongState}
use Rattle.areas.specs.Answers.{verdict, all_passed, need_holds, need_fails}
use Rattle.areas.specs.Areas.{Areas, areas, out}
use Rattle.areas.specs.Layout.{reopening_at, reopening_page_at, running, finished}
use Rattle.areas.specs.Tables.{at}
use Rattle.areas.specs.Entry.{pages, records, reopening, well_formed, called_refused, called_passed}
use Rattle.calls.specs.Reopening.{restep_tests, page_stored, reopening_over, call_restep}
use Rattle.stability.specs.Checks.{unnoted}

module _ (s : Areas) where
  pub restep_as : restep_tests (areas [] [] [] [] [] s.work) ≡ restep_tests s
  unfolding restep_tests
  restep_as = refl

  pub step_goes : reopening s ≡ running → Ok tt ≡ verdict (restep_tests s)
  unfolding restep_tests
  step_goes h = all_passed ∙ need_holds _ _ _ _ (eq-eqb _ _ h)

  pub step_idle : (reopening s ≡ running → ⊥) → Err WrongState ≡ verdict (restep_tests s)
  unfolding restep_tests
  step_idle h = need_fails _ _ _ _ (ne_eqb _ _ h)

module _ (s c r g k w : List ℕ) (h : well_formed true (areas s c r g k w) ≡ true) where
  pub step_refused : (x : Refusal) → Err x ≡ verdict (restep_tests (areas [] [] [] [] [] w)) → out (Err x) s c r g k w ≡ call_restep (areas s c r g k w)
  unfolding call_restep
  step_refused x e = called_refused _ _ _ _ _ x h refl (e ∙ ap verdict (restep_as (areas s c r g k w)))

  module _ (e : (Ok tt) ≡ verdict (restep_tests (areas [] [] [] [] [] w))) where
    pub step_stores : at w reopening_page_at < pages (areas s c r g k w) → {s' w' : List ℕ} → s' ≡ copied_page c s (at w reopening_page_at) → w' ≡ set w reopening_page_at (at w reopening_page_at + 1)
        → out (Ok (at w reopening_page_at)) s' c r g k w' ≡ call_restep (areas s c r g k w)
    unfolding call_restep page_stored
    step_stores l es ew = rw (es, ew, ← (called_passed _ _ _ _ _ h refl (e ∙ ap verdict (restep_as (areas s c r g k w)))), lt-ltb _ _ l)

    pub step_ends : pages (areas s c r g k w) ≤ at w reopening_page_at → {k' w' : List ℕ} → k' ≡ set (set k 0 0) 1 0 → w' ≡ set (set (unnoted w (pages (areas s c r g k w)) (records (areas s c r g k w))) reopening_at finished) reopening_page_at 0
        → out (Ok (at w reopening_page_at)) s c r g k' w' ≡ call_restep (areas s c r g k w)
    unfolding call_restep reopening_over
    step_ends l ek ew = rw (ek, ew, ← (called_passed _ _ _ _ _ h refl (e ∙ ap verdict (restep_as (areas s c r g k w)))), le-ltb _ _ l)
