-- How the tests in the code give the checks of force, store page and empty log, and that the areas which these do not read do not
-- matter.
-- Assumes nothing.
use Rattle.std.specs.Prelude.{ℕ, ◌<◌, ◌≤◌, ◌≡◌, Bool, true, false, ◌&&◌, List, [], length, get_or, eqb, Ok, Err}
use Rattle.std.proofs.Math.Path.{refl}
use Rattle.std.proofs.Common.{◌∙◌, arith, lt-ltb, le-ltb, le-leb}
use Rattle.std.proofs.lemmas.Bool.{lt-leb}
use Rattle.words.specs.Tests.{and_t, and_f}
use Rattle.words.specs.Spans.{same, fill}
use Rattle.pages.specs.Geometry.{max_pages}
use Rattle.records.specs.Naming.{last_naming}
use Rattle.record_laws.specs.NamingLaws.{last_le}
use Rattle.record_ops.specs.Naming.{NamedPast, past_some, past_none}
use Rattle.areas.specs.declared.Refusal.TheVariants.{OutOfRange, WrongState, Unstable, InUse}
use Rattle.areas.specs.Answers.{verdict, all_passed, need_holds, need_fails}
use Rattle.areas.specs.Areas.{Areas, areas, received_count, stable_count}
use Rattle.areas.specs.Layout.{active_at, undoing_at}
use Rattle.areas.specs.Tables.{at}
use Rattle.calls.specs.Stability.{force_tests, store_tests, empty_tests}

-- the tables once no undoing word of l records stays
abbrev pub unnoted : List ℕ → ℕ → ℕ → List ℕ
unnoted w n l = fill (λ i. 0) w (undoing_at n 0) l

module _ (s : Areas) where
  pub force_as : force_tests (areas [] [] [] [] s.counts []) ≡ force_tests s
  unfolding force_tests
  force_as = refl

  pub store_as : (n p : ℕ) → store_tests (areas [] [] [] s.log s.counts []) n p ≡ store_tests s n p
  unfolding store_tests
  store_as n p = refl

  pub empty_as : empty_tests (areas s.stored s.copies [] [] s.counts s.work) ≡ empty_tests s
  unfolding empty_tests
  empty_as = refl

  pub force_passes : stable_count s < received_count s → Ok tt ≡ verdict (force_tests s)
  unfolding force_tests
  force_passes h = all_passed ∙ need_holds _ _ _ _ (lt-ltb _ _ h)

  pub force_refuses : received_count s ≤ stable_count s → Err WrongState ≡ verdict (force_tests s)
  unfolding force_tests
  force_refuses h = need_fails _ _ _ _ (le-ltb _ _ h)

module _ (s : Areas) (n p : ℕ) where
  pub store_outside : n ≤ p → Err OutOfRange ≡ verdict (store_tests s n p)
  unfolding store_tests
  store_outside h = need_fails _ _ _ _ (le-ltb p n h)

  module _ (h : p < n) (k : n ≤ max_pages) where
    -- where all records are stable the last one that names the page is
    pub store_settled : received_count s ≤ stable_count s → Ok tt ≡ verdict (store_tests s n p)
    unfolding store_tests
    store_settled u = all_passed ∙ need_holds _ _ _ _ (le-leb (get_or (last_naming s.log (received_count s)) p 0) _ (let l = last_le s.log p (omega arith) (received_count s) in omega arith)) ∙ need_holds _ _ _ _ (lt-ltb p n h)

    -- l: the array of last record numbers past the stable ones
    module _ (l : List ℕ) (w : NamedPast s.log (stable_count s) (received_count s) l) where
      pub store_unstable : stable_count s < get_or l p 0 → Err Unstable ≡ verdict (store_tests s n p)
      unfolding store_tests
      store_unstable u = need_fails _ _ _ _ (lt-leb _ _ (past_some _ _ (rw (w.each p (omega arith)) at u))) ∙ need_holds _ _ _ _ (lt-ltb p n h)

      pub store_passes : get_or l p 0 ≤ stable_count s → Ok tt ≡ verdict (store_tests s n p)
      unfolding store_tests
      store_passes u = all_passed ∙ need_holds _ _ _ _ (le-leb _ _ (past_none _ _ (rw (w.each p (omega arith)) at u))) ∙ need_holds _ _ _ _ (lt-ltb p n h)

module _ (s : Areas) where
  abbrev idle : Bool
  idle = eqb (at s.work active_at) 0 && eqb (stable_count s) (received_count s)

  pub empty_busy : idle ≡ false → Err InUse ≡ verdict (empty_tests s)
  unfolding empty_tests
  empty_busy h = need_fails _ _ _ _ (and_f _ _ h)

  module _ (rest : idle ≡ true) (b : Bool) (e : b ≡ same s.copies 0 s.stored 0 (length s.copies)) (len : length s.copies ≡ length s.stored) where
    pub empty_refuses : b ≡ false → Err InUse ≡ verdict (empty_tests s)
    unfolding empty_tests
    empty_refuses h = need_fails _ _ _ _ (and_t _ _ rest ∙ (rw (e, len) at h))

    pub empty_passes : b ≡ true → Ok tt ≡ verdict (empty_tests s)
    unfolding empty_tests
    empty_passes h = all_passed ∙ need_holds _ _ _ _ (and_t _ _ rest ∙ (rw (e, len) at h))
