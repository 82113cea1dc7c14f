-- What a pass step asks of a store, and the step from its parts: marking or sweeping. n is the number of pages. Assumes nothing.
use Rattle.std.specs.Prelude.{ℕ, ◌*◌, ◌<◌, ◌≤◌, ◌≡◌, List, [], length, get_or, Ok, Err}
use Rattle.std.proofs.Common.{sym, ap, ◌∙◌, arith, eq-eqb, ne_eqb}
use Rattle.std.proofs.Math.Bool.{not}
use Rattle.words.specs.Tests.{if_t, if_f}
use Rattle.pages.specs.Geometry.{max_pages, map_top, page_at}
use Rattle.pages.specs.Objects.{map_at}
use Rattle.page_laws.specs.SoundFacts.{sound_facts}
use Rattle.records.specs.Records.{record_words, max_records}
use Rattle.areas.specs.declared.Refusal.TheVariants.{WrongState}
use Rattle.areas.specs.Answers.{verdict, need_holds, need_fails, all_passed}
use Rattle.areas.specs.Areas.{Areas, Out, areas, out}
use Rattle.areas.specs.Layout.{HasTables, HasUndoing, phase_at, pass_page_at}
use Rattle.areas.specs.Tables.{at}
use Rattle.calls.specs.Pass.{pass_tests, step_tests, swept}
use Rattle.acceptance.specs.Entered.{Open}
use Rattle.acceptance.specs.Pass.{stepped}
use Rattle.log_ops.specs.Logs.{Kept, open_kept, open_undoing}
use Rattle.pass_record.specs.declared.Pass.{Pass}
use Rattle.pass_record.specs.Step.{pass_of, own_phase, own_page}
use Rattle.marking.specs.Steps.{mark_value, mark_work, marked_as}

-- the copies c, received pages r, log g, counts k and working tables w
pub record Steppable (c r g k w : List ℕ) (n : ℕ) : Type 0 where
  pub tables : HasTables w n
  pub undoing : HasUndoing w n (get_or k 0 0)
  pub page : at w pass_page_at < n
  pub copies_in : page_at n ≤ length c
  pub received_in : page_at n ≤ length r
  pub map : map_at c (at w pass_page_at) ≤ map_top
  pub kept : Kept g k
  pub log_top : length g ≤ record_words * max_records

pub open_steppable : (s : Areas) (n : ℕ) → Open s n → Steppable s.copies s.received s.log s.counts s.work n
open_steppable s n o =
    let z = o.sized in
    let p = o.ranged.working.pass_page in
    let m = (sound_facts s.copies n o.ranged.copies_sound).map (at s.work pass_page_at) p in
    record {
      tables = z.tables;
      undoing = open_undoing s n o;
      page = p;
      copies_in = omega arith;
      received_in = omega arith;
      map = omega arith;
      kept = open_kept s n o;
      log_top = omega arith;
    }

-- refusal 4, of the working tables
module _ (w : List ℕ) where
  pub start_runs : (at w phase_at ≡ 0 → ⊥) → Err WrongState ≡ verdict (pass_tests (areas [] [] [] [] [] w))
  unfolding pass_tests
  start_runs h = need_fails _ _ _ _ (ap (λ b. not (not b)) (ne_eqb _ _ h))

  pub start_idle : at w phase_at ≡ 0 → Ok tt ≡ verdict (pass_tests (areas [] [] [] [] [] w))
  unfolding pass_tests
  start_idle h = all_passed ∙ need_holds _ _ _ _ (ap (λ b. not (not b)) (eq-eqb _ _ h))

  pub step_idle : at w phase_at ≡ 0 → Err WrongState ≡ verdict (step_tests (areas [] [] [] [] [] w))
  unfolding step_tests
  step_idle h = need_fails _ _ _ _ (ap not (eq-eqb _ _ h))

  pub step_runs : (at w phase_at ≡ 0 → ⊥) → Ok tt ≡ verdict (step_tests (areas [] [] [] [] [] w))
  unfolding step_tests
  step_runs h = all_passed ∙ need_holds _ _ _ _ (ap not (ne_eqb _ _ h))

-- p is the pass record
module _ (c r g k w : List ℕ) (n : ℕ) (p : Pass) (own : p ≡ pass_of w) where
  module _ (z : Steppable c r g k w n) where
    pub page_below : p.page < n
    page_below = let e = own_page w p own in let l = z.page in omega arith

    pub page_top : p.page < max_pages
    page_top = let l = page_below in let t = z.tables in omega arith

    pub map_below : map_at c p.page ≤ map_top
    map_below = rw (own_page w p own) z.map

  pub step_marks : (s : List ℕ) (v : ℕ) (w' : List ℕ) → p.phase ≡ 1 → v ≡ mark_value w n → w' ≡ mark_work c w n → out (Ok v) s c r g k w' ≡ stepped (areas s c r g k w) n
  step_marks s v w' h e f = rw (e, f) (marked_as (areas s c r g k w) n) ∙ sym (if_t _ _ _ (eq-eqb (at w phase_at) 1 (sym (own_phase w p own) ∙ h)))

  pub step_sweeps : (s : List ℕ) (o : Out) → (p.phase ≡ 1 → ⊥) → o ≡ swept (areas s c r g k w) n → o ≡ stepped (areas s c r g k w) n
  step_sweeps s o h e = e ∙ sym (if_f _ _ _ (ne_eqb (at w phase_at) 1 (λ x. h (own_phase w p own ∙ x))))
