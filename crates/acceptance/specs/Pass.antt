-- Document 01, 'The pass': what an accepted pass and pass step know. n is the number of pages. Assumes nothing.
use Rattle.std.specs.Prelude.{ℕ, ◌≡◌, refl, Bool, true, false, ◌⊎◌, leb, eqb, Ok}
use Rattle.std.proofs.Common.{sym, ap, ◌∙◌, inl, inr, eqb-true}
use Rattle.std.proofs.lemmas.Bool.{eqb-false, not-true}
use Rattle.words.specs.Tests.{if, if_t, if_f, by_bool, or_cases, clash}
use Rattle.words.specs.Bits.{slots_set}
use Rattle.pages.specs.Geometry.{object_count}
use Rattle.areas.specs.Answers.{accepted, verdict, passed}
use Rattle.areas.specs.Areas.{Areas, Out, done, with_work}
use Rattle.areas.specs.Layout.{phase_at, pass_page_at}
use Rattle.areas.specs.Tables.{at, is_marking, pass_first, with_pass, steps_next}
use Rattle.calls.specs.Room.{room_beyond, sweep_room}
use Rattle.calls.specs.Pass.{pass_tests, pass_started, call_pass, lowest_grey, scanned, marked, freed_map, advanced, sweep_tests, swept_page, swept, step_tests, call_step}
use Rattle.acceptance.specs.Room.{Room, room_facts}
use Rattle.acceptance.specs.Ran.{Passed, Outcome, outcome, outcome_done, Keeps, checked_ran, checked_keeps}

pub record PassFacts (s : Areas) : Type 0 where
  pub none_runs : at s.work phase_at ≡ 0

pub pass_outcome : (s : Areas) → Outcome true true s (λ n. pass_tests s) (call_pass s) (λ n. done 0 (with_work s (pass_started s.work n)))
unfolding call_pass
pass_outcome s = outcome_done _ _ _ _ (λ n. 0) (λ n. with_work s (pass_started s.work n))

pub record StepFacts (s : Areas) : Type 0 where
  pub one_runs : at s.work phase_at ≡ 0 → ⊥

pub step_facts : (s : Areas) → verdict (step_tests s) ≡ Ok tt → StepFacts s
unfolding step_tests
step_facts s h = record { one_runs = eqb-false _ _ (not-true _ (passed _ 0 h)) }

-- a marking step scans an object, or turns to sweeping where none is grey
abbrev pub scanning : Areas → ℕ → Out
scanning s n = let w = s.work in let o = lowest_grey w n in
    done o (with_work s (with_pass (scanned s.copies w n o) 1 (at w pass_page_at) (steps_next w n)))

abbrev pub turning : Areas → ℕ → Out
turning s n = let w = s.work in done 0 (with_work s (with_pass w 2 (pass_first w n) (steps_next w n)))

pub marked_scans : (s : Areas) (n : ℕ) → leb (lowest_grey s.work n) (object_count n) ≡ true → marked s n ≡ scanning s n
unfolding marked
marked_scans s n e = if_t _ _ _ e

pub marked_turns : (s : Areas) (n : ℕ) → leb (lowest_grey s.work n) (object_count n) ≡ false → marked s n ≡ turning s n
unfolding marked
marked_turns s n e = if_f _ _ _ e

if_keeps : (s : Areas) (b : Bool) (a c : Out) → Keeps s a → Keeps s c → Keeps s (if b a c)
if_keeps s true a c h k = h
if_keeps s false a c h k = k

pub marked_keeps : (s : Areas) (n : ℕ) → Keeps s (marked s n)
unfolding marked
marked_keeps s n = if_keeps s (leb (lowest_grey s.work n) (object_count n)) (scanning s n) (turning s n) (λ e. clash refl e) (λ e. clash refl e)

-- a sweeping step, of the page that the pass record names
abbrev pub sweep_map_of : Areas → ℕ → ℕ
sweep_map_of s n = freed_map s n (at s.work pass_page_at)

abbrev pub sweeping : Areas → ℕ → Out
sweeping s n =
    let p = at s.work pass_page_at in
    let m = sweep_map_of s n in
    let freed = swept_page s p m in
    let a = if (eqb m 0) s freed in
    done (slots_set m) (with_work a (advanced s.work n p))

-- 'a sweep 1', 'if there are any' slots to free
pub record SweepFacts (s : Areas) (n m : ℕ) : Type 0 where
  pub room : (m ≡ 0 → ⊥) → Room s n sweep_room

sweep_room_law : (s : Areas) (n m : ℕ) → (eqb m 0 ≡ true) ⊎ (room_beyond s n sweep_room ≡ true) → (m ≡ 0 → ⊥) → Room s n sweep_room
sweep_room_law s n m (inl z) no0 = absurd (no0 (eqb-true m 0 z))
sweep_room_law s n m (inr r) no0 = room_facts s n sweep_room r

pub sweep_facts : (s : Areas) (n m : ℕ) → verdict (sweep_tests s n m) ≡ Ok tt → SweepFacts s n m
unfolding sweep_tests
sweep_facts s n m h = record { room = sweep_room_law s n m (or_cases (eqb m 0) (room_beyond s n sweep_room) (passed _ 0 h)) }

pub swept_ran : (s : Areas) (n : ℕ) → accepted (swept s n).answer ≡ true → Passed (verdict (sweep_tests s n (sweep_map_of s n))) (swept s n) (sweeping s n)
unfolding swept
swept_ran s n h = checked_ran (verdict (sweep_tests s n (sweep_map_of s n))) s (sweeping s n) h

pub swept_keeps : (s : Areas) (n : ℕ) → Keeps s (swept s n)
unfolding swept
swept_keeps s n = checked_keeps (verdict (sweep_tests s n (sweep_map_of s n))) s (sweeping s n) (λ e. clash refl e)

-- 'One pass step advances the pass record by one object or one page.'
abbrev pub stepped : Areas → ℕ → Out
stepped s n = if (is_marking s.work) (marked s n) (swept s n)

pub step_outcome : (s : Areas) → Outcome true true s (λ n. step_tests s) (call_step s) (stepped s)
unfolding call_step
step_outcome s = outcome _ _ _ _ (stepped s) (λ n. if_keeps s (is_marking s.work) (marked s n) (swept s n) (marked_keeps s n) (swept_keeps s n))

-- the three ways that an accepted step goes
pub data StepWay (s : Areas) (n : ℕ) (o : Out) : Type 0 where
  scans : is_marking s.work ≡ true → leb (lowest_grey s.work n) (object_count n) ≡ true → o ≡ scanning s n → StepWay s n o
  turns : is_marking s.work ≡ true → leb (lowest_grey s.work n) (object_count n) ≡ false → o ≡ turning s n → StepWay s n o
  sweeps : is_marking s.work ≡ false → verdict (sweep_tests s n (sweep_map_of s n)) ≡ Ok tt → o ≡ sweeping s n → StepWay s n o

step_marks : (s : Areas) (n : ℕ) (o : Out) → is_marking s.work ≡ true → o ≡ marked s n → StepWay s n o
step_marks s n o e h = by_bool (leb (lowest_grey s.work n) (object_count n)) (λ g. scans e g (h ∙ marked_scans s n g)) (λ g. turns e g (h ∙ marked_turns s n g))

step_sweeps : (s : Areas) (n : ℕ) (o : Out) → is_marking s.work ≡ false → accepted o.answer ≡ true → o ≡ swept s n → StepWay s n o
step_sweeps s n o e a h = let p = swept_ran s n (sym (ap (λ (x : Out). accepted x.answer) h) ∙ a) in sweeps e p.passed (h ∙ p.gives)

pub step_way : (s : Areas) (n : ℕ) (o : Out) → accepted o.answer ≡ true → o ≡ stepped s n → StepWay s n o
step_way s n o a h = by_bool (is_marking s.work)
    (λ e. step_marks s n o e (h ∙ if_t _ _ _ e))
    (λ e. step_sweeps s n o e a (h ∙ if_f _ _ _ e))
