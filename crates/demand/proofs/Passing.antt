-- An accepted start of a pass, and a pass step that frees nothing, keep the invariant. n is the number of pages. Assumes nothing.
use Rattle.std.specs.Prelude.{Ok}
use Prim.Native.Nat.{ℕ, suc, ◌+◌, ◌≤◌, ◌<◌}
use native.Mathlib.Omega.{arith}
use native.Mathlib.Decide.{dec_lt}
use mathlib.Core.Path.{◌≡◌, refl, sym, ap, ◌∙◌}
use mathlib.Core.Bool.{Bool, true, false}
use mathlib.Core.List.{List}
use mathlib.Core.Logic.{◌⊎◌, inl, inr}
use lib.Dec.{eqb, leb, ltb}
use borrow.Author.Tests.{eqb-true, eqb-false}
use Rattle.words.specs.Tests.{by_bool}
use Rattle.pages.specs.Objects.{word_of}
use Rattle.areas.specs.Answers.{accepted, verdict}
use Rattle.areas.specs.Areas.{Areas, Out, with_work}
use Rattle.areas.specs.Layout.{reopening_at, phase_at, pass_page_at, steps_at, table_words, steps_top}
use Rattle.areas.specs.Tables.{at, is_marking, with_pass, steps_next}
use Rattle.calls.specs.Calls.{pass, step}
use Rattle.calls.specs.Pass.{unflagged, pass_started, call_pass, lowest_grey, scanned, advanced, sweep_tests, call_step}
use Rattle.acceptance.specs.Entered.{Open, opened}
use Rattle.acceptance.specs.Pass as Accepted
use Rattle.acceptance.specs.Pass.{pass_outcome, step_outcome, step_way, step_facts, scans, turns, sweeps, scanning, turning, sweeping, sweep_map_of}
use Rattle.book.specs.Books.{Book}
use Rattle.book.specs.Feeding.{fed, with_lines}
use Rattle.collector.specs.State as M
use Rattle.collector.specs.State.{Tables, is_black}
use Rattle.collector.specs.Calls as C
use Rattle.collector.proofs.Count.{countb_most}
use Rattle.collector.proofs.Facts.{MarkFacts}
use Rattle.collector.proofs.Depths.{deep_pass, deep_mark, deep_turn, deep_skip}
use Rattle.collector.proofs.Worlds.{Deep}
use Rattle.collector.proofs.Steps.{steps_marking}
use Rattle.machine_calls.specs.Tables.{phase_of, locks_of, tables_of, pass_of}
use Rattle.machine_calls.proofs.Areas.{reference}
use Rattle.machine_calls.proofs.Frames.{Beside, beside_over, beside_fill, beside_set, wider, later}
use Rattle.machine_calls.proofs.Shows.{Shows}
use Rattle.machine_pass.proofs.Mark.{scan_locks, scan_tables, scan_pass, moved_locks, moved_tables, moved_pass, scanned_other, below_colours, behind_colours, steps_suc}
use Rattle.machine_pass.proofs.PassFacts.{lowest_object, lowest_grey_law, no_grey_law}
use Rattle.machine_pass.proofs.Start.{start_locks, start_tables, start_pass}
use Rattle.machine_pass.proofs.Sweep.{on_locks, on_tables, on_pass}
use Rattle.book_laws.proofs.Sweeps.{sweep_kept}
use Rattle.demand.proofs.State.{machine, OpenInv}
use Rattle.demand.proofs.Holds.{sweeping_phase}
use Rattle.demand.proofs.Unlogged.{notes_kept, open_unlocked}
use Rattle.demand.proofs.Notes.{Behind}
use Rattle.page_laws.specs.Places.{object_range}
use Rattle.pages.specs.Geometry.{object_count, is_object}

-- a pass record written leaves the words of a reopening
pub pass_beside : (w : List ℕ) (phase page steps : ℕ) → Beside 2 5 w (with_pass w phase page steps)
pass_beside w phase page steps = later (wider (beside_set w 2 phase) (omega arith) (omega arith))
    (later (wider (beside_set _ 3 page) (omega arith) (omega arith)) (wider (beside_set _ 4 steps) (omega arith) (omega arith)))

pub start_beside : (w : List ℕ) (n : ℕ) → Beside 2 (table_words n) w (pass_started w n)
unfolding pass_started unflagged
start_beside w n = later (wider (beside_over _ w _ (object_count n)) (omega arith) (omega arith))
    (later (wider (beside_over _ _ _ (object_count n)) (omega arith) (omega arith))
    (later (wider (beside_fill _ _ _ (object_count n)) (omega arith) (omega arith)) (wider (pass_beside _ 1 0 0) (omega arith) (omega arith))))

-- a step that leaves the received pages adds no line
pub step_adds_none : (n : ℕ) (b : Book) (a : List ℕ) → fed n b step a a ≡ b
unfolding fed
step_adds_none n b a = ap (with_lines b) (sweep_kept a a b.lines n (λ q l. refl))

module _ (n : ℕ) (some : 1 ≤ n) (s : Areas) (b : Book) (i : OpenInv n s b) (h : Open s n) where
  -- the working words w after it: the machine's pass and tables change, and nothing else
  passing : (w : List ℕ) (st : M.St) → Shows w n st → Deep st i.going.stack → st.pages ≡ (machine n s b).pages → st.tags ≡ (machine n s b).tags
      → at w reopening_at ≡ at s.work reopening_at → Behind n s.work w → locks_of w n ≡ locks_of s.work n → (tables_of w n).kn ≡ (tables_of s.work n).kn → OpenInv n (with_work s w) b
  passing w st e j p q word behind locks kn = open_unlocked n s b i s.copies w st
      (record { shows = e; keeps = j; pages = p; tags = q; word = word; knows = λ t x k. ap (λ (f : ℕ → ℕ → Bool). f t x) kn ∙ k; cells = i.log.copies; notes = notes_kept n s b i s.copies w behind }) locks

  pub start_passed : pass_of (pass_started s.work n) n ≡ (C.started (machine n s b)).pass
  start_passed = start_pass n s.work h.sized.tables.1 some h.ranged.working.pruned

  start_kept : OpenInv n (with_work s (pass_started s.work n)) b
  start_kept =
      let l = start_locks n s.work h.sized.tables.1 some in
      let t = start_tables n s.work h.sized.tables.1 some in
      passing (pass_started s.work n) (C.started (machine n s b))
      (record { count = refl; locks = sym l; tables = sym t; pass = sym start_passed })
      (deep_pass (machine n s b) i.going.stack i.going.deep) refl refl
      ((start_beside s.work n).below reopening_at (omega arith)) (start_beside s.work n).above l (ap (λ (a : Tables). a.kn) t)

  -- marking
  module _ (marks : is_marking s.work ≡ true) where
    phase : phase_of (at s.work phase_at) ≡ M.marking
    phase = rw (eqb-true (at s.work phase_at) 1 marks) refl

    module _ (g : leb (lowest_grey s.work n) (object_count n) ≡ true) where
      abbrev grey : ℕ
      grey = lowest_grey s.work n

      ok : is_object n grey ≡ true
      ok = lowest_object s.work n g

      refs : (f : ℕ) → f < 4 → word_of s.copies grey f ≤ object_count n
      refs f l = let r = object_range n grey ok in reference s.copies n h.ranged.copies_sound grey f r.0 r.1 l

      facts : MarkFacts (machine n s b) grey
      facts = record { phase = phase; colour = lowest_grey_law s.work n g }

      room : at s.work steps_at < steps_top n
      room = let k = steps_marking (machine n s b) grey facts i.collector in omega arith

      pub scan_same : locks_of (scanning s n).after.work n ≡ locks_of s.work n
      scan_same = scan_locks n s.copies s.work grey refs h.sized.tables.1 ok some room

      pub scan_passed : pass_of (scanning s n).after.work n ≡ (C.marked (machine n s b) grey).pass
      scan_passed = scan_pass n s.copies s.work grey refs h.sized.tables.1 ok some room

      pub scan_behind : Behind n s.work (scanning s n).after.work
      scan_behind j l = (pass_beside (scanned s.copies s.work n grey) 1 (at s.work pass_page_at) (steps_next s.work n)).above j (omega arith)
          ∙ scanned_other n s.copies s.work grey refs h.sized.tables.1 ok j (behind_colours n j l)

      pub scan_kept : OpenInv n (scanning s n).after b
      scan_kept =
          let len = h.sized.tables.1 in
          let t = scan_tables n s.copies s.work grey refs len ok some room in
          passing (with_pass (scanned s.copies s.work n grey) 1 (at s.work pass_page_at) (steps_next s.work n)) (C.marked (machine n s b) grey)
          (record { count = refl; locks = sym scan_same; tables = sym t; pass = sym scan_passed })
          (deep_mark grey (machine n s b) i.going.stack facts i.going.deep) refl refl
          ((pass_beside (scanned s.copies s.work n grey) 1 (at s.work pass_page_at) (steps_next s.work n)).below reopening_at (omega arith)
          ∙ scanned_other n s.copies s.work grey refs len ok reopening_at (below_colours n reopening_at (omega arith)))
          scan_behind
          scan_same (ap (λ (a : Tables). a.kn) t)

    pub turn_same : locks_of (turning s n).after.work n ≡ locks_of s.work n
    turn_same = moved_locks n s.work 2 0 (steps_next s.work n) h.sized.tables.1

    pub turn_behind : Behind n s.work (turning s n).after.work
    turn_behind j l = (pass_beside s.work 2 0 (steps_next s.work n)).above j (omega arith)

    pub turn_passed : pass_of (turning s n).after.work n ≡ (C.turned (machine n s b)).pass
    turn_passed =
        let w = s.work in
        let room : at w steps_at < steps_top n =
        let e = i.collector.counted.scanned phase in let k = countb_most (object_count n) (λ x. is_black ((machine n s b).pass.col (suc x))) in omega arith in
        moved_pass n w 2 0 (steps_next w n) h.sized.tables.1 ∙ rw (steps_suc w n room) refl

    pub turn_kept : leb (lowest_grey s.work n) (object_count n) ≡ false → OpenInv n (turning s n).after b
    turn_kept g =
        let w = s.work in
        let len = h.sized.tables.1 in
        let t = moved_tables n w 2 0 (steps_next w n) len in
        passing (with_pass w 2 0 (steps_next w n)) (C.turned (machine n s b))
        (record { count = refl; locks = sym turn_same; tables = sym t; pass = sym turn_passed })
        (deep_turn (machine n s b) i.going.stack (record { phase = phase; no_grey = λ o low top. no_grey_law w n g o }) i.going.deep) refl refl
        ((pass_beside w 2 0 (steps_next w n)).below reopening_at (omega arith)) turn_behind turn_same (ap (λ (a : Tables). a.kn) t)

  -- sweeping
  module _ (phase : phase_of (at s.work phase_at) ≡ M.sweeping) where
    pub sweep_room_law : (at s.work steps_at < steps_top n) ⊎ (at s.work pass_page_at + 1 < n → ⊥)
    sweep_room_law = elim (dec_lt (at s.work pass_page_at + 1) n) [
      | yes l ↦ inl (let e = i.collector.counted.turned phase in let k = countb_most (object_count n) (λ x. is_black ((machine n s b).pass.col (suc x))) in omega arith)
      | no l ↦ inr l
    ]

    advanced_beside : Beside 2 5 s.work (advanced s.work n (at s.work pass_page_at))
    unfolding advanced
    advanced_beside = by_bool (ltb (at s.work pass_page_at + 1) n) (λ e. rw e (pass_beside _ _ _ _)) (λ e. rw e (pass_beside _ _ _ _))

    pub advance_word : at (advanced s.work n (at s.work pass_page_at)) reopening_at ≡ at s.work reopening_at
    advance_word = advanced_beside.below reopening_at (omega arith)

    pub advance_behind : Behind n s.work (advanced s.work n (at s.work pass_page_at))
    advance_behind j l = advanced_beside.above j (omega arith)

    pub advance_same : locks_of (advanced s.work n (at s.work pass_page_at)) n ≡ locks_of s.work n
    advance_same = on_locks n s.work h.sized.tables.1 sweep_room_law phase

    pub advance_passed : pass_of (advanced s.work n (at s.work pass_page_at)) n ≡ (C.advanced (machine n s b)).pass
    advance_passed = on_pass n s.work h.sized.tables.1 sweep_room_law phase

    pub skip_kept : eqb (sweep_map_of s n) 0 ≡ true → OpenInv n (sweeping s n).after b
    skip_kept z =
        let w = s.work in
        let len = h.sized.tables.1 in
        let t = on_tables n w len sweep_room_law phase in
        rw z (passing (advanced w n (at w pass_page_at)) (C.advanced (machine n s b))
        (record { count = refl; locks = sym advance_same; tables = sym t; pass = sym advance_passed })
        (deep_skip (machine n s b) i.going.stack (record { phase = phase }) i.going.deep) refl refl
        advance_word advance_behind advance_same (ap (λ (a : Tables). a.kn) t))

pub open_pass : (n : ℕ) → 1 ≤ n → (s : Areas) (b : Book) → OpenInv n s b → accepted (call_pass s).answer ≡ true
    → OpenInv n (call_pass s).after (fed n b pass s.received (call_pass s).after.received)
unfolding fed
open_pass n some s b i a =
    let k = (pass_outcome s).ran a in
    let h = opened true s k.n k.ready in
    let e : k.n ≡ n = sym h.sized.count ∙ i.size in
    let g : (call_pass s).after ≡ with_work s (pass_started s.work n) = ap (λ (x : Out). x.after) k.gives ∙ ap (λ (q : ℕ). with_work s (pass_started s.work q)) e in
    rw g (start_kept n some s b i (rw e at h))

-- a pass step, from what a step that frees slots does
pub open_step : (n : ℕ) → 1 ≤ n → (s : Areas) (b : Book) → OpenInv n s b
    → (Open s n → phase_of (at s.work phase_at) ≡ M.sweeping → verdict (sweep_tests s n (sweep_map_of s n)) ≡ Ok tt → (sweep_map_of s n ≡ 0 → ⊥)
    → OpenInv n (sweeping s n).after (fed n b step s.received (sweeping s n).after.received))
    → accepted (call_step s).answer ≡ true
    → OpenInv n (call_step s).after (fed n b step s.received (call_step s).after.received)
open_step n some s b i freeing a =
    let k = (step_outcome s).ran a in
    let h' = opened true s k.n k.ready in
    let e : k.n ≡ n = sym h'.sized.count ∙ i.size in
    let h : Open s n = rw e at h' in
    let g : call_step s ≡ Accepted.stepped s n = k.gives ∙ ap (Accepted.stepped s) e in
    elim (step_way s n (call_step s) a g) [
      | scans m l d ↦ rw (d, step_adds_none n b s.received) (scan_kept n some s b i h m l)
      | turns m l d ↦ rw (d, step_adds_none n b s.received) (turn_kept n some s b i h m l)
      | sweeps m c d ↦ (let p = sweeping_phase (at s.work phase_at) (step_facts s k.passed).one_runs m in rw d (by_bool (eqb (sweep_map_of s n) 0)
          (λ z. let q = skip_kept n some s b i h p z in skipped n s b z q)
          (λ z. freeing h p c (eqb-false (sweep_map_of s n) 0 z))))
    ]
  where
    skipped : (n : ℕ) (s : Areas) (b : Book) → eqb (sweep_map_of s n) 0 ≡ true → OpenInv n (sweeping s n).after b
        → OpenInv n (sweeping s n).after (fed n b step s.received (sweeping s n).after.received)
    skipped n s b z q = rw (z, step_adds_none n b s.received) (rw z at q)
