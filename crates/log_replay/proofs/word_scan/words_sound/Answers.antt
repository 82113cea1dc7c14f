use Prim.Native.Nat.{◌-◌}
use mathlib.Core.Bool.{true}
use mathlib.Core.Path.{◌≡◌, refl, sym, ◌∙◌}
use native.Mathlib.Omega.{arith}
use borrow.Author.Tests.{not-true, not-false}
use Rattle.words.specs.Tests.{all_none, all_more}
use Rattle.log_replay.specs.Reading.{scan_none, scan_next, scan_out}
use Rattle.log_replay.proofs.word_scan.words_sound.Goals as goal

pub records-init : goal.records-init
records-init c = (omega arith, refl, scan_none _ _)

pub loop-w-init : goal.loop-w-init
loop-w-init c = (omega arith, c.records.invariant.1, all_none _)

pub loop-w-preserved : goal.loop-w-preserved
loop-w-preserved c =
    let l = c.loop-w.invariant in
    (omega arith, l.1, all_more _ _ l.2 (sym c.word_sound.ensures ∙ not-false _ c.if-not-word_sound.false-raw))

pub records-preserved : goal.records-preserved
records-preserved c =
    let l = c.loop-w.invariant in
    (omega arith, l.1, scan_next _ _ _ _ _ c.record_at-r.ensures c.records.invariant.2 l.0 c.loop-w-test.false l.2)

pub returns-after-records : goal.returns-after-records
returns-after-records c = let s = c.records in let e : s.i ≡ c.args.c = omega arith in s.invariant.1 ∙ sym (rw e at s.invariant.2)

pub returns-then-not-word_sound : goal.returns-then-not-word_sound
returns-then-not-word_sound c =
    scan_out _ _ _ _ _ c.record_at-r.ensures _ c.records-test.true c.loop-w-test.true
    (sym c.word_sound.ensures ∙ not-true _ c.if-not-word_sound.true-raw)
