use Prim.Native.Nat.{◌-◌, ◌≤◌}
use mathlib.Core.Path.{◌≡◌}
use lib.ListN.{length}
use Rattle.areas.specs.Areas.{areas}
use Rattle.bench_run.specs.Bench.{bench_pages, all_given}
use Rattle.bench_rights.proofs.give_all.Given as goal

abbrev pub invariant-loop-p : goal.invariant-loop-p
invariant-loop-p l =
    (l.p ≤ bench_pages) × (length l.work ≡ length l.initial.work) × (areas l.stored l.copies l.received l.log l.counts l.work ≡ all_given (areas l.stored l.copies l.received l.log l.counts l.initial.work) l.p)

abbrev pub decreases-loop-p : goal.decreases-loop-p
decreases-loop-p l = bench_pages - l.p
