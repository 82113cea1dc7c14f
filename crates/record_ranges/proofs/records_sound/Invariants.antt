use Rattle.std.proofs.Common.{◌≡◌}
use Rattle.records.specs.Soundness.{records_sound}
use Rattle.record_ranges.specs.Ranges.{clean}
use Rattle.record_ranges.proofs.records_sound.Given as goal

abbrev pub invariant-loop-i : goal.invariant-loop-i
invariant-loop-i l = clean l.kinds l.f0 l.f1 l.f2 l.f3 l.f4 ≡ records_sound l.n l.log l.i
