use Prim.Native.Nat.{◌≤◌}
use mathlib.Core.Bool.{true}
use mathlib.Core.Path.{◌≡◌}
use Rattle.words.specs.Tests.{all}
use Rattle.records.specs.Records.{record_words}
use Rattle.records.specs.Soundness.{word_sound, records_sound}
use Rattle.log_replay.proofs.word_scan.words_sound.Given as goal

abbrev pub invariant-loop-w : goal.invariant-loop-w
invariant-loop-w l = (l.w ≤ record_words) × (l.ok ≡ true) × (all (word_sound l.n l.r) l.w ≡ true)

abbrev pub invariant-records : goal.invariant-records
invariant-records l = (l.i ≤ l.c) × (l.ok ≡ true) × (records_sound l.n l.log l.i ≡ true)
