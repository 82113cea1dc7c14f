use Rattle.std.proofs.Common.{◌≡◌, ◌-◌, ◌≤◌, length, drop, Some}
use Rattle.texts.specs.Parts.{following}
use Rattle.bench_commands.specs.Commands.{numbers_from}
use Rattle.bench_commands.specs.declared.Numbers.TheVariants.{Zero}
use Rattle.bench_commands.proofs.numbers_of.Given as goal

abbrev pub invariant-loop-e : goal.invariant-loop-e
invariant-loop-e l =
    (l.e ≤ length l.s) × (numbers_from (Some l.ns) (following (drop l.e l.s)) ≡ numbers_from (Some Zero) (following l.s))

abbrev pub decreases-loop-e : goal.decreases-loop-e
decreases-loop-e l = length l.s - l.e
