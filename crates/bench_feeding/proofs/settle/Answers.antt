-- `bench_feeding::settle` meets its contract: with a CR that came last, and without.
use mathlib.Core.Path.{sym, ◌∙◌}
use Rattle.bench_feeding.specs.Steps.{settled_cr, settled_not}
use Rattle.bench_feeding.proofs.settle.Goals as goal

pub returns-then-line : goal.returns-then-line
returns-then-line c = c.push.ensures ∙ sym (settled_cr _ c.if-line.true)

pub returns : goal.returns
returns c = sym (settled_not _ c.if-line.false)
