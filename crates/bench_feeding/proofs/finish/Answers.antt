-- `bench_feeding::finish` meets its contract: nothing is left, or the last line.
use Rattle.bench_feeding.specs.Reading.{held_command}
use Rattle.bench_feeding.specs.declared.Line.{Line}
use Rattle.std.specs.Prelude.{Some}
use mathlib.Core.Path.{sym, ap, ◌∙◌}
use Rattle.bench_feeding.specs.Steps.{finished_none, finished_some}
use Rattle.bench_feeding.proofs.finish.Goals as goal

pub returns-then-last-eq0 : goal.returns-then-last-eq0
returns-then-last-eq0 c = sym (finished_none _ (ap (λ (l : Line). l.count) (sym c.settle-last.ensures) ∙ c.if-last-eq0.true))

pub returns : goal.returns
returns c = ap Some (c.held-c.ensures ∙ ap held_command c.settle-last.ensures) ∙ sym (finished_some _ (λ z. c.if-last-eq0.false (ap (λ (l : Line). l.count) c.settle-last.ensures ∙ z)))
