-- `bench_feeding::feed` meets its contract: the three ways of a byte.
use mathlib.Core.Path.{sym, ap, ◌∙◌}
use Rattle.bench_feeding.specs.Steps.{with_cr, going, fed_end, fed_cr, fed_byte}
use Rattle.bench_feeding.specs.Reading.{pushed}
use Rattle.bench_feeding.specs.declared.Line.{Line}
use Rattle.bench_feeding.proofs.feed.Goals as goal

pub returns-then-cr-b : goal.returns-then-cr-b
returns-then-cr-b c = (cc) ∙ sym (fed_end _ _ c.if-cr-b.true)

pub returns-then-b-eq-CR : goal.returns-then-b-eq-CR
returns-then-b-eq-CR c = ap (λ (l : Line). going (with_cr l)) c.settle-l.ensures ∙ sym (fed_cr _ _ c.if-cr-b.false c.if-b-eq-CR.true)

pub returns : goal.returns
returns c = ap going (c.push-next.ensures ∙ ap (λ (l : Line). pushed l c.args.b) c.settle-l.ensures) ∙ sym (fed_byte _ _ c.if-cr-b.false c.if-b-eq-CR.false)
