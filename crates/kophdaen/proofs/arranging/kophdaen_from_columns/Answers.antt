use mathlib.Core.Path.{ap, ◌∙◌}
use Rattle.codes.specs.Codes.{coded}
use Rattle.kophdaen.proofs.arranging.kophdaen_from_columns.Goals as goal

pub returns : goal.returns
returns c = record { value = c.code.ensures ∙ ap coded c.from_columns-a.ensures.value; out_after = c.from_columns-a.ensures.out_after }
