use mathlib.Core.Path.{ap, ◌∙◌}
use Rattle.codes.specs.Codes.{coded}
use Rattle.kophdaen.proofs.arranging.kophdaen_to_columns.Goals as goal

pub returns : goal.returns
returns c = record { value = c.code.ensures ∙ ap coded c.to_columns-a.ensures.value; out_after = c.to_columns-a.ensures.out_after }
