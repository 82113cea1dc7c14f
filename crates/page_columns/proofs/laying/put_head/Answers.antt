use mathlib.Core.Path.{refl}
use Rattle.pages.specs.Geometry.{head_words}
use Rattle.page_rows.specs.Parts.{copied_part}
use Rattle.page_columns.proofs.laying.put_head.Goals as goal

pub returns : goal.returns
returns c = copied_part c.args.page.now c.args.out.now 0 head_words head_words _ refl c.copy_from_slice.ensures.after
