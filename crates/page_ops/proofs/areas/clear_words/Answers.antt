use borrow.Author.Rules.{rules}
use native.Mathlib.Omega.{arith}
use Rattle.page_rows.specs.Parts.{zeros_part}
use Rattle.page_ops.proofs.areas.clear_words.Goals as goal

pub returns : goal.returns
returns c = zeros_part _ _ _ _ _ (omega arith) c.requires (search rules)
