use native.Mathlib.Omega.{arith}
use Rattle.words.specs.Spans.{zero_at}
use Rattle.pages.specs.Geometry.{object_count, max_pages}
use Rattle.chain_search.proofs.Search.new.Goals as goal

pub returns : goal.returns
returns c = (zero_at (object_count max_pages), omega arith, omega arith)
