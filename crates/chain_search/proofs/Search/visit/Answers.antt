-- Whoever has a finder is passed over. Assumes nothing.
use mathlib.Core.Path.{refl}
use Rattle.chain_search.specs.Entering.{known, entered}
use Rattle.chain_search.proofs.Search.visit.Goals as goal

pub returns-then-self-i-ne0 : goal.returns-then-self-i-ne0
returns-then-self-i-ne0 c = known c.if-self-i-ne0.true refl refl

pub insert-requires : goal.insert-requires
insert-requires c = let p = c.requires in (p.2, p.3 c.if-self-i-ne0.false, p.4)

pub returns : goal.returns
returns c = let e = c.insert.ensures in rw e.1 (entered c.if-self-i-ne0.false e.2 e.0)
