use Rattle.pages.specs.Geometry.{max_pages}
use Rattle.record_laws.specs.RecordLaws.{records_sound_wider}
use Rattle.stability.specs.Checks.{store_outside, store_settled, store_unstable, store_passes}
use native.Mathlib.Omega.{arith}
use Rattle.stability.proofs.store_check.Goals as goal

pub returns-then-n-q : goal.returns-then-n-q
returns-then-n-q c = store_outside _ _ _ c.if-n-q.true

pub returns-then-counts : goal.returns-then-counts
returns-then-counts c = store_settled _ _ _ c.if-n-q.false c.requires.0 c.if-counts.true

pub last_naming-last-requires : goal.last_naming-last-requires
last_naming-last-requires c = (omega arith, omega arith, omega arith, records_sound_wider _ max_pages _ _ (omega arith) c.requires.4)

pub returns-then-counts-last : goal.returns-then-counts-last
returns-then-counts-last c = store_unstable _ _ _ c.if-n-q.false c.requires.0 _ c.last_naming-last.ensures c.if-counts-last.true

pub returns : goal.returns
returns c = store_passes _ _ _ c.if-n-q.false c.requires.0 _ c.last_naming-last.ensures c.if-counts-last.false
