use native.Mathlib.Omega.{arith}
use mathlib.Core.Path.{◌≡◌, refl, sym}
use Rattle.words.specs.Tests.{all_none, flag_next}
use Rattle.pages.specs.Geometry.{slot_count}
use Rattle.pages.specs.Images.{agrees}
use Rattle.page_rows.proofs.images.page_agrees.Goals as goal

pub loop-s-init : goal.loop-s-init
loop-s-init c = (omega arith, refl, sym (all_none _))

pub loop-s-preserved : goal.loop-s-preserved
loop-s-preserved c = let l = c.loop-s in (omega arith, l.invariant.1, flag_next _ _ _ _ l.invariant.2 (rw (c.has_bit.ensures, c.slot_agrees.ensures)))

pub returns : goal.returns
unfolding agrees
returns c = let l = c.loop-s in let e : l.s ≡ slot_count = omega arith in rw (l.invariant.1, e) at l.invariant.2
