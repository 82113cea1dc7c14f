use mathlib.Core.Bool.{Bool, not, ◌&&◌}
use mathlib.Core.Path.{sym, ap, ◌∙◌}
use lib.Dec.{leb, eqb}
use borrow.Author.Tests.{eq-eqb, ne_eqb}
use Rattle.pages.specs.Geometry.{map_top}
use Rattle.words.specs.Tests.{if_t, if_f}
use Rattle.record_check.proofs.sound.new_sound.Goals as goal

pub returns-then-r-eq-SET : goal.returns-then-r-eq-SET
returns-then-r-eq-SET c = c.reference_sound.ensures ∙ sym (if_t _ _ _ (eq-eqb _ _ c.if-r-eq-SET.true))

pub returns-then-r-eq-SWEEP : goal.returns-then-r-eq-SWEEP
returns-then-r-eq-SWEEP c = let r = c.args.r in ap (λ (b : Bool). leb r.new map_top && not (eqb r.object 0 && b)) c.has_bit.ensures ∙ sym (if_f _ _ _ (ne_eqb _ _ c.if-r-eq-SET.false) ∙ if_t _ _ _ (eq-eqb _ _ c.if-r-eq-SWEEP.true))

pub returns : goal.returns
returns c = sym (if_f _ _ _ (ne_eqb _ _ c.if-r-eq-SET.false) ∙ if_f _ _ _ (ne_eqb _ _ c.if-r-eq-SWEEP.false))
