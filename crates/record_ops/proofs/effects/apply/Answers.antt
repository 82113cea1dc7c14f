use mathlib.Core.Path.{◌∙◌}
use native.Mathlib.Omega.{arith}
use Rattle.records.specs.Effects.{effect}
use Rattle.record_laws.specs.EffectLaws.{effect_none}
use Rattle.record_ops.proofs.effects.apply.Goals as goal

pub occupy-requires : goal.occupy-requires
occupy-requires c = let h = c.requires.create c.in-2.is in omega arith

pub write_word-requires : goal.write_word-requires
write_word-requires c = let h = c.requires.write c.in-3.is in omega arith

pub release-requires : goal.release-requires
release-requires c = let h = c.requires.uncreate c.in-6.is in omega arith

pub release_slots-requires : goal.release_slots-requires
release_slots-requires c = let h = c.requires.sweep c.in-7.is in omega arith

pub returns-in-1 : goal.returns-in-1
unfolding effect
returns-in-1 c = rw c.in-1.is

pub returns-in-2 : goal.returns-in-2
unfolding effect
returns-in-2 c = c.occupy.ensures ∙ rw c.in-2.is

pub returns-in-3 : goal.returns-in-3
unfolding effect
returns-in-3 c = c.write_word.ensures ∙ rw c.in-3.is

pub returns-in-4 : goal.returns-in-4
unfolding effect
returns-in-4 c = rw c.in-4.is

pub returns-in-5 : goal.returns-in-5
unfolding effect
returns-in-5 c = rw c.in-5.is

pub returns-in-6 : goal.returns-in-6
unfolding effect
returns-in-6 c = c.release.ensures ∙ rw c.in-6.is

pub returns-in-7 : goal.returns-in-7
unfolding effect
returns-in-7 c = c.release_slots.ensures ∙ rw c.in-7.is

pub returns : goal.returns
unfolding effect
returns c = rw c.in-0-1.keys8

pub returns-2 : goal.returns-2
returns-2 c = let x = c.in_default-1.rest in effect_none _ _ x.0.0.0.0.0.0.1 x.0.0.0.0.0.1 x.0.0.1 x.0.1
