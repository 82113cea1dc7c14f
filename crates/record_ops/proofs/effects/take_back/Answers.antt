use mathlib.Core.Path.{◌∙◌}
use native.Mathlib.Omega.{arith}
use Rattle.records.specs.Effects.{undone}
use Rattle.record_laws.specs.EffectLaws.{undone_none}
use Rattle.record_ops.proofs.effects.take_back.Goals as goal

pub release-requires : goal.release-requires
release-requires c = let h = c.requires.create c.in-2.is in omega arith

pub write_word-requires : goal.write_word-requires
write_word-requires c = let h = c.requires.write c.in-3.is in omega arith

pub occupy-requires : goal.occupy-requires
occupy-requires c = let h = c.requires.uncreate c.in-6.is in omega arith

pub returns-in-2 : goal.returns-in-2
unfolding undone
returns-in-2 c = c.release.ensures ∙ rw c.in-2.is

pub returns-in-3 : goal.returns-in-3
unfolding undone
returns-in-3 c = c.write_word.ensures ∙ rw c.in-3.is

pub returns-in-6 : goal.returns-in-6
unfolding undone
returns-in-6 c = c.occupy.ensures ∙ rw c.in-6.is

pub returns-in_default : goal.returns-in_default
returns-in_default c = let x = c.in_default.in_default-own.rest in undone_none _ _ x.0.0.1 x.0.1 x.1
