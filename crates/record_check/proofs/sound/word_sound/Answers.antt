use mathlib.Core.Path.{◌∙◌}
use Rattle.records.specs.Soundness.{word_sound}
use Rattle.record_laws.specs.RecordLaws.{word_sound_new}
use Rattle.record_check.proofs.sound.word_sound.Goals as goal

pub returns-in-0 : goal.returns-in-0
unfolding word_sound
returns-in-0 c = c.kind_sound.ensures ∙ rw c.in-0.is

pub returns-in-1 : goal.returns-in-1
unfolding word_sound
returns-in-1 c = c.txn_sound.ensures ∙ rw c.in-1.is

pub returns-in-2 : goal.returns-in-2
unfolding word_sound
returns-in-2 c = c.object_sound.ensures ∙ rw c.in-2.is

pub returns-in-3 : goal.returns-in-3
unfolding word_sound
returns-in-3 c = c.field_sound.ensures ∙ rw c.in-3.is

pub returns-in-4 : goal.returns-in-4
unfolding word_sound
returns-in-4 c = c.old_sound.ensures ∙ rw c.in-4.is

pub returns-in_default : goal.returns-in_default
returns-in_default c = let x = c.in_default.in_default-own.rest in c.new_sound.ensures ∙ word_sound_new _ _ _ x.0.0.0.0.1 x.0.0.0.1 x.0.0.1 x.0.1 x.1
