-- The map is sound, and the slots have no faults. Assumes nothing.
use Rattle.page_check.specs.SoundLaws.{page_slots}
use Rattle.page_check.proofs.sound.page_sound.Goals as goal

pub returns : goal.returns
returns c = page_slots _ _ _ _ c.slot_faults.ensures
