use Rattle.page_rows.specs.TableLaws.{words_same}
use Rattle.page_rows.proofs.images.slot_agrees.Goals as goal

pub returns : goal.returns
returns c = rw (c.eq.ensures, c.words_from.ensures, c.words_from-2.ensures, c.slot_at-i.ensures, c.slot_at-b.ensures) (words_same _ _ _ _)
