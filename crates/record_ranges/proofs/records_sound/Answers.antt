use Rattle.std.proofs.Common.{arith}
use Rattle.record_ranges.specs.Ranges.{clean_none, clean_next, clean_end, rows_sound, Words}
use Rattle.record_ranges.proofs.records_sound.Goals as goal

pub loop-i-init : goal.loop-i-init
loop-i-init c = clean_none _ _

pub loop-i-preserved : goal.loop-i-preserved
loop-i-preserved c =
    let r = c.record_at-r.result in
    let w : Words c.args.n r.txn r.old r.new = record { pages_from = c.requires.1; pages_to = c.requires.2; txn = omega arith; old = omega arith; new = omega arith } in
    let s = rows_sound _ r _ _ w c.rows-rows.ensures c.row_of.ensures in
    clean_next _ _ _ _ _ _ _ _ _ _ _ _ _ _ r _ c.record_at-r.ensures c.loop-i.invariant s
    (c.outside-f0.ensures, c.outside-f1.ensures, c.outside-f2.ensures, c.outside-f3.ensures, c.strays-f4.ensures)

pub returns : goal.returns
returns c = clean_end _ _ _ _ _ _ _ _ _ _ c.loop-i.invariant (omega arith)
