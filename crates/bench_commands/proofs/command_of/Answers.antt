use Rattle.std.proofs.Common.{arith, ◌≤◌, length, sym, ◌∙◌}
use Rattle.std.proofs.Math.Seq.{length-take-le}
use Rattle.texts.specs.FieldLaws.{length_le}
use Rattle.bench_commands.proofs.Parted.{command_parts}
use Rattle.bench_commands.proofs.command_of.Goals as goal

pub slice_bounds-numbers_of-count : goal.slice_bounds-numbers_of-count
slice_bounds-numbers_of-count c = let h = length_le c.args.line.now in omega (arith, c.field_len-e.ensures)

pub slice_bounds-numbers_of-start : goal.slice_bounds-numbers_of-start
slice_bounds-numbers_of-start c = let h = length_le c.args.line.now in omega (arith, c.field_len-e.ensures)

pub slice_bounds-call_of-end : goal.slice_bounds-call_of-end
slice_bounds-call_of-end c =
    let s = c.args.line.now in
    let h : c.field_len-e.result ≤ length s = omega (arith, length_le s, c.field_len-e.ensures) in
    sym (length-take-le _ s h)

pub returns : goal.returns
returns c =
    c.call_of.ensures
    ∙ command_parts c.args.line.now c.field_len-e.result c.numbers_of-ns.result c.field_len-e.ensures c.numbers_of-ns.ensures
