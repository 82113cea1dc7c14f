use Rattle.std.proofs.Common.{arith}
use Rattle.record_ranges.specs.Ranges.{outside_none}
use Rattle.record_ranges.proofs.outside.Goals as goal

pub returns : goal.returns
returns c =
    let s = c.args in
    outside_none s.before c.wrapping_sub_u32.result c.above.result s.x s.low s.span
    (omega arith) (omega arith) (omega arith) c.wrapping_sub_u32.ensures.value c.above.ensures
