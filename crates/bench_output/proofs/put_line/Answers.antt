use Rattle.std.proofs.Common.{arith}
use Rattle.decimals.specs.DecimalLaws.{decimal_length}
use Rattle.bench_output.proofs.Written.{line_written}
use Rattle.bench_output.proofs.put_line.Goals as goal

pub put_number-c-requires : goal.put_number-c-requires
put_number-c-requires c = omega (arith, decimal_length c.args.value)

pub returns : goal.returns
returns c =
    line_written
    c.args.buf.now
    c.put_field-a.new.buf
    c.put_field-b.new.buf
    c.put_number-c.new.buf
    c.args.at
    c.args.line
    c.args.answer
    c.args.value
    c.put_field-a.result
    c.put_field-b.result
    c.put_number-c.result
    c.put_field-a.ensures.0
    c.put_field-a.ensures.2
    c.put_field-b.ensures.0
    c.put_field-b.ensures.2
    c.put_number-c.ensures.0
    c.put_number-c.ensures.2
