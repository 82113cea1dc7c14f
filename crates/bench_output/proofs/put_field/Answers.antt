use Rattle.std.proofs.Common.{[], ◌∷◌, arith}
use Rattle.texts.specs.Text.{comma}
use Rattle.decimals.specs.Decimal.{decimal}
use Rattle.decimals.specs.DecimalLaws.{decimal_length}
use Rattle.bench_output.proofs.Written.{text_end, text_more}
use Rattle.bench_output.proofs.put_field.Goals as goal

pub put_number-end-requires : goal.put_number-end-requires
put_number-end-requires c = omega (arith, decimal_length c.args.n)

pub returns : goal.returns
returns c = (
  text_end c.args.buf.now (decimal c.args.n) (comma ∷ []) _ _ c.put_number-end.ensures.0,
  omega arith,
  text_more
      c.args.buf.now
      (decimal c.args.n)
      (comma ∷ [])
      _
      _
      c.put_number-end.ensures.0
      _
      c.put_number-end.ensures.2,
)
