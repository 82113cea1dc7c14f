use Rattle.std.proofs.Common.{rules, arith}
use Rattle.decimals.specs.DecimalLaws.{decimal_length, width_one, width_more, one_written, more_written}
use Rattle.decimals.proofs.+put_number.Goals as goal

pub bounds-buf-at : goal.bounds-buf-at
bounds-buf-at t c = let w = width_one c.args.n c.if-n-lt-BASE.true in omega arith

pub returns-then-n-lt-BASE : goal.returns-then-n-lt-BASE
returns-then-n-lt-BASE t c =
    let h = c.if-n-lt-BASE.true in
    (omega (arith, width_one c.args.n h), omega arith, one_written _ _ _ h)

pub put_number-end-requires : goal.put_number-end-requires
put_number-end-requires t c =
    let w = width_more c.args.n c.if-n-lt-BASE.false (search rules) in
    (omega arith, omega arith)

pub bounds-buf-end : goal.bounds-buf-end
bounds-buf-end t c =
    let w = width_more c.args.n c.if-n-lt-BASE.false (search rules) in
    omega (arith, c.put_number-end.auto.buf)

pub returns : goal.returns
returns t c =
    let w = width_more c.args.n c.if-n-lt-BASE.false (search rules) in (
      omega arith,
      omega (arith, decimal_length c.args.n),
      more_written
          _
          _
          _
          _
          c.args.n
          c.if-n-lt-BASE.false
          (search rules)
          c.put_number-end.ensures.0
          c.put_number-end.ensures.2,
    )
