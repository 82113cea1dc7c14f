-- `bench_feeding::push` meets its contract: with room, and without.
use borrow.Author.Tests.{lt-ltb, le-ltb}
use Rattle.bench_feeding.specs.Reading.{line_bytes, pushed}
use Rattle.bench_feeding.proofs.push.Goals as goal

pub returns-then-n-lt-LINE_BYTES : goal.returns-then-n-lt-LINE_BYTES
unfolding pushed
returns-then-n-lt-LINE_BYTES c = rw (lt-ltb _ line_bytes c.if-n-lt-LINE_BYTES.true)

pub returns : goal.returns
unfolding pushed
returns c = rw (le-ltb _ line_bytes c.if-n-lt-LINE_BYTES.false)
