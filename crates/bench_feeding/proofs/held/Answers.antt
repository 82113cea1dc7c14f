-- `bench_feeding::held` meets its contract: a line of more than line_bytes bytes, and one that is whole.
use borrow.Author.Tests.{lt-ltb, le-ltb}
use Rattle.bench_feeding.specs.Reading.{line_bytes, held_command}
use Rattle.bench_feeding.proofs.held.Goals as goal

pub returns-then-n-gt-LINE_BYTES : goal.returns-then-n-gt-LINE_BYTES
unfolding held_command
returns-then-n-gt-LINE_BYTES c = rw (lt-ltb line_bytes _ c.if-n-gt-LINE_BYTES.true)

pub returns : goal.returns
unfolding held_command
returns c = rw (le-ltb line_bytes _ c.if-n-gt-LINE_BYTES.false) c.command_of.ensures
