-- The input read byte by byte: the line so far, and what each byte makes of it.
-- What this comes to is a law of crate feeding_laws: the commands of the input's lines.
use Rattle.std.specs.Prelude.{ℕ, ◌+◌, true, false, ◌&&◌, cond as if, Option, Some, None, ltb, eqb, take, set, replicate}
use Rattle.texts.specs.Text.{cr, lf}
use Rattle.bench_commands.specs.Commands.{command_of}
use Rattle.bench_names.specs.declared.Command.{Command}
use Rattle.bench_names.specs.declared.Command.TheVariants.{NoCall}
use Rattle.bench_feeding.specs.declared.Line.{Line}
use Rattle.bench_feeding.specs.declared.Fed.{Fed}

-- the bytes of a line that are kept: no call has as many
abbrev pub line_bytes : ℕ
line_bytes = 64

-- the count of a line with more bytes than are kept
abbrev pub more : ℕ
more = 65

-- "reads calls as unquoted RFC 4180 lines": nothing is read yet
unfoldable pub no_line : Line
no_line = record { bytes = replicate line_bytes 0; count = 0; cr = false }

-- one byte more; past those kept only that there are more
unfoldable pub pushed : Line → ℕ → Line
pushed l b =
    if (ltb l.count line_bytes)
    (record { bytes = set l.bytes l.count b; count = l.count + 1; cr = false })
    (record { bytes = l.bytes; count = more; cr = false })

-- "lines end in CRLF": where no LF follows the CR that came last, it belongs to the line
unfoldable pub settled : Line → Line
settled l = if l.cr (pushed l cr) l

-- "A line that is no call answers 1.": the command of the line, which is no call if it has more bytes than are kept
unfoldable pub held_command : Line → Command
held_command l = if (ltb line_bytes l.count) NoCall (command_of (take l.count l.bytes))

-- "lines end in CRLF": CR and LF end the line; a CR waits for the next byte
unfoldable pub fed : Line → ℕ → Fed
fed l b =
    if (l.cr && eqb b lf)
    (record { line = no_line; ended = Some (held_command l) })
    (if (eqb b cr)
    (record { line = record { bytes = (settled l).bytes; count = (settled l).count; cr = true }; ended = None })
    (record { line = pushed (settled l) b; ended = None }))

-- "which the last input line may lack": the input ends; what is left, if anything, is the last line
unfoldable pub finished : Line → Option Command
finished l = if (eqb (settled l).count 0) None (Some (held_command (settled l)))
