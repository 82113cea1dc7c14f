-- An input fed byte by byte: its commands, and what the line so far stands for.
use Rattle.std.specs.Prelude.{ℕ, ◌≤◌, ◌<◌, ◌≡◌, List, [], ◌∷◌, Option, Some, None, length, take}
use Rattle.bench_names.specs.declared.Command.{Command}
use Rattle.bench_feeding.specs.Reading.{line_bytes, more, fed, finished}
use Rattle.bench_feeding.specs.declared.Line.{Line}

-- what a line stands for: these are the bytes of the input's line so far, but for a CR that came last
pub record Stands (l : Line) (seen : List ℕ) : Type 0 where
  pub room : length l.bytes ≡ line_bytes
  pub short : length seen ≤ line_bytes → l.count ≡ length seen
  pub kept : length seen ≤ line_bytes → take (length seen) l.bytes ≡ seen
  pub long : line_bytes < length seen → l.count ≡ more

-- the command of a line that ended goes before the others
abbrev pub and_then : Option Command → List Command → List Command
and_then None cs = cs
and_then (Some c) cs = c ∷ cs

-- the commands of an input that is fed byte by byte, and then finished
unfoldable pub commands_from : Line → List ℕ → List Command
commands_from l [] = and_then (finished l) []
commands_from l (b ∷ bs) = and_then (fed l b).ended (commands_from (fed l b).line bs)
