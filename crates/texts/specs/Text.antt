-- Text as bytes, so that names and examples can be read.
use Rattle.std.specs.Prelude.{ℕ}
use Prim.Native.Char.{code}
use Prim.Native.String.{String, [], ◌∷◌}
use mathlib.Core.List as L

-- the codes of a text's characters, which are its bytes where they are ASCII
abbrev pub bytes : String → L.List ℕ
bytes [] = L.[]
bytes (c ∷ s) = L.◌∷◌ (code c) (bytes s)

-- RFC 4180's comma, which parts two fields
abbrev pub comma : ℕ
comma = 44

-- CRLF, which ends a line

-- 'lines end in CRLF': CR
abbrev pub cr : ℕ
cr = 13

-- 'lines end in CRLF': LF
abbrev pub lf : ℕ
lf = 10
