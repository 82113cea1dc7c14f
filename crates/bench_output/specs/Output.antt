-- Document 01, the bench program: "Each output line is line number, answer (0 or a refusal) and value."
use Rattle.std.specs.Prelude.{ℕ, ◌≤◌, List, [], ◌∷◌, ◌++◌, length}
use Rattle.std.proofs.Common.{arith, length-append}
use Rattle.texts.specs.Text.{comma, cr, lf}
use Rattle.decimals.specs.Decimal.{decimal}
use Rattle.decimals.specs.DecimalLaws.{decimal_length}

-- the bytes of a buffer for one line: three numbers of at most 20 digits, two commas, CR and LF
abbrev pub line_room : ℕ
line_room = 64

-- a number and the comma after it
abbrev pub field_text : ℕ → List ℕ
field_text n = decimal n ++ comma ∷ []

-- "Each output line is line number, answer (0 or a refusal) and value.": n, a and v; "lines end in CRLF", every output line too
unfoldable pub output_line : ℕ → ℕ → ℕ → List ℕ
output_line n a v = field_text n ++ field_text a ++ decimal v ++ cr ∷ lf ∷ []

pub line_fits : (n a v : ℕ) → length (output_line n a v) ≤ line_room
unfolding output_line
line_fits n a v = simp length-append (omega (arith, decimal_length n, decimal_length a, decimal_length v))
