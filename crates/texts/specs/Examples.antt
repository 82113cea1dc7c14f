-- Examples by computation: inputs with their lines.
use Prim.Native.String.{String}
use Rattle.std.specs.Prelude.{◌≡◌, refl, List, [], ◌∷◌, map}
use Rattle.texts.specs.Text.{bytes}
use Rattle.texts.specs.Lines.{lines_of}

-- an input and its lines
abbrev pub Input : Type 0
Input = String × List String

-- one such example
abbrev pub input : String → List String → Input
input s ls = (s, ls)

-- inputs and their lines: with and without the last CRLF, empty lines, CR and LF alone, CR before CRLF
pub inputs : List Input
inputs =
    input "" []
    ∷ input "pass" ("pass" ∷ [])
    ∷ input "pass\r\n" ("pass" ∷ [])
    ∷ input "pass\r\nstep" ("pass" ∷ "step" ∷ [])
    ∷ input "pass\r\nstep\r\n" ("pass" ∷ "step" ∷ [])
    ∷ input "\r\n" ("" ∷ [])
    ∷ input "\r\n\r\npass" ("" ∷ "" ∷ "pass" ∷ [])
    ∷ input "pass\r\n\r\n" ("pass" ∷ "" ∷ [])
    ∷ input "pass\nstep\n" ("pass\nstep\n" ∷ [])
    ∷ input "pass\r" ("pass\r" ∷ [])
    ∷ input "\r" ("\r" ∷ [])
    ∷ input "pass\rstep\r\n" ("pass\rstep" ∷ [])
    ∷ input "pass\r\r\nstep" ("pass\r" ∷ "step" ∷ [])
    ∷ input "\n\r\n\r" ("\n" ∷ "\r" ∷ [])
    ∷ []

pub lines : map (λ (r : Input). lines_of (bytes r.0)) inputs ≡ map (λ (r : Input). map bytes r.1) inputs
unfolding inputs lines_of
lines = refl
