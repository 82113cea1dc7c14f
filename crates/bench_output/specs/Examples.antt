-- Examples by computation: numbers with their output line.
use Rattle.std.specs.Prelude.{ℕ, ◌≡◌, refl, List, [], ◌∷◌, map}
use Prim.Native.String.{String}
use Rattle.texts.specs.Text.{bytes}
use Rattle.decimals.specs.Decimal.{digits_in, decimal}
use Rattle.bench_output.specs.Output.{output_line}

-- number, answer and value, and the line
abbrev pub Output : Type 0
Output = ℕ × ℕ × ℕ × String

-- one such example
abbrev pub output : ℕ → ℕ → ℕ → String → Output
output n a v s = (n, a, v, s)

-- lines of document 01's bench output, a refusal, and the largest numbers
pub outputs : List Output
outputs =
    output 1 0 1 "1,0,1\r\n"
    ∷ output 9 0 6 "9,0,6\r\n"
    ∷ output 10 0 0 "10,0,0\r\n"
    ∷ output 15 0 1 "15,0,1\r\n"
    ∷ output 100 13 0 "100,13,0\r\n"
    ∷ output 18446744073709551615 14 4294967295 "18446744073709551615,14,4294967295\r\n"
    ∷ []

pub output_lines : map (λ (r : Output). output_line r.0 r.1 r.2) outputs ≡ map (λ (r : Output). bytes r.3) outputs
unfolding outputs output_line decimal digits_in
output_lines = refl
