-- A line taken apart at its first comma.
use Rattle.std.specs.Prelude.{ℕ, suc, cond as if, List, [], ◌∷◌, eqb}
use Rattle.texts.specs.Text.{comma}
use Rattle.texts.specs.Fields.{fields_of}

-- how many bytes stand before the first comma
unfoldable pub field_length : List ℕ → ℕ
field_length [] = 0
field_length (b ∷ bs) = if (eqb b comma) 0 (suc (field_length bs))

-- the fields after a field's end, where the line ends or a comma stands
abbrev pub following : List ℕ → List (List ℕ)
following [] = []
following (b ∷ bs) = fields_of bs
