-- Document 01, the bench program: "unquoted RFC 4180 lines".
use Rattle.std.specs.Prelude.{ℕ, cond as if, List, [], ◌∷◌, eqb}
use Rattle.texts.specs.Text.{comma}
use Rattle.texts.specs.Lines.{onto}

-- "unquoted RFC 4180 lines": commas part the fields; an empty line has one empty field
unfoldable pub fields_of : List ℕ → List (List ℕ)
fields_of [] = [] ∷ []
fields_of (b ∷ bs) = if (eqb b comma) ([] ∷ fields_of bs) (onto b (fields_of bs))
