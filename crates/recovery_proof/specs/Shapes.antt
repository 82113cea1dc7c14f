-- Log records read as lines over objects. This serves the proof of demand 3; its claim never mentions it. Assumes nothing.
use Rattle.std.specs.Prelude.{ℕ, zero, suc, Bool, false, ◌||◌, List, [], ◌∷◌, eqb}
use Rattle.words.specs.Tests.{if}
use Rattle.records.specs.declared.Record.{Record}
use Rattle.records.specs.Records.{record_at}
use Rattle.records.specs.Soundness.{names_object}
use Rattle.book.specs.Pointers.{sweeps, makes_or_frees, writes}
use Rattle.machine_view.specs.View.{applied, unapplied}
use Rattle.recovery_proof.specs.Lines.{Line, began, kept, ended, acts, cleared}

-- a sweep frees the objects of its map; a record of an unknown kind frees nothing
unfoldable pub shape : Record → Line
shape r =
    if (eqb r.kind 1) (began r.txn)
    (if (eqb r.kind 4) (kept r.txn)
    (if (eqb r.kind 5) (ended r.txn)
    (if (names_object r) (acts r.txn r.object (applied r r.object) (unapplied r r.object))
    (cleared (sweeps r)))))

unfoldable pub shapes : List Record → List Line
shapes [] = []
shapes (r ∷ rs) = shape r ∷ shapes rs

-- the first c records of a log, newest first
unfoldable pub recs : List ℕ → ℕ → List Record
recs g zero = []
recs g (suc i) = record_at g i ∷ recs g i

-- some record of the list passes the test
unfoldable pub some_of : (Record → Bool) → List Record → Bool
some_of f [] = false
some_of f (r ∷ rs) = f r || some_of f rs

-- a record of the list writes the occupied bit of object x, or its word f
abbrev pub writes_occ : List Record → ℕ → Bool
writes_occ rs x = some_of (λ r. makes_or_frees r x) rs

abbrev pub writes_word : List Record → ℕ → ℕ → Bool
writes_word rs x f = some_of (λ r. writes r x f) rs
