-- Document 01, 'The book': when a pointer leads to its record. Assumes nothing.
use Rattle.std.specs.Prelude.{ℕ, ◌≡◌, Bool, true, false, ◌&&◌, ◌||◌, List, [], ◌∷◌, eqb}
use Rattle.words.specs.Tests.{if}
use Rattle.words.specs.Bits.{bit}
use Rattle.pages.specs.Geometry.{page_of, slot_of}
use Rattle.pages.specs.Objects.{occupied}
use Rattle.reach.specs.Reaching.{Refers, Reached}
use Rattle.records.specs.declared.Record.{Record}
use Rattle.book.specs.Lines.{Line}

-- a sweep's record frees object o
abbrev pub sweeps : Record → ℕ → Bool
sweeps r o = eqb r.kind 7 && eqb r.object (page_of o) && bit r.new (slot_of o)

-- the record creates or frees object o
abbrev pub makes_or_frees : Record → ℕ → Bool
makes_or_frees r o = ((eqb r.kind 2 || eqb r.kind 6) && eqb r.object o) || sweeps r o

-- the record writes word f of object o: by a set, or with the whole object
abbrev pub writes : Record → ℕ → ℕ → Bool
writes r o f = (eqb r.kind 3 && eqb r.object o && eqb r.field f) || makes_or_frees r o

-- 'no line counted since its word was last written creates or frees the target': of the lines counted, newest first
unfoldable pub unbroken : List Line → ℕ → ℕ → ℕ → Bool
unbroken [] o f x = true
unbroken (l ∷ ls) o f x = let on = unbroken ls o f x in if (writes l.entry o f) true (if (makes_or_frees l.entry x) false on)

-- 'a pointer in it leads to its record if, in that same state, its target is occupied and no line counted since ..': state a of the lines
pub record Leads (a : List ℕ) (lines : List Line) : Type 0 where
  pub there : (o f x : ℕ) → Reached a o → Refers a o f x → occupied a x ≡ true
  pub unbrokenly : (o f x : ℕ) → Reached a o → Refers a o f x → unbroken lines o f x ≡ true
