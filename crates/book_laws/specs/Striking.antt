-- Lines struck out, and what can be taken back of a running transaction: its lines that are left, each with the object as it was before it.
-- This serves the proof of demand 3; its claim never mentions it. Assumes nothing.
use Rattle.std.specs.Prelude.{ℕ, ◌≡◌, Bool, true, false, not, List, [], ◌∷◌}
use Rattle.records.specs.declared.Record.{Record}
use Rattle.records.specs.Records.{is_create}
use Rattle.records.specs.Effects.{undoing}
use Rattle.book.specs.Lines.{Line, line, struck_out, is_left}
use Rattle.collector.specs.Undo.{Item}
use Rattle.machine_view.specs.View.{applied, unapplied}
use Rattle.book_laws.specs.Seen.{touches, seen}

-- the undoing line of a line of i
abbrev pub undoing_line : ℕ → Line → Line
undoing_line i l = struck_out (line (undoing l.entry) i)

-- the second list is the first with some of the lines that are left of own transaction i struck out
pub data Strikes (i : ℕ) : List Line → List Line → Type 0 where
  none : Strikes i [] []
  stays : {l : Line} {ls ms : List Line} → Strikes i ls ms → Strikes i (l ∷ ls) (l ∷ ms)
  out : {l : Line} {ls ms : List Line} → is_left i l ≡ true → Strikes i ls ms → Strikes i (l ∷ ls) (struck_out l ∷ ms)

-- the records of lines
unfoldable pub entries : List Line → List Record
entries [] = []
entries (l ∷ ls) = l.entry ∷ entries ls

-- of every item's object
pub data Every (Q : ℕ → Type 0) : List Item → Type 0 where
  done : Every Q []
  and : {u : Item} {us : List Item} → Q u.o → Every Q us → Every Q (u ∷ us)

-- the record touches none of them
abbrev pub Away : Record → List Item → Type 0
Away r us = Every (λ x. touches r x ≡ false) us

-- u is the object of line l as it was before it, after the lines ls that pass test c from pages a on; the line's record can be taken back.
-- It was there, unless the line creates it
pub record Before (a : List ℕ) (c : Line → Bool) (l : Line) (ls : List Line) (u : Item) : Type 0 where
  pub object : l.entry.object ≡ u.o
  pub was : seen a c ls u.o ≡ record { object = u.was; tag = u.tag }
  pub fits : unapplied l.entry u.o (applied l.entry u.o u.was) ≡ u.was
  pub there : u.was.occ ≡ not (is_create l.entry)

-- what can be taken back of own transaction i: its lines that are left; other lines since that count touch none of these objects
pub data Backs (a : List ℕ) (c : Line → Bool) (i : ℕ) : List Line → List Item → Type 0 where
  nothing : Backs a c i [] []
  past : {l : Line} {ls : List Line} {us : List Item} → is_left i l ≡ false → (c l ≡ true → Away l.entry us) → Backs a c i ls us → Backs a c i (l ∷ ls) us
  here : {l : Line} {ls : List Line} {u : Item} {us : List Item} → is_left i l ≡ true → c l ≡ true → Before a c l ls u → Backs a c i ls us → Backs a c i (l ∷ ls) (u ∷ us)
