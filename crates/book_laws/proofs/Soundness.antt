-- The records of the book's lines stay sound: where an undoing record is added, and where a stop leaves some of the lines, of which it
-- keeps whatever holds of each.
-- n is the number of pages. Assumes nothing.
use Prim.Native.Nat.{ℕ, suc, ◌-◌}
use mathlib.Core.Path.{◌≡◌}
use mathlib.Core.Bool.{true}
use lib.ListN.{length}
use Rattle.records.specs.Soundness.{record_sound}
use Rattle.record_laws.specs.SoundRecords.{undoing_sound}
use Rattle.book.specs.Lines.{Line, left}
use Rattle.book.specs.Books.{Book, surviving}
use Rattle.book.specs.Feeding.{undoes}
use Rattle.book_laws.specs.Keeping.{Each, Runs, BookInv, SoundLines}
use Rattle.book_laws.proofs.Members.{each_cons, each_drop, in_filtered}
use Rattle.book_laws.proofs.Ends.{left_facts}
use Rattle.book_laws.proofs.Undoing.{strikes_newest, strikes_each, newest}
use Rattle.book_laws.proofs.Finishing.{undo_lines}
use Rattle.book_laws.proofs.Stops.{stable_lines, survives}

pub undo_sound : (n : ℕ) (b : Book) (inv : BookInv b) (t : ℕ) (run : Runs b t) (k : ℕ) → left (b.running t) b.lines ≡ suc k → SoundLines n b.lines → SoundLines n (undoes b t).lines
undo_sound n b inv t run k some h = let i = b.running t in let l = newest i b.lines k some in rw (undo_lines b inv t run k some)
    (each_cons (undoing_sound n l.0.entry (h l.0 l.1.there) (left_facts i l.0 l.1.is_left_law).kind)
    (strikes_each i (λ m. record_sound n m.entry ≡ true) (strikes_newest i b.lines) h (λ m j e. h m j)))

pub stop_each : (P : Line → Type 0) (b : Book) → Each P b.lines → Each P (surviving b)
unfolding surviving
stop_each P b h l j = each_drop {P = P} (length b.lines - b.stable) b.lines h l (in_filtered (survives (stable_lines b)) (stable_lines b) l j).0

pub stop_sound : (n : ℕ) (b : Book) → SoundLines n b.lines → SoundLines n (surviving b)
stop_sound n b h = stop_each (λ m. record_sound n m.entry ≡ true) b h
