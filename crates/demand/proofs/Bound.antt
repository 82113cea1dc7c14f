-- A record that begins or commits a transaction, with its line on top: it changes no page. n is the number of pages. Assumes nothing.
use Prim.Native.Nat.{ℕ, ◌+◌, ◌≤◌, ◌<◌}
use mathlib.Core.Path.{◌≡◌, refl, sym, ◌∙◌}
use mathlib.Core.Bool.{true}
use mathlib.Core.List.{List, [], ◌∷◌}
use lib.ListN.{drop}
use Rattle.words.specs.Bits.{bit}
use Rattle.records.specs.declared.Record.{Record}
use Rattle.records.specs.Effects.{effect}
use Rattle.records.specs.Soundness.{record_sound}
use Rattle.records.specs.Order.{open_in, open_next, in_order}
use Rattle.areas.specs.Areas.{Areas, received_count, with_work, appended}
use Rattle.areas.specs.Entry.{records}
use Rattle.acceptance.specs.Entered.{Open}
use Rattle.book.specs.Lines.{Line}
use Rattle.book.specs.Books.{Book, full_pages}
use Rattle.collector.proofs.Invariant as Collector
use Rattle.machine_calls.specs.Tables.{locks_of}
use Rattle.recovery_proof.proofs.Invariant as Recovery
use Rattle.recovery_proof.proofs.Decided.{same_longer}
use Rattle.recovery_proof.proofs.Maps.{small_sound}
use Rattle.recovery_proof.proofs.Steps.{log_of}
use Rattle.book_laws.specs.Seen.{seen_committed, seen_full}
use Rattle.book_laws.specs.Keeping.{SoundBook}
use Rattle.book_laws.proofs.Members.{each_cons}
use Rattle.book_laws.proofs.Committed.{alike_self}
use Rattle.demand.proofs.State.{machine, received, LogInv, OpenInv}
use Rattle.demand.proofs.OneRecord.{Appends, log_after}
use Rattle.demand.proofs.Change.{full_shown}
use Rattle.demand.proofs.Shared.{full_ext}
use Rattle.records.specs.Records.{txn_count}

-- record r with its line l; w: the working words after it, b': the book
pub record Bounding (n : ℕ) (s : Areas) (b : Book) (r : Record) (l : Line) (w : List ℕ) (b' : Book) : Type 0 where
  pub entry : l.entry ≡ r
  pub origin : b'.origin ≡ b.origin
  pub lines : b'.lines ≡ l ∷ b.lines
  pub stable : b'.stable ≡ b.stable
  pub room : received_count s + 1 ≤ records s
  pub ok : record_sound n r ≡ true
  pub order : in_order (open_in s.log (received_count s)) r ≡ true
  pub still : effect s.received r ≡ s.received
  pub full : (x : ℕ) → (seen_full b' x).object ≡ (seen_full b x).object
  pub opens : (u : ℕ) → u < txn_count → bit (open_next (open_in s.log (received_count s)) r) u ≡ (locks_of w n).act u

module _ (n : ℕ) (some : 1 ≤ n) (s : Areas) (b : Book) (i : OpenInv n s b) (h : Open s n) (r : Record) (l : Line) (w : List ℕ) (b' : Book) (c : Bounding n s b r l w b') where
  abbrev s' : Areas
  s' = with_work (appended s r) w

  pub bound_sound : SoundBook n b'
  bound_sound = record { origin = rw c.origin i.sound.origin; lines = rw c.lines (each_cons (rw c.entry c.ok) i.sound.lines) }

  pub bound_full : s'.received ≡ full_pages b'
  unfolding appended
  bound_full = c.still ∙ full_ext n b' bound_sound s.received h.sized.received_len (small_sound n s.received h.ranged.received_sound)
      (λ x. sym (full_shown n s b i x) ∙ sym (c.full x))

  appends : Appends n s b r l s' b'
  unfolding appended
  appends = record {
    entry = c.entry;
    log = refl;
    counts = refl;
    stored = refl;
    origin = c.origin;
    older = b.lines;
    lines = c.lines;
    entries_same = refl;
    alike = λ j. alike_self (drop j b.lines);
    stable = c.stable;
    room = c.room;
    ok = c.ok;
    order = c.order;
  }

  pub bound_log : Recovery.Inv i.base (log_of (λ x. (seen_full b' x).object) (λ x. (seen_committed b' x).object) (locks_of w n).wr (locks_of w n).act (r ∷ received s))
      → Collector.Inv (machine n s' b') → LogInv n s' b' i.base
  unfolding appended
  bound_log j m = log_after n s b i.base i.log h.sized r l s' b' appends j m bound_sound c.opens (same_longer (r ∷ []) (received s) i.log.copies)
