-- What several calls share: choices by the pages that a transaction writes, and areas that show the full objects. n is the number of
-- pages. Assumes nothing.
use Prim.Native.Nat.{ℕ, ◌*◌}
use mathlib.Core.Path.{◌≡◌, sym, ap, ◌∙◌}
use mathlib.Core.Bool.{Bool}
use mathlib.Core.List.{List, [], ◌∷◌}
use lib.ListN.{length}
use Rattle.words.specs.Tests.{if, by_bool}
use Rattle.pages.specs.Geometry as Geometry
use Rattle.book.specs.Lines.{Line, filtered, pages_after}
use Rattle.book.specs.Books.{Book, counts_full, full_lines, full_pages}
use Rattle.collector.specs.Objects.{page_of}
use Rattle.collector.specs.State.{mix}
use Rattle.machine_view.specs.View.{view}
use Rattle.recovery_proof.proofs.Maps.{Small, small_sound, small_effect, area_ext}
use Rattle.book_laws.specs.Seen.{Seen, seen_full}
use Rattle.book_laws.specs.Keeping.{here, later, SoundLines, Origin, SoundBook}
use Rattle.book_laws.proofs.Acts.{picked_object, picked_tag}
use Rattle.book_laws.proofs.Folds.{after_length}
use Rattle.book_laws.proofs.Pages.{full_view, full_length}
use Rattle.pages.specs.Geometry.{page_words}

-- a choice by the pages that t writes, as the machine makes it
pub picked : (wr : ℕ → ℕ → Bool) (t : ℕ) (A B : ℕ → Seen) (x : ℕ) (v : Seen) → v ≡ if (wr t (Geometry.page_of x)) (A x) (B x)
    → (v.object ≡ mix (λ o. wr t (page_of o)) (λ o. (A o).object) (λ o. (B o).object) x) × (v.tag ≡ mix (λ o. wr t (page_of o)) (λ o. (A o).tag) (λ o. (B o).tag) x)
unfolding page_of
picked wr t A B x v e = (
  ap (λ (q : Seen). q.object) e ∙ picked_object (wr t (Geometry.page_of x)) (A x) (B x),
  ap (λ (q : Seen). q.tag) e ∙ picked_tag (wr t (Geometry.page_of x)) (A x) (B x),
)

-- the pages after lines have maps of 16 bits
pub small_after : (n : ℕ) (a : List ℕ) → Origin n a → (c : Line → Bool) (ls : List Line) → SoundLines n ls → Small n (pages_after a (filtered c ls))
unfolding pages_after filtered
small_after n a o c [] h = small_sound n a o.sound
small_after n a o c (l ∷ ls) h = let k : SoundLines n ls = λ m j. h m (later j) in by_bool (c l)
    (λ e. rw e (small_effect n (pages_after a (filtered c ls)) (after_length n a o.size c ls (λ m j d. k m j)) l.entry (h l here) (small_after n a o c ls k)))
    (λ e. rw e (small_after n a o c ls k))

pub full_ext : (n : ℕ) (b : Book) → SoundBook n b → (a : List ℕ) → length a ≡ page_words * n → Small n a → ((x : ℕ) → view a x ≡ (seen_full b x).object) → a ≡ full_pages b
unfolding full_lines
full_ext n b ok a len small e = area_ext n a (full_pages b) len (full_length n b ok) small (small_after n b.origin ok.origin (counts_full b) b.lines ok.lines)
    (λ x. e x ∙ sym (full_view n b ok x))
