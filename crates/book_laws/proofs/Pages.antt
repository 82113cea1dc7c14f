-- The committed state and the full pages show what is seen of their lines; and what lists of counted lines decide by themselves.
-- Assumes nothing.
use Prim.Native.Nat.{ℕ, ◌*◌}
use mathlib.Core.Path.{◌≡◌, refl, sym, ap, ◌∙◌}
use mathlib.Core.Bool.{Bool}
use mathlib.Core.List.{List, [], ◌∷◌}
use lib.ListN.{length}
use Rattle.words.specs.Tests.{by_bool}
use Rattle.machine_view.specs.View.{view}
use Rattle.book.specs.Lines.{Line, filtered}
use Rattle.book.specs.Books.{Stage, Book, counts_committed, counts_full, committed_lines, full_lines, committed_pages, full_pages, surviving, stopped}
use Rattle.book_laws.specs.Seen.{counted, committed_of, seen, seen_committed, seen_full, made}
use Rattle.book_laws.specs.Keeping.{SoundBook}
use Rattle.book_laws.proofs.Folds.{seen_agree, after_length, after_view}
use Rattle.book_laws.proofs.Stops.{stable_lines, stop_committed, stop_counts}
use Rattle.pages.specs.Geometry.{page_words}

pub committed_of_law : (b : Book) → committed_lines b ≡ committed_of b.lines
unfolding committed_lines committed_of
committed_of_law b = refl

module _ (n : ℕ) (b : Book) (sound : SoundBook n b) where
  pub committed_view : (x : ℕ) → view (committed_pages b) x ≡ (seen_committed b x).object
  unfolding committed_lines
  committed_view x = after_view n b.origin sound.origin.size (counts_committed b) b.lines (λ l j e. sound.lines l j) x

  pub full_view : (x : ℕ) → view (full_pages b) x ≡ (seen_full b x).object
  unfolding full_lines
  full_view x = after_view n b.origin sound.origin.size (counts_full b) b.lines (λ l j e. sound.lines l j) x

  pub committed_length : length (committed_pages b) ≡ page_words * n
  unfolding committed_lines
  committed_length = after_length n b.origin sound.origin.size (counts_committed b) b.lines (λ l j e. sound.lines l j)

  pub full_length : length (full_pages b) ≡ page_words * n
  unfolding full_lines
  full_length = after_length n b.origin sound.origin.size (counts_full b) b.lines (λ l j e. sound.lines l j)

-- the lines that count decide the objects, and which of two tags is older
pub seen_made : (a : List ℕ) (c : Line → Bool) (ls : List Line) (x : ℕ) → (seen a c ls x).object ≡ made a (filtered c ls) x
unfolding seen made filtered
seen_made a c [] x = refl
seen_made a c (l ∷ ls) x = by_bool (c l) (λ e. rw (e, made, seen_made a c ls x)) (λ e. rw e (seen_made a c ls x))

module _ (a : List ℕ) (c d : Line → Bool) (ls ms : List Line) (same : filtered c ls ≡ filtered d ms) where
  pub objects_by_lines : (x : ℕ) → (seen a c ls x).object ≡ (seen a d ms x).object
  objects_by_lines x = seen_made a c ls x ∙ ap (λ (k : List Line). made a k x) same ∙ sym (seen_made a d ms x)

-- after a stop: the objects of the stable lines' committed state, and their tags' order; the full pages are the committed state
module _ (g : Stage) (b : Book) where
  same : filtered (counts_committed (stopped g b)) (surviving b) ≡ filtered (counted (stable_lines b)) (stable_lines b)
  unfolding committed_lines committed_of
  same = stop_committed g b

  pub stop_objects : (x : ℕ) → (seen_committed (stopped g b) x).object ≡ (seen b.origin (counted (stable_lines b)) (stable_lines b) x).object
  stop_objects x = objects_by_lines b.origin (counts_committed (stopped g b)) (counted (stable_lines b)) (surviving b) (stable_lines b) same x

  pub stop_one : (x : ℕ) → seen_full (stopped g b) x ≡ seen_committed (stopped g b) x
  stop_one x = seen_agree b.origin (counts_full (stopped g b)) (counts_committed (stopped g b)) (surviving b) x (λ l j h. stop_counts g b l)
