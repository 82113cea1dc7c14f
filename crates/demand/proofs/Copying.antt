-- A page of one area written into another, object by object: n is the number of pages. Assumes nothing.
use Prim.Native.Nat.{ℕ, ◌*◌, ◌<◌}
use mathlib.Core.Path.{◌≡◌, refl, ◌∙◌}
use mathlib.Core.Bool.{Bool, cond}
use mathlib.Core.List.{List}
use lib.ListN.{length}
use lib.Dec.{eqb, ltb}
use borrow.Author.Tests.{ltb-true, le-leb}
use Rattle.words.specs.Tests.{by_bool}
use Rattle.pages.specs.Geometry.{page_of, page_words, slot_words}
use Rattle.pages.specs.Objects.{copied_page}
use Rattle.page_laws.specs.ViewLaws.{occupied_copied, word_copied}
use Rattle.collector.specs.Objects as Objects
use Rattle.collector.specs.State.{mix}
use Rattle.machine_view.specs.View.{view, shown}
use Rattle.machine_view.proofs.Effects.{obj_ext, view_by}

module _ (n : ℕ) (from to : List ℕ) (p : ℕ) (lf : length from ≡ page_words * n) (lt : length to ≡ page_words * n) (hp : p < n) where
  abbrev here : ℕ → Bool
  here x = eqb (Objects.page_of x) p

  word_at : (x f : ℕ) → (shown (copied_page from to p) x).word f ≡ (cond (here x) (shown from x) (shown to x)).word f
  unfolding Objects.page_of
  word_at x f = by_bool (ltb f slot_words)
      (λ l. rw (l, word_copied n from to p lf lt hp x f (ltb-true f slot_words l)) (by_bool (eqb (page_of x) p) (λ e. rw (e, l) refl) (λ e. rw (e, l) refl)))
      (λ l. rw l (by_bool (eqb (page_of x) p) (λ e. rw (e, l) refl) (λ e. rw (e, l) refl)))

  occ_at : (x : ℕ) → (shown (copied_page from to p) x).occ ≡ (cond (here x) (shown from x) (shown to x)).occ
  unfolding Objects.page_of
  occ_at x = occupied_copied n from to p lf lt hp x ∙ by_bool (eqb (page_of x) p) (λ e. rw e refl) (λ e. rw e refl)

  pub copied_view : (x : ℕ) → view (copied_page from to p) x ≡ mix here (view from) (view to) x
  unfolding view
  copied_view x = view_by (copied_page from to p) (mix here (view from) (view to))
      (λ y l. obj_ext _ _ (occ_at y) (word_at y) ∙ rw (le-leb 1 y l) refl)
      (by_bool (here 0) (λ e. rw e refl) (λ e. rw e refl)) x
