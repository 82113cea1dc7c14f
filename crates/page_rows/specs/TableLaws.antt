-- A page's table of rows: read, changed and written back. Assumes nothing.
use Rattle.std.specs.Prelude.{ℕ, suc, ◌+◌, ◌<◌, ◌≡◌, length, get_or, replicate, eqb}
use Rattle.std.specs.Cmp.Lexicographic.{pointwise}
use Rattle.std.proofs.Math.Path.{refl, sym, ap}
use Rattle.std.proofs.Common.{◌∙◌, drop_of_length-le, drop-cons, add-zero, add-one, arith}
use mathlib.Core.List.{List, [], ◌∷◌, ◌++◌, append-nil}
use Rattle.std.proofs.lemmas.List.{get_or_at}
use Rattle.std.proofs.Math.ListN.{set, drop}
use Rattle.std.proofs.Math.Seq.{paste, set_at, append_snoc}
use Rattle.words.specs.Tests.{if, all, and_assoc, and_true}
use Rattle.words.specs.Spans.{same}
use Rattle.words.specs.Bits.{bit}
use Rattle.pages.specs.Geometry.{slot_at, slot_count, slot_words}
use Rattle.pages.specs.Table.{tabulate, row_of, with_rows}
use Rattle.page_laws.specs.Tables.{length_tab}

-- 'sixteen rows of eight words': one row, the words from b
abbrev pub words_from : List ℕ → ℕ → List ℕ
words_from a b =
    get_or a b 0
    ∷ get_or a (b + 1) 0
    ∷ get_or a (b + 2) 0
    ∷ get_or a (b + 3) 0
    ∷ get_or a (b + 4) 0
    ∷ get_or a (b + 5) 0
    ∷ get_or a (b + 6) 0
    ∷ get_or a (b + 7) 0
    ∷ []

-- 'Free slots hold zeros': the row of one
abbrev pub zero_row : List ℕ
zero_row = replicate slot_words 0

-- 'map of freed slots, which become zeros': row s of a table, and the table, where the slots of the map m are freed
abbrev pub freed_row : List (List ℕ) → ℕ → ℕ → List ℕ
freed_row t m s = if (bit m s) zero_row (get_or t s [])

unfoldable pub freed_rows : List (List ℕ) → ℕ → List (List ℕ)
freed_rows t m = tabulate (freed_row t m) slot_count

-- a table filled one row after the other
module _ {A : Type 0} where
  pub tab_none : (f : ℕ → A) (l : List A) → l ≡ tabulate f 0 ++ drop 0 l
  unfolding tabulate
  tab_none f l = refl

  pub tab_next : (f : ℕ → A) (n : ℕ) (l : List A) (d : A) (x : List A) (v : A) → x ≡ tabulate f n ++ drop n l → v ≡ f n → n < length l
      → set x n v ≡ tabulate f (n + 1) ++ drop (n + 1) l
  unfolding tabulate
  tab_next f n l d x v e q h =
      ap (λ (r : List A). set r n v) (e ∙ ap (λ (r : List A). tabulate f n ++ r) (drop-cons l n d h))
      ∙ set_at (tabulate f n) (get_or l n d) (drop (suc n) l) v n (length_tab f n)
      ∙ ap (λ (y : A). tabulate f n ++ (y ∷ drop (suc n) l)) q
      ∙ sym (append_snoc (tabulate f n) (f n) (drop (suc n) l))
      ∙ ap (λ (m : ℕ). tabulate f m ++ drop m l) (sym (add-one n))

  pub tab_rest : (f : ℕ → A) (n : ℕ) (l : List A) (d : A) (x : List A) → x ≡ tabulate f n ++ drop n l → n < length l → get_or x n d ≡ get_or l n d
  tab_rest f n l d x e h =
      ap (λ (r : List A). get_or r n d) (e ∙ ap (λ (r : List A). tabulate f n ++ r) (drop-cons l n d h))
      ∙ get_or_at (tabulate f n) (get_or l n d) (drop (suc n) l) d n (length_tab f n)

  pub tab_end : (f : ℕ → A) (n i : ℕ) (l x : List A) → x ≡ tabulate f i ++ drop i l → i ≡ n → length l ≡ n → x ≡ tabulate f n
  tab_end f n i l x h e q = h ∙ rw (e, drop_of_length-le l {i = n} (omega arith)) (append-nil (tabulate f n))

-- two rows compared word by word
pub words_same : (x : List ℕ) (i : ℕ) (y : List ℕ) (j : ℕ) → pointwise eqb (words_from x i) (words_from y j) ≡ same x i y j slot_words
unfolding same all
words_same x i y j = simp (add-zero, and_assoc, and_true)

-- a row read from its slot, and one more row written
pub row_words : (a : List ℕ) (p s : ℕ) → words_from a (slot_at p s 0) ≡ row_of a p s
row_words a p s = simp add-zero

pub rows_next : (a : List ℕ) (p : ℕ) (t : List (List ℕ)) (s : ℕ) (x : List ℕ) (b : ℕ) → x ≡ with_rows a p t s → b ≡ slot_at p s 0
    → paste x b (get_or t s []) slot_words ≡ with_rows a p t (s + 1)
unfolding with_rows
rows_next a p t s x b h e = ap (λ (l : List ℕ). paste l b (get_or t s []) slot_words) h
    ∙ ap (λ (i : ℕ). paste (with_rows a p t s) i (get_or t s []) slot_words) e ∙ ap (with_rows a p t) (sym (add-one s))
