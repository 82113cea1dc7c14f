-- A page by columns and back: each word of both arrangements, and that either order gives the page back. Assumes nothing.
use Prim.Native.Nat.{ℕ, ◌<◌}
use mathlib.Core.Path.{◌≡◌, refl, sym, ap, ◌∙◌}
use mathlib.Core.List.{List, []}
use lib.ListN.{length, get_or}
use native.Mathlib.Omega.{arith}
use Rattle.words.specs.Tests.{by_bool, clash}
use Rattle.pages.specs.Geometry.{slot_count, slot_words, page_words, head_words}
use Rattle.pages.specs.Objects.{slot_word}
use Rattle.pages.specs.Table.{rows_of}
use Rattle.page_laws.specs.Tables.{row_at, rows_at}
use Rattle.columns.specs.Columns.{columns_of, to_columns, column_at, slots_in, from_columns}
use Rattle.columns.specs.ColumnCalls.{two_pages, arrange_answer, arranged}
use Rattle.column_laws.specs.Grids.{columns_full, columns_at, slots_full, grid_at, length_laid, head_laid, word_laid, same_grid}
use Rattle.column_laws.specs.Arranging.{both_pages, lengths, filled}
use Rattle.column_laws.specs.Arrangements.{Turned, TurnedBack, OneArrangement, GivesBack, Answers, Answered, CallsGiveBack}

-- the tables
rows_turned : (p : List ℕ) (w s : ℕ) → w < slot_words → s < slot_count → get_or (get_or (columns_of (rows_of p 0)) w []) s 0 ≡ slot_word p 0 s w
rows_turned p w s hw hs = columns_at (rows_of p 0) w s hw hs ∙ ap (λ (r : List ℕ). get_or r w 0) (rows_at p 0 s hs) ∙ row_at p 0 s w hw

slots_at : (p : List ℕ) (s w : ℕ) → s < slot_count → w < slot_words → get_or (get_or (slots_in p) s []) w 0 ≡ get_or p (column_at w s) 0
unfolding slots_in
slots_at p s w hs hw = grid_at _ slot_count slot_words s w hs hw

-- a page by columns
pub turned : Turned
unfolding to_columns
turned p e = let f = columns_full (rows_of p 0) in record {
  words = length_laid head_words slot_words slot_count p (columns_of (rows_of p 0)) (omega arith) f;
  head = head_laid head_words slot_words slot_count p (columns_of (rows_of p 0)) (omega arith) f;
  row = λ w s hw hs. word_laid head_words slot_words slot_count p (columns_of (rows_of p 0)) (omega arith) f w s hw hs ∙ rows_turned p w s hw hs;
}

-- the page that has these columns
module _ (p : List ℕ) (e : length p ≡ page_words) where
  back_slot : (s w : ℕ) → s < slot_count → w < slot_words → slot_word (from_columns p) 0 s w ≡ get_or p (column_at w s) 0
  unfolding from_columns
  back_slot s w hs hw = word_laid head_words slot_count slot_words p (slots_in p) (omega arith) (slots_full p) s w hs hw ∙ slots_at p s w hs hw

  back_words : length (from_columns p) ≡ page_words
  unfolding from_columns
  back_words = length_laid head_words slot_count slot_words p (slots_in p) (omega arith) (slots_full p)

  back_head : (i : ℕ) → i < head_words → get_or (from_columns p) i 0 ≡ get_or p i 0
  unfolding from_columns
  back_head = head_laid head_words slot_count slot_words p (slots_in p) (omega arith) (slots_full p)

pub turned_back : TurnedBack
turned_back p e = record {
  words = e;
  head = λ i h. sym (back_head p e i h);
  row = λ w s hw hs. sym (back_slot p e s w hs hw);
}

pub one_arrangement : OneArrangement
one_arrangement p q e b = let c = turned p e in same_grid head_words slot_words slot_count q (to_columns p) (omega arith) b.words c.words
    (λ i h. b.head i h ∙ sym (c.head i h))
    (λ w s hw hs. b.row w s hw hs ∙ sym (c.row w s hw hs))

-- 'Either order'
pub gives_back : GivesBack
gives_back p e = let c = turned p e in record {
  restored = same_grid head_words slot_count slot_words (from_columns (to_columns p)) p (omega arith) (back_words (to_columns p) c.words) e
      (λ i h. back_head (to_columns p) c.words i h ∙ c.head i h)
      (λ s w hs hw. back_slot (to_columns p) c.words s w hs hw ∙ c.row w s hw hs);
  arranged_again = sym (one_arrangement (from_columns p) p (back_words p e) (turned_back p e));
}

-- the calls
module _ (page out : List ℕ) where
  answers : Answers page out
  unfolding arrange_answer arranged
  answers = record {
    accepts = λ a b. rw (lengths page out a b);
    asked = λ t. by_bool (two_pages page out) (both_pages page out) (λ e. clash t (rw e));
    refuses_with = λ t. by_bool (two_pages page out) (λ e. clash (rw e) t) (λ e. rw e);
    keeps = λ f t. by_bool (two_pages page out) (λ e. clash (rw e) t) (λ e. rw e);
  }

pub answered : Answered
answered = answers

-- one after the other, where the first leaves a page's length and the second gives the page back
again : (f g : List ℕ → List ℕ) (page out back : List ℕ) → length page ≡ page_words → length out ≡ page_words → length back ≡ page_words
    → length (f page) ≡ page_words → g (f page) ≡ page → arranged g (arranged f page out) back ≡ page
again f g page out back a b c l e =
    ap (λ (q : List ℕ). arranged g q back) (sym (filled page out f (lengths page out a b) (f page) refl).1)
    ∙ sym (filled (f page) back g (lengths (f page) back l c) (g (f page)) refl).1 ∙ e

pub calls_give_back : CallsGiveBack
calls_give_back page out back t c =
    let (a, b) = (answers page out).asked t in
    let g = gives_back page a in (
      again to_columns from_columns page out back a b c (turned page a).words g.restored,
      again from_columns to_columns page out back a b c (back_words page a) g.arranged_again,
    )
