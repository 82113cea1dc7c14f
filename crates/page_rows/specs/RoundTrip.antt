-- A page by value and back: its rows written where they were read change nothing, a table written is the one read,
-- and the slots of a map are freed by way of the table. Assumes nothing.
use Rattle.std.specs.Prelude.{ℕ, ◌<◌, ◌≡◌, refl, List, [], length, get_or, set, eqb}
use Rattle.std.proofs.Common.{sym, ◌∙◌, length-set, ext_get_or, arith, eqb-true, eq-eqb, lt-ltb}
use Rattle.std.proofs.lemmas.List.{get_or-replicate}
use Rattle.words.specs.Tests.{if, by_bool}
use Rattle.words.specs.Bits.{bit}
use Rattle.pages.specs.Geometry.{slot_count, slot_words, page_at}
use Rattle.pages.specs.Objects.{map_at, slot_word, released}
use Rattle.pages.specs.Table.{row_of, rows_of, with_rows}
use Rattle.page_laws.specs.BitLaws.{clear_bits}
use Rattle.page_laws.specs.Tables.{length_tab, tab_at, row_at, rows_at, rows_full}
use Rattle.page_rows.specs.TableLaws.{freed_row, freed_rows}
use Rattle.page_laws.specs.Places.{Holds, area_ext, map_put_map, word_put_map, length_released_in, map_released_in, word_released_in, length_rows, map_rows, word_rows}

-- the round trips

pub rows_back : (a : List ℕ) (p : ℕ) → Holds a p → with_rows a p (rows_of a p) slot_count ≡ a
rows_back a p hp = let full = rows_full a p in area_ext (with_rows a p (rows_of a p) slot_count) a (length_rows a p (rows_of a p) hp full slot_count (omega arith))
    (λ q. map_rows a p (rows_of a p) hp full slot_count q (omega arith))
    (λ q s f hs hf. word_rows a p (rows_of a p) hp full slot_count q s f (omega arith) hs hf ∙ by_bool (eqb q p)
    (λ e. rw (e, lt-ltb s slot_count hs, rows_at a p s hs, eqb-true q p e) (row_at a p s f hf))
    (λ e. rw e))

pub rows_read : (a : List ℕ) (p : ℕ) (t : List (List ℕ)) → Holds a p → length t ≡ slot_count → ((s : ℕ) → s < slot_count → length (get_or t s []) ≡ slot_words)
    → rows_of (with_rows a p t slot_count) p ≡ t
unfolding rows_of
rows_read a p t hp ht full = ext_get_or [] (rows_of (with_rows a p t slot_count) p) t (length_tab (row_of (with_rows a p t slot_count) p) slot_count ∙ sym ht)
    (λ s h. let hs : s < slot_count = (let l = length_tab (row_of (with_rows a p t slot_count) p) slot_count in omega arith) in
    rows_at (with_rows a p t slot_count) p s hs ∙ ext_get_or 0 (row_of (with_rows a p t slot_count) p s) (get_or t s []) (sym (full s hs))
    (λ f hf. row_at (with_rows a p t slot_count) p s f hf ∙ word_rows a p t hp full slot_count p s f (omega arith) hs hf
    ∙ rw (eq-eqb p p refl, lt-ltb s slot_count hs)))

-- slots freed by way of the table

freed_at : (t : List (List ℕ)) (m s : ℕ) → s < slot_count → get_or (freed_rows t m) s [] ≡ freed_row t m s
unfolding freed_rows
freed_at t m s h = tab_at (freed_row t m) slot_count s [] h

freed_full : (a : List ℕ) (p m s : ℕ) → s < slot_count → length (get_or (freed_rows (rows_of a p) m) s []) ≡ slot_words
freed_full a p m s h = rw (freed_at (rows_of a p) m s h) (by_bool (bit m s) (λ e. rw e) (λ e. rw e (rows_full a p s h)))

freed_word : (a : List ℕ) (p m s f : ℕ) → s < slot_count → f < slot_words → get_or (get_or (freed_rows (rows_of a p) m) s []) f 0 ≡ if (bit m s) 0 (slot_word a p s f)
freed_word a p m s f hs hf = rw (freed_at (rows_of a p) m s hs) (by_bool (bit m s)
    (λ e. rw e (get_or-replicate slot_words f 0 0 hf))
    (λ e. rw (e, rows_at a p s hs) (row_at a p s f hf)))

pub released_table : (a : List ℕ) (p m w : ℕ) → Holds a p → w ≡ clear_bits (map_at a p) m slot_count
    → with_rows (set a (page_at p) w) p (freed_rows (rows_of a p) m) slot_count ≡ released a p m
released_table a p m w hp e =
    let b : List ℕ = set a (page_at p) w in
    let t : List (List ℕ) = freed_rows (rows_of a p) m in
    let l : length b ≡ length a = length-set a (page_at p) w in
    let hb : Holds b p = omega arith in
    let full = freed_full a p m in
    area_ext (with_rows b p t slot_count) (released a p m) (length_rows b p t hb full slot_count (omega arith) ∙ l ∙ sym (length_released_in a p m slot_count))
    (λ q. map_rows b p t hb full slot_count q (omega arith) ∙ map_put_map a p w q hp ∙ rw e (sym (map_released_in a p m hp slot_count q (omega arith))))
    (λ q s f hs hf. word_rows b p t hb full slot_count q s f (omega arith) hs hf
    ∙ rw (word_released_in a p m hp slot_count q s f (omega arith) hs hf, lt-ltb s slot_count hs, freed_word a p m s f hs hf, word_put_map a p w q s f hs hf) (by_bool (eqb q p)
    (λ z. rw (z, eqb-true q p z))
    (λ z. rw z)))
