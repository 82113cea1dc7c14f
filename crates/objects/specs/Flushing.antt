-- A flush as its code does it: the page's map, and its rows by value. Assumes nothing.
use Rattle.std.specs.Prelude.{ℕ, ◌≡◌, List, length, set, eqb}
use Rattle.std.proofs.Common.{sym, ◌∙◌, length-set, arith, eqb-true, lt-ltb}
use Rattle.words.specs.Tests.{by_bool}
use Rattle.pages.specs.Geometry.{slot_count, page_at}
use Rattle.pages.specs.Objects.{map_at, copied_page}
use Rattle.pages.specs.Table.{rows_of, with_rows}
use Rattle.page_laws.specs.Places.{Holds, area_ext, map_put_map, word_put_map, length_copy, map_copy, word_copy, length_rows, map_rows, word_rows}
use Rattle.page_laws.specs.Tables.{rows_full, rows_at, row_at}

-- the map of a page and its table of rows, written into another area, are the page
pub page_by_rows : (from to : List ℕ) (p : ℕ) → Holds from p → Holds to p
    → with_rows (set to (page_at p) (map_at from p)) p (rows_of from p) slot_count ≡ copied_page from to p
page_by_rows from to p hf ht =
    let b : List ℕ = set to (page_at p) (map_at from p) in
    let l : length b ≡ length to = length-set to (page_at p) (map_at from p) in
    let hb : Holds b p = omega arith in
    let full = rows_full from p in
    area_ext (with_rows b p (rows_of from p) slot_count) (copied_page from to p)
    (length_rows b p (rows_of from p) hb full slot_count (omega arith) ∙ l ∙ sym (length_copy from to p hf ht))
    (λ q. map_rows b p (rows_of from p) hb full slot_count q (omega arith) ∙ map_put_map to p (map_at from p) q ht
    ∙ rw (map_copy from to p hf ht q) (by_bool (eqb q p) (λ z. rw (z, eqb-true q p z)) (λ z. rw z)))
    (λ q s f hs hw. word_rows b p (rows_of from p) hb full slot_count q s f (omega arith) hs hw
    ∙ rw (word_copy from to p hf ht q s f hs hw, lt-ltb s slot_count hs, rows_at from p s hs, word_put_map to p (map_at from p) q s f hs hw) (by_bool (eqb q p)
    (λ z. rw (z, eqb-true q p z) (row_at from p s f hw))
    (λ z. rw z)))
