-- Laws of the last record that names a page. Assumes nothing.
use Rattle.std.specs.Prelude.{ℕ, zero, suc, ◌+◌, ◌≤◌, ◌<◌, ◌≡◌, refl, Bool, ◌&&◌, List, length, get_or, eqb}
use Rattle.std.proofs.Common.{sym, ◌∙◌, length-set, get_or-set_same, get_or-set_other, arith, eqb-true}
use Rattle.std.proofs.lemmas.List.{length-replicate, get_or-replicate}
use Rattle.std.proofs.lemmas.Bool.{eqb-false}
use Rattle.words.specs.Tests.{if, by_bool}
use Rattle.pages.specs.Geometry.{max_pages}
use Rattle.records.specs.declared.Record.{Record}
use Rattle.records.specs.Records.{record_at}
use Rattle.records.specs.Naming.{names_page, page_named, last_naming}

-- the record names page p
abbrev pub names_it : Record → ℕ → Bool
names_it r p = names_page r && eqb (page_named r) p

length_last : (g : List ℕ) (c : ℕ) → length (last_naming g c) ≡ max_pages
unfolding last_naming
length_last g zero = length-replicate {A = ℕ} max_pages 0
length_last g (suc i) = by_bool (names_page (record_at g i))
    (λ e. rw e (length-set (last_naming g i) (page_named (record_at g i)) (i + 1) ∙ length_last g i))
    (λ e. rw e (length_last g i))

-- what the table says after one more record
pub last_more : (g : List ℕ) (i p : ℕ) → p < max_pages
    → get_or (last_naming g (suc i)) p 0 ≡ if (names_it (record_at g i) p) (i + 1) (get_or (last_naming g i) p 0)
unfolding last_naming
last_more g i p l = by_bool (names_page (record_at g i))
    (λ e. rw e (by_bool (eqb (page_named (record_at g i)) p)
    (λ z. rw (z, eqb-true (page_named (record_at g i)) p z) (get_or-set_same (last_naming g i) p (i + 1) 0 (rw (length_last g i) l)))
    (λ z. rw z (get_or-set_other (last_naming g i) (page_named (record_at g i)) p (i + 1) 0 (λ y. eqb-false (page_named (record_at g i)) p z (sym y))))))
    (λ e. rw e refl)

-- it is one of the records
pub last_le : (g : List ℕ) (p : ℕ) → p < max_pages → (c : ℕ) → get_or (last_naming g c) p 0 ≤ c
unfolding last_naming
last_le g p l zero = rw (get_or-replicate {A = ℕ} max_pages p 0 0 l) (omega arith)
last_le g p l (suc i) = let h = last_le g p l i in
    rw (last_more g i p l) (by_bool (names_it (record_at g i) p) (λ e. rw e (omega arith)) (λ e. rw e (omega arith)))
