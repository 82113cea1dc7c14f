-- The array of last record numbers, of the records from a given one on. Assumes nothing.
use Rattle.std.specs.Prelude.{ℕ, ◌+◌, ◌≤◌, ◌<◌, ◌≡◌, true, false, List, length, get_or, set, replicate, eqb, ltb}
use Rattle.std.proofs.Common.{sym, ap, ◌∙◌, length-set, get_or-set_same, get_or-set_other, add-one, arith, eq-eqb, ne_eqb, lt-ltb, le-ltb, ltb-true, ltb-false}
use Rattle.std.proofs.lemmas.List.{length-replicate, get_or-replicate}
use Rattle.std.proofs.Math.Decide.{ℕ_discrete}
use Rattle.words.specs.Tests.{if, by_bool, if_t, if_f}
use Rattle.pages.specs.Geometry.{max_pages}
use Rattle.records.specs.declared.Record.{Record}
use Rattle.records.specs.Records.{record_at}
use Rattle.records.specs.Naming.{names_page, page_named, last_naming}
use Rattle.record_laws.specs.NamingLaws.{names_it, last_more, last_le}

-- record number x, from 1, where it is not one of the first a; else 0
abbrev pub past_first : ℕ → ℕ → ℕ
past_first a x = if (ltb a x) x 0

module _ (a x : ℕ) where
  pub past_some : a < past_first a x → a < x
  past_some h = by_bool (ltb a x) (λ e. ltb-true a x e) (λ e. absurd (let z : a < 0 = rw e at h in omega arith))

  pub past_none : past_first a x ≤ a → x ≤ a
  past_none h = by_bool (ltb a x) (λ e. let z : x ≤ a = rw e at h in z) (λ e. ltb-false a x e)

-- by page, the last of the first c records that names it, where it is past the first a
pub record NamedPast (g : List ℕ) (a c : ℕ) (l : List ℕ) : Type 0 where
  pub size : length l ≡ max_pages
  pub each : (p : ℕ) → p < max_pages → get_or l p 0 ≡ past_first a (get_or (last_naming g c) p 0)

pub named_start : (g : List ℕ) (a : ℕ) → NamedPast g a a (replicate max_pages 0)
named_start g a = record {
  size = length-replicate {A = ℕ} max_pages 0;
  each = λ p h. get_or-replicate {A = ℕ} max_pages p 0 0 h ∙ sym (if_f _ _ _ (le-ltb a (get_or (last_naming g a) p 0) (last_le g p h a)));
}

-- one more record
module _ (g : List ℕ) (a i : ℕ) (l : List ℕ) (r : Record) (from : a ≤ i) (read : r ≡ record_at g i) (w : NamedPast g a i l) where
  more : (p : ℕ) → p < max_pages → get_or (last_naming g (i + 1)) p 0 ≡ if (names_it r p) (i + 1) (get_or (last_naming g i) p 0)
  more p h = rw read (ap (λ (j : ℕ). get_or (last_naming g j) p 0) (add-one i) ∙ last_more g i p h)

  pub named_none : names_page r ≡ false → NamedPast g a (i + 1) l
  named_none n = record { size = w.size; each = λ p h. rw (more p h, n) (w.each p h) }

  pub named_some : (q : ℕ) → names_page r ≡ true → q ≡ page_named r → NamedPast g a (i + 1) (set l q (i + 1))
  named_some q n e = record {
    size = length-set l q (i + 1) ∙ w.size;
    each = λ p h. elim (ℕ_discrete p q) [
      | yes z ↦ rw (more p h, n, eq-eqb (page_named r) p (sym (z ∙ e)), z) (get_or-set_same l q (i + 1) 0 (let s = w.size in omega arith) ∙ sym (if_t _ _ _ (lt-ltb a (i + 1) (omega arith))))
      | no z ↦ rw (more p h, n, ne_eqb (page_named r) p (λ y. z (sym (e ∙ y)))) (get_or-set_other l q p (i + 1) 0 z ∙ w.each p h)
    ];
  }
