-- What undoing a change leaves: its undoing record in the log, and the tables that it touches. n is the number of pages. Assumes nothing.
use Rattle.std.specs.Prelude.{ℕ, ◌+◌, ◌<◌, ◌≤◌, ◌≡◌, true, false, List, [], get_or, set}
use Rattle.std.proofs.Common.{◌∙◌, get_or-set_other, arith}
use Rattle.words.specs.Tests.{by_bool}
use Rattle.pages.specs.Geometry.{object_count, page_of}
use Rattle.records.specs.declared.Record.{Record}
use Rattle.records.specs.Records.{recorded, is_create}
use Rattle.records.specs.Effects.{effect, undoing}
use Rattle.areas.specs.Areas.{Areas, areas, with_work, appended}
use Rattle.areas.specs.Layout.{unflushed_at, known_at, undoing_at}
use Rattle.areas.specs.Tables.{at, gain, lose}
use Rattle.calls.specs.Marks.{taken_back}

-- the areas once record r is undone
abbrev pub back_by : Record → ℕ → ℕ → Areas → Areas
back_by r n t s = with_work (appended s (undoing r)) (taken_back s.work n t (get_or s.counts 0 0) r)

-- the tables once a change is undone keep the words of the records before it
module _ (w : List ℕ) (n t c : ℕ) (r : Record) where
  -- the tables where it is no create
  abbrev noted_back : List ℕ
  noted_back = set (gain w (unflushed_at n (page_of r.object)) t) (undoing_at n c) 1

  module _ (ob : (1 ≤ r.object) × (r.object ≤ object_count n)) (j : ℕ) (h : j < c) where
    noted_before : at noted_back (undoing_at n j) ≡ at w (undoing_at n j)
    noted_before =
        get_or-set_other (gain w (unflushed_at n (page_of r.object)) t) (undoing_at n c) (undoing_at n j) 1 0 (λ z. omega arith)
        ∙ get_or-set_other w (unflushed_at n (page_of r.object)) (undoing_at n j) _ 0 (λ z. omega arith)

    pub taken_before : at (taken_back w n t c r) (undoing_at n j) ≡ at w (undoing_at n j)
    unfolding taken_back
    taken_before = by_bool (is_create r)
        (λ e. rw e (get_or-set_other noted_back (known_at n r.object) (undoing_at n j) _ 0 (λ z. omega arith) ∙ noted_before))
        (λ e. rw e noted_before)

-- the tables as the code changes them: the words at b, d and f are those of the page, of the record and of the object
module _ (w : List ℕ) (n t c : ℕ) (r : Record) {b d : ℕ} (eb : b ≡ unflushed_at n (page_of r.object)) (ed : d ≡ undoing_at n c) {v : List ℕ} (ev : v ≡ gain w b t) where
  pub noted_create : {f : ℕ} {x : List ℕ} → f ≡ known_at n r.object → x ≡ lose (set v d 1) f t → is_create r ≡ true → x ≡ taken_back w n t c r
  unfolding taken_back
  noted_create ef ex y = ex ∙ rw (y, ev, eb, ed, ef)

  pub noted_set : is_create r ≡ false → set v d 1 ≡ taken_back w n t c r
  unfolding taken_back
  noted_set y = rw (y, ev, eb, ed)

-- u: the record that undoes r
pub change_undone : (r u : Record) (n t : ℕ) (a g k w : List ℕ) (x : ℕ) (a' g' k' w' : List ℕ) → u ≡ undoing r → w' ≡ taken_back w n t (get_or k 0 0) r →
    (x ≡ get_or k 0 0 + 1) × (a' ≡ effect a u) × (g' ≡ recorded g (get_or k 0 0) u) × (k' ≡ set k 0 (get_or k 0 0 + 1)) →
    areas [] [] a' g' k' w' ≡ back_by r n t (areas [] [] a g k w)
unfolding appended
change_undone r u n t a g k w x a' g' k' w' e h z = rw (h, z.1, z.2, z.3, e)
