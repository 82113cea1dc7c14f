-- 'the last record that names it must be stable first': a page whose naming records are stable has no cell that only an unstable record
-- writes. Assumes nothing.
use Prim.Native.Nat.{ℕ, zero, suc, ◌+◌, ◌≤◌, ◌<◌}
use native.Mathlib.Omega.{arith}
use native.Mathlib.Decide.{ℕ_discrete}
use mathlib.Core.Path.{◌≡◌, refl}
use mathlib.Core.Bool.{false}
use mathlib.Core.List.{List}
use lib.ListN.{get_or}
use lib.Dec.{eqb}
use borrow.Author.Tests.{eqb-true, eq-eqb}
use Rattle.words.specs.Tests.{by_bool, clash}
use Rattle.pages.specs.Geometry.{page_of, max_pages}
use Rattle.records.specs.declared.Record.{Record}
use Rattle.records.specs.Records.{record_at}
use Rattle.records.specs.Naming.{last_naming}
use Rattle.record_laws.specs.NamingLaws.{names_it, last_more}
use Rattle.book.specs.Pointers.{makes_or_frees, writes}
use Rattle.recovery_proof.specs.Shapes.{recs, some_of, writes_occ, writes_word}
use Rattle.recovery_proof.proofs.Shapes.{begins, creates, sets, commits, aborts, uncreates, rest, kind_of}

-- a record that does not name the page of x writes nothing of x
unwritten : (r : Record) (x : ℕ) → names_it r (page_of x) ≡ false → (makes_or_frees r x ≡ false) × ((f : ℕ) → writes r x f ≡ false)
unwritten r x h = elim (kind_of r) [
  | begins k ↦ (rw k refl, λ f. rw k refl)
  | creates k ↦ (let e = apart (rw k at h) in (rw (k, e) refl, λ f. rw (k, e) refl))
  | sets k ↦ (let e = apart (rw k at h) in (rw k refl, λ f. rw (k, e) refl))
  | commits k ↦ (rw k refl, λ f. rw k refl)
  | aborts k ↦ (rw k refl, λ f. rw k refl)
  | uncreates k ↦ (let e = apart (rw k at h) in (rw (k, e) refl, λ f. rw (k, e) refl))
  | rest a b c d f g ↦ by_bool (eqb r.kind 7)
      (λ s. let e : eqb r.object (page_of x) ≡ false = rw (s, b, c, g) at h in (rw (b, g, s, e) refl, λ i. rw (c, b, g, s, e) refl))
      (λ s. (rw (b, g, s) refl, λ i. rw (c, b, g, s) refl))
]
  where
    apart : eqb (page_of r.object) (page_of x) ≡ false → eqb r.object x ≡ false
    apart e = by_bool (eqb r.object x) (λ z. clash (eq-eqb (page_of r.object) (page_of x) (rw (eqb-true r.object x z) refl)) e) (λ z. z)

module _ (g : List ℕ) (k p : ℕ) (l : p < max_pages) where
  -- the records from k on do not name the page
  step_back : (i : ℕ) → k ≤ i → get_or (last_naming g (suc i)) p 0 ≤ k → (names_it (record_at g i) p ≡ false) × (get_or (last_naming g i) p 0 ≤ k)
  step_back i m h = by_bool (names_it (record_at g i) p)
      (λ e. let z : i + 1 ≤ k = rw (last_more g i p l, e) at h in absurd (omega arith))
      (λ e. (e, rw (last_more g i p l, e) at h))

  pub stable_cells : (c : ℕ) → k ≤ c → get_or (last_naming g c) p 0 ≤ k → (x : ℕ) → page_of x ≡ p
      → (writes_occ (recs g c) x ≡ writes_occ (recs g k) x) × ((f : ℕ) → writes_word (recs g c) x f ≡ writes_word (recs g k) x f)
  unfolding recs some_of
  stable_cells zero m h x e = let z : k ≡ 0 = omega arith in (rw z refl, λ f. rw z refl)
  stable_cells (suc i) m h x e = elim (ℕ_discrete k (suc i)) [
    | yes z ↦ (rw z refl, λ f. rw z refl)
    | no z ↦ (let b = step_back i (omega arith) h in
        let u = unwritten (record_at g i) x (rw e b.0) in
        let r = stable_cells i (omega arith) b.1 x e in (rw u.0 r.0, λ f. rw (u.1 f) (r.1 f)))
  ]
