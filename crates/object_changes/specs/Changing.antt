-- The working tables that a create and a set leave, as their code makes them. Assumes nothing.
use Rattle.std.specs.Prelude.{ℕ, ◌≤◌, ◌≡◌, Bool, true, false, not, ◌&&◌, eqb}
use Rattle.std.proofs.Math.Path.{sym, ap}
use Rattle.std.proofs.Common.{◌∙◌, arith}
use mathlib.Core.List.{List}
use Rattle.std.proofs.lemmas.Bool.{eqb-false, not-true}
use Rattle.words.specs.Tests.{if, if_t, if_f, and_split}
use Rattle.pages.specs.Geometry.{page_of, is_ref}
use Rattle.pages.specs.Objects.{word_of}
use Rattle.areas.specs.Layout.{unflushed_at, known_at, pruned_at, created_at}
use Rattle.areas.specs.Tables.{gain, is_marking, greyed}
use Rattle.calls.specs.Objects.{pruned}

-- 't knows it and the COT gains it for t', and its page has a record not flushed
abbrev pub entered_new : List ℕ → ℕ → ℕ → ℕ → List ℕ
entered_new w n t o = gain (gain (gain w (unflushed_at n (page_of o)) t) (known_at n o) t) (created_at n o) t

-- 'If an old reference other than 0 changes, the PRT gains the old target for t.' ref: the word is a reference
abbrev changes : Bool → ℕ → ℕ → Bool
changes ref old v = ref && not (eqb old 0) && not (eqb old v)

unfoldable pub entered_write : List ℕ → List ℕ → ℕ → ℕ → ℕ → ℕ → ℕ → ℕ → List ℕ
entered_write a w n t o f old v =
    let b = gain w (unflushed_at n (page_of o)) t in
    if (is_ref a o f && not (eqb old 0) && not (eqb old v)) (pruned b n t old) b

abbrev pub entered_set : List ℕ → List ℕ → ℕ → ℕ → ℕ → ℕ → ℕ → List ℕ
entered_set a w n t o f v = entered_write a w n t o f (word_of a o f) v

-- the PRT gains x at its place i, which turns grey while marking
module _ (w : List ℕ) (n t x : ℕ) {i : ℕ} (place : i ≡ pruned_at n x) (v : List ℕ) (ev : v ≡ gain w i t) where
  pub pruned_marking : (u : List ℕ) → is_marking w ≡ true → u ≡ greyed v n x → u ≡ pruned w n t x
  unfolding pruned
  pruned_marking u m eu = eu ∙ ap (λ (l : List ℕ). greyed l n x) (rw place at ev) ∙ sym (if_t _ _ _ m)

  pub pruned_idle : is_marking w ≡ false → v ≡ pruned w n t x
  unfolding pruned
  pruned_idle m = (rw place at ev) ∙ sym (if_f _ _ _ m)

-- a write, b being the tables with the page's record, at its place i
module _ (a w : List ℕ) (n t o f old v : ℕ) {i : ℕ} (place : i ≡ unflushed_at n (page_of o)) (b : List ℕ) (eb : b ≡ gain w i t) {ref : Bool} (er : ref ≡ is_ref a o f) where
  pub write_prunes : (u : List ℕ) → changes ref old v ≡ true → u ≡ pruned b n t old → u ≡ entered_write a w n t o f old v
  unfolding entered_write
  write_prunes u h eu = eu ∙ ap (λ (l : List ℕ). pruned l n t old) (rw place at eb) ∙ sym (if_t _ _ _ (rw er at h))

  pub write_keeps : changes ref old v ≡ false → b ≡ entered_write a w n t o f old v
  unfolding entered_write
  write_keeps h = (rw place at eb) ∙ sym (if_f _ _ _ (rw er at h))

-- a reference that changes is an object
pub pruned_facts : {ref : Bool} (old v : ℕ) → changes ref old v ≡ true → (ref ≡ true) × (1 ≤ old)
pruned_facts {ref} old v h =
    let p = and_split (ref && not (eqb old 0)) (not (eqb old v)) h in
    let q = and_split ref (not (eqb old 0)) p.0 in
    let z = eqb-false old 0 (not-true _ q.1) in
    (q.0, omega arith)
