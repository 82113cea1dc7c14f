-- Laws of tables of bits, and the search for a page's writer. Assumes nothing.
use Prim.Native.Nat.{ℕ, ◌<◌}
use mathlib.Core.Path.{◌≡◌, refl}
use mathlib.Core.Bool.{Bool, true, false}
use mathlib.Core.Logic.{◌⊎◌, inl, inr}
use lib.Dec.{eqb}
use borrow.Author.Tests.{eqb-true, eq-eqb}
use Rattle.collector.specs.Bits.{◌and◌, anyb, by_bool, clash, and_l, and_r, and_intro, true_and, false_and, or_r, or_cases, not_true, anyb_intro, anyb_elim}
use Rattle.collector.specs.Objects.{txns}
use Rattle.collector.specs.State.{add, remove, drop}
use Rattle.collector.proofs.Invariant.{Exclusive, Unwritten}

pub is_false : (b : Bool) → (b ≡ true → ⊥) → b ≡ false
is_false b f = by_bool b (λ e. absurd (f e)) (λ e. e)

-- what a table holds with one entry more: what it held, or that entry
pub add_cases : (tab : ℕ → ℕ → Bool) (t x u y : ℕ) → add tab t x u y ≡ true → (tab u y ≡ true) ⊎ ((u ≡ t) × (y ≡ x))
add_cases tab t x u y h = elim (or_cases _ _ h) [ inl e ↦ inl e | inr e ↦ inr (eqb-true _ _ (and_l _ _ e), eqb-true _ _ (and_r _ _ e)) ]

pub add_new : (tab : ℕ → ℕ → Bool) (t x u y : ℕ) → u ≡ t → y ≡ x → add tab t x u y ≡ true
add_new tab t x u y p q = or_r _ _ (and_intro _ _ (eq-eqb u t p) (eq-eqb y x q))

pub remove_same : (tab : ℕ → ℕ → Bool) (t x : ℕ) → remove tab t x t x ≡ false
remove_same tab t x = rw (and_intro (eqb t t) (eqb x x) (eq-eqb t t refl) (eq-eqb x x refl)) (false_and _)

pub remove_other : (tab : ℕ → ℕ → Bool) (t x u y : ℕ) → (eqb u t and eqb y x) ≡ false → remove tab t x u y ≡ tab u y
remove_other tab t x u y e = rw e (true_and _)

pub drop_other : (tab : ℕ → ℕ → Bool) (t u y : ℕ) → drop tab t u y ≡ true → eqb u t ≡ false
drop_other tab t u y h = not_true _ (and_l _ _ h)

pub drop_old : (tab : ℕ → ℕ → Bool) (t u y : ℕ) → drop tab t u y ≡ true → tab u y ≡ true
drop_old tab t u y h = and_r _ _ h

pub drop_is : (tab : ℕ → ℕ → Bool) (t u y : ℕ) → eqb u t ≡ false → drop tab t u y ≡ tab u y
drop_is tab t u y n = rw (n, true_and)

module _ {pages : ℕ} {act : ℕ → Bool} {rd wr : ℕ → ℕ → Bool} (e : Exclusive pages act rd wr) where
  pub writer_bound : (t p : ℕ) → wr t p ≡ true → t < txns
  writer_bound t p w = e.active t (e.writer t p w).0

  -- a search over the transactions decides whether a page has a writer
  pub unwritten : (p : ℕ) → anyb txns (λ t. wr t p) ≡ false → Unwritten wr p
  unwritten p h t = is_false (wr t p) (λ w. clash (anyb_intro txns _ t (writer_bound t p w) w) h)

  pub by_writer : {A : Type 0} (p : ℕ) → (Unwritten wr p → A) → ((t : ℕ) → wr t p ≡ true → A) → A
  by_writer p f g = by_bool (anyb txns (λ t. wr t p)) (λ h. anyb_elim _ _ h (λ t l w. g t w)) (λ h. f (unwritten p h))
