-- While a pass runs, the safe objects are closed under committed references, so that all that is reached is safe. Assumes nothing.
use Prim.Native.Nat.{ℕ}
use mathlib.Core.Path.{◌≡◌, refl}
use mathlib.Core.Bool.{Bool, true, false}
use mathlib.Core.Logic.{inl, inr}
use Rattle.collector.specs.Bits.{clash, or_l, anyb_intro}
use Rattle.collector.specs.Objects.{Obj, points, page_of, Path, root, edge}
use Rattle.collector.specs.State.{Colour, Phase, is_idle, St}
use Rattle.collector.proofs.Safe.{Safe, seen, new, later, here, next, by_colour, grey_black, white_black}
use Rattle.collector.proofs.Invariant.{SafeIn, Marked, Inv}
use Rattle.collector.proofs.Tables.{writer_bound}

module _ {ph : Phase} {col : ℕ → Colour} {K : ℕ → Obj} {prt : ℕ → ℕ → Bool} {made : ℕ → Bool} (m : Marked ph col K prt made) where
  safe_next : {o : ℕ} (x : ℕ) → Safe col made K o → points (K o) x ≡ true → Safe col made K x
  safe_next {o} x (seen h) e = by_colour (col o) (λ c. clash (rw c refl) h) (λ c. later (next (here c) (grey_black c) e)) (λ c. m.edges o x (inl c) e)
  safe_next {o} x (new h) e = m.edges o x (inr h) e
  safe_next {o} x (later g) e = by_colour (col o) (λ c. later (next g (white_black c) e)) (λ c. later (next g (grey_black c) e)) (λ c. m.edges o x (inl c) e)

  pub path_safe : {q : ℕ → Bool} {x : ℕ} → Path K q x → Safe col made K x
  path_safe root = seen m.top
  path_safe (edge {o} {x} p h e) = safe_next x (path_safe p) e

-- and so is what a transaction knows
pub known_safe : (s : St) (i : Inv s) → is_idle s.pass.phase ≡ false → (t x : ℕ) → s.tables.kn t x ≡ true
    → SafeIn s x
known_safe s i r t x k = elim (i.known.knows t x k) [
  | inl c ↦ new (or_l _ _ (anyb_intro _ _ t (writer_bound i.exclusive t (page_of x) (i.known.made t x c.0).own) c.0))
  | inr p ↦ path_safe (i.marks r) p
]
