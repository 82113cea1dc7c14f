-- Colours, grey paths and what a pass may not sweep. Assumes nothing.
use Prim.Native.Nat.{ℕ}
use native.Mathlib.Omega.{arith}
use mathlib.Core.Path.{◌≡◌, refl, sym, ◌∙◌}
use mathlib.Core.Bool.{Bool, true, false}
use mathlib.Core.Logic.{◌⊎◌, inl, inr}
use Rattle.collector.specs.Bits.{clash}
use Rattle.collector.specs.Objects.{Obj, points}
use Rattle.collector.specs.State.{Colour, white, grey, black, is_white, is_black, greyed, Phase, idle, marking, sweeping, is_sweeping}

-- reached from a grey object through objects that are not black
pub data Grey (col : ℕ → Colour) (m : ℕ → Obj) : ℕ → Type 0 where
  here : {x : ℕ} → col x ≡ grey → Grey col m x
  next : {o x : ℕ} → Grey col m o → (col o ≡ black → ⊥) → points (m o) x ≡ true → Grey col m x

-- not to be swept: marked, created during the pass, or still to be marked
pub data Safe (col : ℕ → Colour) (made : ℕ → Bool) (m : ℕ → Obj) (x : ℕ) : Type 0 where
  seen : is_white (col x) ≡ false → Safe col made m x
  new : made x ≡ true → Safe col made m x
  later : Grey col m x → Safe col made m x

pub no_grey_law : {A : Type 0} {col : ℕ → Colour} {m : ℕ → Obj} {x : ℕ} → ((o : ℕ) → col o ≡ grey → ⊥) → Grey col m x → A
no_grey_law f (here {x} e) = absurd (f x e)
no_grey_law f (next g b e) = no_grey_law f g

-- Safe grows with the COT.
pub safe_made : {col : ℕ → Colour} {a b : ℕ → Bool} {m : ℕ → Obj} {x : ℕ} → ((y : ℕ) → a y ≡ true → b y ≡ true) → Safe col a m x → Safe col b m x
safe_made {x = x} f (seen e) = seen e
safe_made {x = x} f (new e) = new (f x e)
safe_made {x = x} f (later g) = later g

pub by_colour : {A : Type 0} (c : Colour) → (c ≡ white → A) → (c ≡ grey → A) → (c ≡ black → A) → A
by_colour white f g h = f refl
by_colour grey f g h = g refl
by_colour black f g h = h refl

pub by_phase : {A : Type 0} (p : Phase) → (p ≡ idle → A) → (p ≡ marking → A) → (p ≡ sweeping → A) → A
by_phase idle e f g = e refl
by_phase marking e f g = f refl
by_phase sweeping e f g = g refl

pub grey_black : {A : Type 0} {c : Colour} → c ≡ grey → c ≡ black → A
grey_black {A} {c} p q = let y : ◌≡◌ {A = ℕ} 0 1 = cc in absurd (omega arith)

pub white_black : {A : Type 0} {c : Colour} → c ≡ white → c ≡ black → A
white_black {A} {c} p q = let y : ◌≡◌ {A = ℕ} 0 1 = cc in absurd (omega arith)

pub mark_sweep : {A : Type 0} {p : Phase} → p ≡ marking → p ≡ sweeping → A
mark_sweep {A} {p} a b = let y : ◌≡◌ {A = ℕ} 0 1 = cc in absurd (omega arith)

pub idle_mark : {A : Type 0} {p : Phase} → p ≡ idle → p ≡ marking → A
idle_mark {A} {p} a b = let y : ◌≡◌ {A = ℕ} 0 1 = cc in absurd (omega arith)

pub idle_sweep : {A : Type 0} {p : Phase} → p ≡ idle → p ≡ sweeping → A
idle_sweep {A} {p} a b = let y : ◌≡◌ {A = ℕ} 0 1 = cc in absurd (omega arith)

-- what is marked and not black is grey
pub is_grey : (c : Colour) → is_white c ≡ false → (c ≡ black → ⊥) → c ≡ grey
is_grey white h n = clash refl h
is_grey grey h n = refl
is_grey black h n = absurd (n refl)

pub is_black_law : (c : Colour) → is_black c ≡ true → c ≡ black
is_black_law white h = clash h refl
is_black_law grey h = clash h refl
is_black_law black h = refl

pub is_sweeping_law : (p : Phase) → is_sweeping p ≡ true → p ≡ sweeping
is_sweeping_law idle e = clash e refl
is_sweeping_law marking e = clash e refl
is_sweeping_law sweeping e = refl

pub greyed_moves : (b : Bool) (c : Colour) → (greyed b c ≡ c) ⊎ ((c ≡ white) × (greyed b c ≡ grey))
unfolding greyed
greyed_moves true white = inr (refl, refl)
greyed_moves true grey = inl refl
greyed_moves true black = inl refl
greyed_moves false c = inl refl

pub greyed_seen : (b : Bool) (c : Colour) → b ≡ true → is_white (greyed b c) ≡ false
unfolding greyed
greyed_seen true white h = refl
greyed_seen true grey h = refl
greyed_seen true black h = refl
greyed_seen false c h = clash h refl

pub greyed_not : (b : Bool) (c : Colour) → b ≡ false → greyed b c ≡ c
unfolding greyed
greyed_not b c h = rw h refl

pub greyed_from : (b : Bool) (c : Colour) → is_white (greyed b c) ≡ false → (b ≡ true) ⊎ (is_white c ≡ false)
unfolding greyed
greyed_from true c h = inl refl
greyed_from false c h = inr h

pub greyed_still : (b : Bool) (c : Colour) → is_white c ≡ false → is_white (greyed b c) ≡ false
greyed_still b c h = elim (greyed_moves b c) [ inl e ↦ rw e h | inr e ↦ rw e.1 refl ]

pub greyed_black : (b : Bool) (c : Colour) → is_black (greyed b c) ≡ is_black c
greyed_black b c = elim (greyed_moves b c) [ inl e ↦ rw e refl | inr e ↦ rw (e.1, e.0) refl ]

-- greying some white objects
module _ {col col' : ℕ → Colour} (moves : (x : ℕ) → (col' x ≡ col x) ⊎ ((col x ≡ white) × (col' x ≡ grey))) where
  pub still_seen : (x : ℕ) → is_white (col x) ≡ false → is_white (col' x) ≡ false
  still_seen x h = elim (moves x) [ inl e ↦ rw e h | inr e ↦ rw e.1 refl ]

  pub black_before : (x : ℕ) → col' x ≡ black → col x ≡ black
  black_before x h = elim (moves x) [ inl e ↦ sym e ∙ h | inr e ↦ grey_black e.1 h ]

  pub same_black : (x : ℕ) → is_black (col' x) ≡ is_black (col x)
  same_black x = elim (moves x) [ inl e ↦ rw e refl | inr e ↦ rw (e.0, e.1) refl ]

  pub grey_after : {m : ℕ → Obj} {x : ℕ} → Grey col m x → Grey col' m x
  grey_after (here {x} e) = here {x = x} (elim (moves x) [ inl d ↦ d ∙ e | inr d ↦ d.1 ])
  grey_after (next {o} {x} g b e) = next (grey_after g) (λ h. b (black_before o h)) e

  pub safe_after : {made : ℕ → Bool} {m : ℕ → Obj} {x : ℕ} → Safe col made m x → Safe col' made m x
  safe_after {x} (seen e) = seen (still_seen x e)
  safe_after {x} (new e) = new e
  safe_after {x} (later g) = later (grey_after g)
