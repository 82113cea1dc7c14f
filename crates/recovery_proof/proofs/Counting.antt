-- Which transactions an undoing or a book counts matters only for those whose open lines name the object. Assumes nothing.
use Prim.Native.Nat.{ℕ}
use mathlib.Core.Path.{◌≡◌, refl, sym, ◌∙◌}
use mathlib.Core.Bool.{Bool, true, false, not}
use mathlib.Core.List.{List, [], ◌∷◌}
use lib.Dec.{eqb}
use borrow.Author.Tests.{eqb-true, eqb-false, eq-eqb, ne_eqb}
use Rattle.collector.specs.Bits.{◌and◌, by_bool, clash, and_intro, false_and, true_and, and_false, or_false, or_true, or_l, or_r}
use Rattle.collector.specs.Objects.{Obj}
use Rattle.recovery_proof.specs.Lines.{Line, began, kept, ended, acts, cleared, with, without, book, undo, touches}

-- two counts of transactions agree on those whose open lines name o
abbrev pub Agree : ℕ → List Line → (ℕ → Bool) → (ℕ → Bool) → Type 0
Agree o ls a b = (u : ℕ) → touches u o ls ≡ true → a u ≡ b u

pub apart : (u t : ℕ) → eqb u t ≡ false → eqb t u ≡ false
apart u t e = ne_eqb t u (λ z. eqb-false u t e (sym z))

-- a line that begins or ends t leaves the other transactions' open lines
other_of : (t u : ℕ) (b : Bool) → eqb u t ≡ false → b ≡ true → (not (eqb t u) and b) ≡ true
other_of t u b e h = and_intro _ _ (rw (apart u t e) refl) h

module _ (o t : ℕ) (ls : List Line) {a b : ℕ → Bool} (f : (u : ℕ) → (not (eqb t u) and touches u o ls) ≡ true → a u ≡ b u) where
  -- past a line that begins or ends t
  past_with : Agree o ls (with a t) (with b t)
  past_with u h = by_bool (eqb u t) (λ e. rw e (or_true (a u) ∙ sym (or_true (b u)))) (λ e. rw (f u (other_of t u _ e h)))

  past_without : Agree o ls (without a t) (without b t)
  past_without u h = by_bool (eqb u t) (λ e. rw (e, false_and (a u), false_and (b u))) (λ e. rw (f u (other_of t u _ e h)))

pub undo_agree : (o : ℕ) (ls : List Line) {a b : ℕ → Bool} (v : Obj) → Agree o ls a b → undo o a ls v ≡ undo o b ls v
unfolding undo touches
undo_agree o [] v f = refl
undo_agree o (began t ∷ ls) v f = undo_agree o ls v (past_with o t ls f)
undo_agree o (kept t ∷ ls) v f = undo_agree o ls v (past_without o t ls f)
undo_agree o (ended t ∷ ls) v f = undo_agree o ls v (past_without o t ls f)
undo_agree o (acts t x d u ∷ ls) {a} {b} v f = by_bool (eqb x o)
    (λ e. rw (f t (or_l _ _ (and_intro _ _ (eq-eqb t t refl) e))) (undo_agree o ls _ (λ k h. f k (or_r _ _ h))))
    (λ e. rw (e, and_false (a t), and_false (b t)) (undo_agree o ls _ (λ k h. f k (or_r _ _ h))))
undo_agree o (cleared q ∷ ls) v f = undo_agree o ls v f

pub book_agree : (base : ℕ → Obj) (o : ℕ) (ls : List Line) {a b : ℕ → Bool} → Agree o ls a b → book base o a ls ≡ book base o b ls
unfolding book touches
book_agree base o [] f = refl
book_agree base o (began t ∷ ls) f = book_agree base o ls (past_without o t ls f)
book_agree base o (kept t ∷ ls) f = book_agree base o ls (past_with o t ls f)
book_agree base o (ended t ∷ ls) f = book_agree base o ls (past_without o t ls f)
book_agree base o (acts t x d u ∷ ls) {a} {b} f = by_bool (eqb x o)
    (λ e. rw (f t (or_l _ _ (and_intro _ _ (eq-eqb t t refl) e)), book_agree base o ls {a = a} {b = b} (λ k h. f k (or_r _ _ h))))
    (λ e. rw (e, and_false (a t), and_false (b t)) (book_agree base o ls (λ k h. f k (or_r _ _ h))))
book_agree base o (cleared q ∷ ls) {a} {b} f = rw (book_agree base o ls {a = a} {b = b} f)

-- a transaction begins where no line of its number is open
unfoldable pub Opened : List Line → Type 0
Opened [] = Unit {0}
Opened (began t ∷ ls) = ((o : ℕ) → touches t o ls ≡ false) × Opened ls
Opened (kept t ∷ ls) = Opened ls
Opened (ended t ∷ ls) = Opened ls
Opened (acts t x d u ∷ ls) = Opened ls
Opened (cleared q ∷ ls) = Opened ls

none_without : (t u : ℕ) (r : ℕ → Bool) → (eqb u t ≡ false → r u ≡ false) → without r t u ≡ false
none_without t u r f = by_bool (eqb u t) (λ e. rw (e, false_and (r u))) (λ e. rw (e, true_and (r u)) (f e))

-- where no open line of a counted transaction names o, nothing is undone there
pub undo_none : (o : ℕ) (ls : List Line) {r : ℕ → Bool} (v : Obj) → Opened ls → ((u : ℕ) → touches u o ls ≡ true → r u ≡ false) → undo o r ls v ≡ v
unfolding undo touches Opened
undo_none o [] v w f = refl
undo_none o (began t ∷ ls) {r} v w f = undo_none o ls v w.1 (λ u h. by_bool (eqb u t)
    (λ e. clash (rw (eqb-true u t e) at h) (w.0 o))
    (λ e. rw (e, or_false (r u)) (f u (other_of t u _ e h))))
undo_none o (kept t ∷ ls) {r} v w f = undo_none o ls v w (λ u h. none_without t u r (λ e. f u (other_of t u _ e h)))
undo_none o (ended t ∷ ls) {r} v w f = undo_none o ls v w (λ u h. none_without t u r (λ e. f u (other_of t u _ e h)))
undo_none o (acts t x d u ∷ ls) {r} v w f = by_bool (eqb x o)
    (λ e. rw (f t (or_l _ _ (and_intro _ _ (eq-eqb t t refl) e)), false_and (eqb x o)) (undo_none o ls v w (λ k h. f k (or_r _ _ h))))
    (λ e. rw (e, and_false (r t)) (undo_none o ls v w (λ k h. f k (or_r _ _ h))))
undo_none o (cleared q ∷ ls) v w f = undo_none o ls v w f
