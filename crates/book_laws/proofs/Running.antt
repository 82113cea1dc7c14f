-- Which own transactions run, and which run once a transaction begins or ends. Assumes nothing.
use Prim.Native.Nat.{ℕ, ◌<◌}
use native.Mathlib.Omega.{arith}
use native.Mathlib.Decide.{dec_lt}
use mathlib.Core.Path.{◌≡◌, refl, sym, ap, ◌∙◌}
use mathlib.Core.Bool.{Bool, true, false, not}
use lib.Dec.{eqb}
use borrow.Author.Tests.{eqb-true, eqb-false, eq-eqb, ne_eqb, not-true}
use Rattle.words.specs.Tests.{any, by_bool, and_split, any_intro, any_elim}
use Rattle.book.specs.Books.{Book, runs}
use Rattle.book.specs.Feeding.{put}
use Rattle.book_laws.specs.Keeping.{Runs, BookInv}
use Rattle.records.specs.Records.{txn_count}

pub put_same : {A : Type 0} (f : ℕ → A) (t : ℕ) (v : A) → put f t v t ≡ v
put_same f t v = rw (eq-eqb t t refl)

pub put_other : {A : Type 0} (f : ℕ → A) (t : ℕ) (v : A) (u : ℕ) → (u ≡ t → ⊥) → put f t v u ≡ f u
put_other f t v u n = rw (ne_eqb u t n)

pub bool_same : (a b : Bool) → (a ≡ true → b ≡ true) → (b ≡ true → a ≡ true) → a ≡ b
bool_same true b p q = sym (p refl)
bool_same false true p q = q refl
bool_same false false p q = refl

-- a transaction of the store that runs an own transaction
pub runs_of : (b : Book) (t i : ℕ) → t < txn_count → (i ≡ 0 → ⊥) → b.running t ≡ i → runs b i ≡ true
unfolding runs
runs_of b t i l n e = rw (ne_eqb i 0 n) (any_intro (λ u. eqb (b.running u) i) 16 t l (eq-eqb (b.running t) i e))

pub runs_by : {A : Type 0} (b : Book) (i : ℕ) → runs b i ≡ true → ((t : ℕ) → t < txn_count → b.running t ≡ i → (i ≡ 0 → ⊥) → A) → A
unfolding runs
runs_by b i h k = let p = and_split (not (eqb i 0)) (any (λ u. eqb (b.running u) i) 16) h in
    any_elim (λ u. eqb (b.running u) i) 16 p.1 (λ t l e. k t l (eqb-true (b.running t) i e) (eqb-false i 0 (not-true (eqb i 0) p.0)))

-- where nobody runs
pub runs_none : (b : Book) (i : ℕ) → ((t : ℕ) → b.running t ≡ 0) → runs b i ≡ false
runs_none b i h = by_bool (runs b i) (λ e. runs_by b i e (λ t l q n. absurd (n (sym q ∙ h t)))) (λ e. e)

-- an own transaction of two books whose transactions run it or not alike
pub runs_same : (a b : Book) (i : ℕ) → ((t : ℕ) → (i ≡ 0 → ⊥) → a.running t ≡ i → b.running t ≡ i) → ((t : ℕ) → (i ≡ 0 → ⊥) → b.running t ≡ i → a.running t ≡ i)
    → runs a i ≡ runs b i
runs_same a b i p q = bool_same (runs a i) (runs b i) (λ e. runs_by a i e (λ t l k n. runs_of b t i l n (p t n k))) (λ e. runs_by b i e (λ t l k n. runs_of a t i l n (q t n k)))

module _ (b : Book) (inv : BookInv b) where
  pub txn_small : (t : ℕ) → Runs b t → t < txn_count
  txn_small t r = elim (dec_lt t txn_count) [ yes l ↦ l | no l ↦ absurd (r (inv.few t (omega arith))) ]

  pub runs_it : (t : ℕ) → Runs b t → runs b (b.running t) ≡ true
  runs_it t r = runs_of b t (b.running t) (txn_small t r) r refl

  -- once t has ended: its own transaction does not run, and any other runs as before. c: the book then
  module _ (t : ℕ) (r : Runs b t) (c : Book) (ended : c.running ≡ put b.running t 0) where
    now : (u : ℕ) → c.running u ≡ put b.running t 0 u
    now u = ap (λ (f : ℕ → ℕ). f u) ended

    pub still : (u : ℕ) → Runs c u → (u ≡ t → ⊥)
    still u k e = k (now u ∙ rw e (put_same b.running t 0))

    pub stays : (u : ℕ) → (u ≡ t → ⊥) → c.running u ≡ b.running u
    stays u n = now u ∙ put_other b.running t 0 u n

    pub ended_out : runs c (b.running t) ≡ false
    ended_out = by_bool (runs c (b.running t)) (λ e. runs_by c (b.running t) e (λ u l k n.
        let d = still u (λ z. n (sym k ∙ z)) in absurd (d (sym (inv.distinct t u r (sym k ∙ stays u d)))))) (λ e. e)

    pub ended_other : (i : ℕ) → (i ≡ b.running t → ⊥) → runs c i ≡ runs b i
    ended_other i d = runs_same c b i
        (λ u n k. sym (stays u (still u (λ z. n (sym k ∙ z)))) ∙ k)
        (λ u n k. stays u (λ z. d (sym k ∙ ap b.running z)) ∙ k)
