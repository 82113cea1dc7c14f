-- The records that running transactions hold in reserve, by the book, and what each of its lines does to them. Assumes nothing.
use Prim.Native.Nat.{ℕ, zero, suc, ◌+◌, ◌≤◌, ◌<◌}
use native.Mathlib.Omega.{arith}
use native.Mathlib.Decide.{ℕ_discrete}
use mathlib.Core.Path.{◌≡◌, refl, sym, ap, ◌∙◌}
use mathlib.Core.Bool.{Bool, true, false, ◌&&◌}
use mathlib.Core.List.{List, ◌∷◌}
use lib.ListN.{length}
use lib.Dec.{eqb}
use borrow.Author.Tests.{eq-eqb, ne_eqb}
use Rattle.words.specs.Tests.{if, sum, by_bool, and_false}
use Rattle.records.specs.declared.Record.{Record}
use Rattle.records.specs.Records.{txn_count, begin_of}
use Rattle.records.specs.Effects.{undoing}
use Rattle.book.specs.Lines.{Line, line, is_left, left, struck_newest}
use Rattle.book.specs.Books.{Book}
use Rattle.book.specs.Feeding.{put, begins, undoes}
use Rattle.book_laws.specs.Striking.{undoing_line}
use Rattle.book_laws.specs.Keeping.{Each, Runs, BookInv}
use Rattle.book_laws.proofs.Undoing.{struck_not_left, strikes_newest, left_length, newest}
use Rattle.book_laws.proofs.Committed.{filtered_none, filtered_strikes}
use Rattle.book_laws.proofs.Ends.{left_facts}
use Rattle.book_laws.proofs.Finishing.{undo_lines, undo_left}

-- what transaction t holds in reserve: 1 record plus 1 for each of its creates and sets left; and all of them
abbrev pub share : Book → ℕ → ℕ
share b t = if (eqb (b.running t) 0) 0 (1 + left (b.running t) b.lines)

abbrev pub held : Book → ℕ
held b = sum (share b) txn_count

-- sums that differ at one place
sum_but : (f h : ℕ → ℕ) (t a b : ℕ) → ((i : ℕ) → (i ≡ t → ⊥) → h i ≡ f i) → h t + a ≤ f t + b → (n : ℕ) → (t < n → sum h n + a ≤ sum f n + b) × (n ≤ t → sum h n ≡ sum f n)
unfolding sum
sum_but f h t a b same at_t zero = (λ l. absurd (omega arith), λ l. refl)
sum_but f h t a b same at_t (suc n) = let ih = sum_but f h t a b same at_t n in elim (ℕ_discrete n t) [
  | yes e ↦ (λ l. let s = ih.1 (omega arith) in rw (e, ← e) (let k : h n + a ≤ f n + b = rw e at_t in omega arith), λ l. absurd (omega arith))
  | no e ↦ (λ l. let s = ih.0 (omega arith) in let k = same n e in omega arith, λ l. let s = ih.1 (omega arith) in let k = same n e in omega arith)
]

-- one share is part of the whole
sum_part : (f : ℕ → ℕ) (n t : ℕ) → t < n → f t ≤ sum f n
unfolding sum
sum_part f zero t l = absurd (omega arith)
sum_part f (suc n) t l = elim (ℕ_discrete t n) [ yes e ↦ rw e (omega arith) | no e ↦ (let h = sum_part f n t (omega arith) in omega arith) ]

pub share_held : (b : Book) (t : ℕ) → t < txn_count → share b t ≤ held b
share_held b t l = sum_part (share b) txn_count t l

pub share_runs : (b : Book) (t : ℕ) → Runs b t → share b t ≡ 1 + left (b.running t) b.lines
share_runs b t r = rw (ne_eqb (b.running t) 0 r)

-- the same for all but t
pub held_but : (b b' : Book) (t a c : ℕ) → t < txn_count → ((u : ℕ) → (u ≡ t → ⊥) → share b' u ≡ share b u) → share b' t + a ≤ share b t + c → held b' + a ≤ held b + c
held_but b b' t a c l o h = (sum_but (share b) (share b') t a c o h txn_count).0 l

-- the same lines and transactions
pub held_same : (b b' : Book) → b'.lines ≡ b.lines → b'.running ≡ b.running → held b' ≡ held b
held_same b b' e d = rw (e, d) refl

-- nobody runs
held_to : (b : Book) → ((t : ℕ) → b.running t ≡ 0) → (k : ℕ) → sum (share b) k ≡ 0
unfolding sum
held_to b h zero = refl
held_to b h (suc k) = let e = held_to b h k in rw (h k) (omega arith)

pub held_none : (b : Book) → ((t : ℕ) → b.running t ≡ 0) → held b ≡ 0
held_none b h = held_to b h txn_count

-- a line that is not left
left_past : (i : ℕ) (l : Line) (ls : List Line) → is_left i l ≡ false → left i (l ∷ ls) ≡ left i ls
unfolding left
left_past i l ls e = rw e (omega arith)

left_most : (i : ℕ) (l : Line) (ls : List Line) → left i (l ∷ ls) ≤ left i ls + 1
unfolding left
left_most i l ls = by_bool (is_left i l) (λ e. rw e (omega arith)) (λ e. rw e (omega arith))

no_left : (i : ℕ) (ls : List Line) → Each (λ l. is_left i l ≡ false) ls → left i ls ≡ 0
no_left i ls h = sym (left_length i ls) ∙ ap length (filtered_none (is_left i) ls h)

module _ (b : Book) (inv : BookInv b) where
  -- of a line that is no change of u
  share_past : (u : ℕ) (b' : Book) (l : Line) → b'.lines ≡ l ∷ b.lines → b'.running u ≡ b.running u → is_left (b.running u) l ≡ false → share b' u ≡ share b u
  share_past u b' l e d h = rw (e, d, left_past (b.running u) l b.lines h)

  -- a sweep's
  pub held_sweep : (b' : Book) (l : Line) → b'.lines ≡ l ∷ b.lines → b'.running ≡ b.running → ((i : ℕ) → is_left i l ≡ false) → held b' ≤ held b
  held_sweep b' l e d h = let z = held_but b b' 0 0 0 (omega arith) (λ u n. same u) (let k = same 0 in omega arith) in omega arith
    where
      same : (u : ℕ) → share b' u ≡ share b u
      same u = share_past u b' l e (ap (λ (f : ℕ → ℕ). f u) d) (h (b.running u))

  pub held_begin : (t : ℕ) → t < txn_count → held (begins b t) ≤ held b + 1
  held_begin t small = let z = held_but b (begins b t) t 0 1 small others own in omega arith
    where
      none : left (b.begun + 1) b.lines ≡ 0
      none = no_left (b.begun + 1) b.lines (λ l j. rw (ne_eqb l.owner (b.begun + 1) (λ z. let k = (inv.lines l j).owned in omega arith)))

      first : is_left (b.begun + 1) (line (begin_of t) (b.begun + 1)) ≡ false
      first = and_false (eqb (b.begun + 1) (b.begun + 1) && true)

      others : (u : ℕ) → (u ≡ t → ⊥) → share (begins b t) u ≡ share b u
      others u n = share_past u (begins b t) (line (begin_of t) (b.begun + 1)) refl (rw (ne_eqb u t n)) (and_false (eqb (b.begun + 1) (b.running u) && true))

      own : share (begins b t) t + 0 ≤ share b t + 1
      own = rw (eq-eqb t t refl, left_past (b.begun + 1) (line (begin_of t) (b.begun + 1)) b.lines first, none) (most (eqb (b.begun + 1) 0))
        where
          most : (c : Bool) → if c 0 (1 + 0) + 0 ≤ share b t + 1
          most true = omega arith
          most false = omega arith

  module _ (t : ℕ) (run : Runs b t) (small : t < txn_count) where
    foreign : (u : ℕ) → (u ≡ t → ⊥) → (l : Line) → l.owner ≡ b.running t → is_left (b.running u) l ≡ false
    foreign u n l e = by_bool (is_left (b.running u) l)
        (λ d. absurd (n (sym (inv.distinct t u run (sym e ∙ (left_facts (b.running u) l d).owner)))))
        (λ d. d)

    -- a record of t's
    pub held_adds : (b' : Book) (r : Record) → b'.lines ≡ line r (b.running t) ∷ b.lines → b'.running ≡ b.running → held b' ≤ held b + 1
    held_adds b' r e d = let z = held_but b b' t 0 1 small (λ u n. share_past u b' (line r (b.running t)) e (ap (λ (f : ℕ → ℕ). f u) d) (foreign u n (line r (b.running t)) refl)) own in omega arith
      where
        own : share b' t + 0 ≤ share b t + 1
        own = rw (e, d, ne_eqb (b.running t) 0 run) (let k = left_most (b.running t) (line r (b.running t)) b.lines in omega arith)

    -- t ends
    pub held_end : (b' : Book) (r : Record) → b'.lines ≡ line r (b.running t) ∷ b.lines → b'.running ≡ put b.running t 0 → held b' + (1 + left (b.running t) b.lines) ≤ held b
    held_end b' r e d =
        let k = share_runs b t run in
        let none : share b' t ≡ 0 = rw (d, eq-eqb t t refl) refl in
        let z = held_but b b' t (share b t) 0 small
        (λ u n. share_past u b' (line r (b.running t)) e (ap (λ (f : ℕ → ℕ). f u) d ∙ rw (ne_eqb u t n) refl) (foreign u n (line r (b.running t)) refl)) (omega arith) in omega arith

    -- a change of t's is undone
    pub held_undo : (k : ℕ) → left (b.running t) b.lines ≡ suc k → held (undoes b t) + 1 ≤ held b
    held_undo k more = let z = held_but b (undoes b t) t 1 0 small others own in omega arith
      where
        j : ℕ
        j = b.running t

        l : Line
        l = (newest j b.lines k more).0

        others : (u : ℕ) → (u ≡ t → ⊥) → share (undoes b t) u ≡ share b u
        others u n = let i = b.running u in ap (λ (c : ℕ). if (eqb i 0) 0 (1 + c))
            (ap (left i) (undo_lines b inv t run k more) ∙ left_past i (undoing_line j l) (struck_newest j b.lines) (struck_not_left i (line (undoing l.entry) j))
            ∙ sym (left_length i (struck_newest j b.lines))
            ∙ ap length (filtered_strikes (is_left i) j (λ m e. (foreign u n m (left_facts j m e).owner, struck_not_left i m)) (strikes_newest j b.lines))
            ∙ left_length i b.lines)

        own : share (undoes b t) t + 1 ≤ share b t + 0
        own = rw (ne_eqb (b.running t) 0 run) (let e = undo_left b inv t run k more in omega arith)
