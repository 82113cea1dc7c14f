-- Whether some line passes a test, above all whether an own transaction has ended, in lists that grow, are cut or have lines struck out.
-- Assumes nothing.
use Prim.Native.Nat.{ℕ, zero, suc}
use mathlib.Core.Path.{◌≡◌, refl, sym, ◌∙◌}
use mathlib.Core.Bool.{Bool, true, false, not, ◌&&◌, ◌||◌}
use mathlib.Core.List.{List, [], ◌∷◌, ◌++◌}
use mathlib.Core.Logic.{inl, inr}
use lib.ListN.{drop}
use lib.Dec.{eqb}
use borrow.Author.Tests.{eqb-true, eq-eqb, ne_eqb, not-true}
use Rattle.words.specs.Tests.{by_bool, clash, and_split, or_cases, or_false_r}
use Rattle.records.specs.declared.Record.{Record}
use Rattle.records.specs.Records.{is_end, is_sweep}
use Rattle.records.specs.Effects.{undoing}
use Rattle.book.specs.Lines.{Line, is_left, has_commit, has_end}
use Rattle.book_laws.specs.Striking.{Strikes}
use Rattle.book_laws.specs.Keeping.{In, here, later, Each, any_line}
use Rattle.book_laws.proofs.Members.{any_line_law}
use Rattle.book_laws.proofs.Undoing.{strikes_any}

module _ (f : Line → Bool) where
  pub any_false : (ls : List Line) → Each (λ l. f l ≡ false) ls → any_line f ls ≡ false
  unfolding any_line
  any_false [] h = refl
  any_false (l ∷ ls) h = rw (h l here) (any_false ls (λ m i. h m (later i)))

  pub any_found : {A : Type 0} (ls : List Line) → any_line f ls ≡ true → ((l : Line) → In l ls → f l ≡ true → A) → A
  unfolding any_line
  any_found [] h k = clash h refl
  any_found (l ∷ ls) h k = elim (or_cases (f l) (any_line f ls) h) [ inl e ↦ k l here e | inr e ↦ any_found ls e (λ m i. k m (later i)) ]

  pub any_past : (a ls : List Line) → Each (λ l. f l ≡ false) a → any_line f (a ++ ls) ≡ any_line f ls
  unfolding any_line
  any_past [] ls h = refl
  any_past (l ∷ a) ls h = rw (h l here) (any_past a ls (λ m i. h m (later i)))

  pub any_drop : (j : ℕ) (ls : List Line) → any_line f ls ≡ false → any_line f (drop j ls) ≡ false
  unfolding any_line
  any_drop zero ls h = h
  any_drop (suc j) [] h = refl
  any_drop (suc j) (l ∷ ls) h = any_drop j ls (or_false_r (f l) (any_line f ls) h)

-- a line that commits own transaction i, and one that ends it
abbrev pub commits : ℕ → Line → Bool
commits i l = eqb l.entry.kind 4 && eqb l.owner i

abbrev pub ends : ℕ → Line → Bool
ends i l = is_end l.entry && eqb l.owner i

module _ (i : ℕ) where
  pub commit_any : (ls : List Line) → has_commit i ls ≡ any_line (commits i) ls
  unfolding has_commit any_line
  commit_any [] = refl
  commit_any (l ∷ ls) = rw (commit_any ls)

  pub end_any : (ls : List Line) → has_end i ls ≡ any_line (ends i) ls
  unfolding has_end any_line
  end_any [] = refl
  end_any (l ∷ ls) = rw (end_any ls)

  pub commit_past : (a ls : List Line) → Each (λ l. eqb l.entry.kind 4 ≡ false) a → has_commit i (a ++ ls) ≡ has_commit i ls
  commit_past a ls h = commit_any (a ++ ls) ∙ any_past (commits i) a ls (λ l j. rw (h l j)) ∙ sym (commit_any ls)

  pub end_past : (a ls : List Line) → Each (λ l. is_end l.entry ≡ false) a → has_end i (a ++ ls) ≡ has_end i ls
  end_past a ls h = end_any (a ++ ls) ∙ any_past (ends i) a ls (λ l j. rw (h l j)) ∙ sym (end_any ls)

  pub commit_strikes : (k : ℕ) {ls ms : List Line} → Strikes k ls ms → has_commit i ms ≡ has_commit i ls
  commit_strikes k {ls} {ms} s = commit_any ms ∙ strikes_any k (commits i) (λ l. refl) s ∙ sym (commit_any ls)

  pub end_strikes : (k : ℕ) {ls ms : List Line} → Strikes k ls ms → has_end i ms ≡ has_end i ls
  end_strikes k {ls} {ms} s = end_any ms ∙ strikes_any k (ends i) (λ l. refl) s ∙ sym (end_any ls)

  pub no_commit_drop : (j : ℕ) (ls : List Line) → has_commit i ls ≡ false → has_commit i (drop j ls) ≡ false
  no_commit_drop j ls h = commit_any (drop j ls) ∙ any_drop (commits i) j ls (sym (commit_any ls) ∙ h)

  -- a line ends it
  pub ended_by : (ls : List Line) (l : Line) → In l ls → is_end l.entry ≡ true → l.owner ≡ i → has_end i ls ≡ true
  ended_by ls l j e o = end_any ls ∙ any_line_law (ends i) ls l j (rw (e, eq-eqb l.owner i o))

  -- nobody of that owner, nothing ended
  pub no_end : (ls : List Line) → Each (λ l. l.owner ≡ i → ⊥) ls → has_end i ls ≡ false
  no_end ls h = end_any ls ∙ any_false (ends i) ls (λ l j. rw (ne_eqb l.owner i (h l j)) (none (is_end l.entry)))
    where
      none : (b : Bool) → (b && false) ≡ false
      none true = refl
      none false = refl

  -- what has not ended is not committed, and what is committed has ended
  pub commit_ends : (ls : List Line) → has_commit i ls ≡ true → has_end i ls ≡ true
  commit_ends ls h = any_found (commits i) ls (sym (commit_any ls) ∙ h)
      (λ l j e. let p = and_split (eqb l.entry.kind 4) (eqb l.owner i) e in ended_by ls l j (rw p.0 refl) (eqb-true l.owner i p.1))

  pub unended : (ls : List Line) → has_end i ls ≡ false → has_commit i ls ≡ false
  unended ls h = by_bool (has_commit i ls) (λ e. clash (commit_ends ls e) h) (λ e. e)

-- what is left of own transaction i
pub record Left (i : ℕ) (l : Line) : Type 0 where
  pub owner : l.owner ≡ i
  pub struck : l.struck ≡ false
  pub kind : (eqb l.entry.kind 2 || eqb l.entry.kind 3) ≡ true
  pub unswept : is_sweep l.entry ≡ false

pub left_facts : (i : ℕ) (l : Line) → is_left i l ≡ true → Left i l
left_facts i l h = record {
  owner = eqb-true l.owner i q.0;
  struck = not-true l.struck q.1;
  kind = p.1;
  unswept = elim (or_cases (eqb l.entry.kind 2) (eqb l.entry.kind 3) p.1) [
    | inl e ↦ rw (eqb-true l.entry.kind 2 e) refl
    | inr e ↦ rw (eqb-true l.entry.kind 3 e) refl
  ];
}
  where
    p : ((eqb l.owner i && not l.struck) ≡ true) × ((eqb l.entry.kind 2 || eqb l.entry.kind 3) ≡ true)
    p = and_split (eqb l.owner i && not l.struck) (eqb l.entry.kind 2 || eqb l.entry.kind 3) h

    q : (eqb l.owner i ≡ true) × (not l.struck ≡ true)
    q = and_split (eqb l.owner i) (not l.struck) p.0

-- undoing records are sets and uncreates
pub record Undoes (q r : Record) : Type 0 where
  pub uncommitted : eqb r.kind 4 ≡ false
  pub unended : is_end r ≡ false
  pub unswept : is_sweep r ≡ false
  pub unbegun : eqb r.kind 1 ≡ false
  pub txn : r.txn ≡ q.txn

pub undoing_kind : (r : Record) → Undoes r (undoing r)
unfolding undoing
undoing_kind r = by_bool (eqb r.kind 2)
    (λ e. record { uncommitted = rw e refl; unended = rw e refl; unswept = rw e refl; unbegun = rw e refl; txn = rw e refl })
    (λ e. record { uncommitted = rw e refl; unended = rw e refl; unswept = rw e refl; unbegun = rw e refl; txn = rw e refl })
